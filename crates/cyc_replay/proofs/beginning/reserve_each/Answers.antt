use Rattle.std.proofs.Common.{sym, arith}
use Rattle.cyc_replay.proofs.Start.{reserving_none, reserving_one, reserving_all, empty_left}
use Rattle.cyc_replay.proofs.beginning.reserve_each.Goals as goal

pub loop-number-init : goal.loop-number-init
loop-number-init c = reserving_none c.args.wanted c.args.hards.now.items

pub reserve_wanted-requires : goal.reserve_wanted-requires
reserve_wanted-requires c =
    let r = c.loop-number.invariant in let low = c.loop-number-test.true in let all = c.len-number-end.ensures in
    record {
      empty = empty_left c.args.wanted c.loop-number.number c.args.hards.now.items c.loop-number.hards.items
          c.index_mut.result.now r
          (omega (arith, low, all)) c.index_mut.ensures.value c.requires.empty;
      few = c.requires.few;
    }

pub loop-number-preserved : goal.loop-number-preserved
loop-number-preserved c =
    let r = c.loop-number.invariant in let low = c.loop-number-test.true in let all = c.len-number-end.ensures in
    let long = r.long in
    reserving_one c.args.wanted c.loop-number.number c.args.hards.now.items c.loop-number.hards.items c.index_mut.result.now
    c.reserve_wanted.new.hard r
    (omega (arith, low, all, long)) (sym c.index_mut.ensures.value) c.in_ok-reserve_wanted.ensures.did

pub returns-clause-did : goal.returns-clause-did
returns-clause-did c =
    let high = c.loop-number-test.false in let all = c.len-number-end.ensures in
    reserving_all c.args.wanted c.loop-number.number c.args.hards.now.items c.loop-number.hards.items c.loop-number.invariant
    (omega (arith, high, all))
