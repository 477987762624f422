use Rattle.std.proofs.Common.{ℕ, ◌<◌, None, sym, ◌∙◌, subst, arith}
use Rattle.cyc_cpu.proofs.Walks.{walk_start}
use Rattle.cyc_agreement.specs.System.{ids_on}
use Rattle.cyc_agreement.proofs.Spots.{get_some}
use Rattle.cyc_agreement.proofs.Shifted.{rise_on}
use Rattle.cyc_system.proofs.Emptied.{agrees_offline}
use Rattle.cyc_system.proofs.ListsUpTo.{low_too, none_more}
use Rattle.cyc_system.proofs.Places.{length_is}
use Rattle.cyc_system.proofs.Stepping.{some_next, next_spot}
use Rattle.cyc_system.proofs.Retired.{retired_none, retired_more, may_leave, record_there}
use Rattle.cyc_system.proofs.retiring.retire_all.Goals as goal

pub loop-done-init : goal.loop-done-init
loop-done-init g c = let (last, a) = c.requires.agrees in record {
  walk = retired_none g.R.Raise c.args.source c.args.cpus.now c.args.records.now last a c.requires.still
      c.requires.quiet;
  within = λ n h. h;
}

pub unreachable-requires : goal.unreachable-requires
unreachable-requires g c =
    let i = c.loop-done.invariant.walk in let v = c.args.cpus.now in let w = c.loop-done.cpus in let source = c.args.source in
    let l = length_is v source c.cpu.result.now c.cpu.ensures in let len = c.len-done-end.ensures in let low =
    c.loop-done-test.true in
    let here = low_too (ids_on source w) (ids_on source v) 0 c.loop-done._done i.ids (omega (arith, l, len, low)) in
    some_next w source c.cpu-in-loop-done.result.now c.cpu-in-loop-done.ensures None 0
    (walk_start (λ (own : ℕ). own) (ids_on source w)) here c.in_default.ensures.none

pub retire-requires-clause-leaves : goal.retire-requires-clause-leaves
retire-requires-clause-leaves g c =
    let i = c.loop-done.invariant.walk in let v = c.args.cpus.now in let w = c.loop-done.cpus in let source = c.args.source in
    let l = length_is v source c.cpu.result.now c.cpu.ensures in let len = c.len-done-end.ensures in let low =
    c.loop-done-test.true in
    let here = low_too (ids_on source w) (ids_on source v) 0 c.loop-done._done i.ids (omega (arith, l, len, low)) in
    let spot = next_spot w source c.cpu-in-loop-done.result.now c.cpu-in-loop-done.ensures None 0
    (walk_start (λ (own : ℕ). own) (ids_on source w)) here c.in-Some.id c.in-Some.ensures.some in
    may_leave g.R.Raise source v c.args.records.now c.loop-done._done c.in-Some.id w c.loop-done.records
    i spot

pub retire-requires-clause-record : goal.retire-requires-clause-record
retire-requires-clause-record g c =
    let i = c.loop-done.invariant.walk in let v = c.args.cpus.now in let w = c.loop-done.cpus in let source = c.args.source in
    let l = length_is v source c.cpu.result.now c.cpu.ensures in let len = c.len-done-end.ensures in let low =
    c.loop-done-test.true in
    let here = low_too (ids_on source w) (ids_on source v) 0 c.loop-done._done i.ids (omega (arith, l, len, low)) in
    let spot = next_spot w source c.cpu-in-loop-done.result.now c.cpu-in-loop-done.ensures None 0
    (walk_start (λ (own : ℕ). own) (ids_on source w)) here c.in-Some.id c.in-Some.ensures.some in
    let (last, a) = c.requires.agrees in
    record_there g.R.Raise source v c.args.records.now c.loop-done._done c.in-Some.id w
    c.loop-done.records i spot last a

pub loop-done-preserved : goal.loop-done-preserved
loop-done-preserved g c =
    let i = c.loop-done.invariant.walk in let v = c.args.cpus.now in let w = c.loop-done.cpus in let source = c.args.source in
    let l = length_is v source c.cpu.result.now c.cpu.ensures in let len = c.len-done-end.ensures in let low =
    c.loop-done-test.true in
    let here = low_too (ids_on source w) (ids_on source v) 0 c.loop-done._done i.ids (omega (arith, l, len, low)) in
    let spot = next_spot w source c.cpu-in-loop-done.result.now c.cpu-in-loop-done.ensures None 0
    (walk_start (λ (own : ℕ). own) (ids_on source w)) here c.in-Some.id c.in-Some.ensures.some in
    let there = subst (λ n. source < n) (sym i.there) c.requires.there in
    let (cpu, at) = get_some w.cpus source there in
    record {
      walk = retired_more g.R.Raise source v c.args.records.now
          (c.requires.components 0) c.law.ensures.rising c.loop-done._done c.in-Some.id w c.retire.new.cpus
          c.loop-done.records c.retire.new.records i
          (rise_on g.R.Raise.view w source cpu at (c.law-in-loop-done.ensures source cpu at)) spot c.retire.ensures.did;
      within = λ last h. c.retire.ensures.within last (c.loop-done.invariant.within last h);
    }

pub returns-clause-agrees : goal.returns-clause-agrees
returns-clause-agrees g c last a =
    let i = c.loop-done.invariant.walk in let v = c.args.cpus.now in let source = c.args.source in
    let l = length_is v source c.cpu.result.now c.cpu.ensures in let len = c.len-done-end.ensures in let done =
    c.loop-done-test.false in
    let (d, chosen) = c.requires.other in
    agrees_offline g.R.Raise source v c.args.records.now c.loop-done._done c.loop-done.cpus
    c.loop-done.records i (c.requires.components 0) c.law.ensures.rising
    (i.ids ∙ none_more (ids_on source v) c.loop-done._done (omega (arith, l, len, done))) c.requires.there c.requires.still d last
    chosen a
