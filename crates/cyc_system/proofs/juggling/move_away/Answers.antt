use Rattle.std.proofs.Common.{ℕ, ◌<◌, sym, subst, arith}
use Rattle.cyc_cpu.proofs.Walks.{walk_start}
use Rattle.cyc_agreement.proofs.Spots.{get_some}
use Rattle.cyc_agreement.proofs.Shifted.{rise_on}
use Rattle.cyc_system.proofs.ListsUpTo.{low_too}
use Rattle.cyc_system.proofs.OtherOnline.{other_too}
use Rattle.cyc_system.proofs.Places.{length_is, few_ids, has_at}
use Rattle.cyc_system.proofs.Stepping.{some_next, next_spot}
use Rattle.cyc_system.proofs.Walked.{walked_none, walked_more, walked_all, walked_left}
use Rattle.cyc_agreement.specs.System.{ids_on}
use Rattle.cyc_system.proofs.juggling.move_away.Goals as goal

pub loop-done-init : goal.loop-done-init
loop-done-init g c = (
  0,
  walked_none g.R.Raise c.args.source c.args.cpus.now c.args.records.now c.requires.still,
  walk_start (λ (own : ℕ). own) (ids_on c.args.source c.args.cpus.now),
)

pub unreachable-requires : goal.unreachable-requires
unreachable-requires g c =
    let (position, i, walk) = c.loop-done.invariant in let w = c.loop-done.cpus in let source = c.args.source in
    let l = length_is c.args.cpus.now source c.cpu.result.now c.cpu.ensures in let len = c.len-done-end.ensures in
    let low = c.loop-done-test.true in
    let here = low_too (ids_on source w) (ids_on source c.args.cpus.now) position c.loop-done._done i.rest
    (omega (arith, l, len, low)) in
    some_next w source c.cpu-in-loop-done.result.now c.cpu-in-loop-done.ensures c.loop-done.passed position walk here
    c.in_default.ensures.none

pub visit-requires-clause-agrees : goal.visit-requires-clause-agrees
visit-requires-clause-agrees g c = let (last, a) = c.requires.agrees in (last, c.loop-done.invariant.1.agrees last a)

pub visit-requires-clause-here : goal.visit-requires-clause-here
visit-requires-clause-here g c =
    let (position, i, walk) = c.loop-done.invariant in let w = c.loop-done.cpus in let source = c.args.source in
    let l = length_is c.args.cpus.now source c.cpu.result.now c.cpu.ensures in let len = c.len-done-end.ensures in
    let low = c.loop-done-test.true in
    let here = low_too (ids_on source w) (ids_on source c.args.cpus.now) position c.loop-done._done i.rest
    (omega (arith, l, len, low)) in
    has_at w source position c.in-Some.id (next_spot w source c.cpu-in-loop-done.result.now c.cpu-in-loop-done.ensures
    c.loop-done.passed position walk here c.in-Some.id c.in-Some.ensures.some)

pub visit-requires-clause-other : goal.visit-requires-clause-other
visit-requires-clause-other g c = let (d, is) = c.requires.other in
    other_too c.args.cpus.now c.loop-done.cpus c.args.source d c.loop-done.invariant.1.online is

pub visit-requires-clause-few : goal.visit-requires-clause-few
visit-requires-clause-few g c =
    let v = c.args.cpus.now in
    let l = length_is v c.args.source c.cpu.result.now c.cpu.ensures in let len = c.len-done-end.ensures in let low =
    c.loop-done-test.true in
    let few = few_ids v c.args.source c.cpu.result.now c.cpu.ensures g.R.Raise.view
    (c.law.ensures c.args.source c.cpu.result.now c.cpu.ensures) in
    let done = c.loop-done.invariant.1.few in omega (arith, l, len, low, few, done)

pub loop-done-preserved : goal.loop-done-preserved
loop-done-preserved g c =
    let (position, i, walk) = c.loop-done.invariant in let w = c.loop-done.cpus in let source = c.args.source in
    let there = subst (λ n. source < n) (sym i.there) c.requires.there in
    let (cpu, at) = get_some w.cpus source there in
    let l = length_is c.args.cpus.now source c.cpu.result.now c.cpu.ensures in let len = c.len-done-end.ensures in
    let low = c.loop-done-test.true in
    let here = low_too (ids_on source w) (ids_on source c.args.cpus.now) position c.loop-done._done i.rest
    (omega (arith, l, len, low)) in
    let spot = next_spot w source c.cpu-in-loop-done.result.now c.cpu-in-loop-done.ensures c.loop-done.passed position walk here
    c.in-Some.id c.in-Some.ensures.some in
    let (turn, visits, counts) = c.visit.ensures.did in
    walked_more g.R.Raise source c.args.cpus.now c.args.records.now c.loop-done._done position
    c.loop-done.report c.visit.new.report
    w c.visit.new.cpus c.loop-done.records c.visit.new.records i c.law-in-loop-done-2.ensures.rising
    (rise_on g.R.Raise.view w source cpu at (c.law-in-loop-done.ensures source cpu at)) there c.visit.ensures.agrees
    c.in-Some.id spot c.loop-done.passed walk turn visits counts

pub returns-clause-did : goal.returns-clause-did
returns-clause-did g c =
    let (position, i, walk) = c.loop-done.invariant in
    let l = length_is c.args.cpus.now c.args.source c.cpu.result.now c.cpu.ensures in let len = c.len-done-end.ensures in
    let done = c.loop-done-test.false in
    walked_all g.R.Raise c.args.source c.args.cpus.now c.args.records.now c.loop-done._done position
    c.loop-done.report c.loop-done.cpus c.loop-done.records i (omega (arith, l, len, done))

pub returns-clause-left : goal.returns-clause-left
returns-clause-left g c =
    let (position, i, walk) = c.loop-done.invariant in
    let l = length_is c.args.cpus.now c.args.source c.cpu.result.now c.cpu.ensures in let len = c.len-done-end.ensures in
    let done = c.loop-done-test.false in
    walked_left g.R.Raise c.args.source c.args.cpus.now c.args.records.now c.loop-done._done position
    c.loop-done.report c.loop-done.cpus c.loop-done.records i (omega (arith, l, len, done))

pub returns-clause-few : goal.returns-clause-few
returns-clause-few g c =
    let v = c.args.cpus.now in
    let l = length_is v c.args.source c.cpu.result.now c.cpu.ensures in let len = c.len-done-end.ensures in let end =
    c.loop-done.auto._done-end in
    let few = few_ids v c.args.source c.cpu.result.now c.cpu.ensures g.R.Raise.view
    (c.law.ensures c.args.source c.cpu.result.now c.cpu.ensures) in
    let done = c.loop-done.invariant.1.few in omega (arith, l, len, end, few, done)
