use Rattle.std.proofs.Common.{◌+◌, ◌<◌, Some, length, sym, ap, ◌∙◌, subst, arith}
use Rattle.std.specs.List.{slice_get}
use Rattle.cyc_agreement.specs.System.{ids_on}
use Rattle.cyc_agreement.proofs.Shifts.{found_some, found_none}
use Rattle.cyc_agreement.proofs.Shifted.{rise_on}
use Rattle.cyc_system.proofs.AskingEach.{asked_more, finds}
use Rattle.cyc_system.proofs.Places.{length_is, cyclic_of}
use Rattle.cyc_system.proofs.Stepping.{WalksOver, some_next, next_spot, walks_past}
use Rattle.cyc_system.proofs.retiring.any_pending.Goals as goal

pub unreachable-requires : goal.unreachable-requires
unreachable-requires g c =
    let i = c.loop-position.invariant in let w = c.loop-position.cpus in let source = c.args.source in
    let first = length_is c.args.cpus.now source c.cpu.result.now c.cpu.ensures in
    let same = ap length (i.asked.same.ids source) in let len = c.len-position-end.ensures in let less =
    c.loop-position-test.true in
    let low : c.loop-position._position < length (ids_on source w) = omega (arith, first, same, len, less) in
    some_next w source c.cpu-in-loop-position.result.now c.cpu-in-loop-position.ensures c.loop-position.passed
    c.loop-position._position
    i.walk low c.in_default.ensures.none

pub returns-then-ne-clause-some : goal.returns-then-ne-clause-some
returns-then-ne-clause-some g c records last =
    let i = c.loop-position.invariant in let w = c.loop-position.cpus in let source = c.args.source in
    let x = c.cpu_mut.result.now in let id = c.in-Some.id in
    let first = length_is c.args.cpus.now source c.cpu.result.now c.cpu.ensures in
    let same = ap length (i.asked.same.ids source) in let len = c.len-position-end.ensures in let less =
    c.loop-position-test.true in
    let low : c.loop-position._position < length (ids_on source w) = omega (arith, first, same, len, less) in
    let spot = next_spot w source c.cpu-in-loop-position.result.now c.cpu-in-loop-position.ensures c.loop-position.passed
    c.loop-position._position i.walk low id c.in-Some.ensures.some in
    let (n, some, did) = found_some g.R.Raise id x c.pending.new.self c.pending.result
    (cyclic_of w source c.loop-position._position id x c.cpu_mut.ensures.cpu spot) (sym c.ne.ensures ∙ c.if-ne.true)
    c.pending.ensures in
    finds g.R.Raise source c.args.cpus.now c.loop-position._position id w x c.pending.new.self
    i.asked spot c.cpu_mut.ensures.cpu n some did records last

pub loop-position-preserved : goal.loop-position-preserved
loop-position-preserved g c =
    let i = c.loop-position.invariant in let w = c.loop-position.cpus in let source = c.args.source in let v = c.args.cpus.now in
    let x = c.cpu_mut.result.now in let id = c.in-Some.id in let position = c.loop-position._position in
    let first = length_is v source c.cpu.result.now c.cpu.ensures in
    let same = ap length (i.asked.same.ids source) in let len = c.len-position-end.ensures in let less =
    c.loop-position-test.true in
    let low : position < length (ids_on source w) = omega (arith, first, same, len, less) in
    let spot = next_spot w source c.cpu-in-loop-position.result.now c.cpu-in-loop-position.ensures c.loop-position.passed position
    i.walk low id c.in-Some.ensures.some in
    let more = asked_more g.R.Raise source v position id w x c.pending.new.self i.asked spot c.cpu_mut.ensures.cpu
    (found_none g.R.Raise id x c.pending.new.self c.pending.result (sym c.ne.ensures ∙ c.if-ne.false) c.pending.ensures) in
    record {
      asked = more;
      walk = subst (λ ids. WalksOver ids (Some id) (position + 1)) (sym (more.same.ids source))
          (walks_past (ids_on source v) c.loop-position.passed position id
          (rise_on g.R.Raise.view v source c.cpu.result.now c.cpu.ensures (c.law.ensures source c.cpu.result.now c.cpu.ensures))
          (ap (λ ids. slice_get ids position) (sym (i.asked.same.ids source)) ∙ spot)
          (subst (λ ids. WalksOver ids c.loop-position.passed position) (i.asked.same.ids source) i.walk));
    }
