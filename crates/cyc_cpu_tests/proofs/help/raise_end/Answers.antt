use Rattle.std.proofs.Common.{ap, ◌∙◌, sym, subst, refl, List}
use Rattle.ring_rule.specs.declared.RaiseStep.{RaiseStep}
use Rattle.cyc_ring.specs.Ends.{raise_trail}
use Rattle.cyc_ring.specs.Views.{trail_view}
use Rattle.cyc_cpu.specs.Cpu.{IsFresh}
use Rattle.cyc_cpu_tests.proofs.help.raise_end.Goals as goal

pub returns : goal.returns
returns c =
    let empty = ap raise_trail c.new.ensures.0 ∙ c.requires.empty in
    subst (λ (t : List RaiseStep). IsFresh (trail_view c.new.result.seat.setting.ceiling t)) (sym empty)
    record { none = λ id. refl; unmarked = refl; bank = refl; free = refl }
