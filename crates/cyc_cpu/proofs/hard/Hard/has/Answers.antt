use Rattle.std.proofs.Common.{◌≡◌, ℕ, Bool, true, false, subst}
use Rattle.std.specs.Bool.{OnTrue, OnFalse}
use Rattle.cyc_timers.specs.Rows.{Row, IsRow, HasNo, cyclic_of}
use Rattle.cyc_cpu.specs.Cpu.{CpuView, HasNoCyclic}
use Rattle.cyc_cpu.specs.Removal.{HasCyclic}
use Rattle.cyc_cpu.proofs.Cyclics.{is_cyclic, no_cyclic}
use Rattle.cyc_cpu.proofs.hard.Hard.has.Goals as goal

when_true : (b : Bool) (P Q : Type 0) → (P → Q) → OnTrue b P → OnTrue b Q
when_true true P Q to is = to is
when_true false P Q to is = tt

when_false : (b : Bool) (P Q : Type 0) → (P → Q) → OnFalse b P → OnFalse b Q
when_false true P Q to is = tt
when_false false P Q to is = to is

pub returns-clause-here : goal.returns-clause-here
returns-clause-here g c =
    let rows = c.self.inside.table.rows in let id = c.args.id in
    when_true c.has.result ((k : ℕ) × (r : Row) × IsRow rows k r × (r.timer.id ≡ id)) (HasCyclic id c.args.self.now.cyclics)
    (λ (k, r, at, named). subst (λ (v : CpuView _). HasCyclic id v.cyclics) c.self.view_is
    (k, cyclic_of r, is_cyclic rows k r at, named)) c.has.ensures.here

pub returns-clause-none : goal.returns-clause-none
returns-clause-none g c =
    let rows = c.self.inside.table.rows in let id = c.args.id in
    when_false c.has.result (HasNo id rows) (HasNoCyclic id c.args.self.now.cyclics)
    (λ none. subst (λ (v : CpuView _). HasNoCyclic id v.cyclics) c.self.view_is (no_cyclic id rows none)) c.has.ensures.none
