use Rattle.std.proofs.Common.{◌≡◌, ℕ, ap, subst, ◌∙◌, Option, Result}
use Rattle.cyc_core.specs.Tables.{Tables}
use Rattle.cyc_cpu.specs.Cpu.{CpuView}
use Rattle.cyc_cpu.specs.Soft.{raise_tables}
use Rattle.cyc_timers.specs.declared.fire.Fired.{Fired}
use Rattle.cyc_timers.specs.declared.fire.FireRefused.{FireRefused}
use Rattle.cyc_border.specs.Border.{FiresPart, FiresCpu}
use Rattle.cyc_border.specs.Pair.{FiresSide, raise_held}
use Rattle.cyc_border.specs.Parts.{asleep}
use Rattle.cyc_border.specs.declared.cpu.Cpu.{Cpu}
use Rattle.cyc_border.specs.declared.held.HeldEnd.{HeldEnd}
use Rattle.cyc_border.specs.declared.pair.Firing.{Firing}
use Rattle.cyc_border.proofs.Resting.{suspended_is, asleep_keeps}
use Rattle.cyclic_c.proofs.Asleep.{kept}
use Rattle.cyclic_c.proofs.suspending.suspended_fire_law.Goals as goal

pub returns-clause-cpu : goal.returns-clause-cpu
returns-clause-cpu c now r out v n through is = kept FiresCpu v answers keeps now r out n through
  where
    answers : (now : ℕ) (answer : Result Fired FireRefused) (w : Cpu) → FiresCpu now answer v w → answer ≡ asleep
    answers now answer w made = suspended_is raise_tables now answer v.high w.high v.hard w.hard made.0 is

    keeps : (now : ℕ) (answer : Result Fired FireRefused) (w : Cpu) → FiresCpu now answer v w → w ≡ v
    keeps now answer w made =
        let (hard, high) = asleep_keeps raise_tables now v.high w.high v.hard w.hard
        (subst (λ a. FiresPart raise_tables now a v.high v.hard w.high w.hard) (answers now answer w made) made.0) in
        made.1 ∙ ap (λ (x : CpuView Tables). record v { hard = x; high = w.high }) hard
        ∙ ap (λ (h : Option ℕ). record v { high = h }) high

pub returns-clause-firing : goal.returns-clause-firing
returns-clause-firing c now r out v n through is = kept FiresSide v answers keeps now r out n through
  where
    answers : (now : ℕ) (answer : Result Fired FireRefused) (w : Firing) → FiresSide now answer v w → answer ≡ asleep
    answers now answer w made = suspended_is raise_held now answer v.high w.high v.hard w.hard made.0 is

    keeps : (now : ℕ) (answer : Result Fired FireRefused) (w : Firing) → FiresSide now answer v w → w ≡ v
    keeps now answer w made =
        let (hard, high) = asleep_keeps raise_held now v.high w.high v.hard w.hard
        (subst (λ a. FiresPart raise_held now a v.high v.hard w.high w.hard) (answers now answer w made) made.0) in
        made.1 ∙ ap (λ (x : CpuView HeldEnd). record v { hard = x; high = w.high }) hard
        ∙ ap (λ (h : Option ℕ). record v { high = h }) high
