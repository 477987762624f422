-- An advance in words of a system's calls.
use Rattle.std.specs.Prelude.{◌≡◌, ℕ, List, map, Some, Result}
use Rattle.std.specs.List.{slice_get, FoldsTo}
use Rattle.cyc_types.specs.declared.Calls.{Ghosts as Calls}
use Rattle.cyc_types.specs.declared.Raise.{Ghosts as Raise}
use Rattle.cyc_timers.specs.declared.fire.Fired.{Fired}
use Rattle.cyc_timers.specs.declared.fire.FireRefused.{FireRefused}
use Rattle.cyc_cpu.specs.Calls.{no_interrupts}
use Rattle.cyc_agreement.specs.Cpus.{online_cpus}
use Rattle.cyc_system.specs.System.{SystemView, running_system}
use Rattle.cyc_system.specs.Calls.{Does, FireOne}
use Rattle.cyc_workers.specs.declared.settling.Lead.{Lead}
use Rattle.cyc_system_workers.specs.declared.side.SystemSide.{SystemSide}
use Rattle.cyc_system_workers.specs.declared.advancing.Advanced.{Advanced}

-- the fire of one CPU, and its answer
pub record FireOn : Type 0 where
  pub cpu : ℕ
  pub answer : Result Fired FireRefused

-- the moment of an advance, and what leads the CPUs before and after it
pub record Firings (C : Type 0) : Type 0 where
  pub now : ℕ
  pub leads : List (Lead C)
  pub leads_after : List (Lead C)

-- the system fired one CPU (`System::fire_one`), with that CPU's own handlers before and after it
pub record FiresOne {C R : Type 0} (handler : Calls C) (firing : Raise R) (all : Firings C) (s : SystemView R) (f : FireOn)
    (t : SystemView R) : Type 0 where
  pub before : Lead C
  pub after : Lead C
  pub before_is : slice_get all.leads f.cpu ≡ Some before
  pub after_is : slice_get all.leads_after f.cpu ≡ Some after
  pub does : Does handler firing no_interrupts (running_system before.calls s) (FireOne f.cpu all.now f.answer)
      (running_system after.calls t)

abbrev pub firings_of : {C R : Type 0} → ℕ → SystemSide R C → Advanced R C → Firings C
firings_of now a b = record { now = now; leads = a.leads.items; leads_after = b.side.leads.items }

-- the advance is one fire of each online CPU, by rising numbers, and nothing else
pub record IsFires {C R : Type 0} (handler : Calls C)
    (firing : Raise R) (now : ℕ) (a : SystemSide R C) (b : Advanced R C) : Type 0 where
  pub fires : List FireOn
  pub made : FoldsTo (FiresOne handler firing (firings_of now a b)) a.system fires b.side.system
  pub all : map (λ f. f.cpu) fires ≡ online_cpus a.system.cpus
