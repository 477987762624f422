-- What becomes of a script in a run in threads, and why it may end early.
use Rattle.cyc_agreement.specs.Suspending.{is_suspended}
use Rattle.std.specs.Prelude.{◌≡◌, ℕ, ◌<◌, ◌⊎◌, ⊤, false, List, length, take, slice_index_or}
use Rattle.std.specs.List.{FoldsTo}
use Rattle.cyc_types.specs.declared.Calls.{Ghosts as Calls}
use Rattle.cyc_types.specs.declared.Raise.{Ghosts as Raise}
use Rattle.cyc_types.specs.Series.{never}
use Rattle.cyc_types.specs.declared.refusal.Refusal.TheVariants.{Memory}
use Rattle.cyc_script.specs.declared.step.Step.{Step}
use Rattle.cyc_script.specs.declared.step.Step.TheVariants as steps
use Rattle.cyc_threads.specs.declared.halt.Halt.{Halt}
use Rattle.cyc_threads.specs.declared.halt.Halt.TheVariants as halt
use Rattle.cyc_system_workers.specs.WorkersRefusals.{CanRefuse}
use Rattle.cyc_system_workers.specs.declared.advancing.Advanced.{Advanced}
use Rattle.cyc_system_workers.specs.Advancing.{AllFire}
use Rattle.cyc_threads.specs.declared.progress.Progress.{Progress}
use Rattle.cyc_threads.specs.StepCalls.{Waits, IsFirstRefused}
use Rattle.cyc_threads.specs.Words.{TakesStep}

-- an `advance` stays below never: so does each of a script
abbrev pub IsBefore : Step → Type 0
IsBefore (steps.Advance now) = now < never
IsBefore x = ⊤

-- the lead heard that a draining thread was refused, by a handler that can refuse
abbrev pub IsTold : {C : Type 0} → (C → ℕ → Type 0) → Halt → Type 0
IsTold may_refuse (halt.Told id) = CanRefuse may_refuse id
IsTold may_refuse (halt.Fired n why) = ⊥
IsTold may_refuse (halt.Refused e) = ⊥

-- the steps, one after another
abbrev pub TakesSteps : {C R : Type 0} → Calls C
    → Raise R → Progress R C → List Step → Progress R C → Type 0
TakesSteps handler firing s all t = FoldsTo (TakesStep handler firing) s all t

-- all of them, and then the wait until nothing is outstanding
abbrev pub Runs : {C R : Type 0} → Calls C
    → Raise R → Progress R C → List Step → Progress R C → Type 0
Runs {C} {R} handler firing s all t =
    (u : Progress R C) × TakesSteps handler firing s all u × Waits firing u t

-- why an `advance` to this moment ends a run, where the system is not suspended: memory for it was refused, or the fire of a CPU
-- was, and that of none with a smaller number
abbrev pub AdvanceHalts : {C R : Type 0} → Calls C
    → Raise R → ℕ → Progress R C → Halt → Type 0
AdvanceHalts {C} {R} handler firing now s (halt.Fired n why) = (is_suspended s.side.system ≡ false) × (after : Advanced R C)
    × AllFire handler firing now s.side after × IsFirstRefused after.answers.items n why
AdvanceHalts handler firing now s (halt.Refused e) = (is_suspended s.side.system ≡ false) × (e ≡ Memory)
AdvanceHalts handler firing now s (halt.Told id) = ⊥

-- why one step ended a run: it is an `advance` that does; or in the wait before it the lead heard that a draining thread was
-- refused
abbrev pub StepHalts : {C R : Type 0} → Calls C
    → Raise R → Step → Progress R C → Halt → Type 0
StepHalts handler firing x s h = IsTold handler.may_refuse h
    ⊎ ((now : ℕ) × (x ≡ steps.Advance now) × AdvanceHalts handler firing now s h)

-- a step ended a run, after those before it were taken
pub record IsHalted {C R : Type 0} (handler : Calls C)
    (firing : Raise R) (s : Progress R C) (all : List Step) (h : Halt) : Type 0 where
  pub position : ℕ
  pub last : Step
  pub here : (position < length all) × (slice_index_or all position last ≡ last)
  pub before : Progress R C
  pub taken : TakesSteps handler firing s (take position all) before
  pub halts : StepHalts handler firing last before h

-- why the steps ended early: one of them ended the run; or all of them were taken, and in the wait after them the lead heard that
-- a draining thread was refused
abbrev pub WhyHalted : {C R : Type 0} → Calls C
    → Raise R → Progress R C → List Step → Halt → Type 0
WhyHalted {C} {R} handler firing s all h =
    ((u : Progress R C) × TakesSteps handler firing s all u × IsTold handler.may_refuse h) ⊎ IsHalted handler firing s all h
