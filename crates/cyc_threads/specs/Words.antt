-- What each word of a script is in a run in threads.
use Rattle.std.specs.Prelude.{◌≡◌, Bool, true, false}
use Rattle.cyc_types.specs.declared.Calls.{Ghosts as Calls}
use Rattle.cyc_types.specs.declared.Raise.{Ghosts as Raise}
use Rattle.cyc_script.specs.declared.step.Step.{Step}
use Rattle.cyc_script.specs.declared.step.Step.TheVariants as steps
use Rattle.cyc_words.specs.Words.{WithCall}
use Rattle.cyc_threads.specs.declared.progress.Progress.{Progress}
use Rattle.cyc_threads.specs.StepCalls.{CallsFor, Waits, Advances}

-- What a step does, at the clock. A `softint` does nothing: other threads drain the levels. Every word but it and `advance` makes
-- at most one call of the system.
abbrev pub DoesStep : {C R : Type 0} → Calls C
    → Raise R → Step → Progress R C → Progress R C → Type 0
DoesStep handler firing (steps.Advance now) s t = Advances handler firing now s t
DoesStep handler firing (steps.Softint i) s t = t ≡ s
DoesStep handler firing x s t =
    WithCall s.clock s.names x (λ name call answer. CallsFor firing name call s t) (λ why. t ≡ s)

-- every word but `advance` and `remove` waits first until no removal is open and all CPUs have settled
abbrev pub waits_first : Step → Bool
waits_first (steps.Advance now) = false
waits_first (steps.Remove name) = false
waits_first x = true

-- what comes before the call of a step, which may have to wait
abbrev pub Begins : {C R : Type 0} → Raise R
    → Bool → Progress R C → Progress R C → Type 0
Begins firing false s t = t ≡ s
Begins firing true s t = Waits firing s t

-- one step of a script
abbrev pub TakesStep : {C R : Type 0} → Calls C
    → Raise R → Progress R C → Step → Progress R C → Type 0
TakesStep {C} {R} handler firing s x t =
    (u : Progress R C) × Begins firing (waits_first x) s u × DoesStep handler firing x u t
