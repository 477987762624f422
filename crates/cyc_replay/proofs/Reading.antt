-- A step that was taken over the names of a script.
use Rattle.std.proofs.Common.{◌≡◌, ℕ, List, subst}
use Rattle.cyc_script.specs.declared.step.Step.{Step}
use Rattle.cyc_model.specs.State.{State}
use Rattle.cyc_replay.specs.declared.machine.Machine.{Machine}
use Rattle.cyc_replay.specs.Machine.{ShowsMachine, HasName, IsReached}
use Rattle.cyc_replay.specs.Words.{TakesWord}

-- the same over equal names
pub takes_named : (read texts : List (List ℕ)) → read ≡ texts → (step : ℕ) (x : Step) (line : List ℕ) (m n : Machine)
    → ((s : State) → IsReached step s → HasName x s → ShowsMachine s m → TakesWord read step x line s n)
    → (s : State) → IsReached step s → HasName x s → ShowsMachine s m → TakesWord texts step x line s n
takes_named read texts same step x line m n takes s reached named held =
    subst (λ ts. TakesWord ts step x line s n) same (takes s reached named held)
