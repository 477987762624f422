-- The steps of a script's run, and which of them were accepted.
use Rattle.std.specs.Prelude.{ℕ, ◌+◌, ◌&&◌, not, is_some, Bool, true, List, [], ◌∷◌, length}
use Rattle.cyc_script.specs.declared.step.Step.{Step}
use Rattle.cyc_script.specs.declared.step.Step.TheVariants.{Offline}
use Rattle.cyc_script.specs.declared.script.Script.{Script}
use Rattle.cyc_model.specs.Questions.{plain}
use Rattle.cyc_model.specs.State.{State, cpu_of}
use Rattle.cyc_model.specs.Script.{refusal_of, word, start, names_of}
use Rattle.cyc_expected.specs.Expected.{Met}

-- an `offline` that could not move all cyclics leaves its CPU online; any other step that isn't refused is done
abbrev pub is_done : Step → State → Bool
is_done (Offline n) t = not (cpu_of n t).online
is_done _ t = true

-- a step of this machine that left that one: it was accepted where it was not refused, and was done
abbrev pub met : Step → State → State → Met
met x s t = record { step = x; accepted = not (is_some (refusal_of plain x s)) && is_done x t }

-- the steps from this number on
abbrev pub way_from : (ℕ → ℕ) → List (List ℕ) → ℕ → List Step → State → List Met
way_from indexes texts step [] s = []
way_from indexes texts step (x ∷ xs) s =
    met x s (word plain texts indexes step x s).state
    ∷ way_from indexes texts (step + 1) xs (word plain texts indexes step x s).state

-- those of a script where its cyclics get these indexes
abbrev pub way_of_script : (ℕ → ℕ) → Script → List Met
way_of_script indexes script = way_from indexes (names_of script) 1 script.steps.items
    (start script.cpus script.ceiling (length (names_of script)))
