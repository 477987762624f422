-- The steps of a script in order: the names that they introduce and use, and the moments that they advance to (our own format).
use Rattle.std.specs.Prelude.{◌≡◌, ℕ, ◌+◌, true, List, [], ◌∷◌, ◌++◌, length, Result, Ok, Err, nat_lt, if◌then◌else◌}
use Rattle.serde_json.specs.Data.{Data}
use Rattle.cyc_types.specs.declared.refusal.Refusal.{Refusal}
use Rattle.cyc_script.specs.declared.context.Context.{Context}
use Rattle.cyc_script.specs.declared.cause.Cause.{Cause}
use Rattle.cyc_script.specs.declared.cause.Cause.TheVariants.{TimeBack}
use Rattle.cyc_script.specs.declared.step.Step.{Step}
use Rattle.cyc_script.specs.declared.step.Step.TheVariants.{Advance}
use Rattle.cyc_script.specs.Answers.{Gives, refusal_of_step}
use Rattle.cyc_script.specs.Names.{introduced, referred}
use Rattle.cyc_script.specs.WellFormed.{name_fits, names_after, moment_fits, moment_after}
use Rattle.cyc_script.specs.Words.{Form, introduces, refers, advances, nameless, form_of_value, ◌>>=◌}

-- ---- one step

-- the context of a script's first step
abbrev pub first_context : Context
first_context = record { names = []; moment = 0 }

-- the step of a form, and the context that it leaves to the next one
abbrev pub accepted_form : Context → Form → Result (Step × Context) Cause
accepted_form before (introduces text step) = do
  new ← introduced text before.names
  Ok (step new.0, record before { names = new.1 })
accepted_form before (refers text step) = do
  number ← referred text before.names
  Ok (step number, before)
accepted_form before (advances moment) =
    if nat_lt moment before.moment then Err TimeBack else Ok (Advance moment, record before { moment = moment })
accepted_form before (nameless step) = Ok (step, before)

-- the step of a value: first its form is judged, then its name or its moment
unfoldable pub step_of : Context → Data → Result (Step × Context) Cause
step_of before d = do
  form ← form_of_value d
  accepted_form before form

-- ---- all steps

-- the refusal of the step of this number
abbrev pub numbered : {A : Type 0} → ℕ → Result A Cause → Result A Refusal
numbered number (Ok x) = Ok x
numbered number (Err cause) = Err (refusal_of_step number cause)

-- these steps and then those of the values, with all names; the first faulty step decides
unfoldable pub steps_of : List Step → Context → List Data → Result (List Step × List (List ℕ)) Refusal
steps_of steps before [] = Ok (steps, before.names)
steps_of steps before (d ∷ ds) = do
  next ← numbered (length steps + 1) (step_of before d)
  steps_of (steps ++ next.0 ∷ []) next.1 ds

-- ---- what the functions of the reader say

-- the answer, and the context that is left, are what the form gives, or memory ran out
abbrev pub Reads : Result Step Cause → Context → Context → Result Form Cause → Type 0
Reads result before after form = Gives (λ step. (step, after)) result (form >>= accepted_form before)

-- names are introduced before they are used, and moments don't fall
pub record Fits (before : Context) (step : Step) (after : Context) : Type 0 where
  pub name : name_fits (length before.names) step ≡ true
  pub names : length after.names ≡ names_after (length before.names) step
  pub moment : moment_fits before.moment step ≡ true
  pub clock : after.moment ≡ moment_after before.moment step
