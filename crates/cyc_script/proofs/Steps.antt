-- One step more of a script.
use Rattle.std.proofs.Common.{◌≡◌, ◌+◌, List, [], ◌∷◌, ◌++◌, Ok, Err, length, refl}
use Rattle.serde_json.specs.Data.{Data}
use Rattle.cyc_script.specs.declared.context.Context.{Context}
use Rattle.cyc_script.specs.declared.cause.Cause.{Cause}
use Rattle.cyc_script.specs.declared.step.Step.{Step}
use Rattle.cyc_script.specs.Answers.{refusal_of_step}
use Rattle.cyc_script.specs.Steps.{step_of, steps_of}

-- a step that is accepted goes behind those before it
pub step_accepted : (steps : List Step) (b after : Context) (d : Data) (ds : List Data) (step : Step)
    → step_of b d ≡ Ok (step, after) → steps_of steps b (d ∷ ds) ≡ steps_of (steps ++ step ∷ []) after ds
unfolding steps_of
step_accepted steps b after d ds step e = rw e refl

pub step_faulty : (steps : List Step) (b : Context) (d : Data) (ds : List Data) (e : Cause) → step_of b d ≡ Err e
    → steps_of steps b (d ∷ ds) ≡ Err (refusal_of_step (length steps + 1) e)
unfolding steps_of
step_faulty steps b d ds e h = rw h refl

pub steps_end : (steps : List Step) (b : Context) → steps_of steps b [] ≡ Ok (steps, b.names)
unfolding steps_of
steps_end steps b = refl
