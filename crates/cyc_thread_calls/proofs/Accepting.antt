-- Each step of a run is met.
use Rattle.std.proofs.Common.{◌≡◌, ℕ, inl, inr, List, [], ◌∷◌, ◌==◌, map, refl, sym, ap}
use Rattle.cyc_types.specs.declared.Calls.{Ghosts as Calls}
use Rattle.cyc_types.specs.declared.Raise.{Ghosts as Raise}
use Rattle.cyc_script.specs.declared.step.Step.{Step}
use Rattle.cyc_script.specs.declared.step.Step.TheVariants as steps
use Rattle.std.specs.Prelude.{Bool, true, false, cond, Option, Some, None, Ok, Err, is_some}
use Rattle.cyc_threads.specs.Words.{DoesStep}
use Rattle.cyc_thread_calls.specs.Giving.{given_in, introduces}
use Rattle.cyc_thread_calls.specs.Leading.{call_of}
use Rattle.cyc_expected.specs.Expected.{Met}
use Rattle.cyc_threads.specs.declared.progress.Progress.{Progress}
use Rattle.cyc_threads.specs.Steps.{TakesSteps}
use Rattle.cyc_thread_calls.specs.Meeting.{was_accepted, steps_met}

module _ {C R : Type 0} (handler : Calls C) (firing : Raise R) where
  pub each_met : (s : Progress R C) (xs : List Step) (t : Progress R C)
      (run : TakesSteps handler firing s xs t)
      → map (λ (m : Met). m.step) (steps_met handler firing s xs t run) ≡ xs
  each_met s [] t e = refl
  each_met s (x ∷ xs) t (u, (v, begins, does), rest) = ap (λ (ys : List Step). x ∷ ys) (each_met u xs t rest)

  one_given : (b : Bool) (id : ℕ) → b ≡ true → true ≡ is_some (cond b (Some id) None)
  one_given b id e = ap (λ c. is_some (cond c (Some id) None)) (sym e)

  none_given : (b : Bool) → false ≡ is_some (cond {A = Option ℕ} b None None)
  none_given true = refl
  none_given false = refl

  -- a step that introduces a name was accepted where it gave it an id
  pub given_met : (x : Step) (s t : Progress R C) (d : DoesStep handler firing x s t) (name : ℕ) → introduces name x ≡ true
      → was_accepted handler firing x s t d
      ≡ is_some (given_in name x (call_of handler firing x s t d))
  given_met (steps.Add a) s t (inl (when, starts, lasts, long, (Ok id, did))) name e = one_given (a.name == name) id e
  given_met (steps.Add a) s t (inl (when, starts, lasts, long, (Err why, did))) name e = none_given (a.name == name)
  given_met (steps.Add a) s t (inr nothing) name e = none_given (a.name == name)
  given_met (steps.Omni a) s t (inl (when, starts, lasts, long, (Ok id, did))) name e = one_given (a.name == name) id e
  given_met (steps.Omni a) s t (inl (when, starts, lasts, long, (Err why, did))) name e = none_given (a.name == name)
  given_met (steps.Omni a) s t (inr nothing) name e = none_given (a.name == name)
  given_met x s t d name e = absurd (let odd : false ≡ true = e in cc)
