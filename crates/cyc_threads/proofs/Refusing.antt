-- The first of several refusals, and why a run ends.
use Rattle.std.proofs.Common.{false}
use Rattle.cyc_agreement.specs.Suspending.{is_suspended}
use Rattle.std.proofs.Common.{◌≡◌, ℕ, ◌<◌, inl, inr, List, Option, None, length, refl, subst}
use Rattle.std.specs.Prelude.{Result, take, slice_index_or}
use Rattle.cyc_types.specs.declared.Calls.{Ghosts as Calls}
use Rattle.cyc_types.specs.declared.Raise.{Ghosts as Raise}
use Rattle.cyc_types.specs.declared.refusal.Refusal.{Refusal}
use Rattle.cyc_timers.specs.declared.fire.Fired.{Fired}
use Rattle.cyc_timers.specs.declared.fire.FireRefused.{FireRefused}
use Rattle.cyc_script.specs.declared.step.Step.{Step}
use Rattle.cyc_threads.specs.declared.halt.Halt.{Halt}
use Rattle.cyc_threads.specs.declared.progress.Progress.{Progress}
use Rattle.cyc_system_workers.specs.declared.advancing.Advanced.{Advanced}
use Rattle.cyc_system_workers.specs.Advancing.{AllFire}
use Rattle.cyc_threads.specs.declared.halt.Halt.TheVariants as halt
use Rattle.cyc_system_laws.specs.Sound.{IsSound}
use Rattle.cyc_threads.specs.StepCalls.{Fires, IsFirstRefused, refusal_at}
use Rattle.cyc_threads.specs.Words.{Begins, waits_first}
use Rattle.cyc_threads.specs.Steps.{TakesSteps, AdvanceHalts, StepHalts, WhyHalted}

module _ {C R : Type 0} (handler : Calls C) (firing : Raise R) where
  -- a step that had to wait is no `advance`
  pub halts_begun : (x : Step) (s u : Progress R C) (h : Halt) → Begins firing (waits_first x) s u
      → StepHalts handler firing x u h → StepHalts handler firing x s h
  halts_begun x s u h b (inl told) = inl told
  halts_begun x s u h b (inr (now, is, r)) = inr (
    now,
    is,
    subst (λ z. AdvanceHalts handler firing now z h) (subst (λ (y : Step). Begins firing (waits_first y) s u) is b) r,
  )

  pub halts_at : (xs : List Step) (i : ℕ) (x : Step) (s t : Progress R C) (h : Halt) → i < length xs → slice_index_or xs i x ≡ x
      → TakesSteps handler firing s (take i xs) t → StepHalts handler firing x t h
      → WhyHalted handler firing s xs h
  halts_at xs i x s t h low is p q = inr (record { position = i; last = x; here = (low, is); before = t; taken = p; halts = q })

  -- a fire of all CPUs that ended the run, and one that did not
  pub fire_halts : (now now' : ℕ) (s : Progress R C) → is_suspended s.side.system ≡ false → (after : Advanced R C)
      (answers : List (Option (Result Fired FireRefused)))
      (n : ℕ) (why : Refusal)
      → now' ≡ now → AllFire handler firing now' s.side after → answers ≡ after.answers.items
      → IsFirstRefused answers n why
      → AdvanceHalts handler firing now s (halt.Fired n why)
  fire_halts now now' s awake after answers n why e f is q = (
    awake,
    after,
    subst (λ m. AllFire handler firing m s.side after) e f,
    subst (λ xs. IsFirstRefused xs n why) is q,
  )

  pub fires : (now now' : ℕ) (s : Progress R C) → is_suspended s.side.system ≡ false → (after : Advanced R C)
      (answers : List (Option (Result Fired FireRefused)))
      → now' ≡ now → AllFire handler firing now' s.side after → answers ≡ after.answers.items
      → ((n : ℕ) → refusal_at answers n ≡ None) → IsSound firing.view after.side.system
      → Fires handler firing now s (record { side = after.side; clock = now'; names = s.names })
  fires now now' s awake after answers e f is none sound = record {
    awake = awake;
    after = after;
    fired = subst (λ m. AllFire handler firing m s.side after) e f;
    side = refl;
    accepted = subst (λ xs. (n : ℕ) → refusal_at xs n ≡ None) is none;
    names = refl;
    clock = e;
    sound = sound;
  }
