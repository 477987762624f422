-- Steps of a script, one after another.
use Rattle.std.proofs.Common.{◌≡◌, ℕ, zero, suc, ◌+◌, ◌<◌, ◌≤◌, inl, List, [], ◌∷◌, ◌++◌, length, drop, get_or, refl, sym}
use Rattle.std.proofs.Common.{subst, arith}
use Rattle.std.specs.Prelude.{Bool, true, false, ◌&&◌, take, slice_index_or, nat_le, nat_lt, Result, Ok, Err, IfOk, IfErr}
use Rattle.std.proofs.lemmas.Bool.Decides.{nat_tests}
use Rattle.std.proofs.lemmas.List.{take_more, take_all}
use Rattle.cyc_types.specs.declared.Calls.{Ghosts as Calls}
use Rattle.cyc_types.specs.declared.Raise.{Ghosts as Raise}
use Rattle.cyc_types.specs.Series.{never}
use Rattle.cyc_types.proofs.Runs.{folds_more}
use Rattle.cyc_script.specs.WellFormed.{moment_fits, moment_after, moments_fit}
use Rattle.cyc_script.proofs.WellFormed.{moments_fit_next}
use Rattle.cyc_script.specs.declared.step.Step.{Step}
use Rattle.cyc_script.specs.declared.step.Step.TheVariants as steps
use Rattle.cyc_threads.specs.declared.progress.Progress.{Progress}
use Rattle.cyc_threads.specs.Words.{Begins, DoesStep, TakesStep, waits_first}
use Rattle.cyc_threads.specs.Steps.{IsTold, IsBefore, TakesSteps, Runs, StepHalts, WhyHalted}
use Rattle.cyc_threads.specs.StepCalls.{HasLeads, Waits}
use Rattle.cyc_threads.specs.declared.halt.Halt.{Halt}
use Rattle.cyc_threads.proofs.Ready.{step_ready}
use Rattle.cyc_threads.proofs.Refusing.{halts_begun, halts_at}

second : (a b : Bool) → (a && b) ≡ true → b ≡ true
second true b e = e
second false b e = absurd (cc)

-- the moments of the steps that are left don't fall, and stay below never
abbrev pub Fit : List Step → Type 0
Fit xs = (now : ℕ) × (moments_fit now xs ≡ true)

before : (now : ℕ) (x : Step) → moment_fits now x ≡ true → IsBefore x
before now (steps.Advance moment) e = let e' = second (nat_le now moment) (nat_lt moment never) e in grind (arith, nat_tests, e')
before now x e = tt

pub fit_before : (xs : List Step) (i : ℕ) (x : Step) → i < length xs → x ≡ get_or xs i x → Fit (drop i xs) → IsBefore x
fit_before xs i x low is (now, fit) = before now x (moments_fit_next now xs i x low is fit).0

pub fit_next : (xs : List Step) (i : ℕ) (x : Step) → i < length xs → x ≡ get_or xs i x → Fit (drop i xs) → Fit (drop (i + 1) xs)
fit_next xs i x low is (now, fit) = (moment_after now x, (moments_fit_next now xs i x low is fit).1)

pub fit_drop : (xs : List Step) (i : ℕ) → Fit xs → Fit (drop i xs)
fit_drop xs zero fit = fit
fit_drop [] (suc i) fit = fit
fit_drop (x ∷ xs) (suc i) (now, fit) =
    fit_drop xs i (moment_after now x, second (moment_fits now x) (moments_fit (moment_after now x) xs) fit)

module _ {C R : Type 0} (handler : Calls C) (firing : Raise R) where
  -- one step more
  pub steps_next : (xs : List Step) (i : ℕ) (x : Step) (s t u : Progress R C) → i < length xs → slice_index_or xs i x ≡ x
      → TakesSteps handler firing s (take i xs) t → TakesStep handler firing t x u
      → TakesSteps handler firing s (take (i + 1) xs) u
  steps_next xs i x s t u low is p q = subst (λ ys. TakesSteps handler firing s ys u) (sym (take_more xs i x low))
      (subst (λ y. TakesSteps handler firing s (take i xs ++ y ∷ []) u) (sym is)
      (folds_more (TakesStep handler firing) s (take i xs) t x u p q))

  pub steps_all : (xs : List Step) (i : ℕ) (s t : Progress R C) → length xs ≤ i
      → TakesSteps handler firing s (take i xs) t
      → TakesSteps handler firing s xs t
  steps_all xs i s t far p = subst (λ ys. TakesSteps handler firing s ys t) (take_all i xs far) p

  pub begun_true : (b : Bool) (s : Progress R C) (r : Result (Progress R C) Halt) → b ≡ true → IfOk r (λ t. Waits firing s t)
      → IfOk r (λ t. Begins firing b s t)
  begun_true b s r e w = subst (λ x. IfOk r (λ t. Begins firing x s t)) (sym e) w

  pub begun_false : (b : Bool) (s : Progress R C) → b ≡ false → Begins firing b s s
  begun_false b s e = subst (λ x. Begins firing x s s) (sym e) refl

  -- all steps, and the wait at the end
  pub runs : (xs : List Step) (i : ℕ) (s u t : Progress R C) → length xs ≤ i
      → TakesSteps handler firing s (take i xs) u
      → Waits firing u t → Runs handler firing s xs t
  runs xs i s u t far p w = (u, steps_all xs i s u far p, w)

  -- the first steps of a script were taken
  pub record Reached (xs : List Step) (i : ℕ) (s t : Progress R C) : Type 0 where
    pub taken : TakesSteps handler firing s (take i xs) t
    pub ready : HasLeads t
    pub fit : Fit (drop i xs)

  pub reached_first : (xs : List Step) (s : Progress R C) → moments_fit 0 xs ≡ true → HasLeads s → Reached xs 0 s s
  reached_first xs s fit ready = record { taken = refl; ready = ready; fit = (0, fit) }

  pub reached_next : (xs : List Step) (i : ℕ) (x : Step) (s t u : Progress R C) → i < length xs → x ≡ get_or xs i x
      → Reached xs i s t → TakesStep handler firing t x u → Reached xs (i + 1) s u
  reached_next xs i x s t u low is r d = record {
    taken = steps_next xs i x s t u low (sym is) r.taken d;
    ready = step_ready handler firing t x u d r.ready;
    fit = fit_next xs i x low is r.fit;
  }

  pub reached_before : (xs : List Step) (i : ℕ) (x : Step) (s t : Progress R C) → i < length xs → x ≡ get_or xs i x
      → Reached xs i s t → IsBefore x
  reached_before xs i x s t low is r = fit_before xs i x low is r.fit

  -- what the wait at the end answers, after all steps
  pub reached_ends : (xs : List Step) (i : ℕ) (s u : Progress R C) (r : Result (Progress R C) Halt) → length xs ≤ i
      → Reached xs i s u → IfOk r (λ t. Waits firing u t) → IfOk r (λ t. Runs handler firing s xs t)
  reached_ends xs i s u (Ok t) far q w = runs xs i s u t far q.taken w
  reached_ends xs i s u (Err h) far q w = tt

  pub told_halts : (xs : List Step) (i : ℕ) (s u : Progress R C) (r : Result (Progress R C) Halt) → length xs ≤ i
      → Reached xs i s u → IfErr r (λ h. IsTold handler.may_refuse h) → IfErr r (λ h. WhyHalted handler firing s xs h)
  told_halts xs i s u (Ok t) far q w = tt
  told_halts xs i s u (Err h) far q w = inl (u, steps_all xs i s u far q.taken, w)

  -- a step whose call came after what begins it
  pub then_taken : (s u : Progress R C) (x : Step) (r : Result (Progress R C) Halt) → Begins firing (waits_first x) s u
      → IfOk r (λ t. DoesStep handler firing x u t) → IfOk r (λ t. TakesStep handler firing s x t)
  then_taken s u x (Ok t) b d = (u, b, d)
  then_taken s u x (Err h) b d = tt

  pub then_halts : (s u : Progress R C) (x : Step) (r : Result (Progress R C) Halt) → Begins firing (waits_first x) s u
      → IfErr r (λ h. StepHalts handler firing x u h) → IfErr r (λ h. StepHalts handler firing x s h)
  then_halts s u x (Ok t) b w = tt
  then_halts s u x (Err h) b w = halts_begun handler firing x s u h b w

  pub reached_halts : (xs : List Step) (i : ℕ) (x : Step) (s t : Progress R C) (h : Halt) → i < length xs → x ≡ get_or xs i x
      → Reached xs i s t → StepHalts handler firing x t h → WhyHalted handler firing s xs h
  reached_halts xs i x s t h low is r q = halts_at handler firing xs i x s t h low (sym is) r.taken q
