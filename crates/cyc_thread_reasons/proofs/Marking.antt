-- A suspend and a resume: each was accepted, or there is why not.
use Rattle.std.proofs.Common.{◌≡◌, ◌∙◌, ℕ, inl, Bool, true, false, not, cond, Some, sym, ap, Result}
use Rattle.std.specs.Prelude.{is_ok}
use Rattle.cyc_types.specs.declared.Raise.{Ghosts as Raise}
use Rattle.cyc_types.specs.declared.refusal.Refusal.{Refusal}
use Rattle.cyc_script.specs.declared.step.Step.{Step}
use Rattle.cyc_script.specs.declared.step.Step.TheVariants as steps
use Rattle.cyc_agreement.specs.Suspending.{is_suspended}
use Rattle.cyc_thread_calls.specs.Calls.{SystemCall, Suspend, Resume}
use Rattle.cyc_thread_calls.specs.StepCalls.{CallsFor}
use Rattle.cyc_thread_calls.specs.Progress.{Progress}
use Rattle.cyc_thread_calls.specs.SystemRingsLeading.{Make}
use Rattle.cyc_thread_calls.proofs.Keeping.{last_move}
use Rattle.cyc_thread_calls.proofs.Suspending.{suspend_met, resume_met}
use Rattle.cyc_thread_calls.proofs.Waiting.{HasWaited, waited_calm}
use Rattle.cyc_thread_reasons.specs.Known.{Known, after_accepted}
use Rattle.cyc_thread_reasons.proofs.Fitting.{Fits, fits_marked}
use Rattle.cyc_thread_reasons.proofs.Waiting.{Calm}
use Rattle.cyc_thread_reasons.proofs.Outcomes.{Outcome, taken, refused, fits_quiet, calm_quiet}

not_false : (b : Bool) → false ≡ not b → b ≡ true
not_false true e = refl_true
  where
    refl_true : true ≡ true
    refl_true i = true
not_false false e = absurd (let odd : false ≡ true = e in cc)

-- the word was accepted or not, and the system is suspended or not after it
pub record Marked {C R : Type 0} (firing : Raise R) (names given : ℕ) (told : Known) (x : Step) (t : Progress R C)
    (answer : Result (Unit {0}) Refusal) (call : SystemCall) (mark : Bool) : Type 0 where
  pub outcome : Outcome firing names given told x t (Some (Make call)) ⊥
  pub marks : (cond (is_ok answer) (after_accepted x told) told).suspended ≡ mark
  pub after : is_suspended t.side.system ≡ mark

module _ {C R : Type 0} (firing : Raise R) (names given : ℕ) (told : Known) (s t : Progress R C)
    (h : Fits firing names given told s) (w : HasWaited firing s) (known : is_suspended s.side.system ≡ told.suspended) where
  pub suspend_of : (answer : Result (Unit {0}) Refusal) → CallsFor firing 0 (Suspend answer) s t
      → Marked firing names given told steps.Suspend t answer (Suspend answer) true
  suspend_of answer c = let (met, after) = suspend_met firing answer s.side.system t.side.system w.sound.agrees c.did in
      by (is_ok answer) (λ i. is_ok answer) (met ∙ ap not known) after
    where
      fits : Fits firing names given told t
      fits = fits_quiet firing names given told 0 (Suspend answer) s t c tt tt c.told
          (last_move firing s.side.system t.side.system (Suspend answer) c.did tt) (λ id touches. touches) h

      calm : Calm firing told t
      calm e = calm_quiet firing names 0 (Suspend answer) s t c tt c.told (waited_calm firing s w)

      by : (b : Bool) → is_ok answer ≡ b → is_ok answer ≡ not told.suspended → is_suspended t.side.system ≡ true
          → Marked firing names given told steps.Suspend t answer (Suspend answer) true
      by true ok met after = record {
        outcome = taken firing names given told steps.Suspend t (Some (Make (Suspend answer))) ⊥ ok
            (fits_marked firing names given told true t fits) calm;
        marks = ap (λ (b : Bool). (cond b (after_accepted steps.Suspend told) told).suspended) ok;
        after = after;
      }
      by false unmet met after = let on = not_false told.suspended (sym unmet ∙ met) in record {
        outcome = refused firing names given told steps.Suspend t (Some (Make (Suspend answer))) ⊥ unmet (inl on) fits calm;
        marks = ap (λ (b : Bool). (cond b (after_accepted steps.Suspend told) told).suspended) unmet ∙ on;
        after = after;
      }

  pub resume_of : (answer : Result (Unit {0}) Refusal) → CallsFor firing 0 (Resume answer) s t
      → Marked firing names given told steps.Resume t answer (Resume answer) false
  resume_of answer c = let (met, after) = resume_met firing answer s.side.system t.side.system w.sound.agrees c.did in
      by (is_ok answer) (λ i. is_ok answer) (met ∙ known) after
    where
      fits : Fits firing names given told t
      fits = fits_quiet firing names given told 0 (Resume answer) s t c tt tt c.told
          (last_move firing s.side.system t.side.system (Resume answer) c.did tt) (λ id touches. touches) h

      calm : Calm firing told t
      calm e = calm_quiet firing names 0 (Resume answer) s t c tt c.told (waited_calm firing s w)

      by : (b : Bool) → is_ok answer ≡ b → is_ok answer ≡ told.suspended → is_suspended t.side.system ≡ false
          → Marked firing names given told steps.Resume t answer (Resume answer) false
      by true ok met after = record {
        outcome = taken firing names given told steps.Resume t (Some (Make (Resume answer))) ⊥ ok
            (fits_marked firing names given told false t fits) calm;
        marks = ap (λ (b : Bool). (cond b (after_accepted steps.Resume told) told).suspended) ok;
        after = after;
      }
      by false unmet met after = let off = sym met ∙ unmet in record {
        outcome = refused firing names given told steps.Resume t (Some (Make (Resume answer))) ⊥ unmet (inl (ap not off)) fits
            calm;
        marks = ap (λ (b : Bool). (cond b (after_accepted steps.Resume told) told).suspended) unmet ∙ off;
        after = after;
      }
