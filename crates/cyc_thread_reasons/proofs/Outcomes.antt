-- What is shown of each step, and what the calls that only move and reprogram keep.
use Rattle.std.proofs.Common.{◌≡◌, ◌∙◌, ℕ, ◌≤◌, ◌⊎◌, Bool, true, false, cond, Option, refl, sym, subst}
use Rattle.std.specs.Option.{option_map_or}
use Rattle.cyc_types.specs.declared.Calls.{Ghosts as Calls}
use Rattle.cyc_types.specs.declared.Raise.{Ghosts as Raise}
use Rattle.cyc_script.specs.declared.step.Step.{Step}
use Rattle.cyc_script.specs.WellFormed.{names_after}
use Rattle.cyc_thread_calls.specs.Calls.{SystemCall}
use Rattle.cyc_thread_calls.specs.SystemRingsLeading.{LeadCall}
use Rattle.cyc_thread_calls.specs.Progress.{Progress}
use Rattle.cyc_thread_calls.specs.StepCalls.{CallsFor}
use Rattle.cyc_thread_calls.specs.Names.{NoneLeaves}
use Rattle.cyc_thread_calls.specs.Words.{DoesStep}
use Rattle.cyc_thread_calls.specs.Meeting.{was_accepted, is_taken}
use Rattle.cyc_thread_calls.proofs.Keeping.{IsQuiet, keeps_call}
use Rattle.cyc_thread_calls.proofs.Waiting.{IsCalmNow}
use Rattle.cyc_thread_reasons.specs.Known.{Known, after_accepted}
use Rattle.cyc_thread_reasons.specs.Reasons.{has_reason}
use Rattle.cyc_thread_reasons.specs.Explained.{MemoryRefusedTo, WhyNot}
use Rattle.cyc_thread_reasons.proofs.Whereabouts.{Touches, IsOfScript, stands_kept}
use Rattle.cyc_thread_reasons.proofs.Fitting.{Fits, base_call, fits_same}
use Rattle.cyc_thread_reasons.proofs.Waiting.{Calm}

abbrev pub met : Option LeadCall → Bool
met call = option_map_or is_taken call false

module _ {C R : Type 0} (firing : Raise R) (names : ℕ) where
  -- A step whose call was this one was accepted, or there is why not; and what is true stays.
  pub record Outcome (given : ℕ) (told : Known) (x : Step) (t : Progress R C) (call : Option LeadCall) (Left : Type 0)
      : Type 0 where
    pub why : met call ≡ false → (has_reason x told ≡ true) ⊎ MemoryRefusedTo call ⊎ Left
    pub fits : Fits firing names given (cond (met call) (after_accepted x told) told) t
    pub calm : Calm firing (cond (met call) (after_accepted x told) told) t

  pub taken : (given : ℕ) (told : Known) (x : Step) (t : Progress R C) (call : Option LeadCall) (Left : Type 0)
      → met call ≡ true → Fits firing names given (after_accepted x told) t → Calm firing (after_accepted x told) t
      → Outcome given told x t call Left
  taken given told x t call Left is fits calm = record {
    why = λ e. absurd (let odd : true ≡ false = sym is ∙ e in cc);
    fits = subst (λ (b : Bool). Fits firing names given (cond b (after_accepted x told) told) t) (sym is) fits;
    calm = subst (λ (b : Bool). Calm firing (cond b (after_accepted x told) told) t) (sym is) calm;
  }

  pub refused : (given : ℕ) (told : Known) (x : Step) (t : Progress R C) (call : Option LeadCall) (Left : Type 0)
      → met call ≡ false → (has_reason x told ≡ true) ⊎ MemoryRefusedTo call ⊎ Left → Fits firing names given told t
      → Calm firing told t → Outcome given told x t call Left
  refused given told x t call Left is why fits calm = record {
    why = λ e. why;
    fits = subst (λ (b : Bool). Fits firing names given (cond b (after_accepted x told) told) t) (sym is) fits;
    calm = subst (λ (b : Bool). Calm firing (cond b (after_accepted x told) told) t) (sym is) calm;
  }

  -- ---- calls that change no name

  pub fits_quiet : (given : ℕ) (told : Known) (name : ℕ) (call : SystemCall) (s t : Progress R C) → CallsFor firing name call s t
      → IsQuiet firing call → IsOfScript firing call → t.names ≡ s.names → t.side.system.last ≡ s.side.system.last
      → ((id : ℕ) → Touches id call → ⊥) → Fits firing names given told s → Fits firing names given told t
  fits_quiet given told name call s t c quiet is same last other h =
      let k = keeps_call firing s.side.system t.side.system call c.did quiet in
      fits_same firing names given told told s t (base_call firing names given told name call s t c h) h refl
      (k.online ∙ h.online) same (subst (λ (n : ℕ). n ≤ given) (sym last) h.few)
      (λ id. stands_kept firing s.side.system t.side.system call id is h.rising c.did (other id))

  pub calm_quiet : (name : ℕ) (call : SystemCall) (s t : Progress R C) → CallsFor firing name call s t
      → IsQuiet firing call → t.names ≡ s.names → IsCalmNow firing s → IsCalmNow firing t
  calm_quiet name call s t c quiet same q =
      let k = keeps_call firing s.side.system t.side.system call c.did quiet in record {
        none = subst NoneLeaves (sym same) q.none;
        still = k.still q.still;
      }

  pub fits_as : (given : ℕ) (told : Known) (s t : Progress R C) → t ≡ s → Fits firing names given told s
      → Fits firing names given told t
  fits_as given told s t e h = subst (λ (p : Progress R C). Fits firing names given told p) (sym e) h

  pub calm_as : (told : Known) (s t : Progress R C) → t ≡ s → Calm firing told s → Calm firing told t
  calm_as told s t e h = subst (λ (p : Progress R C). Calm firing told p) (sym e) h

module _ {C R : Type 0} (handler : Calls C) (firing : Raise R) (names : ℕ) where
  -- what is shown of each step
  pub record Next (given : ℕ) (told : Known) (x : Step) (s t : Progress R C) (does : DoesStep handler firing x s t) : Type 0 where
    pub why : was_accepted handler firing x s t does ≡ false → WhyNot handler firing told x s t does
    pub fits : Fits firing names (names_after given x) (cond (was_accepted handler firing x s t does) (after_accepted x told)
        told) t
    pub calm : Calm firing (cond (was_accepted handler firing x s t does) (after_accepted x told) told) t
