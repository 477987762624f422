-- The words for a CPU: its cyclics move, or it goes offline, or it comes back.
use Rattle.std.proofs.Common.{◌≡◌, ◌∙◌, ℕ, ◌-◌, ◌≤◌, ◌⊎◌, inl, inr, Bool, true, false, not, Some, Result, Ok, Err, List}
use Rattle.std.proofs.Common.{slice_set, refl, sym, ap, subst}
use Rattle.std.specs.Prelude.{◌||◌}
use Rattle.std.specs.List.{list_any}
use Rattle.std.proofs.lemmas.Bool.{or_left, or_right}
use Rattle.cyc_types.specs.declared.Raise.{Ghosts as Raise}
use Rattle.cyc_types.specs.declared.refusal.JuggleReport.{JuggleReport}
use Rattle.cyc_types.specs.declared.refusal.Refusal.{Refusal}
use Rattle.cyc_types.specs.declared.refusal.Refusal.TheVariants as why
use Rattle.cyc_script.specs.declared.step.Step.TheVariants as steps
use Rattle.cyc_system_laws.proofs.Settles.{err_same}
use Rattle.cyc_thread_calls.specs.CpuLawsSettled.{IsUntil}
use Rattle.cyc_thread_calls.specs.Calls.{Changes, Juggle, Offline, Online}
use Rattle.cyc_thread_calls.specs.Progress.{Progress}
use Rattle.cyc_thread_calls.specs.StepCalls.{CallsFor}
use Rattle.cyc_thread_calls.specs.Names.{NoneLeaves}
use Rattle.cyc_thread_calls.specs.SystemRingsLeading.{Make}
use Rattle.cyc_thread_calls.proofs.Keeping.{last_move}
use Rattle.cyc_thread_calls.proofs.Waiting.{IsCalmNow, HasWaited, waited_calm}
use Rattle.cyc_thread_reasons.specs.Known.{Known, after_accepted}
use Rattle.cyc_thread_reasons.specs.Reasons.{is_single, is_bound_to, how_many, many_online, are_too_many, can_not_leave}
use Rattle.cyc_thread_reasons.specs.Reasons.{has_reason}
use Rattle.cyc_thread_reasons.specs.Explained.{IsLeft}
use Rattle.cyc_thread_reasons.proofs.Whereabouts.{stands_kept, err_ok}
use Rattle.cyc_thread_reasons.proofs.Fitting.{Fits, base_call, fits_same}
use Rattle.cyc_thread_reasons.proofs.Outcomes.{Outcome, taken, refused, fits_quiet, calm_quiet}
use Rattle.cyc_thread_reasons.proofs.Reasoning.{juggle_told, online_told}
use Rattle.cyc_thread_reasons.proofs.Naming.{until_not}
use Rattle.cyc_thread_reasons.proofs.Going.{Goes, offline_goes, offline_stays, online_goes, online_stays}
use Rattle.cyc_thread_reasons.proofs.Leaving.{left_why}

module _ {C R : Type 0} (firing : Raise R) (names given : ℕ) (told : Known) (s t : Progress R C)
    (h : Fits firing names given told s) (w : HasWaited firing s) where
  calm_here : IsCalmNow firing s
  calm_here = waited_calm firing s w

  -- ---- juggle

  pub juggle_of : (n : ℕ) (answer : Result JuggleReport Refusal) → CallsFor firing 0 (Juggle n answer) s t
      → Outcome firing names given told (steps.Juggle n) t (Some (Make (Juggle n answer))) ⊥
  juggle_of n (Ok report) c = taken firing names given told (steps.Juggle n) t (Some (Make (Juggle n (Ok report)))) ⊥ refl
      (fits_quiet firing names given told 0 (Juggle n (Ok report)) s t c tt tt c.told
      (last_move firing s.side.system t.side.system (Juggle n (Ok report)) c.did tt) (λ own z. z) h)
      (λ q. calm_quiet firing names 0 (Juggle n (Ok report)) s t c tt c.told calm_here)
  juggle_of n (Err e) c = refused firing names given told (steps.Juggle n) t (Some (Make (Juggle n (Err e)))) ⊥ refl
      (inl (by c.did))
      (fits_quiet firing names given told 0 (Juggle n (Err e)) s t c tt tt c.told
      (last_move firing s.side.system t.side.system (Juggle n (Err e)) c.did tt) (λ own z. z) h)
      (λ q. calm_quiet firing names 0 (Juggle n (Err e)) s t c tt c.told calm_here)
    where
      by : Changes firing s.side.system (Juggle n (Err e)) t.side.system → can_not_leave n told ≡ true
      by (inl (x, first, is, same)) = juggle_told firing names given told s h n x first
          (λ until. until_not firing s (Juggle n (Err e)) t.side.system w (inl (x, first, is, same))
          (subst IsUntil (sym (err_same is)) until))
      by (inr (clear, (report, is, moves))) = absurd (err_ok is)

  -- ---- online

  calm_goes : (online : List Bool) → Goes firing online s.side.system t.side.system → t.names ≡ s.names → IsCalmNow firing t
  calm_goes online g same = record { none = subst NoneLeaves (sym same) calm_here.none; still = g.still calm_here.still }

  abbrev WhyNotBack : ℕ → Refusal → Type 0
  WhyNotBack n e = (has_reason (steps.Online n) told ≡ true) ⊎ (◌≡◌ {A = Result (Unit {0}) Refusal} (Err e) (Err why.Memory)) ⊎ ⊥

  pub online_of : (n : ℕ) (answer : Result (Unit {0}) Refusal) → CallsFor firing 0 (Online n s.clock answer) s t
      → Outcome firing names given told (steps.Online n) t (Some (Make (Online n s.clock answer))) ⊥
  online_of n (Ok done) c =
      let g = online_goes firing n s.clock done s.side.system t.side.system c.did in
      taken firing names given told (steps.Online n) t (Some (Make (Online n s.clock (Ok done)))) ⊥ refl
      (fits_same firing names given told (after_accepted (steps.Online n) told) s t
      (base_call firing names given told 0 (Online n s.clock (Ok done)) s t c h) h refl
      (g.online_is ∙ ap (λ os. slice_set os n true) h.online) c.told (subst (λ (k : ℕ). k ≤ given) (sym g.last) h.few)
      (λ own. stands_kept firing s.side.system t.side.system (Online n s.clock (Ok done)) own tt h.rising c.did (λ z. z)))
      (λ q. calm_goes (slice_set s.side.system.cpus.online n true) g c.told)
  online_of n (Err e) c =
      let g = online_stays firing n s.clock e s.side.system t.side.system c.did in
      refused firing names given told (steps.Online n) t (Some (Make (Online n s.clock (Err e)))) ⊥ refl (by c.did)
      (fits_same firing names given told told s t
      (base_call firing names given told 0 (Online n s.clock (Err e)) s t c h) h refl
      (g.online_is ∙ h.online) c.told (subst (λ (k : ℕ). k ≤ given) (sym g.last) h.few)
      (λ own. stands_kept firing s.side.system t.side.system (Online n s.clock (Err e)) own tt h.rising c.did (λ z. z)))
      (λ q. calm_goes s.side.system.cpus.online g c.told)
    where
      late : (e ≡ why.Expanding) ⊎ (e ≡ why.Memory) → (IsUntil e → ⊥) → WhyNotBack n e
      late (inl expands) not = absurd (not (subst IsUntil (sym expands) tt))
      late (inr memory) not = inr (inl (ap Err memory))

      by : Changes firing s.side.system (Online n s.clock (Err e)) t.side.system → WhyNotBack n e
      by (inl (x, first, is, same)) = inl (online_told firing names given told s h n x first)
      by (inr (clear, (reason, only))) = late reason
          (λ until. until_not firing s (Online n s.clock (Err e)) t.side.system w (inr (clear, (reason, only))) until)

  -- ---- offline

  abbrev pub IsLeftHere : ℕ → Type 0
  IsLeftHere n = IsLeft firing n s.side.system t.side.system

  abbrev bound : ℕ → Bool
  bound n = list_any (is_bound_to n) told.names

  abbrev crowded : Bool
  crowded = are_too_many (how_many is_single told) (many_online told - 1) told

  abbrev WhyNotOff : ℕ → Type 0
  WhyNotOff n = (has_reason (steps.Offline n) told ≡ true) ⊎ ⊥ ⊎ IsLeftHere n

  pub offline_of : (n : ℕ) (answer : Result (Unit {0}) Refusal) → CallsFor firing 0 (Offline n answer) s t
      → Outcome firing names given told (steps.Offline n) t (Some (Make (Offline n answer))) (IsLeftHere n)
  offline_of n (Ok done) c =
      let g = offline_goes firing n done s.side.system t.side.system c.did in
      taken firing names given told (steps.Offline n) t (Some (Make (Offline n (Ok done)))) (IsLeftHere n) refl
      (fits_same firing names given told (after_accepted (steps.Offline n) told) s t
      (base_call firing names given told 0 (Offline n (Ok done)) s t c h) h refl
      (g.online_is ∙ ap (λ os. slice_set os n false) h.online) c.told (subst (λ (k : ℕ). k ≤ given) (sym g.last) h.few)
      (λ own. stands_kept firing s.side.system t.side.system (Offline n (Ok done)) own tt h.rising c.did (λ z. z)))
      (λ q. calm_goes (slice_set s.side.system.cpus.online n false) g c.told)
  offline_of n (Err e) c =
      refused firing names given told (steps.Offline n) t (Some (Make (Offline n (Err e)))) (IsLeftHere n) refl (by c.did) fits
      (λ q. calm_goes s.side.system.cpus.online goes c.told)
    where
      goes : Goes firing s.side.system.cpus.online s.side.system t.side.system
      goes = offline_stays firing n e s.side.system t.side.system c.did

      fits : Fits firing names given told t
      fits = fits_same firing names given told told s t
          (base_call firing names given told 0 (Offline n (Err e)) s t c h) h refl
          (goes.online_is ∙ h.online) c.told (subst (λ (k : ℕ). k ≤ given) (sym goes.last) h.few)
          (λ own. stands_kept firing s.side.system t.side.system (Offline n (Err e)) own tt h.rising c.did (λ z. z))

      late : ((bound n ≡ true) ⊎ (crowded ≡ true)) ⊎ IsLeftHere n → WhyNotOff n
      late (inl (inl one)) =
          inl (or_left (can_not_leave n told || bound n) crowded (or_right (can_not_leave n told) (bound n) one))
      late (inl (inr full)) = inl (or_right (can_not_leave n told || bound n) crowded full)
      late (inr left) = inr (inr left)

      by : Changes firing s.side.system (Offline n (Err e)) t.side.system → WhyNotOff n
      by (inl (x, first, is, same)) = inl (or_left (can_not_leave n told || bound n) crowded
          (or_left (can_not_leave n told) (bound n)
          (juggle_told firing names given told s h n x first
          (λ until. until_not firing s (Offline n (Err e)) t.side.system w (inl (x, first, is, same))
          (subst IsUntil (sym (err_same is)) until)))))
      by (inr (clear, (report, moved, moves, inl (some, is, same)))) =
          late (left_why firing names given told s.side.system t h.rising w.settled w.sound fits
          (subst NoneLeaves (sym c.told) w.none) c.sound n report moved clear moves some same)
      by (inr (clear, (report, moved, moves, inr (inl (none, is, finds))))) =
          absurd (until_not firing s (Offline n (Err e)) t.side.system w
          (inr (clear, (report, moved, moves, inr (inl (none, is, finds)))))
          (subst IsUntil (sym (err_same is)) tt))
      by (inr (clear, (report, moved, moves, inr (inr (none, is, retires))))) = absurd (err_ok is)
