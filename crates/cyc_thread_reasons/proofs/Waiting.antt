-- A wait keeps what is true between two steps; after it each CPU has settled and no removal is open.
use Rattle.std.proofs.Common.{◌≡◌, ◌∙◌, ℕ, ◌<◌, ◌≤◌, Bool, true, false, cond, Option, Some, None, Result, Ok, Err, List, [], ◌∷◌}
use Rattle.std.proofs.Common.{length, slice_set, refl, sym, ap, subst, arith}
use Rattle.std.specs.List.{FoldsTo}
use Rattle.std.proofs.lemmas.List.{set-get_or}
use Rattle.cyc_types.specs.declared.Raise.{Ghosts as Raise}
use Rattle.cyc_types.specs.Series.{never}
use Rattle.cyc_types.specs.declared.receipt.Receipt.{Receipt}
use Rattle.cyc_types.specs.declared.refusal.Refusal.{Refusal}
use Rattle.cyc_script.specs.declared.step.Step.{Step}
use Rattle.cyc_thread_calls.proofs.Spots.{none_some}
use Rattle.cyc_thread_calls.specs.Calls.{PollRemove}
use Rattle.cyc_thread_calls.specs.Named.{Named}
use Rattle.cyc_thread_calls.specs.Named.TheVariants.{Leaving, Removed}
use Rattle.cyc_thread_calls.specs.Progress.{Progress}
use Rattle.cyc_thread_calls.specs.StepCalls.{CallsFor, Poll, Polls, SettlesAll, Waits}
use Rattle.cyc_thread_calls.specs.Names.{named_at, cyclic_id}
use Rattle.cyc_thread_calls.specs.Words.{Begins, waits_first}
use Rattle.cyc_thread_calls.proofs.Keeping.{polled_given}
use Rattle.cyc_thread_calls.proofs.Waiting.{IsCalmNow, HasWaited, waited_calm}
use Rattle.cyc_thread_reasons.specs.Known.{Whereabouts, Absent, Known, name_has, before_step}
use Rattle.cyc_thread_reasons.specs.Reasons.{is_there}
use Rattle.cyc_thread_reasons.proofs.Whereabouts.{stands, stands_same, stands_kept, polled_stands}
use Rattle.cyc_thread_reasons.proofs.Fitting.{given_of, Fits, base_call, fits_same, fits_set, fits_told, sets_own}

-- what a name has that has nothing stays told so
pub absent_told : (told : Known) (name : ℕ) → name_has name told ≡ Absent → told.names ≡ slice_set told.names name Absent
absent_told told name e = sym (ap (λ z. slice_set told.names name z) (sym e) ∙ set-get_or told.names name Absent)

pub not_here : (st : Whereabouts) → st ≡ Absent → is_there st ≡ true → ⊥
not_here st e h = (let odd : false ≡ true = sym (ap is_there e) ∙ h in cc)

module _ {C R : Type 0} (firing : Raise R) (names given : ℕ) (told : Known) where
  poll_fits : (s : Progress R C) (name id : ℕ) (answer : Result (Option Receipt) Refusal) (t : Progress R C)
      → named_at s.names name ≡ Leaving id → CallsFor firing name (PollRemove id answer) s t
      → Fits firing names given told s → Fits firing names given told t
  poll_fits s name id (Ok (Some receipt)) t at c h =
      let g = polled_given firing id (Ok (Some receipt)) s.side.system t.side.system c.did in
      let gone = polled_stands firing s.side.system t.side.system id receipt h.rising c.did in
      fits_set firing names given given told told s t name (Removed receipt) Absent
      (base_call firing names given told name (PollRemove id (Ok (Some receipt))) s t c h) h (omega arith)
      (sets_own firing names given told told s t name id (Removed receipt) Absent h
      (absent_told told name (h.each name ∙ ap (λ (n : Named). given_of n s.side.system) at)) (g.online ∙ h.online)
      (ap cyclic_id at) c.told g.last refl (λ own e. absurd (none_some (ap cyclic_id e))) (λ own e. absurd (none_some e))
      (λ own ne. stands_kept firing s.side.system t.side.system (PollRemove id (Ok (Some receipt))) own tt h.rising c.did ne)
      (λ e. absurd (not_here (stands id t.side.system) gone e)))
  poll_fits s name id (Ok None) t at c h =
      let g = polled_given firing id (Ok None) s.side.system t.side.system c.did in
      fits_same firing names given told told s t (base_call firing names given told name (PollRemove id (Ok None)) s t c h) h refl
      (g.online ∙ h.online) c.told (subst (λ (k : ℕ). k ≤ given) (sym g.last) h.few)
      (λ own. stands_kept firing s.side.system t.side.system (PollRemove id (Ok None)) own tt h.rising c.did (λ z. z))
  poll_fits s name id (Err e) t at c h =
      let g = polled_given firing id (Err e) s.side.system t.side.system c.did in
      fits_same firing names given told told s t (base_call firing names given told name (PollRemove id (Err e)) s t c h) h refl
      (g.online ∙ h.online) c.told (subst (λ (k : ℕ). k ≤ given) (sym g.last) h.few)
      (λ own. stands_kept firing s.side.system t.side.system (PollRemove id (Err e)) own tt h.rising c.did (λ z. z))

  polls_fit : (polls : List Poll) (s t : Progress R C)
      → FoldsTo (Polls firing) s polls t → Fits firing names given told s → Fits firing names given told t
  polls_fit [] s t e h = subst (λ (p : Progress R C). Fits firing names given told p) e h
  polls_fit (p ∷ polls) s t (u, (at, c), rest) h = polls_fit polls u t rest (poll_fits s p.name p.id p.answer u at c h)

  settles_fit : (s t : Progress R C) → SettlesAll firing s t → Fits firing names given told s → Fits firing names given told t
  settles_fit s t q h = fits_same firing names given told told s t (record {
    rising = q.sound.fit.rising;
    early = subst (λ (k : ℕ). k < never) (sym q.clock) h.early;
    ups = q.sound.agrees.long;
    ready = ap (λ (l : _). length l.items) q.asked.leads ∙ h.ready ∙ sym q.asked.cpus.long;
    more = (let e = q.asked.last in omega (arith, e));
  }) h refl (q.asked.online ∙ h.online) q.names (subst (λ (k : ℕ). k ≤ given) (sym q.asked.last) h.few)
      (stands_same firing s.side.system t.side.system q.asked.records)

  pub wait_fits : (s t : Progress R C) → Waits firing s t → Fits firing names given told s
      → Fits firing names given told t × HasWaited firing t
  wait_fits s t (polls, u, p, q) h =
      (settles_fit u t q (polls_fit polls s u p h), record { none = q.none; settled = q.settled; sound = q.sound })

module _ {C R : Type 0} (firing : Raise R) where
  -- where no removal may be open none is
  abbrev pub Calm : Known → Progress R C → Type 0
  Calm told p = told.leaving ≡ false → IsCalmNow firing p

  -- what is so after what comes before the call of a step
  pub record Begun (names given : ℕ) (waits : Bool) (told : Known) (p : Progress R C) : Type 0 where
    pub fits : Fits firing names given told p
    pub calm : Calm told p
    pub waited : waits ≡ true → HasWaited firing p

  pub begun : (names given : ℕ) (told : Known) (x : Step) (s t : Progress R C) → Begins firing (waits_first x) s t
      → Fits firing names given told s → Calm told s → Begun names given (waits_first x) (before_step x told) t
  begun names given told x s t begins fits calm = by (waits_first x) begins
    where
      by : (b : Bool) → Begins firing b s t → Begun names given b (record told { leaving = cond b false told.leaving }) t
      by true waits = let (after, waited) = wait_fits firing names given told s t waits fits in record {
        fits = fits_told firing names given told false t after;
        calm = λ e. waited_calm firing t waited;
        waited = λ e. waited;
      }
      by false same = record {
        fits = subst (λ (p : Progress R C). Fits firing names given (record told { leaving = told.leaving }) p) (sym same)
            (fits_told firing names given told told.leaving s fits);
        calm = λ e. subst (λ (p : Progress R C). IsCalmNow firing p) (sym same) (calm e);
        waited = λ e. absurd (let odd : false ≡ true = e in cc);
      }
