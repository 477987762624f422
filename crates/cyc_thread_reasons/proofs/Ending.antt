-- A remove and an advance.
use Rattle.std.proofs.Common.{◌≡◌, ◌∙◌, ℕ, ◌<◌, ◌≤◌, inl, inr, Bool, true, false, not, Option, Some, None, Result, Ok, Err}
use Rattle.std.proofs.Common.{length, refl, sym, ap, subst, arith}
use Rattle.std.proofs.lemmas.Bool.{or_left, or_right}
use Rattle.std.proofs.lemmas.Option.{slice_get_within}
use Rattle.cyc_types.specs.declared.Calls.{Ghosts as Calls}
use Rattle.cyc_types.specs.declared.Raise.{Ghosts as Raise}
use Rattle.cyc_types.specs.Series.{never}
use Rattle.cyc_types.specs.declared.refusal.Refusal.{Refusal}
use Rattle.cyc_types.specs.declared.refusal.Refusal.TheVariants as why
use Rattle.cyc_timers.specs.declared.fire.Fired.{Fired}
use Rattle.cyc_timers.specs.declared.fire.FireRefused.{FireRefused}
use Rattle.cyc_cpu.specs.Cpu.{CpuView, running}
use Rattle.cyc_script.specs.declared.step.Step.TheVariants as steps
use Rattle.cyc_thread_calls.proofs.FirstReason.{not_when, passes}
use Rattle.cyc_thread_calls.proofs.Spots.{none_some, same_some, get_some}
use Rattle.cyc_thread_calls.specs.System.{SystemView, is_unknown}
use Rattle.cyc_thread_calls.specs.SystemRemoval.{SystemRemoval}
use Rattle.cyc_thread_calls.specs.SystemRemoval.TheVariants.{Done, Kept}
use Rattle.cyc_thread_calls.specs.Removing.{unknown_cyclic, busy_on_each, cpus_with}
use Rattle.cyc_thread_calls.specs.Calls.{Changes, BeginRemove}
use Rattle.cyc_thread_calls.specs.SystemSide.{SystemSide}
use Rattle.cyc_thread_calls.specs.Advanced.{Advanced}
use Rattle.cyc_thread_calls.specs.Advancing.{AllFire, moment_asked, FiresIf}
use Rattle.cyc_thread_calls.specs.Named.{Named}
use Rattle.cyc_thread_calls.specs.Named.TheVariants.{Nothing, Cyclic, Leaving, Removed}
use Rattle.cyc_thread_calls.specs.Progress.{Progress}
use Rattle.cyc_thread_calls.specs.StepCalls.{CallsFor, Fires}
use Rattle.cyc_thread_calls.specs.Names.{named_at, cyclic_id, has_open_removal, NoneLeaves}
use Rattle.cyc_words.specs.Words.{WithId}
use Rattle.cyc_thread_calls.specs.SystemRingsLeading.{LeadCall, Make}
use Rattle.cyc_thread_calls.proofs.Called.{call_with}
use Rattle.cyc_thread_calls.proofs.Keeping.{AllStill, begun_given}
use Rattle.cyc_thread_calls.proofs.Waiting.{IsCalmNow}
use Rattle.cyc_thread_reasons.specs.Known.{Absent, Known, name_has, after_accepted}
use Rattle.cyc_thread_reasons.specs.Reasons.{is_there, has_reason}
use Rattle.cyc_thread_reasons.proofs.Whereabouts.{stands, stands_same, stands_as, stands_kept, unknown_stands, removed_stands}
use Rattle.cyc_thread_reasons.proofs.Fitting.{given_of, Fits, base_call, fits_same, fits_set, sets_own}
use Rattle.cyc_thread_reasons.proofs.Waiting.{Calm, not_here}
use Rattle.cyc_thread_reasons.proofs.Outcomes.{Outcome, taken, refused, fits_as, calm_as}
use Rattle.cyc_thread_calls.proofs.Ending.{none_busy}

cyclic_stays : {named : Named} {id : ℕ} → has_open_removal named ≡ true → named ≡ Cyclic id → ⊥
cyclic_stays leaves e = (let odd : false ≡ true = sym (ap has_open_removal e) ∙ leaves in cc)

module _ {C R : Type 0} (firing : Raise R) (names given : ℕ) (told : Known) (name : ℕ) (s t : Progress R C)
    (h : Fits firing names given told s) (q : Calm firing told s) where
  abbrev OutHere : Option LeadCall → Type 0
  OutHere call = Outcome firing names given told (steps.Remove name) t call ⊥

  nothing_reason : name_has name told ≡ Absent → has_reason (steps.Remove name) told ≡ true
  nothing_reason e = or_left (not (is_there (name_has name told))) told.leaving (ap (λ z. not (is_there z)) e)

  -- why the removal of a cyclic is refused: another may be open
  open_reason : (id : ℕ) (e : Refusal) → named_at s.names name ≡ Cyclic id
      → Changes firing s.side.system (BeginRemove id (Err e)) t.side.system → has_reason (steps.Remove name) told ≡ true
  open_reason id e at d = by told.leaving refl
    where
      not_open : AllStill s.side.system.cpus → Changes firing s.side.system (BeginRemove id (Err e)) t.side.system → ⊥
      not_open still (inl (x, first, is, same)) = none_some (sym (passes (unknown_cyclic id s.side.system)
          (busy_on_each id s.side.system) None
          (not_when (is_unknown id s.side.system) why.NoCyclic
          (unknown_stands id s.side.system ∙ ap not (h.there name id at)))
          (none_busy s.side.system (cpus_with id s.side.system.cpus) still)) ∙ first)
      not_open still (inr (clear, wrong)) = wrong

      by : (b : Bool) → told.leaving ≡ b → has_reason (steps.Remove name) told ≡ true
      by true e = or_right (not (is_there (name_has name told))) told.leaving e
      by false e = absurd (not_open (q e).still d)

  same_system : (id : ℕ) (e : Refusal) → Changes firing s.side.system (BeginRemove id (Err e)) t.side.system
      → t.side.system ≡ s.side.system
  same_system id e (inl (x, first, is, same)) = same
  same_system id e (inr (clear, wrong)) = absurd wrong

  -- a removal was refused
  stays_there : (id : ℕ) (e : Refusal) → CallsFor firing name (BeginRemove id (Err e)) s t
      → has_reason (steps.Remove name) told ≡ true → OutHere (Some (Make (BeginRemove id (Err e))))
  stays_there id e c reason =
      let same = same_system id e c.did in
      refused firing names given told (steps.Remove name) t (Some (Make (BeginRemove id (Err e)))) ⊥ refl (inl reason)
      (fits_same firing names given told told s t (base_call firing names given told name (BeginRemove id (Err e)) s t c h) h refl
      (ap (λ (x : SystemView R). x.cpus.online) same ∙ h.online) c.told
      (subst (λ (x : SystemView R). x.last ≤ given) (sym same) h.few) (stands_as firing s.side.system t.side.system same))
      (λ quiet. record {
        none = subst NoneLeaves (sym c.told) (q quiet).none;
        still = subst (λ (x : SystemView R). AllStill x.cpus) (sym same) (q quiet).still;
      })

  begins : (id : ℕ) (answer : Result SystemRemoval Refusal) → cyclic_id (named_at s.names name) ≡ Some id
      → CallsFor firing name (BeginRemove id answer) s t
      → ((e : Refusal) → Changes firing s.side.system (BeginRemove id (Err e)) t.side.system
      → has_reason (steps.Remove name) told ≡ true)
      → OutHere (Some (Make (BeginRemove id answer)))
  begins id (Ok (Done receipt)) has c reason =
      let g = begun_given firing id (Ok (Done receipt)) s.side.system t.side.system c.did in
      taken firing names given told (steps.Remove name) t (Some (Make (BeginRemove id (Ok (Done receipt))))) ⊥ refl
      (fits_set firing names given given told (after_accepted (steps.Remove name) told) s t name (Removed receipt) Absent
      (base_call firing names given told name (BeginRemove id (Ok (Done receipt))) s t c h) h (omega arith)
      (sets_own firing names given told (after_accepted (steps.Remove name) told) s t name id (Removed receipt) Absent h refl
      (g.online ∙ h.online) has c.told g.last refl (λ own e. absurd (none_some (ap cyclic_id e))) (λ own e. absurd (none_some e))
      (λ own ne. stands_kept firing s.side.system t.side.system (BeginRemove id (Ok (Done receipt))) own tt h.rising c.did ne)
      (λ e. absurd (not_here (stands id t.side.system)
      (removed_stands firing s.side.system t.side.system id receipt h.rising c.did) e))))
      (λ e. absurd (let odd : true ≡ false = e in cc))
  begins id (Ok (Kept kept)) has c reason =
      let g = begun_given firing id (Ok (Kept kept)) s.side.system t.side.system c.did in
      taken firing names given told (steps.Remove name) t (Some (Make (BeginRemove id (Ok (Kept kept))))) ⊥ refl
      (fits_set firing names given given told (after_accepted (steps.Remove name) told) s t name (Leaving id) Absent
      (base_call firing names given told name (BeginRemove id (Ok (Kept kept))) s t c h) h (omega arith)
      (sets_own firing names given told (after_accepted (steps.Remove name) told) s t name id (Leaving id) Absent h refl
      (g.online ∙ h.online) has c.told g.last refl (λ own e. absurd (cyclic_stays refl e)) (λ own e. same_some e)
      (λ own ne. stands_kept firing s.side.system t.side.system (BeginRemove id (Ok (Kept kept))) own tt h.rising c.did (λ z. z))
      (λ e. refl)))
      (λ e. absurd (let odd : true ≡ false = e in cc))
  begins id (Err e) has c reason = stays_there id e c (reason e c.did)

  pub remove_of : (named : Named) → named_at s.names name ≡ named
      → (d : WithId (cyclic_id named)
      (λ id. (answer : Result SystemRemoval Refusal) × CallsFor firing name (BeginRemove id answer) s t) (t ≡ s))
      → OutHere (call_with firing SystemRemoval (λ id answer. BeginRemove id answer) name s t (cyclic_id named) d)
  remove_of Nothing at d = refused firing names given told (steps.Remove name) t None ⊥ refl
      (inl (nothing_reason (h.each name ∙ ap (λ (n : Named). given_of n s.side.system) at)))
      (fits_as firing names given told s t d h) (calm_as firing names told s t d q)
  remove_of (Removed receipt) at d = refused firing names given told (steps.Remove name) t None ⊥ refl
      (inl (nothing_reason (h.each name ∙ ap (λ (n : Named). given_of n s.side.system) at)))
      (fits_as firing names given told s t d h) (calm_as firing names told s t d q)
  remove_of (Leaving id) at (answer, c) = begins id answer (ap cyclic_id at) c
      (λ e d. nothing_reason (h.each name ∙ ap (λ (n : Named). given_of n s.side.system) at))
  remove_of (Cyclic id) at (answer, c) = begins id answer (ap cyclic_id at) c (λ e d. open_reason id e at d)

-- ---- an advance

module _ {C R : Type 0} (handler : Calls C) (firing : Raise R) (names given : ℕ) (told : Known) where
  fired_one : (up : Bool) (now : ℕ) (x y : CpuView R) (a b : C) (answer : Option (Result Fired FireRefused))
      → FiresIf handler firing (moment_asked up now) (running a x) answer (running b y) → x.removal ≡ None → y.removal ≡ None
  fired_one true now x y a b (Some (Ok r)) f none = f.1.removal ∙ none
  fired_one true now x y a b (Some (Err e)) (inl (late, is, same)) none = ap (λ r. r.cpu.removal) same ∙ none
  fired_one true now x y a b (Some (Err e)) (inr (early, kept, stops)) none = kept.removal ∙ none
  fired_one true now x y a b None f none = absurd f
  fired_one false now x y a b (Some answer) f none = absurd f
  fired_one false now x y a b None f none = ap (λ r. r.cpu.removal) f ∙ none

  fired_still : (now : ℕ) (s : Progress R C) (b : Advanced R C) → AllFire handler firing now s.side b
      → Fits firing names given told s → AllStill s.side.system.cpus → AllStill b.side.system.cpus
  fired_still now s b f h still n y at =
      let low = slice_get_within b.side.system.cpus.cpus n y at in let long = f.long in
      let ups = h.ups in
      let ready = h.ready in let leads = f.long_leads in let answers = f.long_answers in
      let (x, x_at) = get_some s.side.system.cpus.cpus n (omega (arith, low, long)) in
      let (up, up_at) = get_some s.side.system.cpus.online n (omega (arith, low, long, ups)) in
      let (l, l_at) = get_some s.side.leads.items n (omega (arith, low, long, ready)) in
      let (m, m_at) = get_some b.side.leads.items n (omega (arith, low, long, ready, leads)) in
      let (answer, answer_at) = get_some b.answers.items n (omega (arith, low, long, answers)) in
      fired_one up now x y l.calls m.calls answer (f.each n up x y l m answer up_at x_at at l_at m_at answer_at) (still n x x_at)

  pub advance_fits : (now : ℕ) (s t : Progress R C) → Fires handler firing now s t → now < never
      → Fits firing names given told s → Fits firing names given told t
  advance_fits now s t f early h = fits_same firing names given told told s t (record {
    rising = f.sound.fit.rising;
    early = subst (λ (k : ℕ). k < never) (sym f.clock) early;
    ups = f.sound.agrees.long;
    ready = ap (λ (z : SystemSide R C). length z.leads.items) f.side ∙ f.fired.long_leads ∙ h.ready
        ∙ sym f.fired.long ∙ ap (λ (z : SystemSide R C). length z.system.cpus.cpus) (sym f.side);
    more = (let e = last in omega (arith, e));
  }) h refl (ap (λ (z : SystemSide R C). z.system.cpus.online) f.side ∙ f.fired.online ∙ h.online) f.names
      (subst (λ (k : ℕ). k ≤ given) (sym last) h.few)
      (stands_same firing s.side.system t.side.system (ap (λ (z : SystemSide R C). z.system.records) f.side ∙ f.fired.records))
    where
      last : t.side.system.last ≡ s.side.system.last
      last = ap (λ (z : SystemSide R C). z.system.last) f.side ∙ f.fired.last

  pub advance_calm : (now : ℕ) (s t : Progress R C) → Fires handler firing now s t
      → Fits firing names given told s → IsCalmNow firing s → IsCalmNow firing t
  advance_calm now s t f h q = record {
    none = subst NoneLeaves (sym f.names) q.none;
    still = subst (λ (z : SystemSide R C). AllStill z.system.cpus) (sym f.side) (fired_still now s f.after f.fired h q.still);
  }
