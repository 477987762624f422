-- A reprogram is accepted or refused as the accepted steps told.
use Rattle.std.proofs.Common.{◌≡◌, ◌∙◌, ℕ, ◌-◌, ◌<◌, ◌⊎◌, inl, inr, Bool, true, false, not, Option, Some, None, Result, Ok, Err}
use Rattle.std.proofs.Common.{[], ◌∷◌, length, refl, sym, ap, subst, arith}
use Rattle.std.specs.Prelude.{nat_le, ◌||◌, ◌&&◌}
use Rattle.std.proofs.lemmas.Bool.{or_right}
use mathlib.Core.Logic.{dite}
use native.Mathlib.Decide.{ℕ_discrete}
use Rattle.cyc_types.specs.declared.Raise.{Ghosts as Raise}
use Rattle.cyc_types.specs.declared.refusal.Refusal.{Refusal}
use Rattle.cyc_types.specs.declared.refusal.Refusal.TheVariants as why
use Rattle.cyc_types.specs.Reasons.{first_refusal}
use Rattle.cyc_places.specs.declared.record.Record.{Record}
use Rattle.cyc_places.specs.Places.{IsRecord}
use Rattle.cyc_script.specs.declared.step.Reprogram.{Reprogram as ReprogramStep}
use Rattle.cyc_script.specs.declared.step.Step.TheVariants as steps
use Rattle.cyc_thread_calls.proofs.FirstReason.{not_when, passes, not_le}
use Rattle.cyc_thread_calls.proofs.Spots.{none_some}
use Rattle.cyc_thread_calls.specs.System.{SystemView, is_unknown, is_omnipresent, removal_on, has as has_on}
use Rattle.cyc_thread_calls.specs.System.{is_online as is_up, is_leaving as is_leaving_id}
use Rattle.cyc_thread_calls.specs.Refusals.{no_cyclic, no_cpu, offline_cpu, no_component}
use Rattle.cyc_thread_calls.specs.Calls.{Changes, Reprogram, ReprogramOn, reprograms}
use Rattle.cyc_thread_calls.specs.Named.{Named}
use Rattle.cyc_thread_calls.specs.Named.TheVariants.{Nothing, Cyclic, Leaving, Removed}
use Rattle.cyc_thread_calls.specs.Progress.{Progress}
use Rattle.cyc_thread_calls.specs.StepCalls.{CallsFor}
use Rattle.cyc_thread_calls.specs.Names.{named_at, cyclic_id, has_open_removal}
use Rattle.cyc_words.specs.Words.{WithId}
use Rattle.cyc_thread_calls.specs.SystemRingsLeading.{Make}
use Rattle.cyc_thread_calls.proofs.Called.{call_with}
use Rattle.cyc_thread_calls.specs.Way.{is_moment}
use Rattle.cyc_thread_calls.proofs.Keeping.{AllStill, last_move}
use Rattle.cyc_thread_calls.proofs.Waiting.{IsCalmNow, HasWaited, waited_calm}
use Rattle.cyc_thread_calls.proofs.Moving.{none_leaving, none_removed}
use Rattle.cyc_thread_reasons.specs.Known.{Whereabouts, Absent, OnOne, OnAll, Known, name_has, is_known_up}
use Rattle.cyc_thread_reasons.specs.Reasons.{is_there, is_single, has_components, can_be_reprogrammed, has_reason}
use Rattle.cyc_thread_reasons.proofs.Whereabouts.{stands, stands_at, unknown_stands, omni_stands, record_there}
use Rattle.cyc_thread_reasons.proofs.Whereabouts.{everywhere_placement}
use Rattle.cyc_thread_reasons.proofs.Whereabouts.{err_ok}
use Rattle.cyc_thread_reasons.proofs.Fitting.{given_of, Fits}
use Rattle.cyc_thread_reasons.proofs.Outcomes.{met, taken, refused, fits_quiet, calm_quiet}
use Rattle.cyc_thread_reasons.proofs.Reasoning.{up, past, single_told}
use Rattle.cyc_thread_reasons.proofs.Naming.{Out, idle}

absent_not : (cpu : Option ℕ) (st : Whereabouts) (told : Known) → st ≡ Absent → not (can_be_reprogrammed cpu st told) ≡ true
absent_not None st told e = ap (λ z. not (is_single z)) e
absent_not (Some n) st told e = ap (λ z. not (has_components z && is_known_up n told)) e

module _ {C R : Type 0} (firing : Raise R) (names given : ℕ) (told : Known) (s : Progress R C)
    (h : Fits firing names given told s) (w : HasWaited firing s) where
  abbrev y : SystemView R
  y = s.side.system

  still : AllStill s.side.system.cpus
  still = (waited_calm firing s w).still

  -- an omnipresent cyclic has a component on each CPU that is online
  component_here : (id n : ℕ) → has_components (stands id s.side.system) ≡ true → is_known_up n told ≡ true
      → has_on n id s.side.system.cpus ≡ true
  component_here id n all on = by (record_there s.side.system.records id (here (stands id s.side.system) all))
    where
      here : (st : Whereabouts) → has_components st ≡ true → is_there st ≡ true
      here Absent e = e
      here (OnOne bound) e = refl
      here OnAll e = refl

      either : (r : Record) → r.id ≡ id
          → (has_on n r.id s.side.system.cpus ≡ true) ⊎ ((m : ℕ) × (removal_on m s.side.system.cpus ≡ Some r.id))
          → has_on n id s.side.system.cpus ≡ true
      either r same (inl there) = subst (λ (k : ℕ). has_on n k s.side.system.cpus ≡ true) same there
      either r same (inr (m, leaving)) = absurd (none_some (sym (none_removed s.side.system.cpus m still) ∙ leaving))

      by : (k : ℕ) × (r : Record) × IsRecord s.side.system.records k r × (r.id ≡ id) → has_on n id s.side.system.cpus ≡ true
      by (k, r, is, named) = either r named (w.sound.agrees.everywhere k n r is
          (everywhere_placement r.placement ∙ ap has_components (sym (stands_at s.side.system.records k r id h.rising is named))
          ∙ all)
          (up firing names given told s h n ∙ on))

  on_low : (n : ℕ) → is_known_up n told ≡ true → n < length s.side.system.cpus.cpus
  on_low n on = dite (ℕ_discrete (length s.side.system.cpus.cpus - n) 0)
      (λ z. absurd (let odd : false ≡ true = sym (past firing names given told s h n (omega (arith, z))) ∙ on in cc))
      (λ m. omega (arith, m))

  -- why a component is not reprogrammed
  component_told : (id n : ℕ) (e : Refusal) → is_there (stands id s.side.system) ≡ true
      → first_refusal (no_cyclic id s.side.system ∷ no_cpu n s.side.system ∷ offline_cpu n s.side.system
      ∷ no_component id n s.side.system ∷ []) ≡ Some e
      → not (has_components (stands id s.side.system) && is_known_up n told) ≡ true
  component_told id n e here is = by (has_components (stands id s.side.system)) (is_known_up n told) refl refl
    where
      by : (a b : Bool) → has_components (stands id s.side.system) ≡ a → is_known_up n told ≡ b → not (a && b) ≡ true
      by false b all on = refl
      by true false all on = refl
      by true true all on = absurd (none_some (sym
          (passes (no_cyclic id y) (no_cpu n y ∷ offline_cpu n y ∷ no_component id n y ∷ []) None
          (not_when (is_unknown id y || is_leaving_id id y) why.NoCyclic
          (λ i. (unknown_stands id y ∙ ap not here) i || none_leaving y.cpus id still i))
          (passes (no_cpu n y) (offline_cpu n y ∷ no_component id n y ∷ []) None
          (not_when (nat_le (length y.cpus.cpus) n) why.NoCpu (not_le (length y.cpus.cpus) n (on_low n on)))
          (passes (offline_cpu n y) (no_component id n y ∷ []) None
          (not_when (not (is_up n y.cpus)) why.Offline (ap not (up firing names given told s h n ∙ on)))
          (passes (no_component id n y) [] None
          (not_when (not (is_omnipresent id y && has_on n id y.cpus)) why.NoCyclic
          (λ i. not ((omni_stands id y ∙ all) i && component_here id n all on i))) refl)))) ∙ is))

  -- why a reprogram is refused
  reprogram_why : (cpu : Option ℕ) (id moment : ℕ) (e : Refusal) (t : SystemView R) → is_there (stands id s.side.system) ≡ true
      → Changes firing s.side.system (reprograms cpu id moment (Err e)) t
      → not (can_be_reprogrammed cpu (stands id s.side.system) told) ≡ true
  reprogram_why None id moment e t here (inl (x, first, is, same)) =
      single_told firing names given told s h id x here still first
  reprogram_why None id moment e t here (inr (clear, (n, home, (is, only)))) = absurd (err_ok is)
  reprogram_why (Some n) id moment e t here (inl (x, first, is, same)) = component_told id n x here first
  reprogram_why (Some n) id moment e t here (inr (clear, (is, only))) = absurd (err_ok is)

module _ {C R : Type 0} (firing : Raise R) (names given : ℕ) (told : Known) (s t : Progress R C)
    (h : Fits firing names given told s) (w : HasWaited firing s) where
  reset_fits : (name : ℕ) (cpu : Option ℕ) (id moment : ℕ) (answer : Result (Unit {0}) Refusal)
      → CallsFor firing name (reprograms cpu id moment answer) s t → Fits firing names given told t
  reset_fits name None id moment answer c =
      fits_quiet firing names given told name (Reprogram id moment answer) s t c tt tt c.told
      (last_move firing s.side.system t.side.system (Reprogram id moment answer) c.did tt) (λ own z. z) h
  reset_fits name (Some n) id moment answer c =
      fits_quiet firing names given told name (ReprogramOn id n moment answer) s t c tt tt c.told
      (last_move firing s.side.system t.side.system (ReprogramOn id n moment answer) c.did tt) (λ own z. z) h

  reset_calm : (name : ℕ) (cpu : Option ℕ) (id moment : ℕ) (answer : Result (Unit {0}) Refusal)
      → CallsFor firing name (reprograms cpu id moment answer) s t → IsCalmNow firing t
  reset_calm name None id moment answer c =
      calm_quiet firing names name (Reprogram id moment answer) s t c tt c.told (waited_calm firing s w)
  reset_calm name (Some n) id moment answer c =
      calm_quiet firing names name (ReprogramOn id n moment answer) s t c tt c.told (waited_calm firing s w)

  ok_met : (cpu : Option ℕ) (id moment : ℕ) (done : Unit {0}) → met (Some (Make (reprograms cpu id moment (Ok done)))) ≡ true
  ok_met None id moment done = refl
  ok_met (Some n) id moment done = refl

  err_met : (cpu : Option ℕ) (id moment : ℕ) (e : Refusal) → met (Some (Make (reprograms cpu id moment (Err e)))) ≡ false
  err_met None id moment e = refl
  err_met (Some n) id moment e = refl

  reset : (r : ReprogramStep) (id moment : ℕ) (answer : Result (Unit {0}) Refusal) → named_at s.names r.name ≡ Cyclic id
      → CallsFor firing r.name (reprograms r.cpu id moment answer) s t
      → Out firing names given told s t h w (steps.Reprogram r) (Some (Make (reprograms r.cpu id moment answer)))
  reset r id moment (Ok done) at c = taken firing names given told (steps.Reprogram r) t
      (Some (Make (reprograms r.cpu id moment (Ok done)))) ⊥ (ok_met r.cpu id moment done)
      (reset_fits r.name r.cpu id moment (Ok done) c) (λ q. reset_calm r.name r.cpu id moment (Ok done) c)
  reset r id moment (Err e) at c = refused firing names given told (steps.Reprogram r) t
      (Some (Make (reprograms r.cpu id moment (Err e)))) ⊥ (err_met r.cpu id moment e)
      (inl (or_right (not (is_moment r.moment)) (not (can_be_reprogrammed r.cpu (name_has r.name told) told))
      (ap (λ z. not (can_be_reprogrammed r.cpu z told)) (h.each r.name ∙ ap (λ (n : Named). given_of n s.side.system) at)
      ∙ reprogram_why firing names given told s h w r.cpu id moment e t.side.system (h.there r.name id at) c.did)))
      (reset_fits r.name r.cpu id moment (Err e) c) (λ q. reset_calm r.name r.cpu id moment (Err e) c)

  nothing_reset : (r : ReprogramStep) (named : Named) → named_at s.names r.name ≡ named
      → given_of named s.side.system ≡ Absent → has_reason (steps.Reprogram r) told ≡ true
  nothing_reset r named at e = or_right (not (is_moment r.moment)) (not (can_be_reprogrammed r.cpu (name_has r.name told) told))
      (absent_not r.cpu (name_has r.name told) told (h.each r.name ∙ ap (λ (n : Named). given_of n s.side.system) at ∙ e))

  pub reset_of : (r : ReprogramStep) (moment : ℕ) (named : Named) → named_at s.names r.name ≡ named
      → has_open_removal named ≡ false
      → (d : WithId (cyclic_id named)
      (λ id. (answer : Result (Unit {0}) Refusal) × CallsFor firing r.name (reprograms r.cpu id moment answer) s t) (t ≡ s))
      → Out firing names given told s t h w (steps.Reprogram r)
      (call_with firing (Unit {0}) (λ id answer. reprograms r.cpu id moment answer) r.name s t (cyclic_id named) d)
  reset_of r moment Nothing at stays d =
      idle firing names given told s t h w (steps.Reprogram r) d (nothing_reset r Nothing at refl)
  reset_of r moment (Removed receipt) at stays d =
      idle firing names given told s t h w (steps.Reprogram r) d (nothing_reset r (Removed receipt) at refl)
  reset_of r moment (Leaving id) at stays d = absurd (let odd : true ≡ false = stays in cc)
  reset_of r moment (Cyclic id) at stays (answer, c) = reset r id moment answer at c
