-- The words for the cyclic of a name: binds and reprograms.
use Rattle.std.proofs.Common.{◌≡◌, ◌∙◌, ℕ, ◌⊎◌, inl, inr, true, false, not, Option, Some, None, Result, Ok, Err, List, slice_set}
use Rattle.std.proofs.Common.{refl, sym, ap, subst, arith}
use Rattle.std.specs.Prelude.{◌||◌}
use Rattle.std.proofs.lemmas.Bool.{or_left, or_right}
use Rattle.std.proofs.lemmas.List.{set-get_or}
use Rattle.cyc_types.specs.declared.Raise.{Ghosts as Raise}
use Rattle.cyc_types.specs.declared.refusal.Refusal.{Refusal}
use Rattle.cyc_types.specs.declared.refusal.Refusal.TheVariants as why
use Rattle.cyc_script.specs.declared.step.Step.{Step}
use Rattle.cyc_script.specs.declared.step.Bind.{Bind as BindStep}
use Rattle.cyc_script.specs.declared.step.Step.TheVariants as steps
use Rattle.cyc_system_laws.specs.Settling.{IsRefusedUntil}
use Rattle.cyc_system_laws.proofs.Settles.{refused_until}
use Rattle.cyc_thread_calls.proofs.Spots.{same_some}
use Rattle.cyc_thread_calls.specs.System.{SystemView}
use Rattle.cyc_thread_calls.specs.Calls.{SystemCall, Changes, Bind}
use Rattle.cyc_thread_calls.specs.Named.{Named}
use Rattle.cyc_thread_calls.specs.Named.TheVariants.{Nothing, Cyclic, Leaving, Removed}
use Rattle.cyc_thread_calls.specs.Progress.{Progress}
use Rattle.cyc_thread_calls.specs.StepCalls.{CallsFor}
use Rattle.cyc_thread_calls.specs.Names.{named_at, cyclic_id, has_open_removal}
use Rattle.cyc_words.specs.Words.{WithId}
use Rattle.cyc_thread_calls.specs.SystemRingsLeading.{LeadCall, Make}
use Rattle.cyc_thread_calls.proofs.Called.{call_with}
use Rattle.cyc_thread_calls.proofs.Keeping.{keeps_call, last_move}
use Rattle.cyc_thread_calls.proofs.Waiting.{IsCalmNow, HasWaited, waited_calm}
use Rattle.cyc_thread_reasons.specs.Known.{Whereabouts, Absent, OnOne, Known, name_has, is_known_up, after_accepted}
use Rattle.cyc_thread_reasons.specs.Reasons.{is_there, is_single, may_be_full, has_reason}
use Rattle.cyc_thread_reasons.proofs.Whereabouts.{stands, stands_kept, bound_stands, unbound_stands, err_ok}
use Rattle.cyc_thread_reasons.proofs.Fitting.{given_of, Fits, base_call, fits_set, sets_own}
use Rattle.cyc_thread_reasons.proofs.Outcomes.{Outcome, taken, refused, fits_quiet, calm_quiet, fits_as, calm_as}
use Rattle.cyc_thread_reasons.proofs.Reasoning.{single_told, bind_told}
use Rattle.cyc_thread_reasons.proofs.Full.{bind_why, IsFull}
use Rattle.cyc_thread_reasons.proofs.Room.{full_told}

-- the names are as they were
pub same_name : (all : List Named) (name : ℕ) (now : Named) → named_at all name ≡ now → all ≡ slice_set all name now
same_name all name now e = sym (ap (λ z. slice_set all name z) (sym e) ∙ set-get_or all name Nothing)

pub nothing_single : (st : Whereabouts) → st ≡ Absent → not (is_single st) ≡ true
nothing_single st e = ap (λ z. not (is_single z)) e

-- a call that is refused after a wait is refused for good
pub until_not : {C R : Type 0} (firing : Raise R) (s : Progress R C) (call : SystemCall) (t : SystemView R)
    → HasWaited firing s → Changes firing s.side.system call t → IsRefusedUntil call → ⊥
until_not firing s call t w did until =
    let (n, x, at, asks, unsettled) = refused_until firing s.side.system t call did until in unsettled (w.settled n x at)

module _ {C R : Type 0} (firing : Raise R) (names given : ℕ) (told : Known) (s t : Progress R C)
    (h : Fits firing names given told s) (w : HasWaited firing s) where
  abbrev pub Out : Step → Option LeadCall → Type 0
  Out x call = Outcome firing names given told x t call ⊥

  calm_now : IsCalmNow firing s
  calm_now = waited_calm firing s w

  -- a step that did nothing
  pub idle : (x : Step) → t ≡ s → has_reason x told ≡ true → Out x None
  idle x same reason = refused firing names given told x t None ⊥ refl (inl reason) (fits_as firing names given told s t same h)
      (calm_as firing names told s t same (λ e. calm_now))

  standing_is : (name : ℕ) (named : Named) → named_at s.names name ≡ named → name_has name told ≡ given_of named s.side.system
  standing_is name named at = h.each name ∙ ap (λ (n : Named). given_of n s.side.system) at

  -- ---- binds

  abbrev WhyNotBound : BindStep → Refusal → Type 0
  WhyNotBound b e = (has_reason (steps.Bind b) told ≡ true) ⊎ (◌≡◌ {A = Result (Unit {0}) Refusal} (Err e) (Err why.Memory)) ⊎ ⊥

  bound : (b : BindStep) (id : ℕ) (answer : Result (Unit {0}) Refusal) → named_at s.names b.name ≡ Cyclic id
      → CallsFor firing b.name (Bind id (Some b.cpu) answer) s t
      → Out (steps.Bind b) (Some (Make (Bind id (Some b.cpu) answer)))
  bound b id (Ok done) at c =
      let k = keeps_call firing s.side.system t.side.system (Bind id (Some b.cpu) (Ok done)) c.did tt in
      let now = bound_stands firing s.side.system t.side.system id b.cpu done h.rising c.did in
      taken firing names given told (steps.Bind b) t (Some (Make (Bind id (Some b.cpu) (Ok done)))) ⊥ refl
      (fits_set firing names given given told (after_accepted (steps.Bind b) told) s t b.name (Cyclic id) (OnOne (Some b.cpu))
      (base_call firing names given told b.name (Bind id (Some b.cpu) (Ok done)) s t c h) h (omega arith)
      (sets_own firing names given told (after_accepted (steps.Bind b) told) s t b.name id (Cyclic id) (OnOne (Some b.cpu)) h refl
      (k.online ∙ h.online) (ap cyclic_id at) (c.told ∙ same_name s.names b.name (Cyclic id) at)
      (last_move firing s.side.system t.side.system (Bind id (Some b.cpu) (Ok done)) c.did tt) now
      (λ own e. subst (λ (j : ℕ). is_there (stands j t.side.system) ≡ true) (same_some (ap cyclic_id e)) (ap is_there now))
      (λ own e. same_some e)
      (λ own ne. stands_kept firing s.side.system t.side.system (Bind id (Some b.cpu) (Ok done)) own tt h.rising c.did ne)
      (λ e. refl)))
      (λ e. calm_quiet firing names b.name (Bind id (Some b.cpu) (Ok done)) s t c tt c.told calm_now)
  bound b id (Err e) at c =
      refused firing names given told (steps.Bind b) t (Some (Make (Bind id (Some b.cpu) (Err e)))) ⊥ refl (by c.did)
      (fits_quiet firing names given told b.name (Bind id (Some b.cpu) (Err e)) s t c tt tt c.told
      (last_move firing s.side.system t.side.system (Bind id (Some b.cpu) (Err e)) c.did tt) (λ own z. z) h)
      (λ q. calm_quiet firing names b.name (Bind id (Some b.cpu) (Err e)) s t c tt c.told calm_now)
    where
      st : name_has b.name told ≡ stands id s.side.system
      st = standing_is b.name (Cyclic id) at

      late : (e ≡ why.Memory) ⊎ IsFull b.cpu s.side.system.cpus → WhyNotBound b e
      late (inl memory) = inr (inl (ap Err memory))
      late (inr (x, there, full)) = inl (or_right (not (is_single (name_has b.name told)) || not (is_known_up b.cpu told))
          (may_be_full b.cpu told) (full_told firing names given told s h w.none w.sound b.cpu x there full))

      by : Changes firing s.side.system (Bind id (Some b.cpu) (Err e)) t.side.system → WhyNotBound b e
      by (inl (x, first, is, same)) = inl (or_left (not (is_single (name_has b.name told)) || not (is_known_up b.cpu told))
          (may_be_full b.cpu told)
          (ap (λ z. not (is_single z) || not (is_known_up b.cpu told)) st
          ∙ bind_told firing names given told s h id b.cpu x (h.there b.name id at) calm_now.still first))
      by (inr (clear, binds)) = late (bind_why firing id b.cpu e s.side.system t.side.system
          (λ until. until_not firing s (Bind id (Some b.cpu) (Err e)) t.side.system w (inr (clear, binds)) until) binds)

  pub bind_of : (b : BindStep) (named : Named) → named_at s.names b.name ≡ named → has_open_removal named ≡ false
      → (d : WithId (cyclic_id named)
      (λ id. (answer : Result (Unit {0}) Refusal) × CallsFor firing b.name (Bind id (Some b.cpu) answer) s t) (t ≡ s))
      → Out (steps.Bind b) (call_with firing (Unit {0}) (λ id answer. Bind id (Some b.cpu) answer) b.name s t (cyclic_id named) d)
  bind_of b Nothing at stays d = idle (steps.Bind b) d (or_left _ (may_be_full b.cpu told)
      (or_left _ (not (is_known_up b.cpu told))
      (nothing_single (name_has b.name told) (standing_is b.name Nothing at))))
  bind_of b (Removed receipt) at stays d = idle (steps.Bind b) d (or_left _ (may_be_full b.cpu told)
      (or_left _ (not (is_known_up b.cpu told))
      (nothing_single (name_has b.name told) (standing_is b.name (Removed receipt) at))))
  bind_of b (Leaving id) at stays d = absurd (let odd : true ≡ false = stays in cc)
  bind_of b (Cyclic id) at stays (answer, c) = bound b id answer at c

  unbound : (name id : ℕ) (answer : Result (Unit {0}) Refusal) → named_at s.names name ≡ Cyclic id
      → CallsFor firing name (Bind id None answer) s t → Out (steps.Unbind name) (Some (Make (Bind id None answer)))
  unbound name id (Ok done) at c =
      let k = keeps_call firing s.side.system t.side.system (Bind id None (Ok done)) c.did tt in
      let now = unbound_stands firing s.side.system t.side.system id done h.rising c.did in
      taken firing names given told (steps.Unbind name) t (Some (Make (Bind id None (Ok done)))) ⊥ refl
      (fits_set firing names given given told (after_accepted (steps.Unbind name) told) s t name (Cyclic id) (OnOne None)
      (base_call firing names given told name (Bind id None (Ok done)) s t c h) h (omega arith)
      (sets_own firing names given told (after_accepted (steps.Unbind name) told) s t name id (Cyclic id) (OnOne None) h refl
      (k.online ∙ h.online) (ap cyclic_id at) (c.told ∙ same_name s.names name (Cyclic id) at)
      (last_move firing s.side.system t.side.system (Bind id None (Ok done)) c.did tt) now
      (λ own e. subst (λ (j : ℕ). is_there (stands j t.side.system) ≡ true) (same_some (ap cyclic_id e)) (ap is_there now))
      (λ own e. same_some e)
      (λ own ne. stands_kept firing s.side.system t.side.system (Bind id None (Ok done)) own tt h.rising c.did ne)
      (λ e. refl)))
      (λ e. calm_quiet firing names name (Bind id None (Ok done)) s t c tt c.told calm_now)
  unbound name id (Err e) at c =
      refused firing names given told (steps.Unbind name) t (Some (Make (Bind id None (Err e)))) ⊥ refl (inl (by c.did))
      (fits_quiet firing names given told name (Bind id None (Err e)) s t c tt tt c.told
      (last_move firing s.side.system t.side.system (Bind id None (Err e)) c.did tt) (λ own z. z) h)
      (λ q. calm_quiet firing names name (Bind id None (Err e)) s t c tt c.told calm_now)
    where
      by : Changes firing s.side.system (Bind id None (Err e)) t.side.system → has_reason (steps.Unbind name) told ≡ true
      by (inl (x, first, is, same)) = ap (λ z. not (is_single z)) (standing_is name (Cyclic id) at)
          ∙ single_told firing names given told s h id x (h.there name id at) calm_now.still first
      by (inr (clear, (is, n, home, cpus, records))) = absurd (err_ok is)

  pub unbind_of : (name : ℕ) (named : Named) → named_at s.names name ≡ named → has_open_removal named ≡ false
      → (d : WithId (cyclic_id named)
      (λ id. (answer : Result (Unit {0}) Refusal) × CallsFor firing name (Bind id None answer) s t) (t ≡ s))
      → Out (steps.Unbind name) (call_with firing (Unit {0}) (λ id answer. Bind id None answer) name s t (cyclic_id named) d)
  unbind_of name Nothing at stays d =
      idle (steps.Unbind name) d (nothing_single (name_has name told) (standing_is name Nothing at))
  unbind_of name (Removed receipt) at stays d =
      idle (steps.Unbind name) d (nothing_single (name_has name told) (standing_is name (Removed receipt) at))
  unbind_of name (Leaving id) at stays d = absurd (let odd : true ≡ false = stays in cc)
  unbind_of name (Cyclic id) at stays (answer, c) = unbound name id answer at c
