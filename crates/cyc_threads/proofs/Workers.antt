-- What all workers leave, or why they were refused.
use Rattle.std.proofs.Common.{◌≡◌, ℕ, ◌+◌, ◌==◌, ◌⊎◌, cond, Bool, true, false, inl, inr, List, [], ◌∷◌, ◌++◌, Option, Some, None}
use Rattle.std.proofs.Common.{refl, sym, ap, subst, ◌∙◌}
use Rattle.std.specs.Prelude.{Result, Ok, Err, IfOk, IfErr, IfNone, IfSome, is_some, unwrap_or, map}
use mathlib.Core.Bool.{true≢false}
use Rattle.std.specs.declared.thread.PromisedHandle.{PromisedHandle}
use Rattle.std.proofs.lemmas.Result.{IfOk-at_ok}
use Rattle.cyc_types.specs.declared.Calls.{Ghosts as Calls}
use Rattle.cyc_types.specs.declared.Drain.{Ghosts as Drain}
use Rattle.cyc_types.specs.declared.Raise.{Ghosts as Raise}
use Rattle.cyc_types.specs.Levels.{handler_at}
use Rattle.cyc_types.specs.declared.level.Level.{Level}
use Rattle.cyc_types.specs.declared.level.Level.TheVariants.{Low, Lock}
use Rattle.cyc_types.specs.declared.level.Soft.TheVariants as soft
use Rattle.cyc_types.specs.declared.refusal.Refusal.{Refusal}
use Rattle.cyc_types.specs.declared.refusal.Refusal.TheVariants.{Memory, HandlerRefused}
use Rattle.cyc_types.specs.Pairs.{EachTwo}
use Rattle.cyc_soft.specs.declared.SoftRefused.{SoftRefused}
use Rattle.cyc_script.specs.declared.step.Step.{Step}
use Rattle.cyc_soft.specs.declared.SoftSide.{SoftSide}
use Rattle.cyc_workers.specs.declared.draining.Drained.{Drained}
use Rattle.cyc_workers.specs.declared.draining.Drains.{Drains}
use Rattle.cyc_workers.specs.Draining.{MakesCalls, HasLooked, HasDrained, IsRefusedCall, side_of}
use Rattle.cyc_workers.specs.Refusals.{HandlerRefuses}
use Rattle.cyc_workers.proofs.Making.{looked_makes}
use Rattle.cyc_workers.proofs.Joining.{joined}
use Rattle.cyc_thread_rings.specs.declared.levels.Levels.{Levels}
use Rattle.cyc_thread_rings.specs.declared.refusing.Fire.{Fire}
use Rattle.cyc_thread_rings.specs.Working.{HasPromised, HaveKept, HaveDrained, both_sides}
use Rattle.cyc_thread_rings.specs.Refusing.{of_fire, of_level, refusals_from, first_in}
use Rattle.cyc_thread_rings.proofs.Each.{each_then}
use Rattle.cyc_threads.specs.declared.halt.Halt.{Halt}
use Rattle.cyc_threads.specs.declared.halt.Halt.TheVariants as halt
use Rattle.cyc_threads.specs.declared.progress.Progress.{Progress}
use Rattle.cyc_threads.specs.Steps.{Runs, WhyHalted, IsHalted, StepHalts}
use Rattle.cyc_threads.specs.declared.working.Worked.{Worked}
use Rattle.cyc_threads.specs.Working.{refusal_of_run, HaveMade, BothLevelsMake}
use Rattle.cyc_system_laws.proofs.Spots.{same_some}

some_none : {A : Type 0} {x : A} → Some x ≡ None → ⊥
some_none e = true≢false (ap is_some e)

-- ---- lists of refusals

front : (o : Option SoftRefused) (rs : List Refusal) → first_in (of_level o ++ rs) ≡ None → (o ≡ None) × (first_in rs ≡ None)
front None rs e = (refl, e)
front (Some r) rs e = absurd (some_none e)

-- the first is this one, or the first of the rest
split_level : (o : Option SoftRefused) (rs : List Refusal) (e : Refusal) → first_in (of_level o ++ rs) ≡ Some e →
    ((r : SoftRefused) × (o ≡ Some r) × (e ≡ HandlerRefused r.id)) ⊎ (first_in rs ≡ Some e)
split_level None rs e is = inr is
split_level (Some r) rs e is = inl (r, refl, sym (same_some is))

-- the refusal of a fire
abbrev IsFires : Option Fire → Refusal → Type 0
IsFires fire e = (f : Fire) × (fire ≡ Some f) × (e ≡ f.why)

split_fire : (n : ℕ) (fire : Option Fire) (rs : List Refusal) (e : Refusal) → first_in (of_fire n fire ++ rs) ≡ Some e →
    IsFires fire e ⊎ (first_in rs ≡ Some e)
split_fire n None rs e is = inr is
split_fire n (Some f) rs e is = either (f.cpu == n) is
  where
    either : (b : Bool) → first_in (cond b (f.why ∷ []) [] ++ rs) ≡ Some e → IsFires (Some f) e ⊎ (first_in rs ≡ Some e)
    either true q = inl (f, refl, sym (same_some q))
    either false q = inr q

module _ {C D : Type 0} (handler : Calls C) (draining : Drain D) where
  abbrev Both : Levels (SoftSide D C) → Levels (Drained D C) → Type 0
  Both = HaveDrained draining handler

  kept_one : (s : Levels (SoftSide D C)) (h : Levels (PromisedHandle (Drained D C) (Drains D C))) (d : Levels (Drained D C))
      → HasPromised s h →
      HaveKept draining handler h d → Both s d
  kept_one s h d p q = (
    joined handler draining soft.Lock h.lock.promise.level s.lock h.lock.promise.side.value d.lock q.0 p.lock p.lock_level,
    joined handler draining soft.Low h.low.promise.level s.low h.low.promise.side.value d.low q.1 p.low p.low_level,
  )

  pub kept_all : (sides : List (Levels (SoftSide D C))) (hs : List (Levels (PromisedHandle (Drained D C) (Drains D C))))
      (ds : List (Levels (Drained D C))) →
      EachTwo HasPromised sides hs → EachTwo (HaveKept draining handler) hs ds → EachTwo Both sides ds
  kept_all sides hs ds p q = each_then HasPromised (HaveKept draining handler) Both kept_one sides hs ds p q

  makes_one : (level : Level) (a : SoftSide D C) (d : Drained D C) → HasDrained draining (handler_at handler level) a d
      → d.refused ≡ None → MakesCalls draining (handler_at handler level) a (side_of d)
  makes_one level a d h none = looked_makes draining (handler_at handler level) a d
      (subst (λ o. IfNone o (HasLooked draining (handler_at handler level) a d)) none h.stopped)

  makes_all : (n : ℕ) (sides : List (Levels (SoftSide D C))) (ds : List (Levels (Drained D C))) → EachTwo Both sides ds
      → first_in (refusals_from n None ds) ≡ None →
      EachTwo (HaveMade draining handler) sides (map both_sides ds)
  makes_all n [] [] p e = tt
  makes_all n [] (d ∷ ds) p e = absurd p
  makes_all n (s ∷ sides) [] p e = absurd p
  makes_all n (s ∷ sides) (d ∷ ds) p e =
      let a = front d.lock.refused (of_level d.low.refused ++ refusals_from (n + 1) None ds) e in
      let b = front d.low.refused (refusals_from (n + 1) None ds) a.1 in
      ((makes_one Lock s.lock d.lock p.0.0 a.0, makes_one Low s.low d.low p.0.1 b.0), makes_all (n + 1) sides ds p.1 b.1)

  can_refuse : (level : Level) (a : SoftSide D C) (d : Drained D C) (r : SoftRefused) (e : Refusal)
      → HasDrained draining (handler_at handler level) a d →
      d.refused ≡ Some r → e ≡ HandlerRefused r.id → HandlerRefuses handler.may_refuse e
  can_refuse level a d r e h some is = let x =
      subst (λ o. IfSome o (λ y. IsRefusedCall draining (handler_at handler level) a y (side_of d))) some h.refused in
      (r.id, is, (x.0, x.2))

  first_why : (n : ℕ) (fire : Option Fire) (sides : List (Levels (SoftSide D C))) (ds : List (Levels (Drained D C))) (e : Refusal)
      → EachTwo Both sides ds →
      first_in (refusals_from n fire ds) ≡ Some e → HandlerRefuses handler.may_refuse e ⊎ IsFires fire e
  first_why n fire [] [] e p is = absurd (some_none (sym is))
  first_why n fire [] (d ∷ ds) e p is = absurd p
  first_why n fire (s ∷ sides) [] e p is = absurd p
  first_why n fire (s ∷ sides) (d ∷ ds) e p is = by_fire (λ q. first_why (n + 1) fire sides ds e p.1 q) (split_fire n fire _ e is)
    where
      rest : List Refusal
      rest = refusals_from (n + 1) fire ds

      by_low : (first_in rest ≡ Some e → HandlerRefuses handler.may_refuse e ⊎ IsFires fire e)
          → ((r : SoftRefused) × (d.low.refused ≡ Some r) × (e ≡ HandlerRefused r.id)) ⊎ (first_in rest ≡ Some e)
          → HandlerRefuses handler.may_refuse e ⊎ IsFires fire e
      by_low then (inl (r, some, why)) = inl (can_refuse Low s.low d.low r e p.0.1 some why)
      by_low then (inr q) = then q

      by_lock : (first_in rest ≡ Some e → HandlerRefuses handler.may_refuse e ⊎ IsFires fire e)
          → ((r : SoftRefused) × (d.lock.refused ≡ Some r) × (e ≡ HandlerRefused r.id))
          ⊎ (first_in (of_level d.low.refused ++ rest) ≡ Some e) →
          HandlerRefuses handler.may_refuse e ⊎ IsFires fire e
      by_lock then (inl (r, some, why)) = inl (can_refuse Lock s.lock d.lock r e p.0.0 some why)
      by_lock then (inr q) = by_low then (split_level d.low.refused rest e q)

      by_fire : (first_in rest ≡ Some e → HandlerRefuses handler.may_refuse e ⊎ IsFires fire e) → IsFires fire e
          ⊎ (first_in (of_level d.lock.refused ++ (of_level d.low.refused ++ rest)) ≡ Some e)
          → HandlerRefuses handler.may_refuse e
          ⊎ IsFires fire e
      by_fire then (inl f) = inr f
      by_fire then (inr q) = by_lock then (split_level d.lock.refused (of_level d.low.refused ++ rest) e q)

module _ {C R D : Type 0} (handler : Calls C) (firing : Raise R) (draining : Drain D) (steps : List Step)
    (a : Progress R C) (sides : List (Levels (SoftSide D C))) (ds : List (Levels (Drained D C)))
    (drained : EachTwo (HaveDrained draining handler) sides ds) where
  -- memory was refused, or a handler of a soft level was, or a fire
  abbrev pub Why : Refusal → Type 0
  Why e = (e ≡ Memory) ⊎ (HandlerRefuses handler.may_refuse e ⊎ ((n : ℕ) × IsHalted handler firing a steps (halt.Fired n e)))

  of_soft : (fire : Option Fire) (e : Refusal) → first_in (refusals_from 0 fire ds) ≡ Some e → HandlerRefuses handler.may_refuse e
      ⊎ IsFires fire e
  of_soft fire e is = first_why handler draining 0 fire sides ds e drained is

  -- no fire was refused
  no_fire : (e : Refusal) → HandlerRefuses handler.may_refuse e ⊎ IsFires None e → Why e
  no_fire e (inl h) = inr (inl h)
  no_fire e (inr (f, is, why)) = absurd (some_none (sym is))

  told_why : (id : ℕ) → WhyHalted handler firing a steps (halt.Told id) → HandlerRefuses handler.may_refuse (HandlerRefused id)
  told_why id (inl (u, taken, can)) = (id, refl, can)
  told_why id (inr h) = by h.halts
    where
      by : StepHalts handler firing h.last h.before (halt.Told id) → HandlerRefuses handler.may_refuse (HandlerRefused id)
      by (inl can) = (id, refl, can)
      by (inr (now, is, none)) = absurd none

  memory_why : (x : Refusal) → WhyHalted handler firing a steps (halt.Refused x) → x ≡ Memory
  memory_why x (inl (u, taken, none)) = absurd none
  memory_why x (inr h) = by h.halts
    where
      by : StepHalts handler firing h.last h.before (halt.Refused x) → x ≡ Memory
      by (inl none) = absurd none
      by (inr (now, is, (awake, m))) = m

  fired_why : (n : ℕ) (why : Refusal) → WhyHalted handler firing a steps (halt.Fired n why)
      → IsHalted handler firing a steps (halt.Fired n why)
  fired_why n why (inl (u, taken, none)) = absurd none
  fired_why n why (inr h) = h

  by_fire : (n : ℕ) (why e : Refusal) → WhyHalted handler firing a steps (halt.Fired n why) →
      HandlerRefuses handler.may_refuse e ⊎ IsFires (Some (record { cpu = n; why = why })) e → Why e
  by_fire n why e w (inl h) = inr (inl h)
  by_fire n why e w (inr (f, is, same)) = inr (inr (
    n,
    subst (λ (x : Refusal). IsHalted handler firing a steps (halt.Fired n x))
        (sym (same ∙ ap (λ (g : Fire). g.why) (sym (same_some is)))) (fired_why n why w),
  ))

  -- what the refusal that counts first is of
  pub why_refused : {A : Type 0} (taken : Result A Halt) (e : Refusal)
      → IfErr taken (λ h. WhyHalted handler firing a steps h) →
      refusal_of_run taken ds ≡ Some e → Why e
  why_refused (Ok x) e w is = no_fire e (of_soft None e is)
  why_refused (Err (halt.Refused x)) e w is = inl (sym (same_some is) ∙ memory_why x w)
  why_refused (Err (halt.Told id)) e w is = by (first_in (refusals_from 0 None ds)) (λ x q. of_soft None x q) is
    where
      by : (o : Option Refusal) → ((x : Refusal) → o ≡ Some x → HandlerRefuses handler.may_refuse x ⊎ IsFires None x)
          → Some (unwrap_or o (HandlerRefused id)) ≡ Some e → Why e
      by (Some x) f q = subst Why (same_some q) (no_fire x (f x refl))
      by None f q = subst Why (same_some q) (inr (inl (told_why id w)))
  why_refused (Err (halt.Fired n why)) e w is =
      by (first_in (refusals_from 0 (Some (record { cpu = n; why = why })) ds)) (λ x q. of_soft _ x q) is
    where
      by : (o : Option Refusal) → ((x : Refusal) → o ≡ Some x → HandlerRefuses handler.may_refuse x
          ⊎ IsFires (Some (record { cpu = n; why = why })) x) →
          Some (unwrap_or o why) ≡ Some e → Why e
      by (Some x) f q = subst Why (same_some q) (by_fire n why x w (f x refl))
      by None f q = subst Why (same_some q) (inr (inr (n, fired_why n why w)))

  -- what all workers answer
  pub works_all : (taken : Result (Progress R C) Halt) (answer : Result (Worked R D C) Refusal) →
      IfOk taken (λ t. Runs handler firing a steps t)
      → IfErr taken (λ h. WhyHalted handler firing a steps h) →
      IfOk answer (λ w. refusal_of_run taken ds ≡ None) → IfOk answer (λ w. taken ≡ Ok w.lead)
      → IfOk answer (λ w. w.soft.items ≡ map both_sides ds) →
      IfErr answer (λ e. (e ≡ Memory) ⊎ (refusal_of_run taken ds ≡ Some e))
      → BothLevelsMake handler firing draining (record { steps = steps; lead = a; sides = sides }) answer
  works_all taken (Ok w) r h none lead left why = record {
    runs = IfOk-at_ok (λ t. Runs handler firing a steps t) lead r;
    makes = subst (λ (x : List (Levels (SoftSide D C))). EachTwo (HaveMade draining handler) sides x)
        (sym left) (makes_all handler draining 0 sides ds drained
        (subst (λ (x : Result (Progress R C) Halt). refusal_of_run x ds ≡ None) lead none));
  }
  works_all taken (Err e) r h none lead left (inl m) = inl m
  works_all taken (Err e) r h none lead left (inr is) = inr (record {
    taken = taken;
    drained = ds;
    ended = record { ran = r; halted = h; each = drained };
    first = is;
  })
