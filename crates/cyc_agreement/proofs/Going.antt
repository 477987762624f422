-- What an online did.
use Rattle.std.proofs.Common.{◌≡◌, ℕ, ◌<◌, ◌≤◌, ◌⊎◌, inl, inr, false, cond, Some, None, Ok, Err, Result, List, [], ◌∷◌, length}
use Rattle.std.proofs.Common.{map, filter, refl, sym, ap, ◌∙◌, subst, arith}
use Rattle.std.proofs.lemmas.Option.{slice_get_within}
use Rattle.cyc_types.specs.declared.Raise.{Ghosts as Raise}
use Rattle.cyc_types.specs.Firing.{FiringView}
use Rattle.cyc_types.specs.Limits.{cyclics as most_cyclics}
use Rattle.cyc_types.specs.declared.refusal.Refusal.{Refusal}
use Rattle.cyc_types.specs.declared.refusal.Refusal.TheVariants as why
use Rattle.cyc_cpu.specs.Rows.{Cyclic}
use Rattle.cyc_types.specs.Reasons.{first_refusal, bad_now}
use Rattle.cyc_types.specs.Counting.{no_counts}
use Rattle.cyc_cpu.specs.Cpu.{CpuView, Looked, WhyNotReserved}
use Rattle.cyc_cpu.specs.Laws.{IsLawful}
use Rattle.cyc_cpu.specs.Calls.{CpuChanges, Reserve, Widen}
use Rattle.cyc_places.specs.declared.record.Record.{Record}
use Rattle.cyc_places.specs.Places.{HasRisingIds, with_ended}
use Rattle.cyc_agreement.specs.Cpus.{CpusView, IsCpu, with_cpu, on, DoesAt, Works}
use Rattle.cyc_agreement.proofs.CpuSpots.{one_cpu, cpu_there, changed}
use Rattle.cyc_agreement.specs.System.{SystemView, is_online}
use Rattle.cyc_agreement.specs.Agreement.{Agrees}
use Rattle.cyc_agreement.specs.Refusals.{Unless, no_cpu}
use Rattle.cyc_agreement.proofs.Spots.{seen}
use Rattle.cyc_agreement.proofs.FirstReason.{passes, not_when}
use Rattle.cyc_agreement.proofs.Presence.{cpu_clear}
use Rattle.cyc_agreement.proofs.Who.{SameWho, same_then, same_at, same_reserve, same_widened}
use Rattle.cyc_agreement.specs.Holding.{Holds}
use Rattle.cyc_agreement.proofs.Holding.{holds_same}
use Rattle.cyc_agreement.specs.Online.{online_cpu, is_staying, returns, after_return, switched_on, GoesOnline}
use Rattle.cyc_agreement.proofs.Prefixes.{same_passing}
use Rattle.cyc_agreement.proofs.Returned.{back, leaving_same}
use Rattle.cyc_agreement.proofs.Bringing.{all_everywhere, staying_same}
use Rattle.cyc_agreement.proofs.Rejoined.{few_stay, none_offline, agrees_online, within_online, whole_online}

-- no removal is open where no cyclic is
still_empty : {R : Type 0} (view : R → FiringView) (x : CpuView R) → IsLawful view x → x.cyclics ≡ [] → (id : ℕ)
    → x.removal ≡ Some id → ⊥
still_empty view x law empty id e = let (k, c, is, named, soft, moment) = law.removed id e in
    let low = is.0 in let none = ap (λ (cs : List Cyclic). length cs) empty in omega (arith, low, none)

-- a CPU with no cyclic refuses so many for want of memory, or since its last switch is not over
why_not : {R : Type 0} (firing : Raise R) (k : ℕ) (x y : CpuView R) (e : Refusal)
    → IsLawful firing.view x → x.cyclics ≡ []
    → k ≤ most_cyclics → Looked firing x y → WhyNotReserved firing.view k x y e → (e ≡ why.Expanding) ⊎ (e ≡ why.Memory)
why_not firing k x y why.Memory law empty few looked h = inr refl
why_not firing k x y why.Expanding law empty few looked h = inl refl
why_not firing k x y why.Full law empty few looked h =
    let a = ap (λ (cs : List Cyclic). length cs) (looked.cyclics ∙ empty) in absurd (omega (arith, a, few, h))
why_not firing k x y (why.Busy id) law empty few looked h =
    absurd (still_empty firing.view x law empty id (sym looked.kept.removal ∙ h.2))
why_not firing k x y e law empty few looked h = absurd h

module _ {R : Type 0} (firing : Raise R) (v : CpusView R) (rs : List Record) (n now : ℕ)
    (rising : HasRisingIds rs) (lawful : (m : ℕ) (cpu : CpuView R) → IsCpu m cpu v → IsLawful firing.view cpu) (x : CpuView R)
    (at : IsCpu n x v)
    (off : is_online n v ≡ false) where
  -- the system before the call is of any last id
  module _ (last : ℕ) (a : Agrees (seen v rs last)) where
    pub empty : x.cyclics ≡ []
    empty = none_offline (seen v rs last) n x a off at

    pub clear : bad_now now ≡ None → first_refusal (no_cpu n (seen v rs last) ∷ online_cpu n (seen v rs last) ∷ bad_now now ∷ [])
        ≡ None
    clear now_is = passes (no_cpu n (seen v rs last)) (online_cpu n (seen v rs last) ∷ bad_now now ∷ []) None
        (cpu_clear (seen v rs last) n (slice_get_within v.cpus n x at))
        (passes (online_cpu n (seen v rs last)) (bad_now now ∷ []) None (not_when (is_online n v) why.Online off)
        (passes (bad_now now) [] None now_is refl))

    pub reserve_refused : (k : ℕ) (y : CpuView R) (e : Refusal) → k ≡ length (filter (is_staying v) rs)
        → CpuChanges firing x (Reserve k (Err e)) y
        → (e ≡ why.Expanding) ⊎ (e ≡ why.Memory)
    reserve_refused k y e is d = why_not firing k x y e (lawful n x at) empty
        (let few = few_stay firing.view (seen v rs last) a rising lawful in omega (arith, few, is)) d.0 d.1

  same_refused : (k : ℕ) (y : CpuView R) (e : Refusal) → CpuChanges firing x (Reserve k (Err e)) y → SameWho v (with_cpu v n y)
  same_refused k y e d = same_at v n x y at (same_reserve firing x y k (Err e) d)

  pub holds_refused : (k : ℕ) (y : CpuView R) (e : Refusal) (last : ℕ) → CpuChanges firing x (Reserve k (Err e)) y
      → Holds (seen v rs last) → Holds (seen (with_cpu v n y) rs last)
  holds_refused k y e last d h = holds_same (seen v rs last) (with_cpu v n y) h (same_refused k y e d)

  -- from one agreement the refusal is known for any last id
  pub online_refused : (k : ℕ) (y : CpuView R) (e : Refusal) (answer : Result (Unit {0}) Refusal) (some last : ℕ)
      → Agrees (seen v rs some) → bad_now now ≡ None → answer ≡ Err e
      → k ≡ length (filter (is_staying v) rs) → CpuChanges firing x (Reserve k (Err e)) y
      → Unless {S = SystemView R} (no_cpu n (seen v rs last) ∷ online_cpu n (seen v rs last) ∷ bad_now now ∷ [])
      (λ e. Err e) answer (seen v rs last) (seen (with_cpu v n y) rs last)
      (GoesOnline firing n now answer (seen v rs last) (seen (with_cpu v n y) rs last))
  online_refused k y e answer some last a now_is is many d =
      subst (λ r. Unless {S = SystemView R} (no_cpu n (seen v rs last) ∷ online_cpu n (seen v rs last) ∷ bad_now now ∷ [])
      (λ e. Err e) r (seen v rs last) (seen (with_cpu v n y) rs last)
      (GoesOnline firing n now r (seen v rs last) (seen (with_cpu v n y) rs last))) (sym is)
      (inr (
        clear some a now_is,
        (
          reserve_refused some a k y e many d,
          (
            (
              with_cpu v n y,
              subst (λ j. DoesAt firing v (on n (Reserve j (Err e))) (with_cpu v n y)) many
                  (changed n (λ p q. CpuChanges firing p (Reserve k (Err e)) q) x y v at d),
              refl,
            ),
            refl,
            refl,
          ),
        ),
      ))

  -- the CPU has memory and its new size
  module _ (k : ℕ) (many : k ≡ length (filter (is_staying v) rs)) (y p z : CpuView R)
      (reserved : CpuChanges firing x (Reserve k (Ok tt)) y)
      (there : IsCpu n p (with_cpu v n y)) (widened : CpuChanges firing p (Widen k) z) where
    first : DoesAt firing v (on n (Reserve k (Ok tt))) (with_cpu v n y)
    first = changed n _ x y v at reserved

    second : DoesAt firing (with_cpu v n y) (on n (Widen k)) (with_cpu (with_cpu v n y) n z)
    second = changed n _ p z (with_cpu v n y) there widened

    pub same_ready : SameWho v (with_cpu (with_cpu v n y) n z)
    same_ready = same_then v (with_cpu v n y) (with_cpu (with_cpu v n y) n z)
        (same_at v n x y at (same_reserve firing x y k (Ok tt) reserved))
        (same_at (with_cpu v n y) n p z there (same_widened firing p z k widened.1))

    pub at_ready : IsCpu n z (with_cpu (with_cpu v n y) n z)
    at_ready = cpu_there n p z (with_cpu v n y) there

    same_cpu : p ≡ y
    same_cpu = one_cpu n p y (with_cpu v n y) there (cpu_there n x y v at)

    pub empty_ready : x.cyclics ≡ [] → z.cyclics ≡ []
    empty_ready none = widened.1.cyclics ∙ ap (λ (cpu : CpuView R). cpu.cyclics) same_cpu ∙ reserved.0.cyclics ∙ none

    pub most_ready : z.most ≡ x.most
    most_ready = widened.1.most ∙ ap (λ (cpu : CpuView R). cpu.most) same_cpu ∙ reserved.0.most

    staying_ready : (r : Record) → is_staying (with_cpu (with_cpu v n y) n z) r ≡ is_staying v r
    staying_ready = staying_same v (with_cpu (with_cpu v n y) n z)
        (λ id. leaving_same id v.cpus (with_cpu (with_cpu v n y) n z).cpus same_ready.long same_ready.removals)

    pub same_staying : filter (is_staying (with_cpu (with_cpu v n y) n z)) rs ≡ filter (is_staying v) rs
    same_staying = same_passing (is_staying v) (is_staying (with_cpu (with_cpu v n y) n z)) staying_ready rs

    pub same_after : map (after_return n (with_cpu (with_cpu v n y) n z)) rs ≡ map (after_return n v) rs
    same_after = (λ i. map (λ (r : Record). cond (staying_ready r i) (with_ended n no_counts r) r) rs)

    pub room_ready : length (filter (is_staying (with_cpu (with_cpu v n y) n z)) rs) ≤ z.size
    room_ready = (let e = widened.1.enough in let s = ap (λ (l : List Record). length l) same_staying in
        omega (arith, e, s, many))

    -- the components came, and the CPU takes part
    module _ (w t : CpusView R) (qs : List Record)
        (works : Works firing (returns n now (filter (is_staying (with_cpu (with_cpu v n y) n z)) rs))
        (with_cpu (with_cpu v n y) n z) w)
        (list : qs ≡ map (after_return n (with_cpu (with_cpu v n y) n z)) rs) (switch : t ≡ switched_on n w) where
      works_here : Works firing (returns n now (filter (is_staying v) rs)) (with_cpu (with_cpu v n y) n z) w
      works_here = subst (λ l. Works firing (returns n now l) (with_cpu (with_cpu v n y) n z) w) same_staying works

      pub low_after : n < length w.cpus
      low_after = let b = back firing n now (filter (is_staying v) rs) (with_cpu (with_cpu v n y) n z) w
          (all_everywhere v rs) works_here in
          subst (λ m. n < m) (sym b.long) (slice_get_within (with_cpu (with_cpu v n y) n z).cpus n z at_ready)

      pub online_done : (some last : ℕ) → Agrees (seen v rs some) → bad_now now ≡ None
          → Unless {S = SystemView R} {A = Result (Unit {0}) Refusal}
          (no_cpu n (seen v rs last) ∷ online_cpu n (seen v rs last) ∷ bad_now now ∷ []) (λ e. Err e) (Ok tt) (seen v rs last)
          (seen t qs last)
          (GoesOnline firing n now (Ok tt) (seen v rs last) (seen t qs last))
      online_done some last a now_is = inr (
        clear some a now_is,
        (
          (
            w,
            subst (λ j. Works firing (on n (Reserve j (Ok tt)) ∷ on n (Widen j) ∷ returns n now (filter (is_staying v) rs)) v
                w) many
                (with_cpu v n y, first, (with_cpu (with_cpu v n y) n z, second, works_here)),
            switch,
          ),
          (list ∙ same_after),
          refl,
        ),
      )

      pub holds_done : (last : ℕ) → Holds (seen v rs last) → Holds (seen t qs last)
      holds_done last h =
          let done = back firing n now (filter (is_staying v) rs) (with_cpu (with_cpu v n y) n z) w
          (all_everywhere v rs) works_here in
          let none = empty_ready (empty last h.agrees) in
          subst (λ (g : SystemView R). Holds g) (λ i. seen (sym switch i) (sym (list ∙ same_after) i) last) (record {
            agrees = agrees_online n (seen v rs last) (with_cpu (with_cpu v n y) n z) w h.agrees rising off same_ready z at_ready
                none done;
            whole = whole_online n (seen v rs last) (with_cpu (with_cpu v n y) n z) w h.agrees rising off same_ready z at_ready
                none done h.whole;
            within = within_online n (seen v rs last) (with_cpu (with_cpu v n y) n z) w h.agrees rising off same_ready z at_ready
                none done h.within;
          })
