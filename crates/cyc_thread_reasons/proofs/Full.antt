-- Why an add and a bind are refused after a wait: memory was refused, or the CPU that they ask has as many cyclics as it can.
use Rattle.std.proofs.Common.{◌≡◌, ◌∙◌, ℕ, ◌+◌, ◌<◌, ◌≤◌, ◌⊎◌, inl, inr, Some, None, Err, List, [], ◌∷◌, ◌++◌, length, refl, sym}
use Rattle.std.proofs.Common.{ap, subst, arith}
use mathlib.Core.Logic.{dite}
use native.Mathlib.Decide.{ℕ_discrete}
use Rattle.cyc_types.specs.declared.Raise.{Ghosts as Raise}
use Rattle.cyc_types.specs.Limits.{cyclics as most_cyclics, last_id}
use Rattle.cyc_types.specs.Series.{never}
use Rattle.cyc_types.specs.declared.level.Level.{Level}
use Rattle.cyc_types.specs.declared.moment.When.{When}
use Rattle.cyc_types.specs.declared.refusal.Refusal.{Refusal}
use Rattle.cyc_types.specs.declared.refusal.Refusal.TheVariants as why
use Rattle.cyc_types.specs.Reasons.{first_refusal, bad_now}
use Rattle.cyc_cpu.specs.Cpu.{CpuView}
use Rattle.cyc_cpu.specs.Calls.{CpuChanges as CpuChanges, AskRoom, Reserve}
use Rattle.cyc_agreement.specs.Cpus.{CpusView, IsCpu, on, ChangesAt, Works, online_cpus}
use Rattle.cyc_agreement.specs.Destination.{destination}
use Rattle.cyc_agreement.specs.Reserving.{rooms, StandsAfter}
use Rattle.cyc_agreement.specs.Binding.{Binds}
use Rattle.cyc_agreement.proofs.CpuSpots.{one_cpu, cpu_there, cpu_beside}
use Rattle.cyc_thread_calls.specs.CpuLawsSettled.{IsUntil}
use Rattle.cyc_thread_calls.proofs.FirstReason.{passes, not_never, not_spent}
use Rattle.cyc_thread_calls.proofs.Spots.{none_some}
use Rattle.cyc_thread_calls.specs.System.{SystemView}
use Rattle.cyc_thread_calls.specs.Refusals.{ids_spent}
use Rattle.cyc_thread_calls.specs.Calls.{Changes, Add, AddOmni}
use Rattle.cyc_thread_reasons.proofs.Whereabouts.{err_ok}

not_first : {R : Type 0} (now : ℕ) (s : SystemView R) (e : Refusal) → now < never → s.last + 1 ≤ last_id
    → first_refusal (bad_now now ∷ ids_spent s ∷ []) ≡ Some e → ⊥
not_first now s e early low is =
    none_some (sym (passes (bad_now now) (ids_spent s ∷ []) None
    (not_never now (omega (arith, early)) (λ same. omega (arith, early, same)))
    (passes (ids_spent s) [] None (not_spent s low) refl)) ∙ is)

-- a CPU of this number has as many cyclics as it can
abbrev pub IsFull : {R : Type 0} → ℕ → CpusView R → Type 0
IsFull {R} n v = (x : CpuView R) × IsCpu n x v × (most_cyclics ≤ length x.cyclics)

module _ {R : Type 0} (firing : Raise R) where
  -- the kinds of refusal of memory for one more
  pub reserve_why : (e : Refusal) (x y : CpuView R) → CpuChanges firing x (Reserve 1 (Err e)) y
      → IsUntil e ⊎ (e ≡ why.Memory) ⊎ (most_cyclics ≤ length x.cyclics)
  reserve_why why.Memory x y d = inr (inl refl)
  reserve_why why.Full x y d = inr (inr (let same : length y.cyclics ≡ length x.cyclics = ap length d.0.cyclics in
      let full = d.1 in omega (arith, same, full)))
  reserve_why why.Expanding x y d = inl tt
  reserve_why (why.Busy id) x y d = inl tt
  reserve_why e x y d = absurd d.1

  room_why : (e : Refusal) (x y : CpuView R) → CpuChanges firing x (AskRoom 1 (Err e)) y → (IsUntil e → ⊥)
      → most_cyclics ≤ length x.cyclics
  room_why why.Full x y d not = let same : length y.cyclics ≡ length x.cyclics = ap length d.0.cyclics in
      let full = d.1 in omega (arith, same, full)
  room_why why.Expanding x y d not = absurd (not tt)
  room_why (why.Busy id) x y d not = absurd (not tt)
  room_why e x y d not = absurd d.1

  -- a CPU that is full after a call that changed no cyclics was full before it
  full_back : (m n : ℕ) (D : CpuView R → CpuView R → Type 0) (v w : CpusView R) (c : ChangesAt m D v w)
      → length c.after.cyclics ≡ length c.before.cyclics → IsFull n w → IsFull n v
  full_back m n D v w c same (x, at, full) = dite (ℕ_discrete n m)
      (λ e. (
        c.before,
        subst (λ k. IsCpu k c.before v) (sym e) c.here,
        (let z : length x.cyclics ≡ length c.after.cyclics = ap (λ (y : CpuView R). length y.cyclics)
            (one_cpu m x c.after w (subst (λ k. IsCpu k x w) e at) (here c)) in omega (arith, z, same, full)),
      ))
      (λ ne. (x, cpu_beside m n x c.after v ne (subst (λ u. IsCpu n x u) c.rest at), full))
    where
      here : (c : ChangesAt m D v w) → IsCpu m c.after w
      here c = subst (λ u. IsCpu m c.after u) (sym c.rest) (cpu_there m c.before c.after v c.here)

  rooms_why : (before : List ℕ) (n : ℕ) (e : Refusal) (v w : CpusView R)
      → Works firing (rooms 1 before ++ on n (AskRoom 1 (Err e)) ∷ []) v w → (IsUntil e → ⊥) → IsFull n v
  rooms_why [] n e v w (u, d, rest) not = (d.before, d.here, room_why e d.before d.after d.change not)
  rooms_why (m ∷ before) n e v w (u, d, rest) not =
      full_back m n _ v u d (ap length d.change.0.cyclics) (rooms_why before n e u w rest not)

  pub add_why : (level : Level) (when : When) (now : ℕ) (e : Refusal) (s t : SystemView R) → now < never
      → s.last + 1 ≤ last_id → (IsUntil e → ⊥) → Changes firing s (Add level when now (Err e)) t
      → (e ≡ why.Memory) ⊎ ((d : ℕ) × (destination None s.cpus ≡ Some d) × IsFull d s.cpus)
  add_why level when now e s t early low not (inl (x, first, is, same)) = absurd (not_first now s x early low first)
  add_why level when now e s t early low not (inr (clear, (d, chosen, inl ((u, c, last), records, given)))) =
      by (reserve_why e c.before c.after c.change)
    where
      by : IsUntil e ⊎ (e ≡ why.Memory) ⊎ (most_cyclics ≤ length c.before.cyclics)
          → (e ≡ why.Memory) ⊎ ((m : ℕ) × (destination None s.cpus ≡ Some m) × IsFull m s.cpus)
      by (inl until) = absurd (not until)
      by (inr (inl memory)) = inl memory
      by (inr (inr full)) = inr (d, chosen, (c.before, c.here, full))
  add_why level when now e s t early low not (inr (clear, (d, chosen, inr (is, only)))) = inl is

  pub omni_why : (level : Level) (when : When) (skew now : ℕ) (e : Refusal) (s t : SystemView R) → now < never
      → s.last + 1 ≤ last_id → (IsUntil e → ⊥) → Changes firing s (AddOmni level when skew now (Err e)) t
      → (e ≡ why.Memory) ⊎ ((before : List ℕ) × (n : ℕ) × StandsAfter before n (online_cpus s.cpus) × IsFull n s.cpus)
  omni_why level when skew now e s t early low not (inl (x, first, is, same)) = absurd (not_first now s x early low first)
  omni_why level when skew now e s t early low not (inr (clear, (inl (inl (before, n, after, works)), records, last))) =
      inr (before, n, after, rooms_why before n e s.cpus t.cpus works not)
  omni_why level when skew now e s t early low not (inr (clear, (inl (inr (u, asks, stops)), records, last))) = inl stops.0
  omni_why level when skew now e s t early low not (inr (clear, (inr (is, reserved), records, last))) = inl is

  pub bind_why : (own n : ℕ) (e : Refusal) (s t : SystemView R) → (IsUntil e → ⊥) → Binds firing own n (Err e) s t
      → (e ≡ why.Memory) ⊎ IsFull n s.cpus
  bind_why own n e s t not (home, has, inl (at, is, same), records, last) = absurd (err_ok is)
  bind_why own n e s t not (home, has, inr (ne, inl (removed, is_open, is, same)), records, last) =
      absurd (not (subst IsUntil (sym is) tt))
  bind_why own n e s t not (home, has, inr (ne, inr (inl (still, k, some, is, works))), records, last) =
      absurd (not (subst IsUntil (sym is) tt))
  bind_why own n e s t not (home, has, inr (ne, inr (inr (still, (u, a, (w, b, rest))))), records, last) =
      by (reserve_why e b.before b.after b.change)
    where
      by : IsUntil e ⊎ (e ≡ why.Memory) ⊎ (most_cyclics ≤ length b.before.cyclics) → (e ≡ why.Memory) ⊎ IsFull n s.cpus
      by (inl until) = absurd (not until)
      by (inr (inl memory)) = inl memory
      by (inr (inr full)) = inr (
        b.before,
        cpu_beside home n b.before a.after s.cpus (λ q. ne (sym q)) (subst (λ u. IsCpu n b.before u) a.rest b.here),
        full,
      )
