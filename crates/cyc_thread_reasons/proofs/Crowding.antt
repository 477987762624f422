-- Where a destination has as many cyclics as it can each online CPU beside the source has.
use Rattle.std.proofs.Common.{◌≡◌, ◌≢◌, ◌∙◌, ℕ, ◌-◌, ◌<◌, ◌≤◌, ◌⊎◌, inl, inr, Bool, true, false, Option, Some, List, length, []}
use Rattle.std.proofs.Common.{◌∷◌, zero, suc, filter, cond, get_or, refl, sym, ap, subst, arith}
use Rattle.std.specs.List.{slice_get}
use Rattle.std.specs.Option.{option_map_or}
use Rattle.std.proofs.lemmas.Option.{slice_get-get_or, slice_get_within}
use Rattle.cyc_types.specs.Limits.{cyclics as most_cyclics}
use Rattle.cyc_cpu.specs.Cpu.{CpuView}
use Rattle.cyc_agreement.specs.Cpus.{CpusView, IsCpu, IsOnline, online_cpus}
use Rattle.cyc_agreement.specs.Destination.{destination, len_of}
use Rattle.cyc_agreement.proofs.Spots.{get_some}
use Rattle.cyc_system_laws.proofs.Best.{is_destination}
use Rattle.cyc_thread_reasons.proofs.Counting.{HasNoDoubles, numbers_are}
use Rattle.cyc_thread_reasons.proofs.Full.{IsFull}

-- ---- the numbers that pass a test

pub filter_at : (test : ℕ → Bool) (ns : List ℕ) (i : ℕ) → i < length (filter test ns)
    → (test (get_or (filter test ns) i 0) ≡ true)
    × ((j : ℕ) × (j < length ns) × (get_or ns j 0 ≡ get_or (filter test ns) i 0))
filter_at test [] i low = absurd (omega (arith, low))
filter_at test (n ∷ ns) i low = by (test n) refl i low (filter_at test ns)
  where
    by : (b : Bool) → test n ≡ b → (i : ℕ) → i < length (cond b (n ∷ filter test ns) (filter test ns))
        → ((i : ℕ) → i < length (filter test ns) → (test (get_or (filter test ns) i 0) ≡ true)
        × ((j : ℕ) × (j < length ns) × (get_or ns j 0 ≡ get_or (filter test ns) i 0)))
        → (test (get_or (cond b (n ∷ filter test ns) (filter test ns)) i 0) ≡ true)
        × ((j : ℕ) × (j < length (n ∷ ns)) × (get_or (n ∷ ns) j 0 ≡ get_or (cond b (n ∷ filter test ns) (filter test ns)) i 0))
    by true is zero low rest = (is, (0, omega arith, refl))
    by true is (suc i) low rest = let (passes, (j, less, same)) = rest i (omega (arith, low)) in
        (passes, (suc j, omega (arith, less), same))
    by false is i low rest = let (passes, (j, less, same)) = rest i low in (passes, (suc j, omega (arith, less), same))

pub filter_differs : (test : ℕ → Bool) (ns : List ℕ) → HasNoDoubles ns → HasNoDoubles (filter test ns)
filter_differs test [] apart = λ i j a b e. absurd (omega (arith, a))
filter_differs test (n ∷ ns) apart = by (test n) (filter_differs test ns (λ i j a b e.
    (let same = apart (suc i) (suc j) (omega (arith, a)) (omega (arith, b)) e in omega (arith, same))))
  where
    first : (i : ℕ) → i < length (filter test ns) → get_or (filter test ns) i 0 ≢ n
    first i low e = let (passes, (j, less, same)) = filter_at test ns i low in
        let odd = apart (suc j) 0 (omega (arith, less)) (omega arith) (same ∙ e) in omega (arith, odd)

    by : (b : Bool) → HasNoDoubles (filter test ns) → HasNoDoubles (cond b (n ∷ filter test ns) (filter test ns))
    by true others zero zero a b e = refl
    by true others zero (suc j) a b e = absurd (first j (omega (arith, b)) (sym e))
    by true others (suc i) zero a b e = absurd (first i (omega (arith, a)) e)
    by true others (suc i) (suc j) a b e = let same = others i j (omega (arith, a)) (omega (arith, b)) e in omega (arith, same)
    by false others i j a b e = others i j a b e

module _ {R : Type 0} (v : CpusView R) where
  pub number_online : (i : ℕ) → i < length (online_cpus v) → IsOnline (get_or (online_cpus v) i 0) v
  number_online i low =
      let (ge, up, under) = numbers_are 0 v.online i low in at (get_or (online_cpus v) i 0) up under
    where
      at : (n : ℕ) → get_or v.online (n - 0) false ≡ true → n - 0 < length v.online → IsOnline n v
      at n up under = let same : n - 0 ≡ n = omega arith in
          subst (λ k. slice_get v.online k ≡ Some true) same
          (slice_get-get_or v.online (n - 0) false under ∙ ap Some up)

  length_is : (n : ℕ) (x : CpuView R) → IsCpu n x v → len_of n v ≡ length x.cyclics
  length_is n x at = ap (λ o. option_map_or (λ (cpu : CpuView R). length cpu.cyclics) o 0) at

  pub all_full : (source : Option ℕ) (d : ℕ) → length v.online ≡ length v.cpus → destination source v ≡ Some d → IsFull d v
      → (n : ℕ) → IsOnline n v → source ≢ Some n → IsFull n v
  all_full source d long chosen (x, at, full) n on apart =
      let low = slice_get_within v.online n true on in
      let (y, there) = get_some v.cpus n (omega (arith, low, long)) in
      (y, there, by y (length_is n y there) ((is_destination source v d chosen).least n (on, apart)))
    where
      by : (y : CpuView R) → len_of n v ≡ length y.cyclics
          → (len_of d v < len_of n v) ⊎ ((len_of d v ≡ len_of n v) × (d ≤ n)) → most_cyclics ≤ length y.cyclics
      by y e (inl less) = let f = length_is d x at in omega (arith, e, f, less, full)
      by y e (inr (same, low)) = let f = length_is d x at in omega (arith, e, f, same, full)
