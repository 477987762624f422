-- Records that grew by one, and what their counts add up to.
use Rattle.std.proofs.Common.{◌≡◌, ℕ, zero, suc, ◌<◌, ◌≤◌, ◌⊎◌, inl, inr, Bool, true, false, cond, Some, List, []}
use Rattle.std.proofs.Common.{◌∷◌, ◌++◌, length, get_or, replicate, sum_by, refl, sym, ap, subst, arith}
use Rattle.std.specs.List.{slice_get}
use Rattle.std.proofs.lemmas.Option.{slice_get_within, get_or_from_slice_get, same_Some, none-some}
use Rattle.std.proofs.lemmas.List.Sums.{sum_by-cons}
use Rattle.cyc_types.specs.declared.firing.Sent.{Sent}
use Rattle.cyc_types.specs.declared.level.Level.{Level}
use Rattle.cyc_types.specs.Counting.{no_counts}
use Rattle.cyc_places.specs.declared.record.Placement.{Placement}
use Rattle.cyc_places.specs.declared.record.Record.{Record}
use Rattle.cyc_places.specs.Places.{HasRisingIds, HaveCounts, HaveAllCounts, AreCounts, new_record}

pub chosen : {A : Type 0} (b : Bool) (x y z : A) → b ≡ true → z ≡ cond b x y → z ≡ x
chosen true x y z e h = h
chosen false x y z e h = absurd (let odd : false ≡ true = e in cc)

-- an element of a list with one more is of the list, or the one
pub get_either : {A : Type 0} (xs : List A) (x : A) (i : ℕ) (r : A) → slice_get (xs ++ x ∷ []) i ≡ Some r
    → (slice_get xs i ≡ Some r)
    ⊎ ((i ≡ length xs) × (r ≡ x))
get_either [] x zero r e = inr (refl, sym (same_Some x r e))
get_either [] x (suc i) r e = absurd (none-some r e)
get_either (y ∷ ys) x zero r e = inl e
get_either (y ∷ ys) x (suc i) r e = by (get_either ys x i r e)
  where
    by : (slice_get ys i ≡ Some r) ⊎ ((i ≡ length ys) × (r ≡ x)) → (slice_get ys i ≡ Some r)
        ⊎ ((suc i ≡ suc (length ys)) × (r ≡ x))
    by (inl h) = inl h
    by (inr (a, b)) = inr (ap suc a, b)

none_counted : (n k : ℕ) (d : Sent) → k < length (replicate n no_counts)
    → (get_or (replicate n no_counts) k d).lost ≤ (get_or (replicate n no_counts) k d).sent
none_counted zero k d low = absurd (omega (arith, low))
none_counted (suc n) zero d low = omega arith
none_counted (suc n) (suc k) d low = none_counted n k d (omega (arith, low))

module _ (rs : List Record) (id : ℕ) (level : Level) (placement : Placement) (last : (k : ℕ) (d : Record) → k < length rs
    → (get_or rs k d).id < id) where
  pub rises_pushed : HasRisingIds rs → HasRisingIds (rs ++ new_record id level placement ∷ [])
  rises_pushed h i j r s less a b = by (get_either rs (new_record id level placement) i r a)
      (get_either rs (new_record id level placement) j s b)
    where
      by : (slice_get rs i ≡ Some r) ⊎ ((i ≡ length rs) × (r ≡ new_record id level placement)) → (slice_get rs j ≡ Some s)
          ⊎ ((j ≡ length rs) × (s ≡ new_record id level placement)) → r.id < s.id
      by (inl p) (inl q) = h i j r s less p q
      by (inl p) (inr (e, f)) =
          let l = last i r (slice_get_within rs i r p) in let at = ap (λ (x : Record). x.id) (get_or_from_slice_get rs i r r p) in
          let g = ap (λ (x : Record). x.id) f in omega (arith, l, at, g)
      by (inr (e, f)) (inl q) = let l = slice_get_within rs j s q in absurd (omega (arith, l, e, less))
      by (inr (e, f)) (inr (g, h)) = absurd (omega (arith, e, g, less))

  pub counts_pushed : HaveCounts rs → HaveCounts (rs ++ new_record id level placement ∷ [])
  counts_pushed h k r a = by (get_either rs (new_record id level placement) k r a)
    where
      by : (slice_get rs k ≡ Some r) ⊎ ((k ≡ length rs) × (r ≡ new_record id level placement)) → AreCounts r.ended
      by (inl p) = h k r p
      by (inr (e, f)) = subst (λ (x : Record). AreCounts x.ended) (sym f) (none_counted 16)

  pub all_pushed : HaveAllCounts rs → HaveAllCounts (rs ++ new_record id level placement ∷ [])
  all_pushed h k r a = by (get_either rs (new_record id level placement) k r a)
    where
      by : (slice_get rs k ≡ Some r) ⊎ ((k ≡ length rs) × (r ≡ new_record id level placement)) → length r.ended ≡ 16
      by (inl p) = h k r p
      by (inr (e, f)) = ap (λ (x : Record). length x.ended) f

-- no more was lost than was sent
pub lost_le : (counts : List Sent) → AreCounts counts → sum_by (λ s. s.lost) counts ≤ sum_by (λ s. s.sent) counts
lost_le [] h = omega arith
lost_le (s ∷ rest) h = let a = h 0 s (omega arith) in let b = lost_le rest (λ k d low. h (suc k) d (omega (arith, low))) in
    let x = sum_by-cons (λ (t : Sent). t.lost) s rest in let y = sum_by-cons (λ (t : Sent). t.sent) s rest in
    omega (arith, a, b, x, y)
