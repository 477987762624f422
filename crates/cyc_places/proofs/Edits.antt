-- What an edit of the boxes does to the list of records in them, and that it keeps what is true of the records.
use Rattle.std.proofs.Common.{Box, Global, ◌≡◌, ◌≢◌, ℕ, zero, suc, ◌<◌, ◌≤◌, ◌⊎◌, inl, inr, List, [], ◌∷◌}
use Rattle.std.proofs.Common.{◌++◌, map, length, take, drop, get_or, set, Some, None, refl, sym, ap, ◌∙◌, subst, arith}
use Rattle.std.specs.List.{All, slice_get, remove}
use Rattle.std.specs.Option.{option_map}
use Rattle.std.proofs.lemmas.List.{length-map, map-set, map-append, take-map, drop-map, get_or-map, set-get_or}
use Rattle.std.proofs.lemmas.Option.{slice_get-map, slice_get_cases, slice_get_read, slice_get_within, same_Some, none-some}
use Rattle.std.proofs.lemmas.Option.{get_or_from_slice_get}
use Rattle.cyc_types.specs.declared.firing.Sent.{Sent}
use Rattle.cyc_places.specs.declared.record.Record.{Record}
use Rattle.cyc_places.specs.declared.records.RecordId.{RecordId}
use Rattle.cyc_finder.specs.Sorted.{Rises, IsAt}
use Rattle.cyc_places.specs.Places.{IsRecord, HasNoRecord, HasRisingIds, HaveCounts, HaveAllCounts, AreCounts}

-- the record in a box
abbrev pub value : Box Record Global → Record
value kept = kept.value

-- its id, as it stands beside the boxes
abbrev pub id_in : Box Record Global → RecordId
id_in kept = record { id = kept.value.id }

-- the number that it is
abbrev pub id_of : RecordId → ℕ
id_of kept = kept.id

module _ (kept : List (Box Record Global)) (position : ℕ) where
  -- it is that at the box's position
  pub at_position : (x : Box Record Global) → position < length (map value kept) → x ≡ get_or kept position x
      → IsRecord (map value kept) position x.value
  at_position x here at =
      let l = length-map kept value in let low : position < length kept = omega (arith, l, here) in
      slice_get-map value kept position ∙ ap (option_map value) (slice_get_read kept (length kept) position x refl low at)

-- what is read of the boxes after one was taken out
pub map_removed : {A : Type 0} (f : Box Record Global → A) (kept : List (Box Record Global)) (position : ℕ)
    → map f (remove kept position) ≡ remove (map f kept) position
map_removed f kept position = map-append f (take position kept) (drop (suc position) kept)
    ∙ ap (λ xs. xs ++ map f (drop (suc position) kept)) (sym (take-map f position kept))
    ∙ ap (λ xs. take position (map f kept) ++ xs) (sym (drop-map f (suc position) kept))

-- an id that is read is that of the record at its position
module _ (kept : List (Box Record Global)) where
  pub read : (k : ℕ) (d : RecordId) → k < length (map id_in kept)
      → (r : Record) × IsRecord (map value kept) k r × (r.id ≡ (get_or (map id_in kept) k d).id)
  read k d low = by (slice_get_cases kept k).1
    where
      by : ((x : Box Record Global) × (k < length kept) × (slice_get kept k ≡ Some x) × (get_or kept k x ≡ x))
          ⊎ ((length kept ≤ k) × (slice_get kept k ≡ None))
          → (r : Record) × IsRecord (map value kept) k r × (r.id ≡ (get_or (map id_in kept) k d).id)
      by (inl (x, within, is, at)) = (
        x.value,
        slice_get-map value kept k ∙ ap (option_map value) is,
        sym (ap id_of (get_or-map id_in kept k x d within ∙ ap id_in at)),
      )
      by (inr (past, none)) = let l = length-map kept id_in in absurd (omega (arith, l, past, low))

-- where a record comes from after another was written
set_either : (rs : List Record) (k : ℕ) (x : Record) (i : ℕ) (r : Record) → slice_get (set rs k x) i ≡ Some r
    → (slice_get rs i ≡ Some r) ⊎ ((i ≡ k) × (r ≡ x))
set_either [] k x i r e = inl e
set_either (y ∷ ys) zero x zero r e = inr (refl, sym (same_Some x r e))
set_either (y ∷ ys) zero x (suc i) r e = inl e
set_either (y ∷ ys) (suc k) x zero r e = inl e
set_either (y ∷ ys) (suc k) x (suc i) r e = by (set_either ys k x i r e)
  where
    by : (slice_get ys i ≡ Some r) ⊎ ((i ≡ k) × (r ≡ x)) → (slice_get ys i ≡ Some r) ⊎ ((suc i ≡ suc k) × (r ≡ x))
    by (inl h) = inl h
    by (inr (a, b)) = inr (ap suc a, b)

-- a record that is written over another of its id
module _ (rs : List Record) (k : ℕ) (old new : Record) (at : IsRecord rs k old) (same : new.id ≡ old.id) where
  pub rises_written : HasRisingIds rs → HasRisingIds (set rs k new)
  rises_written h i j r s less a b = by (set_either rs k new i r a) (set_either rs k new j s b)
    where
      has_id : (q : Record) → q ≡ new → q.id ≡ old.id
      has_id q e = ap (λ (x : Record). x.id) e ∙ same

      by : (slice_get rs i ≡ Some r) ⊎ ((i ≡ k) × (r ≡ new)) → (slice_get rs j ≡ Some s) ⊎ ((j ≡ k) × (s ≡ new)) → r.id < s.id
      by (inl p) (inl q) = h i j r s less p q
      by (inl p) (inr (e, f)) = let l = h i k r old (omega (arith, less, e)) p at in let g = has_id s f in omega (arith, l, g)
      by (inr (e, f)) (inl q) = let l = h k j old s (omega (arith, less, e)) at q in let g = has_id r f in omega (arith, l, g)
      by (inr (e, f)) (inr (e1, f1)) = absurd (omega (arith, e, e1, less))

  pub counts_written : AreCounts new.ended → HaveCounts rs → HaveCounts (set rs k new)
  counts_written fit h i r a = by (set_either rs k new i r a)
    where
      by : (slice_get rs i ≡ Some r) ⊎ ((i ≡ k) × (r ≡ new)) → AreCounts r.ended
      by (inl p) = h i r p
      by (inr (e, f)) = subst (λ (x : Record). AreCounts x.ended) (sym f) fit

  pub all_written : length new.ended ≡ 16 → HaveAllCounts rs → HaveAllCounts (set rs k new)
  all_written long h i r a = by (set_either rs k new i r a)
    where
      by : (slice_get rs i ≡ Some r) ⊎ ((i ≡ k) × (r ≡ new)) → length r.ended ≡ 16
      by (inl p) = h i r p
      by (inr (e, f)) = ap (λ (x : Record). length x.ended) f ∙ long

-- counts of which one is other ones
pub counts_set : (counts : List Sent) (n : ℕ) (s : Sent) → s.lost ≤ s.sent → AreCounts counts → AreCounts (set counts n s)
counts_set [] n s fit h k d low = h k d low
counts_set (x ∷ xs) zero s fit h zero d low = fit
counts_set (x ∷ xs) zero s fit h (suc k) d low = h (suc k) d low
counts_set (x ∷ xs) (suc n) s fit h zero d low = h zero d (omega arith)
counts_set (x ∷ xs) (suc n) s fit h (suc k) d low =
    counts_set xs n s fit (λ i e l. h (suc i) e (omega (arith, l))) k d (omega (arith, low))

-- where a record that is still there stood before another was taken out
remove_either : (rs : List Record) (k i : ℕ) (r : Record) → slice_get (remove rs k) i ≡ Some r
    → ((i < k) × (slice_get rs i ≡ Some r)) ⊎ ((k ≤ i) × (slice_get rs (suc i) ≡ Some r))
remove_either [] zero i r e = absurd (none-some r e)
remove_either [] (suc k) i r e = absurd (none-some r e)
remove_either (y ∷ ys) zero i r e = inr (omega arith, e)
remove_either (y ∷ ys) (suc k) zero r e = inl (omega arith, e)
remove_either (y ∷ ys) (suc k) (suc i) r e = by (remove_either ys k i r e)
  where
    by : ((i < k) × (slice_get ys i ≡ Some r)) ⊎ ((k ≤ i) × (slice_get ys (suc i) ≡ Some r))
        → ((suc i < suc k) × (slice_get ys i ≡ Some r)) ⊎ ((suc k ≤ suc i) × (slice_get ys (suc i) ≡ Some r))
    by (inl (a, b)) = inl (omega (arith, a), b)
    by (inr (a, b)) = inr (omega (arith, a), b)

-- a record that is taken out
module _ (rs : List Record) (k : ℕ) where
  pub rises_removed : HasRisingIds rs → HasRisingIds (remove rs k)
  rises_removed h i j r s less a b = by (remove_either rs k i r a) (remove_either rs k j s b)
    where
      by : ((i < k) × (slice_get rs i ≡ Some r)) ⊎ ((k ≤ i) × (slice_get rs (suc i) ≡ Some r))
          → ((j < k) × (slice_get rs j ≡ Some s)) ⊎ ((k ≤ j) × (slice_get rs (suc j) ≡ Some s)) → r.id < s.id
      by (inl (l, p)) (inl (m, q)) = h i j r s less p q
      by (inl (l, p)) (inr (m, q)) = h i (suc j) r s (omega (arith, less)) p q
      by (inr (l, p)) (inl (m, q)) = absurd (omega (arith, l, m, less))
      by (inr (l, p)) (inr (m, q)) = h (suc i) (suc j) r s (omega (arith, less)) p q

  pub counts_removed : HaveCounts rs → HaveCounts (remove rs k)
  counts_removed h i r a = by (remove_either rs k i r a)
    where
      by : ((i < k) × (slice_get rs i ≡ Some r)) ⊎ ((k ≤ i) × (slice_get rs (suc i) ≡ Some r)) → AreCounts r.ended
      by (inl (l, p)) = h i r p
      by (inr (l, p)) = h (suc i) r p

  pub all_removed : HaveAllCounts rs → HaveAllCounts (remove rs k)
  all_removed h i r a = by (remove_either rs k i r a)
    where
      by : ((i < k) × (slice_get rs i ≡ Some r)) ⊎ ((k ≤ i) × (slice_get rs (suc i) ≡ Some r)) → length r.ended ≡ 16
      by (inl (l, p)) = h i r p
      by (inr (l, p)) = h (suc i) r p

-- a box whose record is written over by another of its id
module _ (kept : List (Box Record Global)) (position : ℕ) (x y : Box Record Global)
    (at : IsRecord (map value kept) position x.value)
    (same : y.value.id ≡ x.value.id) where
  pub box_rises : HasRisingIds (map value kept) → HasRisingIds (map value (set kept position y))
  box_rises h =
      subst HasRisingIds (sym (map-set value kept position y)) (rises_written (map value kept) position x.value y.value at same h)

  pub box_counts : AreCounts y.value.ended → HaveCounts (map value kept) → HaveCounts (map value (set kept position y))
  box_counts fit h =
      subst HaveCounts (sym (map-set value kept position y))
      (counts_written (map value kept) position x.value y.value at same fit h)

  pub box_all : length y.value.ended ≡ 16 → HaveAllCounts (map value kept) → HaveAllCounts (map value (set kept position y))
  box_all long h =
      subst HaveAllCounts (sym (map-set value kept position y))
      (all_written (map value kept) position x.value y.value at same long h)

  -- the ids stay
  pub box_ids : (ids : List RecordId) → ids ≡ map id_in kept → ids ≡ map id_in (set kept position y)
  box_ids ids e =
      let l = length-map kept value in let m = length-map kept id_in in
      let n = slice_get_within (map value kept) position x.value at in
      let (r, is, g) = read kept position (id_in y) (omega (arith, l, m, n)) in
      let it : y.value.id ≡ (get_or (map id_in kept) position (id_in y)).id
      = same ∙ ap (λ (q : Record). q.id) (same_Some x.value r (sym at ∙ is)) ∙ g in
      e ∙ sym (set-get_or (map id_in kept) position (id_in y))
      ∙ ap (λ (n : ℕ). set (map id_in kept) position (record { id = n })) (sym it) ∙ sym (map-set id_in kept position y)

-- a look-up among the ids by halves
module _ (kept : List (Box Record Global)) where
  pub ids_rise : HasRisingIds (map value kept) → Rises id_of (map id_in kept)
  ids_rise h i j d less low =
      let (r, a, e) = read kept i d (omega (arith, less, low)) in let (s, b, f) = read kept j d low in
      let l = h i j r s less a b in omega (arith, l, e, f)

  pub found_record : (id position : ℕ) → IsAt id_of (map id_in kept) id position
      → (r : Record) × IsRecord (map value kept) position r × (r.id ≡ id)
  found_record id position at =
      let d : RecordId = record { id = id } in let (r, is, e) = read kept position d at.in_range in (r, is, e ∙ at.has_id d)

  pub no_record : (id : ℕ) → All (λ (n : RecordId). n.id ≢ id) (map id_in kept) → HasNoRecord id (map value kept)
  no_record id none k d low same =
      let l = length-map kept value in let m = length-map kept id_in in
      let within : k < length (map id_in kept) = omega (arith, l, m, low) in
      let n : RecordId = record { id = id } in
      let (r, is, e) = read kept k n within in
      let at = ap (λ (q : Record). q.id) (get_or_from_slice_get (map value kept) k r d is) in
      none k n within (sym e ∙ sym at ∙ same)
