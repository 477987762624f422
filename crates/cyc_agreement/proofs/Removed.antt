-- A list of records without one of them.
use Rattle.std.proofs.Common.{◌≡◌, ◌≢◌, ℕ, zero, suc, ◌⊎◌, inl, inr, Some, List, [], ◌∷◌, slice_set, refl, sym, ap, ◌∙◌, subst}
use Rattle.std.proofs.Common.{arith}
use Rattle.std.specs.Prelude.{remove}
use Rattle.std.specs.List.{slice_get}
use Rattle.std.proofs.lemmas.Option.{slice_get_within}
use mathlib.Core.Logic.{dite}
use native.Mathlib.Decide.{ℕ_discrete}
use Rattle.cyc_places.specs.declared.record.Record.{Record}
use Rattle.cyc_places.specs.Places.{IsRecord, HasRisingIds}
use Rattle.cyc_agreement.proofs.CpuSpots.{get_set_same, get_set_other}
use Rattle.cyc_agreement.proofs.Spots.{same_some, none_some}
use Rattle.cyc_agreement.proofs.Recording.{one_record}

-- what is left stood at another position
pub left_was : {A : Type 0} (xs : List A) (k j : ℕ) (x : A) → slice_get (remove xs k) j ≡ Some x → (i : ℕ) × (i ≢ k)
    × (slice_get xs i ≡ Some x)
left_was [] zero j x is = absurd (none_some is)
left_was [] (suc k) j x is = absurd (none_some is)
left_was (y ∷ xs) zero j x is = (suc j, (λ e. omega (arith, e)), is)
left_was (y ∷ xs) (suc k) zero x is = (0, (λ e. omega (arith, e)), is)
left_was (y ∷ xs) (suc k) (suc j) x is = let (i, ne, at) = left_was xs k j x is in (suc i, (λ e. ne (omega (arith, e))), at)

-- what stood at another position is left
pub others_left : {A : Type 0} (xs : List A) (k i : ℕ) (x : A) → i ≢ k → slice_get xs i ≡ Some x → (j : ℕ)
    × (slice_get (remove xs k) j ≡ Some x)
others_left [] k i x ne is = absurd (none_some is)
others_left (y ∷ xs) zero zero x ne is = absurd (ne refl)
others_left (y ∷ xs) zero (suc i) x ne is = (i, is)
others_left (y ∷ xs) (suc k) zero x ne is = (0, is)
others_left (y ∷ xs) (suc k) (suc i) x ne is = let (j, at) = others_left xs k i x (λ e. ne (ap suc e)) is in (suc j, at)

-- one record was changed
module _ (rs : List Record) (k : ℕ) (r x : Record) (rising : HasRisingIds rs) (is : IsRecord rs k r) where
  -- a record afterwards is the changed one, or an old one with another id
  pub either : (j : ℕ) (q : Record) → IsRecord (slice_set rs k x) j q → ((j ≡ k) × (q ≡ x))
      ⊎ ((j ≢ k) × IsRecord rs j q × (q.id ≢ r.id))
  either j q at = dite (ℕ_discrete j k)
      (λ e. inl (
        e,
        same_some (sym at ∙ ap (λ i. slice_get (slice_set rs k x) i) e
            ∙ get_set_same rs k x (slice_get_within rs k r is)),
      ))
      (λ ne. let before : IsRecord rs j q = sym (get_set_other rs k j x ne) ∙ at in
      inr (ne, before, λ e. ne (one_record rs k j r q rising is before e)))

  -- one with another id stands where it stood
  pub stands_still : (j : ℕ) (q : Record) → IsRecord rs j q → q.id ≢ r.id → IsRecord (slice_set rs k x) j q
  stands_still j q at ne = get_set_other rs k j x
      (λ e. ne (ap (λ (y : Record). y.id) (same_some (sym at ∙ subst (λ i. IsRecord rs i r) (sym e) is)))) ∙ at

  -- after it went, there are those with other ids, and no other
  pub left_one : (j : ℕ) (q : Record) → IsRecord (remove (slice_set rs k x) k) j q → (i : ℕ) × IsRecord rs i q × (q.id ≢ r.id)
  left_one j q at = let (i, ne, there) = left_was (slice_set rs k x) k j q at in by i ne (either i q there)
    where
      by : (i : ℕ) → i ≢ k → ((i ≡ k) × (q ≡ x)) ⊎ ((i ≢ k) × IsRecord rs i q × (q.id ≢ r.id)) → (i : ℕ) × IsRecord rs i q
          × (q.id ≢ r.id)
      by i ne (inl (e, f)) = absurd (ne e)
      by i ne (inr (apart, before, other)) = (i, before, other)

  pub other_left : (j : ℕ) (q : Record) → IsRecord rs j q → q.id ≢ r.id → (i : ℕ) × IsRecord (remove (slice_set rs k x) k) i q
  other_left j q at ne = others_left (slice_set rs k x) k j q
      (λ e. ne (ap (λ (y : Record). y.id) (same_some (sym at ∙ subst (λ i. IsRecord rs i r) (sym e) is))))
      (stands_still j q at ne)
