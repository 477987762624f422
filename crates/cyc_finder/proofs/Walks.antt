-- A walk over things by rising id, which asks for the next id after the one that it came to last.
use Rattle.std.proofs.Common.{◌≡◌, ℕ, ◌+◌, ◌<◌, ◌≤◌, inl, inr, List, Option, Some, None, All, length, get_or, ap, arith}
use Rattle.std.proofs.lemmas.Bool.{cases_lt}
use Rattle.cyc_finder.specs.Sorted.{Rises, IsAt, IsPassed, ComesAfter, IsNextAfter}

-- what the walk has passed is what stands before this position
pub record IsWalk {T : Type 0} (id_of : T → ℕ) (things : List T) (passed : Option ℕ) (position : ℕ) : Type 0 where
  pub seen : (k : ℕ) (d : T) → k < position → k < length things → IsPassed passed (id_of (get_or things k d))
  pub left : (k : ℕ) (d : T) → position ≤ k → k < length things → ComesAfter passed (id_of (get_or things k d))

not_both : (passed : Option ℕ) (id : ℕ) → IsPassed passed id → ComesAfter passed id → ⊥
not_both None id a b = a
not_both (Some p) id a b = absurd (omega (arith, a, b))

module _ {T : Type 0} (id_of : T → ℕ) (xs : List T) where
  pub walk_start : IsWalk id_of xs None 0
  walk_start = record { seen = λ k d less low. absurd (omega (arith, less)); left = λ k d past low. tt }

  module _ (passed : Option ℕ) (position : ℕ) (walk : IsWalk id_of xs passed position) where
    -- the walk comes to the thing at its position next
    pub walk_next : (k : ℕ) (d : T) → position < length xs → IsNextAfter id_of xs passed k → k ≡ position
    walk_next k d low next = elim (cases_lt k position) [
      | inl less ↦
          absurd (not_both passed (id_of (get_or xs k d)) (walk.seen k d less next.in_range)
          (next.after_from k d (omega arith) next.in_range))
      | inr most ↦ elim (cases_lt position k) [
        | inl less ↦
            absurd (not_both passed (id_of (get_or xs position d)) (next.passed_before position d less)
            (walk.left position d (omega arith) low))
        | inr same ↦ omega (arith, most, same)
      ]
    ]

    -- it has not passed all while there is one at its position
    pub walk_on : (d : T) → position < length xs → ¬ All (λ x. IsPassed passed (id_of x)) xs
    walk_on d low all = not_both passed (id_of (get_or xs position d)) (all position d low)
        (walk.left position d (omega arith) low)

    -- one step
    pub walk_more : Rises id_of xs → (id next : ℕ) → IsAt id_of xs id position → next ≡ position + 1
        → IsWalk id_of xs (Some id) next
    walk_more rises id next at is = record {
      seen = λ k d less low. elim (cases_lt k position) [
        | inl before ↦ (let up = rises k position d before at.in_range in let i = at.has_id d in omega (arith, up, i))
        | inr most ↦
            (let i = at.has_id d in let same : k ≡ position = omega (arith, less, most, is) in
            let e = ap (λ j. id_of (get_or xs j d)) same in omega (arith, i, e))
      ];
      left = λ k d past low.
          (let up = rises position k d (omega (arith, past, is)) low in let i = at.has_id d in omega (arith, up, i));
    }
