-- What a look-up finds among things by rising id, and what an edit of the list does to it.
use Rattle.std.proofs.Common.{◌≡◌, ℕ, zero, suc, ◌+◌, ◌-◌, ◌<◌, ◌≤◌, ◌≢◌, eqb, cond, List, [], ◌∷◌, length, get_or, set, Some}
use Rattle.std.proofs.Common.{inl, inr, None, refl, sym, ap, ◌∙◌, subst, arith}
use Rattle.std.specs.List.{insert, remove, slice_get}
use Rattle.std.proofs.lemmas.List.{get_or_default}
use Rattle.std.proofs.lemmas.Option.{slice_get_cases}
use Rattle.std.proofs.lemmas.List.Edits.{length-insert, get_or-insert_below, get_or-insert_at, get_or-insert_above}
use Rattle.std.proofs.lemmas.List.Edits.{length-remove, get_or-remove_below, get_or-remove_above}
use Rattle.std.proofs.lemmas.Bool.Decides.{nat_tests}
use Rattle.std.proofs.lemmas.Grind.{common_steps}
use Rattle.cyc_finder.specs.Sorted.{look_up, Rises, IsAt, IsGap}

module _ {T : Type 0} (id_of : T → ℕ) where
  -- nothing before the position has the id
  abbrev pub NoIdBefore : List T → ℕ → ℕ → Type 0
  NoIdBefore xs id position = (j : ℕ) (d : T) → j < position → id_of (get_or xs j d) ≢ id

  no_id_before_tail : (x : T) (xs : List T) (id i : ℕ) → NoIdBefore (x ∷ xs) id (suc i) → NoIdBefore xs id i
  no_id_before_tail x xs id i none j d less = none (suc j) d (omega arith)

  is_at_tail : (x : T) (xs : List T) (id i : ℕ) → IsAt id_of (x ∷ xs) id (suc i) → IsAt id_of xs id i
  is_at_tail x xs id i at = record { in_range = omega (arith, at.in_range); has_id = at.has_id }

  pub look_up_absent : (xs : List T) (id : ℕ) → NoIdBefore xs id (length xs) → look_up id_of id xs ≡ None
  look_up_absent [] id none = refl
  look_up_absent (x ∷ xs) id none =
      let first = none 0 x (omega arith) in
      let rest = look_up_absent xs id (no_id_before_tail x xs id _ none) in
      grind (arith, nat_tests, first, rest)

  pub look_up_present : (xs : List T) (id i : ℕ) (d : T) → IsAt id_of xs id i → NoIdBefore xs id i
      → look_up id_of id xs ≡ Some (get_or xs i d)
  look_up_present [] id i d at none = absurd (omega (arith, at.in_range))
  look_up_present (x ∷ xs) id zero d at none = let here : id_of x ≡ id = at.has_id d in grind (arith, nat_tests, here)
  look_up_present (x ∷ xs) id (suc i) d at none =
      let first = none 0 x (omega arith) in
      let rest = look_up_present xs id i d (is_at_tail x xs id i at) (no_id_before_tail x xs id i none) in
      grind (arith, nat_tests, first, rest)

  -- so does a new thing before any of its id
  look_up-insert : (xs : List T) (id i : ℕ) (e : T) → NoIdBefore xs id i → id_of e ≡ id → (q : ℕ)
      → look_up id_of q (insert xs i e) ≡ cond (eqb q id) (Some e) (look_up id_of q xs)
  look_up-insert xs id zero e none same q = grind (arith, nat_tests, same)
  look_up-insert [] id (suc i) e none same q = grind (arith, nat_tests, same)
  look_up-insert (x ∷ xs) id (suc i) e none same q =
      let first = none 0 x (omega arith) in
      let rest = look_up-insert xs id i e (no_id_before_tail x xs id i none) same q in
      grind (arith, nat_tests, first, rest)

  rises_tail : (x : T) (xs : List T) → Rises id_of (x ∷ xs) → Rises id_of xs
  rises_tail x xs rises i j d less in_range = rises (suc i) (suc j) d (omega arith) (omega arith)

  -- taking the thing of an id out changes the look-up of that id alone
  look_up-remove : (xs : List T) → Rises id_of xs → (id i : ℕ) → IsAt id_of xs id i → (q : ℕ)
      → look_up id_of q (remove xs i) ≡ cond (eqb q id) None (look_up id_of q xs)
  look_up-remove [] rises id i at q = absurd (omega (arith, at.in_range))
  look_up-remove (x ∷ xs) rises id zero at q =
      let here : id_of x ≡ id = at.has_id x in
      let gone : look_up id_of id xs ≡ None =
      look_up_absent xs id (λ j d less same. let up = rises 0 (suc j) d (omega arith) (omega arith) in
      omega (arith, up, here, same)) in
      grind (arith, nat_tests, here, gone)
  look_up-remove (x ∷ xs) rises id (suc i) at q =
      let first : id_of x < id = (let up = rises 0 (suc i) x (omega arith) at.in_range in let here = at.has_id x in
      omega (arith, up, here)) in
      let rest = look_up-remove xs (rises_tail x xs rises) id i (is_at_tail x xs id i at) q in
      grind (arith, nat_tests, first, rest)

  -- the thing at a position is that of its id
  pub is_at_position : (xs : List T) (position : ℕ) (d : T) → position < length xs
      → IsAt id_of xs (id_of (get_or xs position d)) position
  is_at_position xs position d in_range = record {
    in_range = in_range;
    has_id = λ e. ap id_of
        (get_or_default xs position e d in_range);
  }

  -- what stands where the id stands
  pub stands : (xs : List T) (id position : ℕ) → IsAt id_of xs id position → (x : T) × (slice_get xs position ≡ Some x)
      × (id_of x ≡ id)
  stands xs id position at = elim (slice_get_cases xs position).1 [
    | inl (x, within, is, same) ↦ (x, is, ap id_of (sym same) ∙ at.has_id x)
    | inr (past, none) ↦ let low = at.in_range in absurd (omega (arith, past, low))
  ]

  module _ (xs : List T) (rises : Rises id_of xs) (id position : ℕ) (at : IsAt id_of xs id position) where
    no_id_before_position : NoIdBefore xs id position
    no_id_before_position j d less same = let up = rises j position d less at.in_range in let here = at.has_id d in
        omega (arith, up, here, same)

    -- the thing of the id is found at its position
    pub look_up_at : (d : T) → look_up id_of id xs ≡ Some (get_or xs position d)
    look_up_at d = look_up_present xs id position d at no_id_before_position

    -- what is read there is found
    pub look_up_read : (d : T) → d ≡ get_or xs position d → look_up id_of id xs ≡ Some d
    look_up_read d read = look_up_at d ∙ ap Some (sym read)

    pub rises_set : (e : T) → id_of e ≡ id → Rises id_of (set xs position e)
    rises_set e same i j d less in_range =
        let here = at.has_id d in
        grind (arith, common_steps, rises i j d, rises i position d, rises position j d, at.in_range, here, same)

    pub look_up_removed : (q : ℕ) → look_up id_of q (remove xs position) ≡ cond (eqb q id) None (look_up id_of q xs)
    look_up_removed = look_up-remove xs rises id position at

    pub rises_removed : Rises id_of (remove xs position)
    rises_removed i j d less in_range =
        let shorter = length-remove xs position at.in_range in
        let below : (i : ℕ) → i < position → get_or (remove xs position) i d ≡ get_or xs i d =
        λ i lt. get_or-remove_below xs position d i lt at.in_range in
        let above : (i : ℕ) → position ≤ i → get_or (remove xs position) i d ≡ get_or xs (i + 1) d =
        λ i le. get_or-remove_above xs position d i le at.in_range in
        grind (
          arith,
          λ (lt : i < position). ap id_of (below i lt),
          λ (le : position ≤ i). ap id_of (above i le),
          λ (lt : j < position). ap id_of (below j lt),
          λ (le : position ≤ j). ap id_of (above j le),
          rises i j d,
          rises i (j + 1) d,
          rises (i + 1) (j + 1) d,
          shorter,
        )

  module _ (xs : List T) (id position : ℕ) (gap : IsGap id_of xs id position) where
    pub look_up_gap : look_up id_of id xs ≡ None
    look_up_gap = look_up_absent xs id (λ j d less same.
        let before = gap.smaller_before j d in let behind = gap.greater_after j d in grind (arith, before, behind, same, less))

    pub look_up_inserted : (e : T) → id_of e ≡ id → (q : ℕ)
        → look_up id_of q (insert xs position e) ≡ cond (eqb q id) (Some e) (look_up id_of q xs)
    look_up_inserted e same =
        look_up-insert xs id position e
        (λ j d less is. let before = gap.smaller_before j d less in omega (arith, before, is)) same

    pub rises_inserted : Rises id_of xs → (e : T) → id_of e ≡ id → Rises id_of (insert xs position e)
    rises_inserted rises e same i j d less in_range =
        let new = insert xs position e in
        let longer = length-insert xs position e gap.in_range in
        let id_below : (i : ℕ) → i < position → id_of (get_or new i d) ≡ id_of (get_or xs i d) =
        λ i below. ap id_of (get_or-insert_below xs position e d i below gap.in_range) in
        let id_here : (i : ℕ) → i ≡ position → id_of (get_or new i d) ≡ id =
        λ i here. rw here (ap id_of (get_or-insert_at xs position e d gap.in_range) ∙ same) in
        let id_above : (i : ℕ) → position < i → id_of (get_or new i d) ≡ id_of (get_or xs (i - 1) d) =
        λ i above. subst (λ q. id_of (get_or new q d) ≡ id_of (get_or xs (i - 1) d)) {x = i - 1 + 1} (omega arith)
        (ap id_of (get_or-insert_above xs position e d (i - 1) (omega arith) gap.in_range)) in
        grind (
          arith,
          id_below i,
          id_here i,
          id_above i,
          id_below j,
          id_here j,
          id_above j,
          rises i j d,
          rises i (j - 1) d,
          rises (i - 1) (j - 1) d,
          gap.smaller_before i d,
          gap.greater_after (j - 1) d,
        )
