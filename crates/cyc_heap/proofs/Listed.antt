-- The leaves and the free indexes, after another entry in one leaf.
use Rattle.std.proofs.Common.{◌≡◌, ◌≢◌, ℕ, suc, ◌+◌, ◌<◌, ◌≤◌, ◌⊎◌, inl, inr, Bool, true, false, List, [], ◌∷◌, ◌++◌, length}
use Rattle.std.proofs.Common.{get_or, Option, Some, None, is_some}
use Rattle.std.proofs.Common.{count_by, cond, refl, sym, ap, ◌∙◌, subst, subst₂, arith}
use Rattle.std.proofs.Math.ListN.{set}
use Rattle.std.proofs.lemmas.Bool.{cases_eq, cases_lt}
use Rattle.std.proofs.lemmas.List.{length_push, get_or_push, get_or_append_left}
use Rattle.std.proofs.lemmas.List.Sums.{sum_by-append}
use Rattle.cyc_types.specs.Series.{never}
use Rattle.cyc_types.specs.Expirations.{Expiration}
use Rattle.cyc_heap.specs.declared.entry.Entry.{Entry}
use Rattle.cyc_heap.specs.Tournament.{key, entry_at, cyclic_index, free_entry, slot, slots, IsPlayed, IsListed}
use Rattle.cyc_heap.specs.Few.{IsFew, IsTournament, extent}
use Rattle.cyc_heap.proofs.Slots.{length-slots, slots_at, slots_set, slots_kept, one_more, slot_used, slot_free}
use Rattle.cyc_heap.proofs.Views.{count_same, count_more, count_less}

-- the leaf of the index x has another entry
module _ (size : ℕ) (xs ys : List Entry) (x : ℕ) (e : Entry) (long_xs : size ≤ length xs) (long_ys : size ≤ length ys)
    (low : x < size)
    (here : entry_at ys x ≡ e) (others : (i : ℕ) → i < size → i ≢ x → entry_at ys i ≡ entry_at xs i) where
  pub set_slots : slots size ys ≡ set (slots size xs) x (slot e)
  set_slots = slots_set size xs ys x e long_xs long_ys low here others

  had : get_or (slots size xs) x None ≡ slot (entry_at xs x)
  had = slots_at size xs long_xs x None low

  own_after : ((i : ℕ) → i < size → (entry_at xs i).moment ≤ never → cyclic_index (entry_at xs i) ≡ i)
      → (e.moment ≤ never → cyclic_index e ≡ x)
      → (i : ℕ) → i < size → (entry_at ys i).moment ≤ never → cyclic_index (entry_at ys i) ≡ i
  own_after own mine i within used = elim (cases_eq i x) [
    | inl is ↦ (let at : entry_at ys i ≡ e = ap (entry_at ys) is ∙ here in
        let moment = ap (λ (e : Entry). e.moment) at in
        ap cyclic_index at ∙ mine (omega (arith, moment, used)) ∙ sym is)
    | inr off ↦ (let at = others i within off in
        let moment = ap (λ (e : Entry). e.moment) at in
        ap cyclic_index at ∙ own i within (omega (arith, moment, used)))
  ]

  -- a leaf that stays free
  free_after : (i : ℕ) → i < size → i ≢ x → never < (entry_at xs i).moment → never < (entry_at ys i).moment
  free_after i within off free = (let moment = ap (λ (e : Entry). e.moment) (others i within off) in
      omega (arith, moment, free))

  -- it had a moment, and has another one
  pub moved : (free : List ℕ) → IsListed size xs free → (entry_at xs x).moment ≤ never → e.moment ≤ never → cyclic_index e ≡ x
      → IsListed size ys free
  moved free h used uses mine = record {
    own = own_after h.own (λ _. mine);
    low = h.low;
    none = λ p at. free_after (get_or free p 0) (h.low p at) (λ q. (let unused = h.none p at in
        let moment = ap (λ i. (entry_at xs i).moment) q in absurd (omega (arith, unused, moment, used)))) (h.none p at);
    apart = h.apart;
    count = (let same = ap (count_by is_some) (set_slots ∙ ap (set (slots size xs) x) (slot_used e uses))
        ∙ count_same (slots size xs) x (key (entry_at xs x)) (key e) (had ∙ slot_used (entry_at xs x) used) in
        let count = h.count in omega (arith, same, count));
  }

  -- it was the last free one, and has a moment
  pub taken : (free : List ℕ) → IsListed size xs (free ++ x ∷ []) → e.moment ≤ never → cyclic_index e ≡ x → IsListed size ys free
  taken free h uses mine =
      let more = length_push free x in
      let last : get_or (free ++ x ∷ []) (length free) 0 ≡ x = get_or_push free x 0 (length free) refl in
      let unused : never < (entry_at xs x).moment = (let none = h.none (length free) (omega (arith, more)) in
      subst (λ i. never < (entry_at xs i).moment) last none) in
      let before : (p : ℕ) → p < length free → get_or (free ++ x ∷ []) p 0 ≡ get_or free p 0
      = λ p at. get_or_append_left free (x ∷ []) 0 p at in
      record {
        own = own_after h.own (λ _. mine);
        low = λ p at. (let b = before p at in let l = h.low p (omega (arith, at, more)) in omega (arith, b, l));
        none = λ p at. (let b = before p at in
            let l = h.low p (omega (arith, at, more)) in
            free_after (get_or free p 0) (omega (arith, b, l))
            (λ q. absurd (h.apart p (length free) at (omega (arith, more)) (b ∙ q ∙ sym last)))
            (subst (λ i. never < (entry_at xs i).moment) b (h.none p (omega (arith, at, more)))));
        apart = λ p q less at q_is. absurd (h.apart p q less (omega (arith, at, more))
            (before p (omega (arith, less, at)) ∙ q_is ∙ sym (before q at)));
        count = (let n = length-slots size xs long_xs in
            let one = ap (count_by is_some) (set_slots ∙ ap (set (slots size xs) x) (slot_used e uses))
            ∙ count_more (slots size xs) x (key e) (omega (arith, n, low)) (had ∙ slot_free (entry_at xs x) unused) in
            let count = h.count in omega (arith, one, count, more));
      }

  -- it had a moment, and is the last free one
  pub freed : (free : List ℕ) → IsListed size xs free → (entry_at xs x).moment ≤ never → never < e.moment
      → IsListed size ys (free ++ x ∷ [])
  freed free h used unused =
      let more = length_push free x in
      let last : get_or (free ++ x ∷ []) (length free) 0 ≡ x = get_or_push free x 0 (length free) refl in
      let before : (p : ℕ) → p < length free → get_or (free ++ x ∷ []) p 0 ≡ get_or free p 0
      = λ p at. get_or_append_left free (x ∷ []) 0 p at in
      let off : (p : ℕ) → p < length free → get_or free p 0 ≢ x = λ p at q. (let none = h.none p at in
      let moment = ap (λ i. (entry_at xs i).moment) q in absurd (omega (arith, none, moment, used))) in
      record {
        own = own_after h.own (λ uses. absurd (omega (arith, uses, unused)));
        low = λ p at. elim (cases_lt p (length free)) [
          | inl old ↦ (let b = before p old in let l = h.low p old in omega (arith, b, l))
          | inr new ↦ (let b : get_or (free ++ x ∷ []) p 0 ≡ x = ap (λ p. get_or (free ++ x ∷ []) p 0)
              (let e : p ≡ length free = omega (arith, new, at, more) in e) ∙ last in omega (arith, b, low))
        ];
        none = λ p at. elim (cases_lt p (length free)) [
          | inl old ↦ subst (λ i. never < (entry_at ys i).moment) (sym (before p old))
              (free_after (get_or free p 0) (h.low p old) (off p old) (h.none p old))
          | inr new ↦ (let b : get_or (free ++ x ∷ []) p 0 ≡ x = ap (λ p. get_or (free ++ x ∷ []) p 0)
              (let e : p ≡ length free = omega (arith, new, at, more) in e) ∙ last in
              let moment = ap (λ (e : Entry). e.moment) here in
              subst (λ i. never < (entry_at ys i).moment) (sym b) (omega (arith, moment, unused)))
        ];
        apart = λ p q less at is. elim (cases_lt q (length free)) [
          | inl old ↦ h.apart p q less old (sym (before p (omega (arith, less, old))) ∙ is ∙ before q old)
          | inr new ↦ (let b : get_or (free ++ x ∷ []) q 0 ≡ x = ap (λ p. get_or (free ++ x ∷ []) p 0)
              (let e : q ≡ length free = omega (arith, new, at, more) in e) ∙ last in
              off p (omega (arith, less, at, more)) (sym (before p (omega (arith, less, at, more))) ∙ is ∙ b))
        ];
        count = (let one = ap (count_by is_some) (set_slots ∙ ap (set (slots size xs) x) (slot_free e unused)) in
            let less = count_less (slots size xs) x (key (entry_at xs x)) (had ∙ slot_used (entry_at xs x) used) in
            let count = h.count in omega (arith, one, less, count, more));
      }

-- the next index was never given, and none is free again
pub first : (given : ℕ) (xs ys : List Entry) (e : Entry) → given ≤ length xs → given < length ys → entry_at ys given ≡ e
    → ((i : ℕ) → i < given → entry_at ys i ≡ entry_at xs i) → IsListed given xs [] → e.moment ≤ never → cyclic_index e ≡ given
    → IsListed (given + 1) ys []
first given xs ys e long_xs long_ys here same h uses mine = record {
  own = λ i low used. elim (cases_eq i given) [
    | inl is ↦ ap cyclic_index (ap (entry_at ys) is ∙ here) ∙ mine ∙ sym is
    | inr off ↦ (let at = same i (omega (arith, low, off)) in
        let moment = ap (λ (e : Entry). e.moment) at in
        ap cyclic_index at ∙ h.own i (omega (arith, low, off)) (omega (arith, moment, used)))
  ];
  low = λ p at. absurd (omega (arith, at));
  none = λ p at. absurd (omega (arith, at));
  apart = λ p q less at. absurd (omega (arith, at));
  count = (let more = ap (count_by is_some) (one_more given ys long_ys
      ∙ ap (λ o. slots given ys ++ o ∷ []) (ap slot here ∙ slot_used e uses)
      ∙ ap (λ (os : List (Option Expiration)). os ++ Some (key e) ∷ [])
      (slots_kept given xs ys long_xs (omega (arith, long_ys)) same)) in
      let both = sum_by-append (λ (o : Option Expiration). cond (is_some o) 1 0) (slots given xs) (Some (key e) ∷ []) in
      let count = h.count in omega (arith, more, both, count));
}

-- the index x is the next one
abbrev pub IsNext : ℕ → List ℕ → ℕ → ℕ → List ℕ → Type 0
IsNext given free x given_after free_after = ((free ≡ free_after ++ x ∷ []) × (given_after ≡ given))
    ⊎ ((free ≡ []) × (free_after ≡ []) × (x ≡ given) × (given_after ≡ given + 1))

module _ (is_few : Bool) (few : List Entry) (leaves size given : ℕ) (xs : List Entry) (free : List ℕ) (x given_after : ℕ)
    (free_after : List ℕ) (h : IsTournament is_few few (extent leaves size given) xs free)
    (next : IsNext given free x given_after free_after)
    (left : given < size + length free) where
  -- it is free
  pub next_free : (x < given_after) × (given ≤ given_after) × (given_after ≤ size) × (never < (entry_at xs x).moment)
  next_free = (let known = h.known in
      let wide = h.wide in
      elim next [
        | inl (is, same) ↦ (let listed = subst (λ f. IsListed given xs f) is h.listed in
            let more = length_push free_after x in
            let last = get_or_push free_after x 0 (length free_after) refl in
            let low = listed.low (length free_after) (omega (arith, more)) in (
              omega (arith, low, last, same),
              omega (arith, same),
              omega (arith, same, known),
              subst (λ i. never < (entry_at xs i).moment) last (listed.none (length free_after) (omega (arith, more))),
            ))
        | inr (none, none_after, at, more) ↦ (let zero = ap length none in (
          omega (arith, at, more),
          omega (arith, more),
          omega (arith, more, left, zero),
          subst (λ i. never < (entry_at xs i).moment) (sym at) (h.unused given (omega arith) (omega (arith, left, zero, wide))),
        ))
      ])

  -- and it is used from now on
  pub next_used : (ys : List Entry) (e : Entry) → length ys ≡ length xs → entry_at ys x ≡ e
      → ((i : ℕ) → i < leaves → i ≢ x → entry_at ys i ≡ entry_at xs i) → e.moment ≤ never → cyclic_index e ≡ x
      → IsListed given_after ys free_after
  next_used ys e same_length here others uses mine = (let known = h.known in
      let wide = h.wide in
      let long = h.long in
      let some = h.some in
      elim next [
        | inl (is, same) ↦ subst (λ n. IsListed n ys free_after) (sym same)
            (let (low, _, _, _) = next_free in
            taken given xs ys x e (omega (arith, known, wide, long, some)) (omega (arith, known, wide, long, some, same_length))
            (omega (arith, low, same)) here (λ i within off. others i (omega (arith, within, known, wide)) off) free_after
            (subst (λ f. IsListed given xs f) is h.listed) uses mine)
        | inr (none, none_after, at, more) ↦ subst₂ (λ n f. IsListed n ys f) (sym more) (sym none_after)
            (let zero = ap length none in
            first given xs ys e (omega (arith, known, wide, long, some))
            (omega (arith, known, wide, long, some, same_length, left, zero)) (ap (entry_at ys) (sym at) ∙ here)
            (λ i within. others i (omega (arith, within, known, wide)) (λ q. absurd (omega (arith, q, at, within))))
            (subst (λ f. IsListed given xs f) none h.listed) uses (mine ∙ at))
      ])

-- the tournament after it
pub after : (was is_few : Bool) (few_was few : List Entry) (leaves size given given_after : ℕ) (xs ys : List Entry)
    (free free_after : List ℕ) (x : ℕ) (e : Entry)
    → IsTournament was few_was (extent leaves size given) xs free → length ys ≡ length xs
    → (is_few ≡ true → IsFew few leaves ys) → (is_few ≡ false → IsPlayed leaves ys)
    → entry_at ys x ≡ e → (never < e.moment → e ≡ free_entry)
    → ((i : ℕ) → i < leaves → i ≢ x → entry_at ys i ≡ entry_at xs i)
    → x < given_after → given ≤ given_after → given_after ≤ size
    → IsListed given_after ys free_after → IsTournament is_few few (extent leaves size given_after) ys free_after
after was is_few few_was few leaves size given given_after xs ys free free_after x e h same heap played here bare others low
    more known listed = record {
      some = h.some;
      at_most = h.at_most;
      long = ap suc same ∙ h.long;
      wide = h.wide;
      known = known;
      heap = heap;
      played = played;
      bare = λ i within unused. elim (cases_eq i x) [
        | inl is ↦ (let at : entry_at ys i ≡ e = ap (entry_at ys) is ∙ here in
            let moment = ap (λ (e : Entry). e.moment) at in at ∙ bare (omega (arith, moment, unused)))
        | inr off ↦ (let at = others i within off in
            let moment = ap (λ (e : Entry). e.moment) at in at ∙ h.bare i within (omega (arith, moment, unused)))
      ];
      listed = listed;
      unused = λ i from within. (let moment = ap (λ (e : Entry). e.moment)
          (others i within (λ q. absurd (omega (arith, q, from, low)))) in
          let was = h.unused i (omega (arith, from, more)) within in omega (arith, moment, was));
    }
