-- A cyclic that comes between others: the slot of one that is gone is dropped, and its own comes in where its id stands among
-- the rest.
use Rattle.std.proofs.Common.{◌≡◌, ℕ, suc, ◌+◌, ◌-◌, ◌<◌, ◌≤◌, ◌⊎◌, inl, inr, List, ◌∷◌, ◌++◌}
use Rattle.std.proofs.Common.{length, get_or, set, take, drop}
use Rattle.std.proofs.Common.{Some, None, sym, ap, ◌∙◌, subst, arith}
use Rattle.std.specs.List.{insert, remove, AllWithin, HoldsAt, CopiedTo, SameBelow, SameFrom}
use Rattle.std.proofs.lemmas.Bool.{cases_lt}
use Rattle.std.proofs.lemmas.List.{get_or-set_same, get_or-set_other, length-set, same_lists}
use Rattle.std.proofs.lemmas.List.Edits.{length-insert, get_or-insert_below, get_or-insert_at, get_or-insert_above}
use Rattle.std.proofs.lemmas.List.Edits.{length-remove, get_or-remove_below, get_or-remove_above}
use Rattle.std.proofs.lemmas.List.Elements.{filter_map-append}
use Rattle.cyc_finder.specs.Slots.{SlotView}
use Rattle.cyc_finder.specs.Sorted.{Rises, IsGap}
use Rattle.cyc_finder.specs.Indexes.{Entry, id_in}
use Rattle.cyc_finder.specs.Slots.{slot_id, entry_of, entries_of, IsGoneSlot, IsHereSlot}
use Rattle.cyc_finder.proofs.RisingIds.{is_at_position, rises_removed, rises_inserted}
use Rattle.cyc_finder.proofs.Here.{rank, some_slot, split, gap_is, come}

-- the slots from a position on move up by one over another
module _ (xs mid : List SlotView) (p g : ℕ) (s : SlotView) (up : p ≤ g) (low : g < length xs) (long : length mid ≡ length xs)
    (copied : CopiedTo xs mid p (p + 1) (g - p)) (below : SameBelow xs mid (p + 1))
    (behind : SameFrom xs mid (p + 1 + (g - p))) where
  abbrev ys : List SlotView
  ys = remove xs g

  shorter : length ys + 1 ≡ length xs
  shorter = length-remove xs g low

  in_ys : p ≤ length ys
  in_ys = (let l = shorter in omega (arith, l, up, low))

  above : (k : ℕ) (d : SlotView) → p < k → get_or (insert ys p s) k d ≡ get_or ys (k - 1) d
  above k d past = ap (λ n. get_or (insert ys p s) n d) (let n : k ≡ k - 1 + 1 = omega (arith, past) in n)
      ∙ get_or-insert_above ys p s d (k - 1) (omega (arith, past)) in_ys

  moved_to : (k : ℕ) (d : SlotView) → p < k → k ≤ g → get_or mid k d ≡ get_or ys (k - 1) d
  moved_to k d past most = copied k d (omega (arith, past)) (omega (arith, past, most))
      ∙ ap (λ n. get_or xs n d) (let n : p + (k - (p + 1)) ≡ k - 1 = omega (arith, past) in n)
      ∙ sym (get_or-remove_below xs g d (k - 1) (omega (arith, past, most)) low)

  stays : (k : ℕ) (d : SlotView) → g < k → get_or mid k d ≡ get_or ys (k - 1) d
  stays k d past = behind k d (omega (arith, past, up))
      ∙ ap (λ n. get_or xs n d) (let n : k ≡ k - 1 + 1 = omega (arith, past) in n)
      ∙ sym (get_or-remove_above xs g d (k - 1) (omega (arith, past)) low)

  each : (k : ℕ) (d : SlotView) → get_or (set mid p s) k d ≡ get_or (insert ys p s) k d
  each k d = elim (cases_lt k p) [
    | inl less ↦
        get_or-set_other mid p k s d (λ same. absurd (omega (arith, same, less))) ∙ below k d (omega (arith, less))
        ∙ sym (get_or-remove_below xs g d k (omega (arith, less, up)) low) ∙ sym (get_or-insert_below ys p s d k less in_ys)
    | inr most ↦ elim (cases_lt p k) [
      | inl past ↦
          get_or-set_other mid p k s d (λ same. absurd (omega (arith, same, past)))
          ∙ elim (cases_lt g k) [ inl far ↦ stays k d far | inr near ↦ moved_to k d past near ]
          ∙ sym (above k d past)
      | inr least ↦
          let same : k ≡ p = omega (arith, most, least) in
          ap (λ n. get_or (set mid p s) n d) same ∙ get_or-set_same mid p s d (omega (arith, long, up, low))
          ∙ sym (get_or-insert_at ys p s d in_ys) ∙ ap (λ n. get_or (insert ys p s) n d) (sym same)
    ]
  ]

  pub moved_up : set mid p s ≡ insert (remove xs g) p s
  moved_up = same_lists (set mid p s) (insert ys p s)
      (let a = length-set mid p s in let b = length-insert ys p s in_ys in let l = shorter in omega (arith, a, b, l, long))
      (λ k d _. each k d)

-- where a slot comes in that would stand at the gap
abbrev pub IsWay : List SlotView → ℕ → ℕ → Type 0
IsWay xs gap p = (p ≡ gap) ⊎ ((p + 1 ≡ gap) × HoldsAt IsGoneSlot xs p)

-- a cyclic of this id, which would stand at the gap, comes in at p, and none is gone from there up to g
pub record Comes (xs : List SlotView) (id gap p g : ℕ) : Type 0 where
  pub rises : Rises slot_id xs
  pub at : IsGap slot_id xs id gap
  pub way : IsWay xs gap p
  pub up : p ≤ g
  pub here : AllWithin IsHereSlot xs p g

module _ {xs : List SlotView} {id gap p g : ℕ} (c : Comes xs id gap p g) where
  in_way : p ≤ gap
  in_way = elim c.way [ inl same ↦ omega (arith, same) | inr (next, gone) ↦ omega (arith, next) ]

  before_way : (j : ℕ) (d : SlotView) → j < p → (get_or xs j d).id < id
  before_way j d less = c.at.smaller_before j d (let w = in_way in omega (arith, less, w))

  behind_way : (j : ℕ) (d : SlotView) → p < j → j < length xs → id < (get_or xs j d).id
  behind_way j d past low = c.at.greater_after j d
      (elim c.way [ inl same ↦ omega (arith, same, past) | inr (next, gone) ↦ omega (arith, next, past) ]) low

  at_way : (j : ℕ) (d : SlotView) → p ≤ j → j < g → j < length xs → id < (get_or xs j d).id
  at_way j d from less low = elim (cases_lt p j) [
    | inl past ↦ behind_way j d past low
    | inr most ↦
        c.at.greater_after j d
        (elim c.way [
          | inl same ↦ omega (arith, same, from)
          | inr (next, gone) ↦
              let e : j ≡ p = omega (arith, from, most) in
              absurd (c.here j d from less (subst (λ n. (get_or xs n d).index ≡ None) (sym e) (gone d)))
        ])
        low
  ]

  -- where none is gone from there on
  pub gap_whole : p ≤ length xs → length xs ≤ g → IsGap slot_id xs id p
  gap_whole within past = record {
    in_range = within;
    smaller_before = before_way;
    greater_after = λ j d from low. at_way j d from (omega (arith, past, low)) low;
  }

  module _ (low : g < length xs) (gone : HoldsAt IsGoneSlot xs g) where
    gap_left : IsGap slot_id (remove xs g) id p
    gap_left = let l = length-remove xs g low in record {
      in_range = omega (arith, l, c.up, low);
      smaller_before = λ j d less.
          subst (λ (s : SlotView). s.id < id) (sym (get_or-remove_below xs g d j (omega (arith, less, c.up)) low))
          (before_way j d less);
      greater_after = λ j d from small. elim (cases_lt j g) [
        | inl less ↦
            subst (λ (s : SlotView). id < s.id) (sym (get_or-remove_below xs g d j less low))
            (at_way j d from less (omega (arith, less, low)))
        | inr most ↦
            subst (λ (s : SlotView). id < s.id) (sym (get_or-remove_above xs g d j most low))
            (behind_way (j + 1) d (omega (arith, from)) (omega (arith, l, small)))
      ];
    }

    rest_rises : Rises slot_id (remove xs g)
    rest_rises = rises_removed slot_id xs c.rises (get_or xs g some_slot).id g (is_at_position slot_id xs g some_slot low)

    rest_entries : entries_of (remove xs g) ≡ entries_of xs
    rest_entries = filter_map-append entry_of (take g xs) (drop (suc g) xs)
        ∙ ap (λ (s : SlotView). entries_of (take g xs) ++ entries_of (s ∷ drop (suc g) xs)) (sym gone_slot)
        ∙ sym (split xs g some_slot low)
      where
        gone_slot : get_or xs g some_slot ≡ record { id = (get_or xs g some_slot).id; index = None }
        gone_slot = λ y. record { id = (get_or xs g some_slot).id; index = gone some_slot y }

    pub comes_rises : (s : SlotView) → s.id ≡ id → Rises slot_id (insert (remove xs g) p s)
    comes_rises s same = rises_inserted slot_id (remove xs g) id p gap_left rest_rises s same

    pub comes_in : (i : ℕ) → (k : ℕ) × IsGap id_in (entries_of xs) id k
        × (entries_of (insert (remove xs g) p (record { id = id; index = Some i }))
        ≡ insert (entries_of xs) k (record { id = id; index = i }))
    comes_in i = subst (λ (es : List Entry). (k : ℕ) × IsGap id_in es id k
        × (entries_of (insert (remove xs g) p (record { id = id; index = Some i }))
        ≡ insert es k (record { id = id; index = i })))
        rest_entries
        (rank (remove xs g) p, gap_is (remove xs g) rest_rises id p gap_left, come (remove xs g) p id i)
