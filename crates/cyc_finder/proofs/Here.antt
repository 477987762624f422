-- The entries of slots: where that of a slot stands, and what a change of one slot does to them.
use Rattle.std.proofs.Common.{◌≡◌, ◌≢◌, ℕ, zero, suc, ◌+◌, ◌-◌, ◌<◌, ◌≤◌, inl, inr, Bool, false, cond, List, [], ◌∷◌, ◌++◌}
use Rattle.std.proofs.Common.{length, get_or, set, take, drop, drop-cons, Option, Some, None, max, refl, sym, ap}
use Rattle.std.proofs.Common.{◌∙◌, subst, arith}
use Rattle.std.specs.Prelude.{is_some, insert, remove}
use Rattle.std.specs.List.{filter, slice_get, AllWithin}
use Rattle.std.proofs.lemmas.Bool.{cases_lt}
use Rattle.std.proofs.lemmas.Option.{slice_get_cases}
use Rattle.std.proofs.lemmas.List.{length-append, length-take, take-append-drop, take-take, drop-take, take_all, take_more}
use Rattle.std.proofs.lemmas.List.{take_at, drop_at, get_or_at, get_or_default, set_split}
use Rattle.std.proofs.lemmas.List.Elements.{filter_map-append}
use Rattle.std.proofs.lemmas.List.Kept.{AllPairs-filter}
use Rattle.cyc_finder.specs.declared.slots.First.{First}
use Rattle.cyc_finder.specs.Sorted.{Rises, IsAt, IsGap, IsPassed, ComesAfter, IsNextAfter}
use Rattle.cyc_finder.specs.Indexes.{Entry, id_in, index_of}
use Rattle.cyc_finder.specs.Slots.{slot_id, entry_of, entries_of, IsGoneSlot, IsHereAt, IsFirst, SlotView}
use Rattle.cyc_finder.proofs.Entries.{index_read, index_gap}

-- how many of the slots before a position are of cyclics that are here
abbrev pub rank : List SlotView → ℕ → ℕ
rank xs p = length (entries_of (take p xs))

-- what is read where there is no slot
abbrev pub some_slot : SlotView
some_slot = record { id = 0; index = None }

take_sum : (xs : List SlotView) (n m : ℕ) → take (n + m) xs ≡ take n xs ++ take m (drop n xs)
take_sum xs n m = sym (take-append-drop n (take (n + m) xs))
    ∙ (λ y. take-take n (n + m) xs (omega arith) y ++ drop-take n m xs y)

cons_few : (id : ℕ) (o : Option ℕ) (xs : List SlotView) → length (entries_of (record { id = id; index = o } ∷ xs))
    ≤ length (entries_of xs) + 1
cons_few id None xs = omega arith
cons_few id (Some i) xs = omega arith

few_entries : (xs : List SlotView) → length (entries_of xs) ≤ length xs
few_entries [] = omega arith
few_entries (x ∷ xs) = let a = cons_few x.id x.index xs in let b = few_entries xs in omega (arith, a, b)

rank_sum : (xs : List SlotView) (n m : ℕ) → rank xs (n + m) ≡ rank xs n + length (entries_of (take m (drop n xs)))
rank_sum xs n m = ap (λ ys. length (entries_of ys)) (take_sum xs n m)
    ∙ ap length (filter_map-append entry_of (take n xs) (take m (drop n xs)))
    ∙ length-append (entries_of (take n xs)) (entries_of (take m (drop n xs)))

pub rank_up : (xs : List SlotView) (p q : ℕ) → p ≤ q → rank xs p ≤ rank xs q
rank_up xs p q up = let s = rank_sum xs p (q - p) in let e : rank xs (p + (q - p)) ≡ rank xs q =
    ap (rank xs) (let n : p + (q - p) ≡ q = omega (arith, up) in n) in omega (arith, s, e)

pub rank_near : (xs : List SlotView) (p q : ℕ) → p ≤ q → rank xs q ≤ rank xs p + (q - p)
rank_near xs p q up = let s = rank_sum xs p (q - p) in let e : rank xs (p + (q - p)) ≡ rank xs q =
    ap (rank xs) (let n : p + (q - p) ≡ q = omega (arith, up) in n) in
    let f = few_entries (take (q - p) (drop p xs)) in let l = length-take (q - p) (drop p xs) in omega (arith, s, e, f, l)

pub rank_all : (xs : List SlotView) (p : ℕ) → length xs ≤ p → rank xs p ≡ length (entries_of xs)
rank_all xs p past = ap (λ ys. length (entries_of ys)) (take_all p xs past)

pub split : (xs : List SlotView) (p : ℕ) (d : SlotView) → p < length xs
    → entries_of xs ≡ entries_of (take p xs) ++ entries_of (get_or xs p d ∷ drop (suc p) xs)
split xs p d low = ap entries_of (sym (take-append-drop p xs) ∙ ap (λ ys. take p xs ++ ys) (drop-cons xs p d low))
    ∙ filter_map-append entry_of (take p xs) (get_or xs p d ∷ drop (suc p) xs)

-- a list of entries in two parts, of which the second gets or loses its first
joined : (ys a b : List Entry) (n : ℕ) (e : Entry) → ys ≡ a ++ b → length a ≡ n → a ++ e ∷ b ≡ insert ys n e
joined ys a b n e is long = (λ y. sym (ap (take n) is ∙ take_at a b n long) y ++ e ∷ sym (ap (drop n) is ∙ drop_at a b n long) y)

push_long : (a : List Entry) (e : Entry) (n : ℕ) → length a ≡ n → length (a ++ e ∷ []) ≡ suc n
push_long a e n long = length-append a (e ∷ []) ∙ omega (arith, long)

parted : (ys a b : List Entry) (n : ℕ) (e : Entry) → ys ≡ a ++ e ∷ b → length a ≡ n → a ++ b ≡ remove ys n
parted ys a b n e is long = (λ y. sym (ap (take n) is ∙ take_at a (e ∷ b) n long) y
    ++ sym (ap (drop (suc n)) (is ∙ push) ∙ drop_at (a ++ e ∷ []) b (suc n) (push_long a e n long)) y)
  where
    push : a ++ e ∷ b ≡ (a ++ e ∷ []) ++ b
    push = sym (appended a)
      where
        appended : (a : List Entry) → (a ++ e ∷ []) ++ b ≡ a ++ e ∷ b
        appended [] = refl
        appended (x ∷ a) = ap (λ zs. x ∷ zs) (appended a)

-- the slot of a cyclic that is here
module _ (xs : List SlotView) (p id i : ℕ) (low : p < length xs)
    (is : (d : SlotView) → get_or xs p d ≡ record { id = id; index = Some i }) where
  here_split : entries_of xs ≡ entries_of (take p xs) ++ record { id = id; index = i } ∷ entries_of (drop (suc p) xs)
  here_split = split xs p some_slot low
      ∙ ap (λ (s : SlotView). entries_of (take p xs) ++ entries_of (s ∷ drop (suc p) xs)) (is some_slot)

  pub here_low : rank xs p < length (entries_of xs)
  here_low = let s = ap length here_split in
      let l = length-append (entries_of (take p xs)) (record { id = id; index = i } ∷ entries_of (drop (suc p) xs)) in
      omega (arith, s, l)

  pub here_at : (d : Entry) → get_or (entries_of xs) (rank xs p) d ≡ record { id = id; index = i }
  here_at d = ap (λ ys. get_or ys (rank xs p) d) here_split
      ∙ get_or_at (entries_of (take p xs)) (record { id = id; index = i }) (entries_of (drop (suc p) xs)) d (rank xs p) refl

  pub here_next : rank xs (p + 1) ≡ rank xs p + 1
  here_next = ap (λ ys. length (entries_of ys)) (take_more xs p some_slot low ∙ ap (λ s. take p xs ++ s ∷ []) (is some_slot))
      ∙ ap length (filter_map-append entry_of (take p xs) (record { id = id; index = Some i } ∷ []))
      ∙ length-append (entries_of (take p xs)) (record { id = id; index = i } ∷ [])

  pub is_here : IsAt id_in (entries_of xs) id (rank xs p)
  is_here = record { in_range = here_low; has_id = λ d. ap id_in (here_at d) }

  -- it goes
  pub gone_removed : entries_of (set xs p (record { id = id; index = None })) ≡ remove (entries_of xs) (rank xs p)
  gone_removed = ap entries_of (set_split xs p (record { id = id; index = None }) low)
      ∙ filter_map-append entry_of (take p xs) (record { id = id; index = None } ∷ drop (suc p) xs)
      ∙ parted (entries_of xs) (entries_of (take p xs)) (entries_of (drop (suc p) xs)) (rank xs p)
      (record { id = id; index = i }) here_split refl

-- a cyclic that was gone comes again
pub come_again : (xs : List SlotView) (p id i : ℕ) → p < length xs
    → ((d : SlotView) → get_or xs p d ≡ record { id = id; index = None })
    → entries_of (set xs p (record { id = id; index = Some i }))
    ≡ insert (entries_of xs) (rank xs p) (record { id = id; index = i })
come_again xs p id i low is = ap entries_of (set_split xs p (record { id = id; index = Some i }) low)
    ∙ filter_map-append entry_of (take p xs) (record { id = id; index = Some i } ∷ drop (suc p) xs)
    ∙ joined (entries_of xs) (entries_of (take p xs)) (entries_of (drop (suc p) xs)) (rank xs p) (record { id = id; index = i })
    (split xs p some_slot low
    ∙ ap (λ (s : SlotView). entries_of (take p xs) ++ entries_of (s ∷ drop (suc p) xs)) (is some_slot)) refl

-- a new one comes
pub come : (xs : List SlotView) (p id i : ℕ)
    → entries_of (insert xs p (record { id = id; index = Some i }))
    ≡ insert (entries_of xs) (rank xs p) (record { id = id; index = i })
come xs p id i = filter_map-append entry_of (take p xs) (record { id = id; index = Some i } ∷ drop p xs)
    ∙ joined (entries_of xs) (entries_of (take p xs)) (entries_of (drop p xs)) (rank xs p) (record { id = id; index = i })
    (ap entries_of (sym (take-append-drop p xs)) ∙ filter_map-append entry_of (take p xs) (drop p xs)) refl

-- the position of an entry
pub record Spot (xs : List SlotView) (k : ℕ) : Type 0 where
  pub position : ℕ
  pub low : position < length xs
  pub id : ℕ
  pub index : ℕ
  pub is : (d : SlotView) → get_or xs position d ≡ record { id = id; index = Some index }
  pub rank_is : rank xs position ≡ k
  pub entry : (d : Entry) → get_or (entries_of xs) k d ≡ record { id = id; index = index }

behind : (id : ℕ) (o : Option ℕ) (xs : List SlotView) → ((k : ℕ) → k < length (entries_of xs) → Spot xs k) → (k : ℕ)
    → k < length (entries_of (record { id = id; index = o } ∷ xs)) → Spot (record { id = id; index = o } ∷ xs) k
behind id None xs rest k low = let a = rest k low in record {
  position = suc a.position;
  low = (let l = a.low in omega (arith, l));
  id = a.id;
  index = a.index;
  is = a.is;
  rank_is = a.rank_is;
  entry = a.entry;
}
behind id (Some i) xs rest zero low = record {
  position = 0;
  low = omega arith;
  id = id;
  index = i;
  is = λ d. refl;
  rank_is = refl;
  entry = λ d. refl;
}
behind id (Some i) xs rest (suc k) low = let a = rest k (omega (arith, low)) in record {
  position = suc a.position;
  low = (let l = a.low in omega (arith, l));
  id = a.id;
  index = a.index;
  is = a.is;
  rank_is = ap suc a.rank_is;
  entry = a.entry;
}

pub spot_in : (xs : List SlotView) (k : ℕ) → k < length (entries_of xs) → Spot xs k
spot_in [] k low = absurd (omega (arith, low))
spot_in (x ∷ xs) k low = behind x.id x.index xs (spot_in xs) k low

not_gone : (s : SlotView) (id i : ℕ) → s ≡ record { id = id; index = Some i } → s.index ≢ None
not_gone s id i is gone = let no : Some i ≡ None = ap (λ (t : SlotView). t.index) (sym is) ∙ gone in absurd (cc)

-- what is true of the ids of all that are here before a position
pub before_rank : (xs : List SlotView) (p : ℕ) (P : ℕ → Type 0)
    → ((j : ℕ) (d : SlotView) → j < p → j < length xs → (get_or xs j d).index ≢ None → P (get_or xs j d).id) → (k : ℕ) (d : Entry)
    → k < rank xs p → k < length (entries_of xs) → P (get_or (entries_of xs) k d).id
before_rank xs p P all k d less low = let a = spot_in xs k low in
    let near : a.position < p = elim (cases_lt a.position p) [
      | inl l ↦ l
      | inr m ↦ absurd (let u = rank_up xs p a.position m in let r = a.rank_is in omega (arith, u, r, less))
    ] in
    subst P (ap slot_id (a.is some_slot) ∙ ap id_in (sym (a.entry d)))
    (all a.position some_slot near a.low (not_gone (get_or xs a.position some_slot) a.id a.index (a.is some_slot)))

-- and from a position on
pub from_rank : (xs : List SlotView) (p : ℕ) (P : ℕ → Type 0)
    → ((j : ℕ) (d : SlotView) → p ≤ j → j < length xs → (get_or xs j d).index ≢ None → P (get_or xs j d).id) → (k : ℕ) (d : Entry)
    → rank xs p ≤ k → k < length (entries_of xs) → P (get_or (entries_of xs) k d).id
from_rank xs p P all k d past low = let a = spot_in xs k low in
    let near : p ≤ a.position = elim (cases_lt a.position p) [
      | inl l ↦
          absurd (let u = rank_up xs (a.position + 1) p (omega (arith, l)) in let r = a.rank_is in
          let n = here_next xs a.position a.id a.index a.low a.is in omega (arith, u, r, n, past))
      | inr m ↦ m
    ] in
    subst P (ap slot_id (a.is some_slot) ∙ ap id_in (sym (a.entry d)))
    (all a.position some_slot near a.low (not_gone (get_or xs a.position some_slot) a.id a.index (a.is some_slot)))

pub rank_low : (xs : List SlotView) (p : ℕ) → p ≤ length xs → rank xs p ≤ length (entries_of xs)
rank_low xs p low = let u = rank_up xs p (length xs) low in let a = rank_all xs (length xs) (omega arith) in omega (arith, u, a)

-- where no entry has the id
pub gap_here : (xs : List SlotView) (id p : ℕ) → p ≤ length xs
    → ((j : ℕ) (d : SlotView) → j < p → (get_or xs j d).id < id)
    → ((j : ℕ) (d : SlotView) → p ≤ j → j < length xs → (get_or xs j d).index ≢ None → id < (get_or xs j d).id)
    → IsGap id_in (entries_of xs) id (rank xs p)
gap_here xs id p low less more = record {
  in_range = rank_low xs p low;
  smaller_before = λ k d small.
      before_rank xs p (λ n. n < id) (λ j e near in_range here. less j e near) k d small
      (let r = rank_low xs p low in omega (arith, small, r));
  greater_after = λ k d past small. from_rank xs p (λ n. id < n) more k d past small;
}

-- one that has no index
pub none_is : (o : Option ℕ) → is_some o ≡ false → o ≡ None
none_is None e = refl
none_is (Some i) e = absurd (cc)

module _ (xs : List SlotView) (rises : Rises slot_id xs) where
  pub entries_rise : Rises id_in (entries_of xs)
  entries_rise i j d less low =
      let a = spot_in xs i (omega (arith, less, low)) in let b = spot_in xs j low in
      let before : a.position < b.position = elim (cases_lt a.position b.position) [
        | inl l ↦ l
        | inr m ↦
            absurd (let u = rank_up xs b.position a.position m in let ra = a.rank_is in let rb = b.rank_is in
            omega (arith, u, ra, rb, less))
      ] in
      let up = rises a.position b.position some_slot before b.low in
      let ia = ap slot_id (a.is some_slot) in let ib = ap slot_id (b.is some_slot) in
      let ea = ap id_in (a.entry d) in let eb = ap id_in (b.entry d) in omega (arith, up, ia, ib, ea, eb)

  module _ (id p : ℕ) (at : IsAt slot_id xs id p) where
    slot_is : (o : Option ℕ) → (get_or xs p some_slot).index ≡ o → (d : SlotView) → get_or xs p d ≡ record { id = id; index = o }
    slot_is o is d = get_or_default xs p d some_slot at.in_range ∙ (λ y. record { id = at.has_id some_slot y; index = is y })

    -- the slot of the id is of one that is gone: no entry has it
    pub gap_gone : (get_or xs p some_slot).index ≡ None → IsGap id_in (entries_of xs) id (rank xs p)
    gap_gone gone = gap_here xs id p (let l = at.in_range in omega (arith, l))
        (λ j d near. let up = rises j p d near at.in_range in let i = at.has_id d in omega (arith, up, i))
        (λ j d past low here. elim (cases_lt p j) [
          | inl less ↦ let up = rises p j d less low in let i = at.has_id d in omega (arith, up, i)
          | inr most ↦
              let same : p ≡ j = omega (arith, past, most) in
              absurd (here (ap (λ n. (get_or xs n d).index) (sym same) ∙ ap (λ (s : SlotView). s.index) (slot_is None gone d)))
        ])

    by_index : (o : Option ℕ) → (get_or xs p some_slot).index ≡ o → index_of id (entries_of xs) ≡ o
    by_index None gone = index_gap (entries_of xs) id (rank xs p) (gap_gone gone)
    by_index (Some i) is = let s = slot_is (Some i) is in let e : Entry = record { id = id; index = i } in
        index_read (entries_of xs) entries_rise id (rank xs p) (is_here xs p id i at.in_range s) e
        (sym (here_at xs p id i at.in_range s e))

    -- the index of an id that has a slot
    pub index_is : (d : SlotView) → index_of id (entries_of xs) ≡ (get_or xs p d).index
    index_is d = by_index (get_or xs p some_slot).index refl
        ∙ ap (λ (s : SlotView). s.index) (get_or_default xs p some_slot d at.in_range)

    -- that of one that is gone
    pub gone_is : index_of id (entries_of xs) ≡ None → (d : SlotView) → get_or xs p d ≡ record { id = id; index = None }
    gone_is none = slot_is None (sym (by_index (get_or xs p some_slot).index refl) ∙ none)

    pub here_is : (i : ℕ) → index_of id (entries_of xs) ≡ Some i → (d : SlotView)
        → get_or xs p d ≡ record { id = id; index = Some i }
    here_is i some = slot_is (Some i) (sym (by_index (get_or xs p some_slot).index refl) ∙ some)

  module _ (id p : ℕ) (gap : IsGap slot_id xs id p) where
    pub gap_is : IsGap id_in (entries_of xs) id (rank xs p)
    gap_is = gap_here xs id p gap.in_range gap.smaller_before (λ j d past low here. gap.greater_after j d past low)

    pub index_none : index_of id (entries_of xs) ≡ None
    index_none = index_gap (entries_of xs) id (rank xs p) gap_is

  -- ids rise by one at least
  pub far : (n i j : ℕ) (d : SlotView) → j ≡ i + n → j < length xs → (get_or xs i d).id + n ≤ (get_or xs j d).id
  far zero i j d is low = let same : j ≡ i = omega (arith, is) in let e = ap (λ k. (get_or xs k d).id) same in omega (arith, e)
  far (suc n) i j d is low = let rest = far n i (i + n) d refl (omega (arith, is, low)) in
      let up = rises (i + n) j d (omega (arith, is)) low in omega (arith, rest, up)

  -- a cyclic that is here and that stands as far from the first as its id says is at the position that the base says
  module _ (first : First) (is : IsFirst xs first) (id : ℕ) (e : Entry) (at_first : slice_get (entries_of xs) 0 ≡ Some e)
      (up : e.id ≤ id) (at : IsAt id_in (entries_of xs) id (id - e.id)) where
    some_first : 0 < length (entries_of xs)
    some_first = (let l = at.in_range in omega (arith, l))

    a : Spot xs 0
    a = spot_in xs 0 some_first

    b : Spot xs (id - e.id)
    b = spot_in xs (id - e.id) at.in_range

    behind_first : (k : ℕ) (q : Spot xs k) → first.position ≤ q.position
    behind_first k q = elim (cases_lt q.position first.position) [
      | inl l ↦
          absurd (not_gone (get_or xs q.position some_slot) q.id q.index (q.is some_slot)
          (is.gone_before q.position some_slot (omega arith) l))
      | inr m ↦ m
    ]

    first_low : first.position < length xs
    first_low = (let l = a.low in let m = behind_first 0 a in omega (arith, l, m))

    named : (o : Option ℕ) → (get_or xs first.position some_slot).index ≡ o → (i : ℕ)
        × ((get_or xs first.position some_slot).index ≡ Some i)
    named None is_none = absurd (is.here first_low some_slot is_none)
    named (Some i) is_some = (i, is_some)

    e_is : e ≡ get_or (entries_of xs) 0 e
    e_is = elim (slice_get_cases (entries_of xs) 0).1 [
      | inl (x, within, there, same) ↦
          let y : e ≡ x = some_same e x (sym at_first ∙ there) in
          y ∙ sym same ∙ get_or_default (entries_of xs) 0 x e some_first
      | inr (past, none) ↦ absurd (let l = some_first in omega (arith, past, l))
    ]
      where
        some_same : (x y : Entry) → Some x ≡ Some y → x ≡ y
        some_same x y h = cc

    first_is : first.position ≡ a.position
    first_is = elim (cases_lt first.position a.position) [
      | inl less ↦
          absurd (let (i, some) = named (get_or xs first.position some_slot).index refl in
          let s : (d : SlotView) → get_or xs first.position d
          ≡ record { id = (get_or xs first.position some_slot).id; index = Some i } =
          λ d. get_or_default xs first.position d some_slot first_low
          ∙ (λ y. record { id = (get_or xs first.position some_slot).id; index = some y }) in
          let n = here_next xs first.position (get_or xs first.position some_slot).id i first_low s in
          let u = rank_up xs (first.position + 1) a.position (omega (arith, less)) in let r = a.rank_is in omega (arith, n, u, r))
      | inr most ↦ (let m = behind_first 0 a in omega (arith, most, m))
    ]

    pub guessed : (first.base ≤ id) × IsHereAt xs id (id - first.base)
    guessed =
        let f = first_is in
        let base = is.base_is first_low some_slot in
        let at_a : (get_or xs first.position some_slot).id ≡ e.id =
        ap (λ k. (get_or xs k some_slot).id) f ∙ ap slot_id (a.is some_slot) ∙ ap id_in (sym (a.entry e)) ∙ ap id_in (sym e_is) in
        let at_b : (get_or xs b.position some_slot).id ≡ id =
        ap slot_id (b.is some_slot) ∙ ap id_in (sym (b.entry e)) ∙ at.has_id e in
        let up_b = behind_first (id - e.id) b in
        let rise = far (b.position - first.position) first.position b.position some_slot (omega (arith, up_b)) b.low in
        let near = rank_near xs first.position b.position up_b in
        let rank_a : rank xs first.position ≡ 0 = ap (rank xs) f ∙ a.rank_is in let rank_b = b.rank_is in
        let there : id - first.base ≡ b.position = omega (arith, base, at_a, at_b, rise, near, rank_a, rank_b, up, up_b) in (
          omega (arith, base, at_a, up),
          record {
            at = record {
              in_range = (let l = b.low in omega (arith, there, l));
              has_id = λ d. ap (λ k. (get_or xs k d).id) there
                  ∙ ap (λ (s : SlotView). s.id) (get_or_default xs b.position d some_slot b.low) ∙ at_b;
            };
            here = λ d gone.
                not_gone (get_or xs b.position d) b.id b.index (b.is d)
                (sym (ap (λ k. (get_or xs k d).index) there) ∙ gone);
          },
        )

-- the entry to which a walk comes next, where the slots from a position on come after what it has passed
module _ (xs : List SlotView) (first : First) (is : IsFirst xs first) (passed : Option ℕ) (a from position : ℕ)
    (less : AllWithin (λ (s : SlotView). IsPassed passed s.id) xs 0 a)
    (more : AllWithin (λ (s : SlotView). ComesAfter passed s.id) xs a (length xs))
    (at : from ≡ max a first.position) (gone : AllWithin IsGoneSlot xs from position) where
  seen : (j : ℕ) (d : SlotView) → j < position → j < length xs → (get_or xs j d).index ≢ None → IsPassed passed (get_or xs j d).id
  seen j d near low here = elim (cases_lt j a) [
    | inl l ↦ less j d (omega arith) l
    | inr m ↦ elim (cases_lt j first.position) [
      | inl l ↦ absurd (here (is.gone_before j d (omega arith) l))
      | inr n ↦ absurd (here (gone j d (omega (arith, at, m, n)) near))
    ]
  ]

  pub none_after : length xs ≤ position → (k : ℕ) (d : Entry) → k < length (entries_of xs)
      → IsPassed passed (get_or (entries_of xs) k d).id
  none_after past k d within = before_rank xs position (IsPassed passed) seen k d
      (let r = rank_all xs position past in omega (arith, r, within)) within

  pub next_is : from ≤ position → (id i : ℕ) (within : position < length xs)
      (slot : (d : SlotView) → get_or xs position d ≡ record { id = id; index = Some i })
      → IsNextAfter id_in (entries_of xs) passed (rank xs position)
  next_is up id i within slot = record {
    in_range = here_low xs position id i within slot;
    passed_before = λ k d small.
        before_rank xs position (IsPassed passed) seen k d small
        (let r = here_low xs position id i within slot in omega (arith, small, r));
    after_from = from_rank xs position (ComesAfter passed)
        (λ j d past within here. more j d (omega (arith, past, up, at)) within);
  }

-- what is left of a packed list
abbrev pub tests_here : SlotView → Bool
tests_here s = is_some s.index

packed_cons : (id : ℕ) (o : Option ℕ) (xs ys : List SlotView) → entries_of ys ≡ entries_of xs
    → entries_of (cond (is_some o) (record { id = id; index = o } ∷ ys) ys) ≡ entries_of (record { id = id; index = o } ∷ xs)
packed_cons id None xs ys same = same
packed_cons id (Some i) xs ys same = ap (λ zs. record { id = id; index = i } ∷ zs) same

pub packed : (xs : List SlotView) → entries_of (filter tests_here xs) ≡ entries_of xs
packed [] = refl
packed (x ∷ xs) = packed_cons x.id x.index xs (filter tests_here xs) (packed xs)

long_cons : (id : ℕ) (o : Option ℕ) (xs ys : List SlotView) → length ys ≡ length (entries_of xs)
    → length (cond (is_some o) (record { id = id; index = o } ∷ ys) ys) ≡ length (entries_of (record { id = id; index = o } ∷ xs))
long_cons id None xs ys same = same
long_cons id (Some i) xs ys same = ap suc same

pub packed_long : (xs : List SlotView) → length (filter tests_here xs) ≡ length (entries_of xs)
packed_long [] = refl
packed_long (x ∷ xs) = long_cons x.id x.index xs (filter tests_here xs) (packed_long xs)

pub packed_rise : (xs : List SlotView) → Rises slot_id xs → Rises slot_id (filter tests_here xs)
packed_rise xs rises = AllPairs-filter (λ (x y : SlotView). x.id < y.id) tests_here xs rises
