-- The positions of a level at which no cyclic is kept: one that is taken, one that is left, and that there is always another.
use Rattle.std.proofs.Common.{◌≡◌, ◌≢◌, ℕ, suc, ◌+◌, ◌<◌, ◌≤◌, eqb, cond, Bool, true, false, List, [], ◌∷◌, ◌++◌, length}
use Rattle.std.proofs.Common.{map, set, Some, None, inl, inr, refl, sym, ap, ◌∙◌, subst, arith, eq-eqb, ne_eqb, pow_mono}
use Rattle.std.specs.Bool.{then_some}
use Rattle.std.specs.Option.{option_map}
use Rattle.std.proofs.lemmas.Bool.{cases_lt, cases_eq}
use Rattle.std.proofs.lemmas.List.{length-set, get_or-set_same, get_or-set_other}
use Rattle.cyc_types.specs.Limits.{cyclics, greatest_bank}
use Rattle.cyc_finder.specs.Indexes.{Entry, index_of}
use Rattle.cyc_level.specs.Level.{AdmittedCyclic, bank_size, times_in}
use Rattle.cyc_level.specs.Lawful.{Lawful}
use Rattle.cyc_level.specs.Events.{IsUnused}
use Rattle.cyc_level.proofs.Maps.{times_append}
use Rattle.cyc_level.proofs.Room.{few}
use Rattle.cyc_core.specs.declared.admitted.Kept.{Kept}
use Rattle.cyc_core.specs.Tables.{Tables, lookup, cyclic_of_entry, level_of}
use Rattle.cyc_core.specs.Shown.{nothing_kept, kept_id, table_of, AreKept, FreePositions}
use Rattle.cyc_core.proofs.Keeping.{there, is_here, kept_low, named_entry, some_same}

at_most_one : (b : Bool) → cond b 0 1 ≤ 1
at_most_one true = omega arith
at_most_one false = omega arith

-- the positions that are free, where one is taken, where one is left, and where the counts of a cyclic change
module _ (kept : List Kept) (free : List ℕ) (number position : ℕ) (at : number ≡ position) (new : Kept) where
  one_more : (p : ℕ) → times_in p (position ∷ free) ≡ cond (eqb p number) 1 0 + times_in p free
  one_more p = ap (λ n. cond (eqb p n) 1 0 + times_in p free) (sym at)

  same_long : length (set kept number new) ≡ length kept
  same_long = length-set kept number new

  module _ (low : number < length kept) where
    -- what holds of each position holds of this one, and of all others
    each : (times : List ℕ) → times_in number times ≡ cond new.here 0 1
        → ((p : ℕ) → p ≢ number → p < length kept → times_in p times ≡ cond (there kept p).here 0 1)
        → ((p : ℕ) → 0 < times_in p times → p < length kept) → length kept ≤ cyclics → FreePositions (set kept number new) times
    each times own others below most = record {
      low = λ p some. let l = below p some in omega (arith, l, same_long);
      once = λ p l. elim (cases_eq p number) [
        | inl same ↦ ap (λ n. times_in n times) same ∙ own
            ∙ ap (λ (k : Kept). cond k.here 0 1) (sym (get_or-set_same kept number new nothing_kept low)
            ∙ ap (there (set kept number new)) (sym same))
        | inr ne ↦ others p ne (omega (arith, l, same_long))
            ∙ ap (λ (k : Kept). cond k.here 0 1) (sym (get_or-set_other kept number p new nothing_kept ne))
      ];
      few = omega (arith, most, same_long);
    }

  pub taken_free : FreePositions kept (position ∷ free) → new.here ≡ true → number < length kept
      → FreePositions (set kept number new) free
  taken_free t here low =
      let all : (p : ℕ) → p < length kept → cond (eqb p number) 1 0 + times_in p free ≡ cond (there kept p).here 0 1 =
      λ p l. sym (one_more p) ∙ t.once p l in
      each low free
      (let one = all number low in let same = ap (λ b. cond {A = ℕ} b 1 0) (eq-eqb number number refl) in
      let most = at_most_one (there kept number).here in let none = ap (λ b. cond {A = ℕ} b 0 1) here in
      omega (arith, one, same, most, none))
      (λ p ne l. let one = all p l in let no = ap (λ b. cond {A = ℕ} b 1 0) (ne_eqb p number ne) in omega (arith, one, no))
      (λ p some. t.low p (let one = one_more p in omega (arith, one, some)))
      t.few

  pub left_free : FreePositions kept free → (there kept number).here ≡ true → new.here ≡ false → number < length kept
      → FreePositions (set kept number new) (free ++ position ∷ [])
  left_free t was gone low =
      let sum : (p : ℕ) → times_in p (free ++ position ∷ []) ≡ times_in p free + cond (eqb p number) 1 0 =
      λ p. (let both = times_append p free (position ∷ []) in let one = one_more_of p in omega (arith, both, one)) in
      each low (free ++ position ∷ [])
      (let all = sum number in let none = t.once number low in let was_here = ap (λ b. cond {A = ℕ} b 0 1) was in
      let same = ap (λ b. cond {A = ℕ} b 1 0) (eq-eqb number number refl) in let now = ap (λ b. cond {A = ℕ} b 0 1) gone in
      omega (arith, all, none, was_here, same, now))
      (λ p ne l. let all = sum p in let one = t.once p l in let no = ap (λ b. cond {A = ℕ} b 1 0) (ne_eqb p number ne) in
      omega (arith, all, one, no))
      (λ p some. elim (cases_eq p number) [
        | inl same ↦ omega (arith, low, same)
        | inr ne ↦ t.low p (let all = sum p in let no = ap (λ b. cond {A = ℕ} b 1 0) (ne_eqb p number ne) in
            omega (arith, all, some, no))
      ])
      t.few
    where
      one_more_of : (p : ℕ) → times_in p (position ∷ []) ≡ cond (eqb p number) 1 0
      one_more_of p = let one = ap (λ n. cond {A = ℕ} (eqb p n) 1 0) (sym at) in omega (arith, one)

  pub counted_free : FreePositions kept free → number < length kept → new.here ≡ (there kept number).here
      → FreePositions (set kept number new) free
  counted_free t low here = each low free (t.once number low ∙ ap (λ b. cond {A = ℕ} b 0 1) (sym here)) (λ p ne l. t.once p l)
      t.low t.few

-- the list of free positions has room for one more where one is not free
pub room_left : (kept : List Kept) (free : List ℕ) → FreePositions kept free → (p : ℕ) → p < length kept
    → (there kept p).here ≡ true → length free < cyclics
room_left kept free t p low here =
    let most = few cyclics (p ∷ free) below once in omega (arith, most)
  where
    only : times_in p free ≡ 0
    only = t.once p low ∙ ap (λ b. cond {A = ℕ} b 0 1) here

    below : (q : ℕ) → 0 < times_in q (p ∷ free) → q < cyclics
    below q some = elim (cases_eq q p) [
      | inl same ↦ let f = t.few in omega (arith, same, low, f)
      | inr ne ↦
          let no = ap (λ b. cond {A = ℕ} b 1 0) (ne_eqb q p ne) in
          let l = t.low q (omega (arith, some, no)) in let f = t.few in omega (arith, l, f)
    ]

    once_free : (q : ℕ) → times_in q free ≤ 1
    once_free q = elim (cases_lt q (length kept)) [
      | inl l ↦ let o = t.once q l in let s = at_most_one (there kept q).here in omega (arith, o, s)
      | inr past ↦ elim (cases_lt 0 (times_in q free)) [
        | inl some ↦ let l = t.low q some in absurd (omega (arith, l, past))
        | inr none ↦ omega (arith, none)
      ]
    ]

    once : (q : ℕ) → times_in q (p ∷ free) ≤ 1
    once q = elim (cases_eq q p) [
      | inl same ↦ (let yes = ap (λ b. cond {A = ℕ} b 1 0) (eq-eqb q p same) in
          let none = ap (λ n. times_in n free) same ∙ only in omega (arith, yes, none))
      | inr ne ↦ let no = ap (λ b. cond {A = ℕ} b 1 0) (ne_eqb q p ne) in let o = once_free q in omega (arith, no, o)
    ]

-- a number that a list of them has is that of one of its positions
spot_of : (f : Kept → ℕ) (kept : List Kept) (y : ℕ) → 0 < times_in y (map f kept) → (p : ℕ) × (p < length kept)
    × (f (there kept p) ≡ y)
spot_of f [] y some = absurd (omega (arith, some))
spot_of f (x ∷ xs) y some = elim (cases_eq y (f x)) [
  | inl same ↦ (0, omega arith, sym same)
  | inr ne ↦
      let no = ap (λ b. cond {A = ℕ} b 1 0) (ne_eqb y (f x) ne) in
      let (p, low, is) = spot_of f xs y (omega (arith, some, no)) in (suc p, omega (arith, low), is)
]

-- where no two positions have the same number, none stands twice
spots_once : (f : Kept → ℕ) (kept : List Kept) → ((p q : ℕ) → p < length kept → q < length kept
    → f (there kept p) ≡ f (there kept q) → p ≡ q) → (y : ℕ) → times_in y (map f kept) ≤ 1
spots_once f [] apart y = omega arith
spots_once f (x ∷ xs) apart y =
    let rest = spots_once f xs (λ p q l m same. let next = apart (suc p) (suc q) (omega (arith, l)) (omega (arith, m)) same in
    omega (arith, next)) y in
    elim (cases_eq y (f x)) [
      | inl same ↦ elim (cases_lt 0 (times_in y (map f xs))) [
        | inl some ↦ absurd (let (p, low, is) = spot_of f xs y some in
            let one = apart 0 (suc p) (omega arith) (omega (arith, low)) (sym same ∙ sym is) in omega (arith, one))
        | inr none ↦ let yes = ap (λ b. cond {A = ℕ} b 1 0) (eq-eqb y (f x) same) in omega (arith, none, yes)
      ]
      | inr ne ↦ let no = ap (λ b. cond {A = ℕ} b 1 0) (ne_eqb y (f x) ne) in omega (arith, rest, no)
    ]

-- where each position has its cyclic, there are fewer than can be admitted, since the index of one more is unused
module _ (t : Tables) (kept : List Kept) (es : List Entry) (is : t.table ≡ table_of kept es) (law : Lawful (level_of t))
    (k : AreKept kept es) (full : FreePositions kept []) (index : ℕ) (unused : IsUnused (level_of t) index)
    (below : index < bank_size t.hard_bank) where
  here : (p : ℕ) → p < length kept → (there kept p).here ≡ true
  here p low = by (there kept p).here (full.once p low)
    where
      by : (b : Bool) → ◌≡◌ {A = ℕ} 0 (cond b 0 1) → b ≡ true
      by true e = refl
      by false e = absurd (omega (arith, e))

  kept_cyclic : (p : ℕ) → p < length kept → (c : AdmittedCyclic) × ((level_of t).cyclics (there kept p).id ≡ Some c)
      × (c.index ≡ (there kept p).index)
  kept_cyclic p low =
      let id = (there kept p).id in
      let named = (k.named id p).0 (ap (λ b. then_some b id) (here p low)) in (
        _,
        ap (option_map cyclic_of_entry) ((λ z. lookup id (is z)) ∙ named_entry kept es id p named),
        refl,
      )

  apart : (p q : ℕ) → p < length kept → q < length kept → (there kept p).index ≡ (there kept q).index → p ≡ q
  apart p q low high same =
      let (c, found, at) = kept_cyclic p low in
      let (d, found_too, at_too) = kept_cyclic q high in
      let one = law.distinct_indexes _ _ c d found found_too (at ∙ same ∙ sym at_too) in
      let named = (k.named (there kept p).id p).0 (ap (λ b. then_some b (there kept p).id) (here p low)) in
      let named_too = (k.named (there kept q).id q).0 (ap (λ b. then_some b (there kept q).id) (here q high)) in
      some_same _ _ (sym named ∙ ap (λ n. index_of n es) one ∙ named_too)

  most : bank_size t.hard_bank ≤ cyclics
  most = pow_mono {i = t.hard_bank} {j = greatest_bank} law.bank_bound

  pub one_more_fits : length kept < cyclics
  one_more_fits =
      let fits = few cyclics (index ∷ map (λ (x : Kept). x.index) kept) lower once in let long = length_map kept in
      omega (arith, fits, long)
    where
      length_map : (xs : List Kept) → length (map (λ (x : Kept). x.index) xs) ≡ length xs
      length_map [] = refl
      length_map (x ∷ xs) = ap suc (length_map xs)

      used : (y : ℕ) → 0 < times_in y (map (λ (x : Kept). x.index) kept) → (y ≢ index) × (y < cyclics)
      used y some =
          let (p, low, at) = spot_of (λ (x : Kept). x.index) kept y some in
          let (c, found, same) = kept_cyclic p low in
          let within = law.in_hard_bank _ c found in
          (λ e. unused _ c found (same ∙ at ∙ e), (let m = most in omega (arith, within, m, same, at)))

      lower : (y : ℕ) → 0 < times_in y (index ∷ map (λ (x : Kept). x.index) kept) → y < cyclics
      lower y some = elim (cases_eq y index) [
        | inl same ↦ let m = most in omega (arith, same, below, m)
        | inr ne ↦ let no = ap (λ b. cond {A = ℕ} b 1 0) (ne_eqb y index ne) in (used y (omega (arith, some, no))).1
      ]

      once : (y : ℕ) → times_in y (index ∷ map (λ (x : Kept). x.index) kept) ≤ 1
      once y = elim (cases_eq y index) [
        | inl same ↦ elim (cases_lt 0 (times_in y (map (λ (x : Kept). x.index) kept))) [
          | inl some ↦ absurd ((used y some).0 same)
          | inr none ↦ let yes = ap (λ b. cond {A = ℕ} b 1 0) (eq-eqb y index same) in omega (arith, none, yes)
        ]
        | inr ne ↦
            let no = ap (λ b. cond {A = ℕ} b 1 0) (ne_eqb y index ne) in
            let rest = spots_once (λ (x : Kept). x.index) kept apart y in omega (arith, no, rest)
      ]

-- the last of the free positions is taken
pub last_taken : (kept : List Kept) (free rest : List ℕ) (p : ℕ) → free ≡ rest ++ p ∷ [] → FreePositions kept free
    → FreePositions kept (p ∷ rest)
last_taken kept free rest p is t = record {
  low = λ q some. t.low q (let same = all q in omega (arith, same, some));
  once = λ q l. sym (all q) ∙ t.once q l;
  few = t.few;
}
  where
    all : (q : ℕ) → times_in q free ≡ times_in q (p ∷ rest)
    all q = let both = ap (times_in q) is ∙ times_append q rest (p ∷ []) in omega (arith, both)

-- at the first that is free nothing is kept
pub first_free : (kept : List Kept) (free : List ℕ) (p : ℕ) → FreePositions kept (p ∷ free) → kept_id (there kept p) ≡ None
first_free kept free p t = by (there kept p).here (t.once p (t.low p (let one = own in omega (arith, one))))
  where
    own : cond {A = ℕ} (eqb p p) 1 0 ≡ 1
    own = ap (λ b. cond {A = ℕ} b 1 0) (eq-eqb p p refl)

    by : (b : Bool) → times_in p (p ∷ free) ≡ cond b 0 1 → then_some b (there kept p).id ≡ None
    by true e = absurd (let one = own in omega (arith, e, one))
    by false e = refl

pub taken_low : (kept : List Kept) (free : List ℕ) (p number : ℕ) → number ≡ p → FreePositions kept (p ∷ free)
    → number < length kept
taken_low kept free p number at t =
    let one = ap (λ b. cond {A = ℕ} b 1 0) (eq-eqb p p refl) in
    let low = t.low p (omega (arith, one)) in omega (arith, low, at)

-- the position of one that leaves is free
module _ (kept : List Kept) (es : List Entry) (t : AreKept kept es) (id position number : ℕ) (at : number ≡ position)
    (named : index_of id es ≡ Some position) where
  was_kept : kept_id (there kept number) ≡ Some id
  was_kept = (t.named id number).1 (named ∙ ap Some (sym at))

  pub room_for : (free : List ℕ) → FreePositions kept free → length free < cyclics
  room_for free f = room_left kept free f number (kept_low kept number id was_kept) (is_here (there kept number) id was_kept)

  pub left_at : (free left : List ℕ) (new : Kept) → left ≡ free ++ position ∷ [] → FreePositions kept free → new.here ≡ false
      → FreePositions (set kept number new) left
  left_at free left new is f gone = subst (FreePositions (set kept number new)) (sym is)
      (left_free kept free number position at new f (is_here (there kept number) id was_kept) gone
      (kept_low kept number id was_kept))
