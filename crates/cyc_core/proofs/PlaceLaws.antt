-- An id with calls outstanding stands at exactly one place, and an index is that of one admitted cyclic.
use Rattle.std.proofs.Common.{◌≡◌, ◌≢◌, ℕ, zero, suc, ◌<◌, ◌≤◌, eqb, cond, Bool, true, false, ◌||◌, ◌&&◌, eq-eqb, List, [], ◌∷◌}
use Rattle.std.proofs.Common.{Option, Some, None, refl, sym, ap, ◌∙◌, subst, arith}
use Rattle.std.specs.Option.{option_map}
use Rattle.std.specs.List.{list_any}
use Rattle.std.proofs.lemmas.Bool.Decides.{nat_tests}
use Rattle.cyc_level.specs.Level.{AdmittedCyclic, SoftLevel, count, times_in, in_hand, place_count}
use Rattle.cyc_level.specs.Lawful.{Lawful, one_if_any}
use Rattle.cyc_level.proofs.Keeps.{once_le, once_zero}
use Rattle.cyc_level.proofs.Maps.{hand_here, some_same}
use Rattle.cyc_core.specs.declared.admitted.Admitted.{Admitted}
use Rattle.cyc_core.specs.declared.books.Place.{Place}
use Rattle.cyc_core.specs.declared.books.Place.TheVariants.{FirerHand, OldBank, NewBank, DrainerHand}
use Rattle.cyc_core.specs.declared.admitted.Kept.{Kept}
use Rattle.cyc_finder.specs.Indexes.{Entry, IsIndexed}
use Rattle.cyc_core.specs.Tables.{lookup, cyclic_of_entry, cyclics_of_table}
use Rattle.std.specs.Bool.{then_some}
use Rattle.cyc_core.specs.Shown.{kept_id, has_index, table_of, AreKept}
use Rattle.cyc_core.specs.Showing.{StandsAt}
use Rattle.cyc_core.proofs.Keeping.{there, is_here, found_entry, named_entry}

-- how often the id stands at a place
times_at : SoftLevel → ℕ → Place → ℕ
times_at l id FirerHand = in_hand id l.firer_hand
times_at l id OldBank = times_in id l.old_list
times_at l id NewBank = times_in id l.new_list
times_at l id DrainerHand = in_hand id l.drainer_hand

in_the_hand : (id : ℕ) (hand : Option ℕ) → hand ≡ Some id → 0 < in_hand id hand
in_the_hand id hand is = let here = hand_here id in let same = ap (in_hand id) is in omega (arith, here, same)

stands_times : (l : SoftLevel) (id : ℕ) (p : Place) → StandsAt l id p → 0 < times_at l id p
unfolding times_at
stands_times l id FirerHand h = in_the_hand id l.firer_hand h
stands_times l id OldBank h = h
stands_times l id NewBank h = h
stands_times l id DrainerHand h = in_the_hand id l.drainer_hand h

-- standing once in all is standing at one place
same_place : (l : SoftLevel) (id : ℕ) → place_count l id ≤ 1 → (p q : Place) → 0 < times_at l id p → 0 < times_at l id q → p ≡ q
unfolding times_at
same_place l id once FirerHand FirerHand h k = refl
same_place l id once FirerHand OldBank h k = absurd (omega (arith, once, h, k))
same_place l id once FirerHand NewBank h k = absurd (omega (arith, once, h, k))
same_place l id once FirerHand DrainerHand h k = absurd (omega (arith, once, h, k))
same_place l id once OldBank FirerHand h k = absurd (omega (arith, once, h, k))
same_place l id once OldBank OldBank h k = refl
same_place l id once OldBank NewBank h k = absurd (omega (arith, once, h, k))
same_place l id once OldBank DrainerHand h k = absurd (omega (arith, once, h, k))
same_place l id once NewBank FirerHand h k = absurd (omega (arith, once, h, k))
same_place l id once NewBank OldBank h k = absurd (omega (arith, once, h, k))
same_place l id once NewBank NewBank h k = refl
same_place l id once NewBank DrainerHand h k = absurd (omega (arith, once, h, k))
same_place l id once DrainerHand FirerHand h k = absurd (omega (arith, once, h, k))
same_place l id once DrainerHand OldBank h k = absurd (omega (arith, once, h, k))
same_place l id once DrainerHand NewBank h k = absurd (omega (arith, once, h, k))
same_place l id once DrainerHand DrainerHand h k = refl

place_times : (l : SoftLevel) (id : ℕ) (p : Place) → 0 < times_at l id p → 0 < place_count l id
unfolding times_at
place_times l id FirerHand h = omega (arith, h)
place_times l id OldBank h = omega (arith, h)
place_times l id NewBank h = omega (arith, h)
place_times l id DrainerHand h = omega (arith, h)

module _ (l : SoftLevel) (law : Lawful l) (id : ℕ) where
  once : place_count l id ≤ 1
  once = let p = law.one_place id in let o = once_le (count l id) in omega (arith, p, o)

  -- a place where it stands is the only one
  pub the_place : (p : Place) → StandsAt l id p → (q : Place) → (Some p ≡ Some q → StandsAt l id q)
      × (StandsAt l id q → Some p ≡ Some q)
  the_place p h q = (
    λ e. subst (λ (r : Place). StandsAt l id r) (some_same p q e) h,
    λ k. ap Some (same_place l id once p q (stands_times l id p h) (stands_times l id q k)),
  )

  pub outstanding : (p : Place) → StandsAt l id p → 0 < count l id
  outstanding p h = by (count l id) refl
    where
      by : (n : ℕ) → count l id ≡ n → 0 < count l id
      by zero e = let placed = place_times l id p (stands_times l id p h) in let one = law.one_place id in
          let none : one_if_any (count l id) ≡ 0 = ap one_if_any e in absurd (omega (arith, placed, one, none))
      by (suc n) e = omega (arith, e)

  pub stands_and_owes : (p : Place) → StandsAt l id p → (true ≡ true → 0 < count l id) × (0 < count l id → true ≡ true)
  stands_and_owes p h = (λ _. outstanding p h, λ _. refl)

  module _ (firer : l.firer_hand ≢ Some id) (drainer : l.drainer_hand ≢ Some id) (old : times_in id l.old_list ≡ 0)
      (new : times_in id l.new_list ≡ 0) where
    pub no_place : (q : Place) → StandsAt l id q → ⊥
    no_place FirerHand h = firer h
    no_place OldBank h = omega (arith, old, h)
    no_place NewBank h = omega (arith, new, h)
    no_place DrainerHand h = drainer h

    empty_hand : (hand : Option ℕ) → hand ≢ Some id → in_hand id hand ≡ 0
    empty_hand None h = refl
    empty_hand (Some x) h = by (eqb id x) refl
      where
        by : (b : Bool) → eqb id x ≡ b → cond {A = ℕ} b 1 0 ≡ 0
        by true e = absurd (h (ap Some (let same : x ≡ id = grind (arith, nat_tests) in same)))
        by false e = refl

    pub nothing_owed : count l id ≡ 0
    nothing_owed = once_zero (count l id) (let f = empty_hand l.firer_hand firer in let d = empty_hand l.drainer_hand drainer in
        let one = law.one_place id in omega (arith, f, d, old, new, one))

-- whether an id stands in a list
pub any_times : (id : ℕ) (xs : List ℕ) → list_any (λ (x : ℕ). eqb x id) xs ≡ true → 0 < times_in id xs
any_times id [] e = absurd (let none : ⊥ = cc in none)
any_times id (x ∷ xs) e = by (eqb x id) refl e (any_times id xs)
  where
    by : (b : Bool) → eqb x id ≡ b → (b || list_any (λ (x : ℕ). eqb x id) xs) ≡ true
        → (list_any (λ (x : ℕ). eqb x id) xs ≡ true → 0 < times_in id xs) → 0 < times_in id (x ∷ xs)
    by true is e later = let one : eqb id x ≡ true = grind (arith, nat_tests) in let sum =
        ap (λ (b : Bool). cond {A = ℕ} b 1 0) one in omega (arith, sum)
    by false is e later = let rest = later e in omega (arith, rest)

pub none_times : (id : ℕ) (xs : List ℕ) → list_any (λ (x : ℕ). eqb x id) xs ≡ false → times_in id xs ≡ 0
none_times id [] e = refl
none_times id (x ∷ xs) e = by (eqb x id) refl e (none_times id xs)
  where
    by : (b : Bool) → eqb x id ≡ b → (b || list_any (λ (x : ℕ). eqb x id) xs) ≡ false
        → (list_any (λ (x : ℕ). eqb x id) xs ≡ false → times_in id xs ≡ 0) → times_in id (x ∷ xs) ≡ 0
    by true is e later = absurd (let none : ⊥ = cc in none)
    by false is e later = let no_one : eqb id x ≡ false = grind (arith, nat_tests) in let sum =
        ap (λ (b : Bool). cond {A = ℕ} b 1 0) no_one in let rest = later e in omega (arith, sum, rest)

cyclic_behind : (o : Option Admitted) (c : AdmittedCyclic) → option_map cyclic_of_entry o ≡ Some c → (e : Admitted) × (o ≡ Some e)
    × (cyclic_of_entry e ≡ c)
cyclic_behind None c is = absurd (let none : ⊥ = cc in none)
cyclic_behind (Some e) c is = (e, refl, some_same (cyclic_of_entry e) c is)

-- whether one of those that are here has the index
none_has : (index : ℕ) (kept : List Kept) → list_any (has_index index) kept ≡ false → (p : ℕ) → (there kept p).here ≡ true
    → (there kept p).index ≢ index
none_has index [] none p here at = absurd (let no : false ≡ true = here in let wrong : ⊥ = cc in wrong)
none_has index (x ∷ xs) none zero here at =
    let has : has_index index x ≡ true = (λ z. here z && eqb x.index index) ∙ eq-eqb x.index index at in
    let no : true ≡ false = (λ z. sym has z || list_any (has_index index) xs) ∙ none in let wrong : ⊥ = cc in wrong
none_has index (x ∷ xs) none (suc p) here at =
    none_has index xs (not_later (has_index index x) (list_any (has_index index) xs) none) p here at
  where
    not_later : (a b : Bool) → (a || b) ≡ false → b ≡ false
    not_later true b e = absurd (let no : ⊥ = cc in no)
    not_later false b e = e

no_one_has : (index : ℕ) (kept : List Kept) → ((p : ℕ) → (there kept p).here ≡ true → (there kept p).index ≢ index)
    → list_any (has_index index) kept ≡ false
no_one_has index [] none = refl
no_one_has index (x ∷ xs) none = (λ z. first z || no_one_has index xs (λ p here. none (suc p) here) z)
  where
    by : (b c : Bool) → x.here ≡ b → eqb x.index index ≡ c → (b && c) ≡ false
    by true true here at = absurd (none 0 here (let same : x.index ≡ index = grind (arith, nat_tests) in same))
    by true false here at = refl
    by false c here at = refl

    first : has_index index x ≡ false
    first = by x.here (eqb x.index index) refl refl

-- where no cyclic that is kept has the index, none that is admitted has it, and the other way round
module _ (kept : List Kept) (es : List Entry) (t : AreKept kept es) (index : ℕ) where
  pub unused_is : list_any (has_index index) kept ≡ false → (id : ℕ) (c : AdmittedCyclic)
      → cyclics_of_table (table_of kept es) id ≡ Some c
      → c.index ≢ index
  unused_is none id c is same =
      let (e, found, made) = cyclic_behind (lookup id (table_of kept es)) c is in
      let (named, read) = found_entry kept es id e found in
      let kept_here = (t.named id e.position).1 named in
      let here = is_here (there kept e.position) id kept_here in
      let at : (there kept e.position).index ≡ index = sym (ap (λ (x : Admitted). x.index) read)
      ∙ ap (λ (x : AdmittedCyclic). x.index) made ∙ same in
      none_has index kept none e.position here at

  pub free_is : ((id : ℕ) (c : AdmittedCyclic) → cyclics_of_table (table_of kept es) id ≡ Some c → c.index ≢ index)
      → list_any (has_index index) kept ≡ false
  free_is unused = no_one_has index kept (λ p here.
      let id = (there kept p).id in
      let named = (t.named id p).0 (ap (λ b. then_some b id) here) in
      unused id _ (ap (option_map cyclic_of_entry) (named_entry kept es id p named)))

-- a free position has no id
pub not_indexed : (kept : List Kept) (es : List Entry) → AreKept kept es → (position : ℕ) → kept_id (there kept position) ≡ None
    → ¬ IsIndexed position es
not_indexed kept es t position free (id, e) =
    let no : None ≡ Some id = sym free ∙ (t.named id position).1 e in let wrong : ⊥ = cc in wrong
