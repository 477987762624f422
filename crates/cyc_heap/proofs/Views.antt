-- What callers see of a tournament, read off its entries.
use Rattle.std.proofs.Common.{◌≡◌, ℕ, suc, ◌+◌, ◌-◌, ◌/◌, ◌<◌, ◌≤◌, ◌⊎◌, ◌==◌, leb, ◌&&◌, ◌||◌, inl, inr, Bool, true, false, List}
use Rattle.std.proofs.Common.{[], ◌∷◌, ◌++◌, length, get_or, replicate, Option, Some, None}
use Rattle.std.proofs.Common.{IsSome, is_some, option_map, cond, count_by, ltb, refl, sym, ap, ◌∙◌, subst, arith}
use Rattle.std.proofs.Math.ListN.{set}
use Rattle.std.proofs.lemmas.Bool.{cases_lt, lt-ltb, le-ltb, cond-true, cond-false}
use Rattle.std.proofs.lemmas.Bool.Decides.{nat_tests}
use Rattle.std.proofs.lemmas.List.{get_or_past}
use Rattle.std.proofs.lemmas.List.Sums.{sum_by-set}
use Rattle.cyc_types.specs.Limits.{cyclics}
use Rattle.cyc_types.specs.Series.{never}
use Rattle.cyc_types.specs.Expirations.{Expiration, is_before}
use Rattle.cyc_heap.specs.declared.entry.Entry.{Entry}
use Rattle.cyc_heap.specs.Tournament.{key, entry_at, id_in_word, cyclic_index, slot, slots, comes, last_position, winner_of}
use Rattle.cyc_heap.specs.Tournament.{IsPlayed}
use Rattle.cyc_heap.specs.Few.{IsFew, IsTournament, first_index, root_of, extent}
use Rattle.cyc_heap.specs.Heap.{HeapView, size_of, used_count, expiration_at, expiration_moved, slots_moved, IsLeast, IsOf}
use Rattle.cyc_heap.proofs.Slots.{length-slots, slots_at, slot_used, slot_free, slots_more, count_with_free}
use Rattle.cyc_heap.proofs.Playing.{comes_by_moment, least_of_all, one_of_all}
use Rattle.cyc_heap.proofs.Moving.{first_least}

pub used_of : (v : HeapView) (id i : ℕ) → IsOf v id i → IsSome (expiration_at v i)
used_of v id i (e, holds, named) = subst IsSome (sym holds) refl

abbrev pub view_of : Bool → List Entry → ℕ → ℕ → List Entry → ℕ → HeapView
view_of is_few few leaves size xs room = record { slots = slots size xs; root = root_of is_few few leaves xs; room = room }

-- the index at the root, by the last winner
pub winner_used : (leaves : ℕ) (xs : List Entry) → (entry_at xs (last_position leaves)).moment ≤ never
    → winner_of leaves xs ≡ Some (cyclic_index (entry_at xs (last_position leaves)))
winner_used leaves xs used = cond-false (ltb never (entry_at xs (last_position leaves)).moment) None
    (Some (cyclic_index (entry_at xs (last_position leaves)))) (le-ltb never (entry_at xs (last_position leaves)).moment used)

pub winner_free : (leaves : ℕ) (xs : List Entry) → never < (entry_at xs (last_position leaves)).moment
    → winner_of leaves xs ≡ None
winner_free leaves xs unused = cond-true (ltb never (entry_at xs (last_position leaves)).moment) None
    (Some (cyclic_index (entry_at xs (last_position leaves)))) (lt-ltb never (entry_at xs (last_position leaves)).moment unused)

-- an index with an expiration is below the size
pub held_low : (xs : List (Option Expiration)) (i : ℕ) (e : Expiration) → get_or xs i None ≡ Some e → i < length xs
held_low xs i e has = elim (cases_lt i (length xs))
    [ inl low ↦ low | inr past ↦ absurd (let gone = get_or_past xs i None past in let none : ⊥ = cc in none) ]

-- how many indexes are in use after a write: as many, one more, one fewer
pub count_same : (xs : List (Option Expiration)) (i : ℕ) (e k : Expiration) → get_or xs i None ≡ Some e
    → count_by is_some (set xs i (Some k)) ≡ count_by is_some xs
count_same xs i e k has = (let s = sum_by-set (λ (o : Option Expiration). cond (is_some o) 1 0) xs i (Some k) None
    (held_low xs i e has) in
    let one = ap {B = ℕ} (λ (o : Option Expiration). cond (is_some o) 1 0) has in omega (arith, s, one))

pub count_more : (xs : List (Option Expiration)) (i : ℕ) (k : Expiration) → i < length xs → get_or xs i None ≡ None
    → count_by is_some (set xs i (Some k)) ≡ count_by is_some xs + 1
count_more xs i k low free = (let s = sum_by-set (λ (o : Option Expiration). cond (is_some o) 1 0) xs i (Some k) None low in
    let zero = ap {B = ℕ} (λ (o : Option Expiration). cond (is_some o) 1 0) free in omega (arith, s, zero))

pub count_less : (xs : List (Option Expiration)) (i : ℕ) (e : Expiration) → get_or xs i None ≡ Some e
    → count_by is_some (set xs i None) + 1 ≡ count_by is_some xs
count_less xs i e has = (let s = sum_by-set (λ (o : Option Expiration). cond (is_some o) 1 0) xs i None None (held_low xs i e has)
    in
    let one = ap {B = ℕ} (λ (o : Option Expiration). cond (is_some o) 1 0) has in omega (arith, s, one))

-- none is in use where no index has an expiration
pub count_none : (xs : List (Option Expiration)) → ((i : ℕ) → get_or xs i None ≡ None) → count_by is_some xs ≡ 0
count_none [] none = refl
count_none (None ∷ xs) none = count_none xs (λ i. none (suc i))
count_none (Some e ∷ xs) none = absurd (let gone = none 0 in let never : ⊥ = cc in never)

-- another moment for an index that has an expiration
pub moment_slots : (v : HeapView) (i m : ℕ) (e : Expiration) → expiration_at v i ≡ Some e
    → set v.slots i (Some (expiration_moved m e)) ≡ slots_moved v.slots i m
moment_slots v i m e has = ap (λ o. set v.slots i (option_map (expiration_moved m) o)) (sym has)

later : (m i n j : ℕ) → (ltb m n || ((m == n) && leb i j)) ≡ true → m ≤ n
later m i n j h = grind (arith, nat_tests)

earlier : (m i n j : ℕ) → (ltb m n || ((m == n) && leb i j)) ≡ true → (ltb m n || ((m == n) && leb (i / cyclics)
    (j / cyclics))) ≡ true
earlier m i n j h = grind (arith, nat_tests)

pub comes_before : (a b : Entry) → comes a b ≡ true → is_before (key a) (key b) ≡ true
comes_before a b h = earlier a.moment a.word b.moment b.word h

pub comes_later : (a b : Entry) → comes a b ≡ true → a.moment ≤ b.moment
comes_later a b h = later a.moment a.word b.moment b.word h

pub few_or_many : (b : Bool) → (b ≡ true) ⊎ (b ≡ false)
few_or_many true = inl refl
few_or_many false = inr refl

-- this entry is a leaf that comes before all
pub record IsTop (leaves : ℕ) (xs : List Entry) (x : Entry) : Type 0 where
  pub one : (i : ℕ) × (i < leaves) × (entry_at xs i ≡ x)
  pub before : (k : ℕ) → k < leaves → comes x (entry_at xs k) ≡ true

-- the last winner is, and so is the first of few
pub winner_top : (leaves : ℕ) (xs : List Entry) → IsPlayed leaves xs → 0 < leaves → IsTop leaves xs (entry_at xs
    (last_position leaves))
winner_top leaves xs played some = record {
  one = let (i, low, is) = one_of_all leaves xs played some in (i, low, sym is);
  before = least_of_all leaves xs played;
}

pub first_top : (few : List Entry) (leaves : ℕ) (xs : List Entry) → IsFew few leaves xs → 0 < length few
    → IsTop leaves xs (entry_at few 0)
first_top few leaves xs h some = record {
  one = (cyclic_index (entry_at few 0), h.low 0 some, h.own 0 some);
  before = λ k low. elim (cases_lt never (entry_at xs k).moment) [
    | inl unused ↦ (let used = h.used 0 some in comes_by_moment (entry_at few 0) (entry_at xs k) (omega (arith, used, unused)))
    | inr used ↦ (let (p, at, _, is) = h.all k low used in
        subst (λ e. comes (entry_at few 0) e ≡ true) is (first_least few h.heap p at))
  ];
}

module _ (is_few : Bool) (few : List Entry) (leaves size given : ℕ) (xs : List Entry) (free : List ℕ) (room : ℕ) (v : HeapView)
    (h : IsTournament is_few few (extent leaves size given) xs free) (is : view_of is_few few leaves size xs room ≡ v) where
  pub leaves_within : leaves ≤ length xs
  leaves_within = let long = h.long in let some = h.some in omega (arith, long, some)

  pub within : size ≤ length xs
  within = let all = leaves_within in let wide = h.wide in omega (arith, all, wide)

  pub size_is : size_of v ≡ size
  size_is = sym (ap size_of is) ∙ length-slots size xs within

  slots_given : slots size xs ≡ slots given xs ++ replicate (size - given) None
  slots_given = (let known = h.known in
      let wide = h.wide in
      let inside = within in
      ap (λ n. slots n xs) (let e : size ≡ given + (size - given) = omega (arith, known) in e)
      ∙ slots_more given (size - given) xs (omega (arith, known, inside))
      (λ i from low. h.unused i from (omega (arith, low, known, wide))))

  pub len_is : used_count v + length free ≡ given
  len_is = (let n = ap used_count is in
      let all = ap (count_by is_some) slots_given ∙ count_with_free (slots given xs) (size - given) in
      let count = h.listed.count in omega (arith, n, all, count))

  -- a leaf with a moment is that of an index that was given
  pub leaf_given : (i : ℕ) → i < leaves → (entry_at xs i).moment ≤ never → i < given
  leaf_given i low used = elim (cases_lt i given)
      [ inl before ↦ before | inr past ↦ absurd (let u = h.unused i past low in omega (arith, u, used)) ]

  pub at_leaf : (i : ℕ) → i < size → expiration_at v i ≡ slot (entry_at xs i)
  at_leaf i low = sym (ap (λ (v : HeapView). expiration_at v i) is) ∙ slots_at size xs within i None low

  pub at_past : (i : ℕ) → size ≤ i → expiration_at v i ≡ None
  at_past i past = get_or_past v.slots i None (let s = size_is in omega (arith, s, past))

  pub at_used : (i : ℕ) → i < size → (entry_at xs i).moment ≤ never → expiration_at v i ≡ Some (key (entry_at xs i))
  at_used i low used = at_leaf i low ∙ slot_used (entry_at xs i) used

  pub at_free : (i : ℕ) → i < size → never < (entry_at xs i).moment → expiration_at v i ≡ None
  at_free i low unused = at_leaf i low ∙ slot_free (entry_at xs i) unused

  -- an index that has an expiration has a leaf with a moment
  pub held : (i : ℕ) (e : Expiration) → expiration_at v i ≡ Some e → (i < size) × ((entry_at xs i).moment ≤ never)
      × (key (entry_at xs i) ≡ e)
  held i e has = elim (cases_lt i size) [
    | inr past ↦ absurd (let gone = at_past i past in let none : ⊥ = cc in none)
    | inl low ↦ elim (cases_lt never (entry_at xs i).moment) [
      | inl unused ↦ absurd (let gone = at_free i low unused in let none : ⊥ = cc in none)
      | inr used ↦ (low, used, (let here = at_used i low used in cc))
    ]
  ]

  -- and was given
  pub in_use : (i : ℕ) → IsSome (expiration_at v i) → (i < given) × (i < size) × (i < leaves) × ((entry_at xs i).moment ≤ never)
  in_use i some = of (expiration_at v i) refl some
    where
      of : (o : Option Expiration) → expiration_at v i ≡ o → IsSome o
          → (i < given) × (i < size) × (i < leaves) × ((entry_at xs i).moment ≤ never)
      of None is s = absurd (let none : ⊥ = cc in none)
      of (Some e) is s = (let (low, used, _) = held i e is in
          let wide = h.wide in
          (leaf_given i (omega (arith, low, wide)) used, low, omega (arith, low, wide), used))

  -- its leaf holds its expiration, and has its index
  pub leaf_held : (i : ℕ) (x : Entry) → IsSome (expiration_at v i) → entry_at xs i ≡ x
      → (expiration_at v (cyclic_index x) ≡ Some (key x)) × (cyclic_index x ≡ i)
  leaf_held i x some here =
      let (mine, low, _, used) = in_use i some in
      let own : cyclic_index x ≡ i = sym (ap cyclic_index here) ∙ h.listed.own i mine used in (
        ap (expiration_at v) own ∙ at_used i low used ∙ ap (λ (e : Entry). Some (key e)) here,
        own,
      )

  -- the leaf of an index has the id of its cyclic
  pub leaf_named : (id i : ℕ) (x : Entry) → IsOf v id i → entry_at xs i ≡ x → id_in_word x ≡ id
  leaf_named id i x (e, holds, named) here =
      let (has, own) = leaf_held i x (used_of v id i (e, holds, named)) here in
      let same : Some (key x) ≡ Some e = sym has ∙ ap (expiration_at v) own ∙ holds in
      let same_key : key x ≡ e = cc in ap (λ (e : Expiration). e.id) same_key ∙ named

  -- the leaf before all is what its index has
  pub top_used : (x : Entry) → IsTop leaves xs x → x.moment ≤ never → expiration_at v (cyclic_index x) ≡ Some (key x)
  top_used x top used =
      let (i, low, leaf) = top.one in
      let moment = ap (λ (e : Entry). e.moment) leaf in
      let mine = leaf_given i low (omega (arith, moment, used)) in
      let known = h.known in
      let own : cyclic_index x ≡ i = sym (ap cyclic_index leaf) ∙ h.listed.own i mine (omega (arith, moment, used)) in
      ap (expiration_at v) own ∙ at_used i (omega (arith, mine, known)) (omega (arith, moment, used))
      ∙ ap (λ (e : Entry). Some (key e)) leaf

  pub top_least : (x : Entry) → IsTop leaves xs x → x.moment ≤ never → IsLeast v (cyclic_index x) (key x)
  top_least x top used = record {
    holds = top_used x top used;
    least = λ k other has. (let (low, _, same) = held k other has in
        let wide = h.wide in
        subst (λ e. is_before (key x) e ≡ true) same
        (comes_before x (entry_at xs k) (top.before k (omega (arith, low, wide)))));
  }

  -- where all leaves are free no index is in use
  pub all_free : ((k : ℕ) → k < leaves → never < (entry_at xs k).moment) → (i : ℕ) → expiration_at v i ≡ None
  all_free none i = elim (cases_lt i size) [
    | inr past ↦ at_past i past
    | inl low ↦ at_free i low (none i (let wide = h.wide in omega (arith, low, wide)))
  ]

  -- they are free where the last winner is, or where there are no few
  pub winner_none : is_few ≡ false → never < (entry_at xs (last_position leaves)).moment
      → (k : ℕ) → k < leaves → never < (entry_at xs k).moment
  winner_none many unused k low =
      let least = comes_later (entry_at xs (last_position leaves)) (entry_at xs k) (least_of_all leaves xs
      (h.played many) k low) in
      omega (arith, least, unused)

  pub few_none : is_few ≡ true → length few ≡ 0 → (k : ℕ) → k < leaves → never < (entry_at xs k).moment
  few_none small none k low = elim (cases_lt never (entry_at xs k).moment) [
    | inl unused ↦ unused
    | inr used ↦ absurd (let (p, at, _, _) = (h.heap small).all k low used in omega (arith, at, none))
  ]

  -- what callers see at the root
  pub root_many : is_few ≡ false → v.root ≡ winner_of leaves xs
  root_many many = sym (ap (λ (v : HeapView). v.root) is) ∙ cond-false is_few (first_index few) (winner_of leaves xs) many

  pub root_few : is_few ≡ true → v.root ≡ first_index few
  root_few small = sym (ap (λ (v : HeapView). v.root) is) ∙ cond-true is_few (first_index few) (winner_of leaves xs) small
