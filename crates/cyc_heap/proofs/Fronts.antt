-- What callers see, where few stand in front and where many play.
use Rattle.std.proofs.Common.{◌≡◌, ℕ, suc, ◌*◌, ◌<◌, ◌≤◌, inl, inr, Bool, true, false, List, [], ◌∷◌, length, take}
use Rattle.std.proofs.Common.{Some, None, IsSome, refl, sym, ap, ◌∙◌, subst, arith}
use Rattle.std.proofs.lemmas.Bool.{cases_lt, false≢true}
use Rattle.cyc_types.specs.Series.{never}
use Rattle.cyc_heap.specs.declared.entry.Entry.{Entry}
use Rattle.cyc_heap.specs.Tournament.{key, entry_at, cyclic_index, free_entry, slots, last_position}
use Rattle.cyc_heap.specs.Few.{shown, first_index, root_position, HasNoIndex, IsTree, IsFront, IsTournament, extent}
use Rattle.cyc_heap.specs.Few.{IsChanged}
use Rattle.cyc_heap.specs.Heap.{HeapView, expiration_at, slots_moved, IsEmptyHeap, IsLeast}
use Rattle.cyc_heap.proofs.Views.{IsTop, view_of, few_or_many, leaf_given, at_past, at_used, at_free, all_free}
use Rattle.cyc_heap.proofs.Views.{winner_none, few_none, top_least, winner_top, first_top, root_many, root_few, winner_used}
use Rattle.cyc_heap.proofs.Views.{winner_free}
use Rattle.cyc_heap.proofs.Spreading.{length-shown, free_else}
use Rattle.cyc_heap.proofs.Changing.{changed, changed_slots}
use Rattle.cyc_heap.proofs.Sifting.{front, front_long, position_shown}

-- what all leaves have where they are many
pub shown_many : (b : Bool) (held : ℕ) (es : List Entry) → b ≡ false → shown b held es ≡ es
shown_many true held es many = absurd (false≢true (sym many))
shown_many false held es many = refl

-- one tree by either name
pub tree_few : (b : Bool) (held leaves : ℕ) (es : List Entry) → b ≡ true → IsTree b held leaves es → IsTree true held leaves es
tree_few b held leaves es small t = subst (λ b. IsTree b held leaves es) small t

no_first : (few : List Entry) → length few ≡ 0 → first_index few ≡ None
no_first [] none = refl
no_first (e ∷ es) none = absurd (omega (arith, none))

first_is : (few : List Entry) → 0 < length few → first_index few ≡ Some (cyclic_index (entry_at few 0))
first_is [] some = absurd (omega (arith, some))
first_is (e ∷ es) some = refl

module _ (is_few : Bool) (held root leaves size given : ℕ) (es : List Entry) (free : List ℕ)
    (h : IsTournament is_few (take held es) (extent leaves size given) (shown is_few held es) free)
    (f : IsFront is_few held root (extent leaves size given) es free) where
  pub entries_long : suc (length es) ≡ 2 * leaves
  entries_long = let long = h.long in let l = length-shown is_few held es in omega (arith, long, l)

  pub held_within : held ≤ size
  held_within = elim (few_or_many is_few) [
    | inl small ↦ (let u = f.used small in let known = h.known in omega (arith, u, known))
    | inr many ↦ (let none = f.none many in omega (arith, none))
  ]

  pub tree : IsTree is_few held leaves es
  tree = record {
    long = entries_long;
    within = let l = entries_long in let w = held_within in let wide = h.wide in omega (arith, l, w, wide);
    heap = h.heap;
    front = f.front;
    played = h.played;
    bare = h.bare;
  }

  pub root_low : root < length es
  root_low = let l = entries_long in let some = h.some in elim (few_or_many is_few) [
    | inl small ↦ (let at = f.first ∙ ap (λ b. root_position b leaves) small in omega (arith, l, some, at))
    | inr many ↦ (let at = f.first ∙ ap (λ b. root_position b leaves) many in omega (arith, l, some, at))
  ]

  -- where some stand in front they are few
  pub few_held : 0 < held → is_few ≡ true
  few_held some = elim (few_or_many is_few) [
    | inl small ↦ small
    | inr many ↦ absurd (let none = f.none many in omega (arith, none, some))
  ]

  pub root_is : is_few ≡ true → root ≡ 0
  root_is small = f.first ∙ ap (λ b. root_position b leaves) small

  module _ (room : ℕ) (v : HeapView) (is : view_of is_few (take held es) leaves size (shown is_few held es) room ≡ v) where
    module _ (small : is_few ≡ true) where
      wide : held ≤ length es
      wide = tree.within

      long : length (take held es) ≡ held
      long = front_long held es wide

      at_root : root ≡ 0
      at_root = f.first ∙ ap (λ b. root_position b leaves) small

      -- the first entry is that of the first of few
      first_unused : (x : Entry) → entry_at es root ≡ x → never < x.moment → IsEmptyHeap v × (v.root ≡ None)
      first_unused x here unused = elim (cases_lt 0 held) [
        | inl some ↦ absurd (let n = long in let u = (h.heap small).used 0 (omega (arith, some, n)) in
            let m = ap (λ (e : Entry). e.moment) (front held es 0 some ∙ ap (entry_at es) (sym at_root) ∙ here) in
            omega (arith, u, m, unused))
        | inr none ↦ (let n = long in let zero : length (take held es) ≡ 0 = omega (arith, n, none) in (
          all_free is_few (take held es) leaves size given (shown is_few held es) free room v h is
              (few_none is_few (take held es) leaves size given (shown is_few held es) free room v h is small zero),
          root_few is_few (take held es) leaves size given (shown is_few held es) free room v h is small
              ∙ no_first (take held es) zero,
        ))
      ]

      first_used : (x : Entry) → entry_at es root ≡ x → x.moment ≤ never
          → IsLeast v (cyclic_index x) (key x) × (v.root ≡ Some (cyclic_index x))
      first_used x here used = elim (cases_lt 0 held) [
        | inl some ↦ (let n = long in
            let filled : 0 < length (take held es) = omega (arith, some, n) in
            let at : entry_at (take held es) 0 ≡ x = front held es 0 some ∙ ap (entry_at es) (sym at_root) ∙ here in (
              top_least is_few (take held es) leaves size given (shown is_few held es) free room v h is x
                  (subst (IsTop leaves (shown is_few held es)) at (first_top (take held es) leaves (shown is_few held es)
                  (h.heap small) filled)) used,
              root_few is_few (take held es) leaves size given (shown is_few held es) free room v h is small
                  ∙ first_is (take held es) filled ∙ ap (λ (e : Entry). Some (cyclic_index e)) at,
            ))
        | inr none ↦ absurd (
            let m = ap (λ (e : Entry). e.moment) (sym here ∙ ap (entry_at es) at_root ∙ f.front small (omega (arith, none))) in
            omega (arith, m, used))
      ]

    module _ (many : is_few ≡ false) where
      at_last : root ≡ last_position leaves
      at_last = f.first ∙ ap (λ b. root_position b leaves) many

      winner_is : (x : Entry) → entry_at es root ≡ x → entry_at (shown is_few held es) (last_position leaves) ≡ x
      winner_is x here = ap (λ l. entry_at l (last_position leaves)) (shown_many is_few held es many)
          ∙ ap (entry_at es) (sym at_last) ∙ here

      winner_unused : (x : Entry) → entry_at es root ≡ x → never < x.moment → IsEmptyHeap v × (v.root ≡ None)
      winner_unused x here unused = let m = ap (λ (e : Entry). e.moment) (winner_is x here) in (
        all_free is_few (take held es) leaves size given (shown is_few held es) free room v h is
            (winner_none is_few (take held es) leaves size given (shown is_few held es) free room v h is many
            (omega (arith, m, unused))),
        root_many is_few (take held es) leaves size given (shown is_few held es) free room v h is many
            ∙ winner_free leaves (shown is_few held es) (omega (arith, m, unused)),
      )

      winner_least : (x : Entry) → entry_at es root ≡ x → x.moment ≤ never
          → IsLeast v (cyclic_index x) (key x) × (v.root ≡ Some (cyclic_index x))
      winner_least x here used = let m = ap (λ (e : Entry). e.moment) (winner_is x here) in (
        top_least is_few (take held es) leaves size given (shown is_few held es) free room v h is x
            (subst (IsTop leaves (shown is_few held es)) (winner_is x here)
            (winner_top leaves (shown is_few held es) (h.played many) h.some)) used,
        root_many is_few (take held es) leaves size given (shown is_few held es) free room v h is many
            ∙ winner_used leaves (shown is_few held es) (omega (arith, m, used))
            ∙ ap (λ (e : Entry). Some (cyclic_index e)) (winner_is x here),
      )

    -- the entry at the root
    pub root_unused : (x : Entry) → entry_at es root ≡ x → never < x.moment → IsEmptyHeap v × (v.root ≡ None)
    root_unused x here unused = elim (few_or_many is_few) [
      | inl small ↦ first_unused small x here unused
      | inr many ↦ winner_unused many x here unused
    ]

    pub root_used : (x : Entry) → entry_at es root ≡ x → x.moment ≤ never
        → IsLeast v (cyclic_index x) (key x) × (v.root ≡ Some (cyclic_index x))
    root_used x here used = elim (few_or_many is_few) [
      | inl small ↦ first_used small x here used
      | inr many ↦ winner_least many x here used
    ]

    -- where callers see one at the root
    pub root_held : IsSome v.root → (x : Entry) → entry_at es root ≡ x
        → (expiration_at v (cyclic_index x) ≡ Some (key x)) × (v.root ≡ Some (cyclic_index x))
    root_held some x here = elim (cases_lt never x.moment) [
      | inl unused ↦ absurd (let (_, none) = root_unused x here unused in false≢true (subst IsSome none some))
      | inr used ↦ (let (least, at) = root_used x here used in (least.holds, at))
    ]

    -- where there is one and none stands in front they are many
    pub many_held : IsSome v.root → held ≤ 0 → is_few ≡ false
    many_held some none = elim (few_or_many is_few) [
      | inr many ↦ many
      | inl small ↦ absurd (let n = long small in
          let nowhere = root_few is_few (take held es) leaves size given (shown is_few held es) free room v h is small
          ∙ no_first (take held es) (omega (arith, n, none)) in
          false≢true (subst IsSome nowhere some))
    ]

    -- where many play, its leaf has it
    pub leaf_is : is_few ≡ false → IsSome v.root → (x : Entry) → entry_at es root ≡ x → entry_at es (cyclic_index x) ≡ x
    leaf_is many some x here = elim (cases_lt never x.moment) [
      | inl unused ↦ absurd (let (_, none) = root_unused x here unused in false≢true (subst IsSome none some))
      | inr used ↦ (let top = subst (IsTop leaves (shown is_few held es)) (winner_is many x here)
          (winner_top leaves (shown is_few held es) (h.played many) h.some) in
          let (i, low, leaf) = top.one in
          let m = ap (λ (e : Entry). e.moment) leaf in
          let mine = leaf_given is_few (take held es) leaves size given (shown is_few held es) free room v h is i low (omega
          (arith, m, used)) in
          let own : cyclic_index x ≡ i = sym (ap cyclic_index leaf) ∙ h.listed.own i mine (omega (arith, m, used)) in
          ap (entry_at es) own ∙ ap (λ l. entry_at l i) (sym (shown_many is_few held es many)) ∙ leaf)
    ]

    -- an index that none of the few has
    pub none_free : is_few ≡ true → (i : ℕ) → HasNoIndex i (take held es) → expiration_at v i ≡ None
    none_free small i none = elim (cases_lt i size) [
      | inr past ↦ at_past is_few (take held es) leaves size given (shown is_few held es) free room v h is i past
      | inl low ↦ (let l = entries_long in
          let w = h.wide in
          let g = h.heap small in
          let at : entry_at (shown is_few held es) i ≡ free_entry
          = ap (λ b. entry_at (shown b held es) i) small
          ∙ free_else (take held es) leaves (length es) g.heap g.low g.used (omega (arith, l)) i (omega (arith, low, l, w))
          none in
          let m = ap (λ (e : Entry). e.moment) at in
          at_free is_few (take held es) leaves size given (shown is_few held es) free room v h is i low (omega (arith, m)))
    ]

    -- and one that one of them has
    pub position_held : is_few ≡ true → (i position : ℕ) → position < held → cyclic_index (entry_at es position) ≡ i
        → expiration_at v i ≡ Some (key (entry_at es position))
    position_held small i position low here =
        let t = tree_few is_few held leaves es small tree in
        let at : entry_at (shown is_few held es) i ≡ entry_at es position
        = ap (λ b. entry_at (shown b held es) i) small ∙ position_shown held leaves position i es t low here in
        let n = long small in
        let m = ap (λ (e : Entry). e.moment) at in
        let k = ap (λ (e : Entry). e.moment) (front held es position low) in
        let u = (h.heap small).used position (omega (arith, low, n)) in
        let q = ap cyclic_index (front held es position low) in
        let g = (h.heap small).low position (omega (arith, low, n)) in
        let mine = leaf_given is_few (take held es) leaves size given (shown is_few held es) free room v h is i
        (omega (arith, g, q, here)) (omega (arith, m, k, u)) in
        let known = h.known in
        at_used is_few (take held es) leaves size given (shown is_few held es) free room v h is i (omega (arith, mine, known))
        (omega (arith, m, k, u)) ∙ ap (λ (e : Entry). Some (key e)) at

    -- another moment for an index that has one
    module _ (x : Entry) (has : expiration_at v (cyclic_index x) ≡ Some (key x)) (new : List Entry) (moment : ℕ)
        (valid : moment ≤ never)
        (e : IsChanged leaves (cyclic_index x) (record x { moment = moment }) (shown is_few held es) (shown is_few held new))
        (t : IsTree is_few held leaves new) where
      pub tournament_after : IsTournament is_few (take held new) (extent leaves size given) (shown is_few held new) free
      tournament_after = changed is_few (take held es) leaves size given (shown is_few held es) free room v h is x has
          (take held new) (shown is_few held new) moment valid e.long e.here e.others t.heap t.played

      pub front_after : IsFront is_few held root (extent leaves size given) new free
      front_after = record { first = f.first; used = f.used; most = f.most; none = f.none; front = t.front }

      pub slots_after : slots size (shown is_few held new) ≡ slots_moved v.slots (cyclic_index x) moment
      slots_after = changed_slots is_few (take held es) leaves size given (shown is_few held es) free room v h is x has
          (take held new) (shown is_few held new) moment valid e.long e.here e.others
