-- The few in front, after one of them was changed, put in or taken out.
use Rattle.std.proofs.Common.{◌≡◌, ◌≢◌, ℕ, ◌+◌, ◌-◌, ◌%◌, ◌<◌, ◌≤◌, ◌⊎◌, inl, inr, true, List, length, take, sym}
use Rattle.std.proofs.Common.{ap, ◌∙◌}
use Rattle.std.proofs.Common.{Option, Some, IfSome, refl, subst, subst₂, arith}
use Rattle.std.proofs.Math.ListN.{set}
use Rattle.std.proofs.lemmas.Bool.{cases_lt}
use Rattle.std.proofs.lemmas.List.{length-set, length-take-le, get_or-take, get_or-set_same, get_or-set_other}
use Rattle.cyc_types.specs.Limits.{cyclics}
use Rattle.cyc_types.specs.Series.{never}
use Rattle.cyc_heap.specs.declared.entry.Entry.{Entry}
use Rattle.cyc_heap.specs.Tournament.{nowhere, entry_at, id_in_word, cyclic_index, free_entry, comes}
use Rattle.cyc_heap.specs.Few.{shown, HasWordFrom, IsHeap, IsFilled, IsFew, IsBareFront, IsTree, IsChanged}
use Rattle.cyc_heap.proofs.Moving.{child_low}
use Rattle.cyc_heap.proofs.Spreading.{tree_after, changed_to, changed_free}

-- what stands in front
pub front : (n : ℕ) (es : List Entry) (p : ℕ) → p < n → entry_at (take n es) p ≡ entry_at es p
front n es p low = get_or-take n es p nowhere low

pub front_long : (n : ℕ) (es : List Entry) → n ≤ length es → length (take n es) ≡ n
front_long n es within = length-take-le n es within

-- one has this entry, and the others are the old ones
module _ (held after leaves : ℕ) (es new : List Entry) (x : ℕ) (e : Entry) (t : IsTree true held leaves es) (low_x : x < leaves)
    (same : length new ≡ length es) (within : after ≤ length new) (heap : IsHeap (take after new))
    (bare : IsBareFront after new)
    (to : (q : ℕ) → q < held → cyclic_index (entry_at (take held es) q) ≢ x
    → (p : ℕ) × (p < after) × (entry_at (take after new) p ≡ entry_at (take held es) q)) where
  was : IsFew (take held es) leaves (shown true held es)
  was = t.heap refl

  module _ (mine : cyclic_index e ≡ x) (valid : e.moment ≤ never)
      (from : (p : ℕ) → p < after → (entry_at (take after new) p ≡ e)
      ⊎ ((q : ℕ) × (q < held) × (entry_at (take after new) p ≡ entry_at (take held es) q)))
      (there : (p : ℕ) × (p < after) × (entry_at (take after new) p ≡ e)) where
    each : (P : Entry → Type 0) → P e → ((q : ℕ) → q < length (take held es) → P (entry_at (take held es) q))
        → (p : ℕ) → p < length (take after new) → P (entry_at (take after new) p)
    each P one old p at = let n = front_long after new within in let l = front_long held es t.within in
        elim (from p (omega (arith, at, n))) [
          | inl is ↦ subst P (sym is) one
          | inr (q, low, is) ↦ subst P (sym is) (old q (omega (arith, low, l)))
        ]

    low_after : (p : ℕ) → p < length (take after new) → cyclic_index (entry_at (take after new) p) < leaves
    low_after = each (λ e. cyclic_index e < leaves) (omega (arith, mine, low_x)) was.low

    used_after : (p : ℕ) → p < length (take after new) → (entry_at (take after new) p).moment ≤ never
    used_after = each (λ (e : Entry). e.moment ≤ never) valid was.used

    pub put_tree : IsTree true after leaves new
    put_tree = tree_after held after leaves es new x e t low_x same within heap bare to low_after used_after

    pub put_changed : IsChanged leaves x e (shown true held es) (shown true after new)
    put_changed = (let (p, low, is) = there in
        changed_to held after leaves es new x e t low_x same within heap bare to low_after used_after from p low is mine)

  -- none has its index
  module _ (off : (p : ℕ) → p < after → cyclic_index (entry_at (take after new) p) ≢ x)
      (from : (p : ℕ) → p < after → (q : ℕ) × (q < held) × (entry_at (take after new) p ≡ entry_at (take held es) q)) where
    all : (P : Entry → Type 0) → ((q : ℕ) → q < length (take held es) → P (entry_at (take held es) q))
        → (p : ℕ) → p < length (take after new) → P (entry_at (take after new) p)
    all P old p at = let n = front_long after new within in let l = front_long held es t.within in
        let (q, low, is) = from p (omega (arith, at, n)) in subst P (sym is) (old q (omega (arith, low, l)))

    low_left : (p : ℕ) → p < length (take after new) → cyclic_index (entry_at (take after new) p) < leaves
    low_left = all (λ e. cyclic_index e < leaves) was.low

    used_left : (p : ℕ) → p < length (take after new) → (entry_at (take after new) p).moment ≤ never
    used_left = all (λ (e : Entry). e.moment ≤ never) was.used

    pub left_tree : IsTree true after leaves new
    left_tree = tree_after held after leaves es new x e t low_x same within heap bare to low_left used_left

    pub left_changed : IsChanged leaves x free_entry (shown true held es) (shown true after new)
    left_changed = changed_free held after leaves es new x e t low_x same within heap bare to low_left used_left off from

-- another entry for the index of the one at this position
module _ (held leaves position x : ℕ) (es new : List Entry) (e : Entry) (t : IsTree true held leaves es) (low : position < held)
    (here : cyclic_index (entry_at es position) ≡ x) where
  pub position_low : x < leaves
  position_low = let l = front_long held es t.within in
      let f = (t.heap refl).low position (omega (arith, low, l)) in
      let at = ap cyclic_index (front held es position low) in omega (arith, f, at, here)

  module _ (same : length new ≡ length es) (heap : IsHeap (take held new))
      (f : IsFilled position (take held es) e (take held new))
      (mine : cyclic_index e ≡ x) (valid : e.moment ≤ never) where
    inside : held ≤ length new
    inside = let w = t.within in omega (arith, w, same)

    to : (q : ℕ) → q < held → cyclic_index (entry_at (take held es) q) ≢ x
        → (p : ℕ) × (p < held) × (entry_at (take held new) p ≡ entry_at (take held es) q)
    to q less off = let l = front_long held es t.within in let n = front_long held new inside in
        let (p, at, is) = f.to q (omega (arith, less, l))
        (λ e. off (ap (λ q. cyclic_index (entry_at (take held es) q)) e ∙ ap cyclic_index (front held es position low) ∙ here)) in
        (p, omega (arith, at, n), is)

    from : (p : ℕ) → p < held → (entry_at (take held new) p ≡ e)
        ⊎ ((q : ℕ) × (q < held) × (entry_at (take held new) p ≡ entry_at (take held es) q))
    from p less = let l = front_long held es t.within in let n = front_long held new inside in
        elim (f.from p (omega (arith, less, n))) [
          | inl is ↦ inl is
          | inr (q, at, _, is) ↦ inr (q, omega (arith, at, l), is)
        ]

    there : (p : ℕ) × (p < held) × (entry_at (take held new) p ≡ e)
    there = let n = front_long held new inside in let (p, at, is) = f.here in (p, omega (arith, at, n), is)

    some_held : IsBareFront held new
    some_held none = absurd (omega (arith, none, low))

    pub changed_tree : IsTree true held leaves new
    changed_tree = put_tree held held leaves es new x e t position_low same inside heap some_held to mine valid from there

    pub changed_leaf : IsChanged leaves x e (shown true held es) (shown true held new)
    changed_leaf = put_changed held held leaves es new x e t position_low same inside heap some_held to mine valid from there

-- one more, of an index that none has
module _ (held leaves x : ℕ) (es new : List Entry) (e : Entry) (t : IsTree true held leaves es) (low_x : x < leaves)
    (space : held < length es) (same : length new ≡ length es) (heap : IsHeap (take (held + 1) new))
    (f : IsFilled held (take (held + 1) es) e (take (held + 1) new))
    (mine : cyclic_index e ≡ x) (valid : e.moment ≤ never) where
  more : held + 1 ≤ length new
  more = omega (arith, space, same)

  add_to : (q : ℕ) → q < held → cyclic_index (entry_at (take held es) q) ≢ x
      → (p : ℕ) × (p < held + 1) × (entry_at (take (held + 1) new) p ≡ entry_at (take held es) q)
  add_to q less off = let l = front_long (held + 1) es (omega (arith, space)) in let n = front_long (held + 1) new more in
      let (p, at, is) = f.to q (omega (arith, less, l)) (λ e. absurd (omega (arith, e, less))) in
      (p, omega (arith, at, n), is ∙ front (held + 1) es q (omega (arith, less)) ∙ sym (front held es q less))

  add_from : (p : ℕ) → p < held + 1 → (entry_at (take (held + 1) new) p ≡ e)
      ⊎ ((q : ℕ) × (q < held) × (entry_at (take (held + 1) new) p ≡ entry_at (take held es) q))
  add_from p less = let l = front_long (held + 1) es (omega (arith, space)) in let n = front_long (held + 1) new more in
      elim (f.from p (omega (arith, less, n))) [
        | inl is ↦ inl is
        | inr (q, at, off, is) ↦ (let low : q < held = omega (arith, at, l, off) in
            inr (q, low, is ∙ front (held + 1) es q (omega (arith, low)) ∙ sym (front held es q low)))
      ]

  add_there : (p : ℕ) × (p < held + 1) × (entry_at (take (held + 1) new) p ≡ e)
  add_there = let n = front_long (held + 1) new more in let (p, at, is) = f.here in (p, omega (arith, at, n), is)

  some_added : IsBareFront (held + 1) new
  some_added none = absurd (omega (arith, none))

  pub added_tree : IsTree true (held + 1) leaves new
  added_tree = put_tree held (held + 1) leaves es new x e t low_x same more heap some_added add_to mine valid add_from add_there

  pub added_leaf : IsChanged leaves x e (shown true held es) (shown true (held + 1) new)
  added_leaf = put_changed held (held + 1) leaves es new x e t low_x same more heap some_added add_to mine valid add_from
      add_there

-- the one at this position is taken out
module _ (held leaves position x : ℕ) (es : List Entry) (t : IsTree true held leaves es) (low : position < held)
    (here : cyclic_index (entry_at es position) ≡ x) where
  abbrev pub cut : List Entry
  cut = set es (held - 1) free_entry

  cut_long : length cut ≡ length es
  cut_long = length-set es (held - 1) free_entry

  cut_inside : held - 1 ≤ length cut
  cut_inside = let w = t.within in let l = cut_long in omega (arith, w, l)

  -- those before the last are as they were
  before : (p : ℕ) → p < held - 1 → entry_at (take (held - 1) cut) p ≡ entry_at (take held es) p
  before p less = front (held - 1) cut p less
      ∙ get_or-set_other es (held - 1) p free_entry nowhere (λ e. absurd (omega (arith, e, less)))
      ∙ sym (front held es p (omega (arith, less)))

  held_long : length (take held es) ≡ held
  held_long = front_long held es t.within

  apart : (p q : ℕ) → p < held → q < held → p ≢ q → cyclic_index (entry_at (take held es) p) ≢ cyclic_index (entry_at (take
      held es) q)
  apart p q a b ne = let l = held_long in (t.heap refl).heap.apart p q (omega (arith, a, l)) (omega (arith, b, l)) ne

  here_front : cyclic_index (entry_at (take held es) position) ≡ x
  here_front = ap cyclic_index (front held es position low) ∙ here

  pub cut_heap : IsHeap (take (held - 1) cut)
  cut_heap = let n = front_long (held - 1) cut cut_inside in let l = held_long in record {
    rising = λ a c is at. (let less = child_low a c is in
        subst₂ (λ a b. comes a b ≡ true) (sym (before a (omega (arith, less, at, n)))) (sym (before c (omega (arith, at, n))))
        ((t.heap refl).heap.rising a c is (omega (arith, at, n, l))));
    apart = λ p q a b ne. subst₂ (λ a b. cyclic_index a ≢ cyclic_index b) (sym (before p (omega (arith, a, n))))
        (sym (before q (omega (arith, b, n)))) (apart p q (omega (arith, a, n)) (omega (arith, b, n)) ne);
  }

  pub cut_apart : (p : ℕ) → p < held - 1 → cyclic_index (entry_at cut p) ≢ cyclic_index (entry_at es (held - 1))
  cut_apart p less = subst₂ (λ a b. cyclic_index a ≢ cyclic_index b) (sym (before p less) ∙ front (held - 1) cut p less)
      (front held es (held - 1) (omega (arith, low)))
      (apart p (held - 1) (omega (arith, less)) (omega (arith, low)) (λ e. absurd (omega (arith, e, less))))

  cut_bare : IsBareFront (held - 1) cut
  cut_bare none = ap (entry_at cut) (sym none)
      ∙ get_or-set_same es (held - 1) free_entry nowhere (let w = t.within in omega (arith, w, low))

  taken_low : x < leaves
  taken_low = position_low held leaves position x es es free_entry t low here

  -- it was the last
  module _ (last : held - 1 ≤ position) where
    last_to : (q : ℕ) → q < held → cyclic_index (entry_at (take held es) q) ≢ x
        → (p : ℕ) × (p < held - 1) × (entry_at (take (held - 1) cut) p ≡ entry_at (take held es) q)
    last_to q less off = elim (cases_lt q (held - 1)) [
      | inl inside ↦ (q, inside, before q inside)
      | inr past ↦ absurd (off (ap (λ q. cyclic_index (entry_at (take held es) q)) (let e : q ≡ position = omega
          (arith, less, past, last, low) in e) ∙ here_front))
    ]

    last_off : (p : ℕ) → p < held - 1 → cyclic_index (entry_at (take (held - 1) cut) p) ≢ x
    last_off p less e = apart p position (omega (arith, less)) low (λ e. absurd (omega (arith, e, less, last)))
        (sym (ap cyclic_index (before p less)) ∙ e ∙ sym here_front)

    last_from : (p : ℕ) → p < held - 1 → (q : ℕ) × (q < held) × (entry_at (take (held - 1) cut) p ≡ entry_at (take held es) q)
    last_from p less = (p, omega (arith, less), before p less)

    pub last_tree : IsTree true (held - 1) leaves cut
    last_tree = left_tree held (held - 1) leaves es cut x free_entry t taken_low cut_long cut_inside cut_heap cut_bare last_to
        last_off last_from

    pub last_changed : IsChanged leaves x free_entry (shown true held es) (shown true (held - 1) cut)
    last_changed = left_changed held (held - 1) leaves es cut x free_entry t taken_low cut_long cut_inside cut_heap cut_bare
        last_to last_off last_from

  -- the last fills its position
  module _ (new : List Entry) (less : position < held - 1) (same : length new ≡ length cut) (heap : IsHeap (take (held - 1) new))
      (f : IsFilled position (take (held - 1) cut) (entry_at es (held - 1)) (take (held - 1) new)) where
    new_inside : held - 1 ≤ length new
    new_inside = let i = cut_inside in omega (arith, i, same)

    new_long : length new ≡ length es
    new_long = same ∙ cut_long

    moved_to : (q : ℕ) → q < held → cyclic_index (entry_at (take held es) q) ≢ x
        → (p : ℕ) × (p < held - 1) × (entry_at (take (held - 1) new) p ≡ entry_at (take held es) q)
    moved_to q inside off =
        let n = front_long (held - 1) new new_inside in
        let m = front_long (held - 1) cut cut_inside in
        elim (cases_lt q (held - 1)) [
          | inl before_last ↦ (let (p, at, is) = f.to q (omega (arith, before_last, m))
              (λ e. off (ap (λ q. cyclic_index (entry_at (take held es) q)) e ∙ here_front)) in
              (p, omega (arith, at, n), is ∙ before q before_last))
          | inr past ↦ (let (p, at, is) = f.here in
              let last : q ≡ held - 1 = omega (arith, inside, past) in (
                p,
                omega (arith, at, n),
                is ∙ sym (front held es (held - 1) (omega (arith, low))) ∙ ap (entry_at (take held es)) (sym last),
              ))
        ]

    moved_from : (p : ℕ) → p < held - 1
        → (q : ℕ) × (q < held) × (q ≢ position) × (entry_at (take (held - 1) new) p ≡ entry_at (take held es) q)
    moved_from p inside =
        let n = front_long (held - 1) new new_inside in
        let m = front_long (held - 1) cut cut_inside in
        elim (f.from p (omega (arith, inside, n))) [
          | inl is ↦ (
            held - 1,
            omega (arith, low),
            (λ e. absurd (omega (arith, e, less))),
            is ∙ sym (front held es (held - 1) (omega (arith, low))),
          )
          | inr (q, at, off, is) ↦ (let within : q < held - 1 = omega (arith, at, m) in
              (q, omega (arith, within), off, is ∙ before q within))
        ]

    moved_off : (p : ℕ) → p < held - 1 → cyclic_index (entry_at (take (held - 1) new) p) ≢ x
    moved_off p inside e = (let (q, at, off, is) = moved_from p inside in
        apart q position at low off (sym (ap cyclic_index is) ∙ e ∙ sym here_front))

    old_from : (p : ℕ) → p < held - 1 → (q : ℕ) × (q < held) × (entry_at (take (held - 1) new) p ≡ entry_at (take held es) q)
    old_from p inside = let (q, at, _, is) = moved_from p inside in (q, at, is)

    some_left : IsBareFront (held - 1) new
    some_left none = absurd (omega (arith, none, less))

    pub moved_tree : IsTree true (held - 1) leaves new
    moved_tree = left_tree held (held - 1) leaves es new x free_entry t taken_low new_long new_inside heap some_left moved_to
        moved_off old_from

    pub moved_changed : IsChanged leaves x free_entry (shown true held es) (shown true (held - 1) new)
    moved_changed = left_changed held (held - 1) leaves es new x free_entry t taken_low new_long new_inside heap some_left
        moved_to moved_off old_from

-- the position of an index that one of the few has
pub found : (held : ℕ) (es l : List Entry) (o : Option ℕ) (position i : ℕ) → held ≤ length es → l ≡ es → o ≡ Some position
    → IfSome o (λ p. (p < length (take held l)) × (cyclic_index (entry_at (take held l) p) ≡ i))
    → (position < held) × (cyclic_index (entry_at es position) ≡ i)
found held es l o position i within is some has =
    let (low, at) = subst (λ l. (position < length (take held l)) × (cyclic_index (entry_at (take held l) position) ≡ i)) is
    (subst (λ o. IfSome o (λ p. (p < length (take held l)) × (cyclic_index (entry_at (take held l) p) ≡ i))) some has) in
    let n = front_long held es within in
    let less : position < held = omega (arith, low, n) in (less, sym (ap cyclic_index (front held es position less)) ∙ at)

-- the word of an id and an index
word_of : (e x : Entry) → id_in_word e ≡ id_in_word x → cyclic_index e ≡ cyclic_index x → e.word ≡ x.word
word_of e x id index = omega (arith, id, index)

-- the leaf of an index that has a moment has that index, and its word stands in front
module _ (held leaves i : ℕ) (es : List Entry) (t : IsTree true held leaves es) (low : i < leaves)
    (used : (entry_at (shown true held es) i).moment ≤ never) where
  leaf_index : cyclic_index (entry_at (shown true held es) i) ≡ i
  leaf_index = let (p, within, index, is) = (t.heap refl).all i low used in ap cyclic_index (sym is) ∙ index

  -- an entry of the same id and index has its word
  pub leaf_word : (id : ℕ) (x : Entry) → id_in_word (entry_at (shown true held es) i) ≡ id → id_in_word x ≡ id
      → cyclic_index x ≡ i → x.word ≡ (entry_at (shown true held es) i).word
  leaf_word id x own named index = word_of x (entry_at (shown true held es) i) (named ∙ sym own) (index ∙ sym leaf_index)

  pub word_stands : (l : List Entry) → l ≡ es → (w : ℕ) → w ≡ (entry_at (shown true held es) i).word
      → HasWordFrom 0 w (take held l)
  word_stands l is w same = let (p, within, index, leaf) = (t.heap refl).all i low used in
      subst (λ l. HasWordFrom 0 w (take held l)) (sym is)
      (p, omega (arith), within, ap (λ (e : Entry). e.word) leaf ∙ sym same)

-- the position of a word has its index
pub found_word : (held : ℕ) (es l : List Entry) (position word : ℕ) → held ≤ length es → l ≡ es → position < length (take held l)
    → (entry_at (take held l) position).word ≡ word → (position < held) × (cyclic_index (entry_at es position) ≡ word % cyclics)
found_word held es l position word within is low at =
    let n = front_long held es within in
    let low : position < length (take held es) = subst (λ l. position < length (take held l)) is low in
    let at : (entry_at (take held es) position).word ≡ word = subst (λ l. (entry_at (take held l) position).word ≡ word) is at in
    let less : position < held = omega (arith, low, n) in
    (less, sym (ap cyclic_index (front held es position less)) ∙ ap (λ w. w % cyclics) at)

-- what its leaf is shown to have
pub position_shown : (held leaves position x : ℕ) (es : List Entry) → IsTree true held leaves es → position < held
    → cyclic_index (entry_at es position) ≡ x → entry_at (shown true held es) x ≡ entry_at es position
position_shown held leaves position x es t low here =
    let l = front_long held es t.within in
    ap (entry_at (shown true held es)) (sym here ∙ sym (ap cyclic_index (front held es position low)))
    ∙ (t.heap refl).own position (omega (arith, low, l)) ∙ front held es position low
