-- From few in a heap to many that play, and back.
use Rattle.std.proofs.Common.{◌≡◌, ◌≢◌, ℕ, suc, ◌+◌, ◌-◌, ◌*◌, ◌<◌, ◌≤◌, inl, inr, true, false, List, [], ◌∷◌, length, take}
use Rattle.std.proofs.Common.{drop, Option, is_some, count_by, cond, refl}
use Rattle.std.proofs.Common.{sym, ap, ◌∙◌, subst₂, arith}
use Rattle.std.proofs.lemmas.Bool.{cases_eq, cases_lt}
use Rattle.std.proofs.lemmas.List.{get_or-drop}
use Rattle.std.proofs.lemmas.List.Sums.{sum_by-append}
use Rattle.cyc_types.specs.Series.{never}
use Rattle.cyc_types.specs.Expirations.{Expiration}
use Rattle.cyc_heap.specs.declared.entry.Entry.{Entry}
use Rattle.cyc_heap.specs.Tournament.{nowhere, entry_at, cyclic_index, slot, slots, comes}
use Rattle.cyc_heap.specs.Few.{shown, IsHeap, IsHeapBut, IsFilled, IsTree}
use Rattle.cyc_heap.proofs.Slots.{slots_kept, slots_more, one_more, slot_used, slot_free, count_with_free}
use Rattle.cyc_heap.proofs.Moving.{child_low}
use Rattle.cyc_heap.proofs.Spreading.{member, stands, free_else, few_tree}
use Rattle.cyc_heap.proofs.Sifting.{front, front_long}

-- of the first leaves of old, those that have a moment stand in front
pub record IsGathered (old : List Entry) (position held : ℕ) (es : List Entry) : Type 0 where
  pub long : length es ≡ length old
  pub low : held ≤ position
  pub heap : IsHeap (take held es)
  pub from : (p : ℕ) → p < held → (cyclic_index (entry_at es p) < position)
      × (entry_at old (cyclic_index (entry_at es p)) ≡ entry_at es p) × ((entry_at es p).moment ≤ never)
  pub to : (k : ℕ) → k < position → (entry_at old k).moment ≤ never → (p : ℕ) × (p < held) × (entry_at es p ≡ entry_at old k)
  pub behind : (p : ℕ) → held ≤ p → entry_at es p ≡ entry_at old p
  pub count : held ≡ count_by is_some (slots position old)

pub gathered_none : (old : List Entry) → IsGathered old 0 0 old
unfolding slots
gathered_none old = record {
  long = refl;
  low = omega arith;
  heap = record {
    rising = λ a c _ low. absurd (omega (arith, low));
    apart = λ p q low _ _. absurd (omega (arith, low));
  };
  from = λ p low. absurd (omega (arith, low));
  to = λ k low. absurd (omega (arith, low));
  behind = λ p _. refl;
  count = refl;
}

-- one leaf more counts where it has a moment
one_counted : (n : ℕ) (xs : List Entry) → n < length xs
    → count_by is_some (slots (n + 1) xs) ≡ count_by is_some (slots n xs) + cond (is_some (slot (entry_at xs n))) 1 0
one_counted n xs low = (let more = ap (count_by is_some) (one_more n xs low) in
    let both = sum_by-append (λ (o : Option Expiration). cond (is_some o) 1 0) (slots n xs) (slot (entry_at xs n) ∷ []) in
    omega (arith, more, both))

module _ (old : List Entry) (position held : ℕ) (es : List Entry) (h : IsGathered old position held es)
    (inside : position < length old) (e : Entry) (here : entry_at es position ≡ e) where
  pub leaf : entry_at old position ≡ e
  leaf = sym (h.behind position h.low) ∙ here

  pub gathered_free : never < e.moment → IsGathered old (position + 1) held es
  gathered_free unused = record {
    long = h.long;
    low = let l = h.low in omega (arith, l);
    heap = h.heap;
    from = λ p low. let (less, at, used) = h.from p low in (omega (arith, less), at, used);
    to = λ k low used. elim (cases_eq k position) [
      | inl is ↦ absurd (let m = ap (λ (e : Entry). e.moment) (ap (entry_at old) is ∙ leaf) in omega (arith, m, used, unused))
      | inr off ↦ h.to k (omega (arith, low, off)) used
    ];
    behind = h.behind;
    count = let one = one_counted position old inside in
        let none = ap {B = ℕ} (λ (o : Option Expiration). cond (is_some o) 1 0) (ap slot leaf ∙ slot_free e unused) in
        let count = h.count in omega (arith, one, none, count);
  }

  module _ (used : e.moment ≤ never) (mine : cyclic_index e ≡ position) where
    space : held + 1 ≤ length es
    space = let l = h.low in let n = h.long in omega (arith, l, n, inside)

    -- those in front stay where one more is looked at
    as_front : (p : ℕ) → p < held → entry_at (take (held + 1) es) p ≡ entry_at (take held es) p
    as_front p low = front (held + 1) es p (omega (arith, low)) ∙ sym (front held es p low)

    old_long : length (take held es) ≡ held
    old_long = let s = space in front_long held es (omega (arith, s))

    more_long : length (take (held + 1) es) ≡ held + 1
    more_long = front_long (held + 1) es space

    pub gather_open : IsHeapBut held (take (held + 1) es)
    gather_open = let n = more_long in let l = old_long in record {
      rising = λ a c is low _ off. (let less = child_low a c is in
          subst₂ (λ a b. comes a b ≡ true) (sym (as_front a (omega (arith, less, low, n, off))))
          (sym (as_front c (omega (arith, low, n, off)))) (h.heap.rising a c is (omega (arith, low, n, l, off))));
      bridge = λ a c _ is low. absurd (let less = child_low held c is in omega (arith, less, low, n));
      apart = λ p q a b off_p off_q ne. subst₂ (λ a b. cyclic_index a ≢ cyclic_index b) (sym (as_front p (omega (
        arith,
        a,
        n,
        off_p,
      ))))
          (sym (as_front q (omega (arith, b, n, off_q))))
          (h.heap.apart p q (omega (arith, a, n, l, off_p)) (omega (arith, b, n, l, off_q)) ne);
    }

    pub gather_apart : (p : ℕ) → p < held + 1 → p ≢ held → cyclic_index (entry_at es p) ≢ cyclic_index e
    gather_apart p low off same = (let (less, _, _) = h.from p (omega (arith, low, off)) in omega (arith, less, same, mine))

    module _ (new : List Entry) (long : length new ≡ length es) (heap : IsHeap (take (held + 1) new))
        (f : IsFilled held (take (held + 1) es) e (take (held + 1) new)) (rest : drop (held + 1) new ≡ drop (held + 1) es) where
      new_long : length (take (held + 1) new) ≡ held + 1
      new_long = let s = space in front_long (held + 1) new (omega (arith, s, long))

      pub gathered_more : IsGathered old (position + 1) (held + 1) new
      gathered_more = let n = new_long in let l = more_long in record {
        long = long ∙ h.long;
        low = let l = h.low in omega (arith, l);
        heap = heap;
        from = λ p low. let at = front (held + 1) new p low in elim (f.from p (omega (arith, low, n))) [
          | inl is ↦ (let same : entry_at new p ≡ e = sym at ∙ is in
              let i = ap cyclic_index same in
              let m = ap (λ (e : Entry). e.moment) same in (
                omega (arith, i, mine),
                ap (entry_at old) (i ∙ mine) ∙ leaf ∙ sym same,
                omega (arith, m, used),
              ))
          | inr (q, within, off, is) ↦ (let less : q < held = omega (arith, within, off, l) in
              let same : entry_at new p ≡ entry_at es q = sym at ∙ is ∙ front (held + 1) es q (omega (arith, less)) in
              let (low_q, at_q, used_q) = h.from q less in
              let i = ap cyclic_index same in
              let m = ap (λ (e : Entry). e.moment) same in (
                omega (arith, i, low_q),
                ap (entry_at old) i ∙ at_q ∙ sym same,
                omega (arith, m, used_q),
              ))
        ];
        to = λ k low has. elim (cases_eq k position) [
          | inl is ↦ (let (p, at, same) = f.here in (
            p,
            omega (arith, at, n),
            sym (front (held + 1) new p (omega (arith, at, n))) ∙ same ∙ sym leaf
                ∙ ap (entry_at old) (sym is),
          ))
          | inr off ↦ (let (q, less, same) = h.to k (omega (arith, low, off)) has in
              let (p, at, moved) = f.to q (omega (arith, less, l)) (λ e. absurd (omega (arith, e, less))) in (
                p,
                omega (arith, at, n),
                sym (front (held + 1) new p (omega (arith, at, n))) ∙ moved
                    ∙ front (held + 1) es q (omega (arith, less)) ∙ same,
              ))
        ];
        behind = λ p past. let at : held + 1 + (p - (held + 1)) ≡ p = omega (arith, past) in
            sym (ap (entry_at new) at) ∙ sym (get_or-drop (held + 1) new (p - (held + 1)) nowhere)
            ∙ ap (λ l. entry_at l (p - (held + 1))) rest
            ∙ get_or-drop (held + 1) es (p - (held + 1)) nowhere ∙ ap (entry_at es) at ∙ h.behind p (omega (arith, past));
        count = let one = one_counted position old inside in
            let some = ap {B = ℕ} (λ (o : Option Expiration). cond (is_some o) 1 0) (ap slot leaf ∙ slot_used e used) in
            let count = h.count in omega (arith, one, some, count);
      }

-- all leaves were looked at
module _ (leaves : ℕ) (old : List Entry) (held : ℕ) (es : List Entry) (h : IsGathered old leaves held es) (some : 0 < leaves)
    (own : (i : ℕ) → i < leaves → (entry_at old i).moment ≤ never → cyclic_index (entry_at old i) ≡ i)
    (t : IsTree false 0 leaves old) where
  inside : held ≤ length es
  inside = let l = t.long in let n = h.long in let low = h.low in omega (arith, l, n, low, some)

  held_long : length (take held es) ≡ held
  held_long = front_long held es inside

  low : (p : ℕ) → p < length (take held es) → cyclic_index (entry_at (take held es) p) < leaves
  low p at = let n = held_long in
      let (less, _, _) = h.from p (omega (arith, at, n)) in
      let i = ap cyclic_index (front held es p (omega (arith, at, n))) in omega (arith, i, less)

  used : (p : ℕ) → p < length (take held es) → (entry_at (take held es) p).moment ≤ never
  used p at = let n = held_long in
      let (_, _, has) = h.from p (omega (arith, at, n)) in
      let m = ap (λ (e : Entry). e.moment) (front held es p (omega (arith, at, n))) in omega (arith, m, has)

  all_long : suc (length es) ≡ 2 * leaves
  all_long = let l = t.long in let n = h.long in omega (arith, l, n)

  pub gathered_tree : IsTree true held leaves es
  gathered_tree = few_tree held leaves es all_long inside h.heap low used
      (λ none. h.behind 0 (omega (arith, none)) ∙ elim (cases_lt never (entry_at old 0).moment) [
        | inl unused ↦ t.bare 0 some unused
        | inr has ↦ absurd (let (p, at, _) = h.to 0 some has in omega (arith, at, none))
      ])

  pub gathered_kept : (i : ℕ) → i < leaves → entry_at (shown true held es) i ≡ entry_at old i
  gathered_kept i less = let l = all_long in let n = held_long in elim (member (length (take held es)) i (take held es)) [
    | inl (p, at, is) ↦ (let same = front held es p (omega (arith, at, n)) in
        let (_, leaf, _) = h.from p (omega (arith, at, n)) in
        ap (entry_at (shown true held es)) (sym is)
        ∙ stands (take held es) leaves (length es) h.heap low used (omega (arith, l)) p at ∙ same ∙ sym leaf
        ∙ ap (entry_at old) (sym (ap cyclic_index same) ∙ is))
    | inr none ↦ free_else (take held es) leaves (length es) h.heap low used (omega (arith, l)) i (omega (arith, less, l)) none
        ∙ sym (elim (cases_lt never (entry_at old i).moment) [
          | inl unused ↦ t.bare i less unused
          | inr has ↦ absurd (let (p, at, same) = h.to i less has in
              none p (omega (arith, at, n)) (ap cyclic_index (front held es p at ∙ same) ∙ own i less has))
        ])
  ]

-- as many leaves have a moment as indexes that were given
pub all_counted : (given leaves : ℕ) (xs ys : List Entry) → given ≤ leaves → leaves ≤ length xs → leaves ≤ length ys
    → ((i : ℕ) → i < leaves → entry_at ys i ≡ entry_at xs i)
    → ((i : ℕ) → given ≤ i → i < leaves → never < (entry_at ys i).moment)
    → count_by is_some (slots leaves xs) ≡ count_by is_some (slots given ys)
all_counted given leaves xs ys known long_xs long_ys same unused =
    sym (ap (count_by is_some) (slots_kept leaves xs ys long_xs long_ys same))
    ∙ ap (λ n. count_by is_some (slots n ys)) (let e : leaves ≡ given + (leaves - given) = omega (arith, known) in e)
    ∙ ap (count_by is_some) (slots_more given (leaves - given) ys (omega (arith, known, long_ys))
    (λ i from low. unused i from (omega (arith, low, known))))
    ∙ count_with_free (slots given ys) (leaves - given)
