-- More leaves: the few in front stay, and so do the leaves of many.
use Rattle.std.proofs.Common.{◌≡◌, ℕ, suc, ◌*◌, ◌<◌, ◌≤◌, inl, inr, Bool, true, false, List, length, take, replicate}
use Rattle.std.proofs.Common.{refl, sym, ap, ◌∙◌, subst, arith}
use Rattle.std.proofs.lemmas.Bool.{cases_lt, false≢true}
use Rattle.std.proofs.lemmas.List.{get_or-take, get_or_default, same_lists}
use Rattle.cyc_types.specs.Series.{never}
use Rattle.cyc_heap.specs.declared.entry.Entry.{Entry}
use Rattle.cyc_heap.specs.Tournament.{nowhere, entry_at, cyclic_index, free_entry, IsPlayed}
use Rattle.cyc_heap.specs.Few.{spread, shown, IsFew, IsHeap, IsTree}
use Rattle.cyc_heap.proofs.Views.{few_or_many}
use Rattle.cyc_heap.proofs.Spreading.{member, stands, free_else, few_tree}
use Rattle.cyc_heap.proofs.Sifting.{front_long}
use Rattle.cyc_heap.proofs.Fronts.{shown_many}

-- where they are few
module _ (held leaves more : ℕ) (es new : List Entry) (t : IsTree true held leaves es) (wider : leaves ≤ more)
    (long : suc (length new) ≡ 2 * more) (front : (p : ℕ) → p < length es → entry_at new p ≡ entry_at es p) where
  few : IsFew (take held es) leaves (shown true held es)
  few = t.heap refl

  longer : length es ≤ length new
  longer = let l = t.long in omega (arith, l, long, wider)

  inside : held ≤ length new
  inside = let w = t.within in let l = longer in omega (arith, w, l)

  pub same_front : take held new ≡ take held es
  same_front =
      let w = t.within in
      let n = front_long held new inside in
      let l = front_long held es w in
      same_lists (take held new) (take held es) (n ∙ sym l)
      (λ k d low. let less : k < held = omega (arith, low, n) in
      let i = inside in
      get_or-take held new k d less ∙ get_or_default new k d nowhere (omega (arith, less, i))
      ∙ front k (omega (arith, less, w)) ∙ get_or_default es k nowhere d (omega (arith, less, w))
      ∙ sym (get_or-take held es k d less))

  low_more : (p : ℕ) → p < length (take held es) → cyclic_index (entry_at (take held es) p) < more
  low_more p at = let m = few.low p at in omega (arith, m, wider)

  wide_new : more ≤ length new
  wide_new = omega (arith, long)

  spread_new : (i : ℕ) → entry_at (shown true held new) i ≡ entry_at (spread (take held es) (replicate (length new) free_entry)) i
  spread_new i = ap (λ l. entry_at (spread l (replicate (length new) free_entry)) i) same_front

  pub few_kept : (i : ℕ) → i < leaves → entry_at (shown true held new) i ≡ entry_at (shown true held es) i
  few_kept i low = spread_new i ∙ elim (member (length (take held es)) i (take held es)) [
    | inl (p, at, is) ↦ ap (entry_at (spread (take held es) (replicate (length new) free_entry))) (sym is)
        ∙ stands (take held es) more (length new) few.heap low_more few.used wide_new p at ∙ sym (few.own p at)
        ∙ ap (entry_at (shown true held es)) is
    | inr none ↦ (let w = wide_new in
        let l = t.long in
        free_else (take held es) more (length new) few.heap low_more few.used wide_new i (omega (arith, low, wider, w)) none
        ∙ sym (free_else (take held es) leaves (length es) few.heap few.low few.used (omega (arith, l)) i (omega (arith, low, l))
        none))
  ]

  pub few_unused : (i : ℕ) → leaves ≤ i → i < more → entry_at (shown true held new) i ≡ free_entry
  few_unused i past low = let w = wide_new in
      spread_new i ∙ free_else (take held es) more (length new) few.heap low_more few.used wide_new i (omega (arith, low, w))
      (λ p at e. absurd (let m = few.low p at in omega (arith, m, e, past)))

  pub few_wider : IsTree true held more new
  few_wider = few_tree held more new long inside (subst IsHeap (sym same_front) few.heap)
      (subst (λ few. (p : ℕ) → p < length few → cyclic_index (entry_at few p) < more) (sym same_front) low_more)
      (subst (λ (few : List Entry). (p : ℕ) → p < length few → (entry_at few p).moment ≤ never) (sym same_front) few.used)
      (λ none. let l = t.long in front 0 (omega (arith, l)) ∙ t.front refl none)

-- by either name
module _ (b : Bool) (held leaves more : ℕ) (es new : List Entry) (t : IsTree b held leaves es) (none : b ≡ false → held ≡ 0)
    (wider : leaves ≤ more) (long : suc (length new) ≡ 2 * more)
    (front : b ≡ true → (p : ℕ) → p < length es → entry_at new p ≡ entry_at es p)
    (kept : b ≡ false → (i : ℕ) → i < leaves → entry_at new i ≡ entry_at es i)
    (unused : b ≡ false → (i : ℕ) → leaves ≤ i → i < more → entry_at new i ≡ free_entry)
    (played : b ≡ false → IsPlayed leaves es → IsPlayed more new) where
  as_few : b ≡ true → IsTree true held leaves es
  as_few small = subst (λ b. IsTree b held leaves es) small t

  pub wide_kept : (i : ℕ) → i < leaves → entry_at (shown b held new) i ≡ entry_at (shown b held es) i
  wide_kept i low = elim (few_or_many b) [
    | inl small ↦ subst (λ b. entry_at (shown b held new) i ≡ entry_at (shown b held es) i) (sym small)
        (few_kept held leaves more es new (as_few small) wider long (front small) i low)
    | inr many ↦ ap (λ l. entry_at l i) (shown_many b held new many) ∙ kept many i low
        ∙ ap (λ l. entry_at l i) (sym (shown_many b held es many))
  ]

  pub wide_unused : (i : ℕ) → leaves ≤ i → i < more → entry_at (shown b held new) i ≡ free_entry
  wide_unused i past low = elim (few_or_many b) [
    | inl small ↦ subst (λ b. entry_at (shown b held new) i ≡ free_entry) (sym small)
        (few_unused held leaves more es new (as_few small) wider long (front small) i past low)
    | inr many ↦ ap (λ l. entry_at l i) (shown_many b held new many) ∙ unused many i past low
  ]

  pub played_new : b ≡ false → IsPlayed more (shown b held new)
  played_new many = subst (IsPlayed more) (sym (shown_many b held new many))
      (played many (subst (IsPlayed leaves) (shown_many b held es many) (t.played many)))

  pub wide_tree : IsTree b held more new
  wide_tree = elim (few_or_many b) [
    | inl small ↦ subst (λ b. IsTree b held more new) (sym small)
        (few_wider held leaves more es new (as_few small) wider long (front small))
    | inr many ↦ record {
      long = long;
      within = let n = none many in omega (arith, n);
      heap = λ small. absurd (false≢true (sym many ∙ small));
      front = λ small. absurd (false≢true (sym many ∙ small));
      played = played_new;
      bare = λ i low free. elim (cases_lt i leaves) [
        | inl before ↦ (let same = wide_kept i before in
            let m = ap (λ (e : Entry). e.moment) same in same ∙ t.bare i before (omega (arith, m, free)))
        | inr past ↦ wide_unused i past low
      ];
    }
  ]
