-- Few in front, each as if in its leaf.
use Rattle.std.proofs.Common.{◌≡◌, ◌≢◌, ℕ, zero, suc, ◌*◌, ◌<◌, ◌≤◌, ◌⊎◌, inl, inr, Bool, true, false, List, [], ◌∷◌, length}
use Rattle.std.proofs.Common.{take, replicate}
use Rattle.std.proofs.Common.{refl, sym, ap, ◌∙◌, subst, arith}
use Rattle.std.proofs.lemmas.Bool.{cases_eq, cases_lt, false≢true}
use Rattle.std.proofs.lemmas.List.{length-set, length-replicate, length-take-le, get_or-set_same, get_or-set_other}
use Rattle.std.proofs.lemmas.List.{get_or-replicate}
use Rattle.cyc_types.specs.Series.{never}
use Rattle.cyc_heap.specs.declared.entry.Entry.{Entry}
use Rattle.cyc_heap.specs.Tournament.{nowhere, entry_at, cyclic_index, free_entry}
use Rattle.cyc_heap.specs.Few.{spread, shown, HasNoIndex, StandsIn, HasBareLeaves, IsHeap, IsFew, IsBareFront, IsTree, IsChanged}

-- whether one of the first n has this index
pub member : (n i : ℕ) (few : List Entry)
    → ((p : ℕ) × (p < n) × (cyclic_index (entry_at few p) ≡ i)) ⊎ ((p : ℕ) → p < n → cyclic_index (entry_at few p) ≢ i)
member zero i few = inr (λ p low. absurd (omega (arith, low)))
member (suc n) i few = elim (member n i few) [
  | inl (p, low, is) ↦ inl (p, omega (arith, low), is)
  | inr none ↦ elim (cases_eq (cyclic_index (entry_at few n)) i) [
    | inl is ↦ inl (n, omega arith, is)
    | inr off ↦ inr (λ p low. elim (cases_eq p n) [
      | inl at ↦ subst (λ p. cyclic_index (entry_at few p) ≢ i) (sym at) off
      | inr else ↦ none p (omega (arith, low, else))
    ])
  ]
]

length-spread : (few xs : List Entry) → length (spread few xs) ≡ length xs
unfolding spread
length-spread [] xs = refl
length-spread (e ∷ few) xs = length-set (spread few xs) (cyclic_index e) e ∙ length-spread few xs

pub length-shown : (b : Bool) (held : ℕ) (es : List Entry) → length (shown b held es) ≡ length es
length-shown true held es = length-spread (take held es) (replicate (length es) free_entry)
    ∙ length-replicate (length es) free_entry
length-shown false held es = refl

-- where none of them has its leaf
spread_other : (few xs : List Entry) (i : ℕ) → HasNoIndex i few → entry_at (spread few xs) i ≡ entry_at xs i
unfolding spread
spread_other [] xs i none = refl
spread_other (e ∷ few) xs i none = get_or-set_other (spread few xs) (cyclic_index e) i e nowhere (λ q. none 0 (omega arith)
    (sym q))
    ∙ spread_other few xs i (λ p low. none (suc p) (omega (arith, low)))

-- each is in its leaf
spread_stands : (few xs : List Entry)
    → ((p q : ℕ) → p < length few → q < length few → p ≢ q → cyclic_index (entry_at few p) ≢ cyclic_index (entry_at few q))
    → ((p : ℕ) → p < length few → cyclic_index (entry_at few p) < length xs) → StandsIn (spread few xs) few
unfolding spread
spread_stands [] xs apart low p at = absurd (omega (arith, at))
spread_stands (e ∷ few) xs apart low zero at = get_or-set_same (spread few xs) (cyclic_index e) e nowhere
    (let l = length-spread few xs in let m = low 0 (omega arith) in omega (arith, l, m))
spread_stands (e ∷ few) xs apart low (suc p) at =
    get_or-set_other (spread few xs) (cyclic_index e) (cyclic_index (entry_at few p)) e nowhere
    (apart (suc p) 0 at (omega arith) (λ q. absurd (omega (arith, q))))
    ∙ spread_stands few xs
    (λ p q a b ne. apart (suc p) (suc q) (omega (arith, a)) (omega (arith, b)) (λ q. ne (omega (arith, q))))
    (λ p at. low (suc p) (omega (arith, at))) p (omega (arith, at))

-- a heap with leaves of its own, before free entries
module _ (few : List Entry) (leaves n : ℕ) (heap : IsHeap few)
    (low : (p : ℕ) → p < length few → cyclic_index (entry_at few p) < leaves)
    (used : (p : ℕ) → p < length few → (entry_at few p).moment ≤ never) (wide : leaves ≤ n) where
  abbrev pub spreads : List Entry
  spreads = spread few (replicate n free_entry)

  pub stands : StandsIn spreads few
  stands = spread_stands few (replicate n free_entry) heap.apart
      (λ p at. let m = low p at in let l = length-replicate n free_entry in omega (arith, m, l, wide))

  pub free_else : (i : ℕ) → i < n → HasNoIndex i few → entry_at spreads i ≡ free_entry
  free_else i inside none = spread_other few (replicate n free_entry) i none ∙ get_or-replicate n i free_entry nowhere inside

  pub few_spread : IsFew few leaves spreads
  few_spread = record {
    heap = heap;
    low = low;
    own = stands;
    used = used;
    all = λ i inside has. elim (member (length few) i few) [
      | inl (p, at, is) ↦ (p, at, is, sym (stands p at) ∙ ap (entry_at spreads) is)
      | inr none ↦ absurd (let m = ap (λ (e : Entry). e.moment) (free_else i (omega (arith, inside, wide)) none) in
          omega (arith, m, has))
    ];
  }

  pub spread_bare : HasBareLeaves leaves spreads
  spread_bare i inside unused = elim (member (length few) i few) [
    | inl (p, at, is) ↦ absurd (let m = ap (λ (e : Entry). e.moment) (sym (ap (entry_at spreads) is) ∙ stands p at) in
        let u = used p at in omega (arith, m, u, unused))
    | inr none ↦ free_else i (omega (arith, inside, wide)) none
  ]

-- a tree of few, and one of many
pub few_tree : (held leaves : ℕ) (es : List Entry) → suc (length es) ≡ 2 * leaves → held ≤ length es → IsHeap (take held es)
    → ((p : ℕ) → p < length (take held es) → cyclic_index (entry_at (take held es) p) < leaves)
    → ((p : ℕ) → p < length (take held es) → (entry_at (take held es) p).moment ≤ never) → IsBareFront held es
    → IsTree true held leaves es
few_tree held leaves es long within heap low used front = record {
  long = long;
  within = within;
  heap = λ _. few_spread (take held es) leaves (length es) heap low used (omega (arith, long));
  front = λ _. front;
  played = λ no. absurd (false≢true (sym no));
  bare = spread_bare (take held es) leaves (length es) heap low used (omega (arith, long));
}

-- the few, after a change
module _ (held after leaves : ℕ) (es new : List Entry) (x : ℕ) (e : Entry) (t : IsTree true held leaves es) (low_x : x < leaves)
    (same : length new ≡ length es) (within : after ≤ length new) (heap : IsHeap (take after new))
    (bare : IsBareFront after new)
    (to : (q : ℕ) → q < held → cyclic_index (entry_at (take held es) q) ≢ x
    → (p : ℕ) × (p < after) × (entry_at (take after new) p ≡ entry_at (take held es) q)) where
  was : IsFew (take held es) leaves (shown true held es)
  was = t.heap refl

  few_long : length (take held es) ≡ held
  few_long = length-take-le held es t.within

  new_long : length (take after new) ≡ after
  new_long = length-take-le after new within

  wide : leaves ≤ length es
  wide = let long = t.long in omega (arith, long)

  module _ (low : (p : ℕ) → p < length (take after new) → cyclic_index (entry_at (take after new) p) < leaves)
      (used : (p : ℕ) → p < length (take after new) → (entry_at (take after new) p).moment ≤ never) where
    pub tree_after : IsTree true after leaves new
    tree_after = few_tree after leaves new (let long = t.long in omega (arith, long, same)) within heap low used bare

    now_stands : StandsIn (shown true after new) (take after new)
    now_stands = stands (take after new) leaves (length new) heap low used (let w = wide in omega (arith, w, same))

    now_free : (i : ℕ) → i < leaves → HasNoIndex i (take after new) → entry_at (shown true after new) i ≡ free_entry
    now_free i inside none = let w = wide in
        free_else (take after new) leaves (length new) heap low used (omega (arith, w, same)) i
        (omega (arith, inside, w, same)) none

    length_after : length (shown true after new) ≡ length (shown true held es)
    length_after = length-spread (take after new) (replicate (length new) free_entry) ∙ length-replicate (length new) free_entry
        ∙ same ∙ sym (length-replicate (length es) free_entry)
        ∙ sym (length-spread (take held es) (replicate (length es) free_entry))

    -- a leaf that is not this one is as it was
    stays : ((p : ℕ) → p < after → cyclic_index (entry_at (take after new) p) ≢ x
        → (q : ℕ) × (q < held) × (entry_at (take after new) p ≡ entry_at (take held es) q))
        → (i : ℕ) → i < leaves → i ≢ x → entry_at (shown true after new) i ≡ entry_at (shown true held es) i
    stays from i inside off =
        let l = few_long in
        let n = new_long in
        elim (member (length (take after new)) i (take after new)) [
          | inl (p, at, is) ↦ (let (q, low_q, eq) = from p (omega (arith, at, n)) (λ e. off (sym is ∙ e)) in
              sym (ap (entry_at (shown true after new)) is) ∙ now_stands p at ∙ eq ∙ sym (was.own q (omega (arith, low_q, l)))
              ∙ ap (entry_at (shown true held es)) (sym (ap cyclic_index eq) ∙ is))
          | inr none ↦ elim (cases_lt never (entry_at (shown true held es) i).moment) [
            | inl unused ↦ now_free i inside none ∙ sym (t.bare i inside unused)
            | inr has ↦ absurd (let (q, at, is, _) = was.all i inside has in
                let (p, low_p, eq) = to q (omega (arith, at, l)) (λ e. off (sym is ∙ e)) in
                none p (omega (arith, low_p, n)) (ap cyclic_index eq ∙ is))
          ]
        ]

    -- it has this entry
    pub changed_to : ((p : ℕ) → p < after → (entry_at (take after new) p ≡ e)
        ⊎ ((q : ℕ) × (q < held) × (entry_at (take after new) p ≡ entry_at (take held es) q)))
        → (p : ℕ) → p < after → entry_at (take after new) p ≡ e → cyclic_index e ≡ x
        → IsChanged leaves x e (shown true held es) (shown true after new)
    changed_to from p low_p there mine = record {
      long = length_after;
      here = let n = new_long in
          sym (ap (entry_at (shown true after new)) (ap cyclic_index there ∙ mine)) ∙ now_stands p (omega (arith, low_p, n))
          ∙ there;
      others = stays (λ p at off. elim (from p at) [ inl is ↦ absurd (off (ap cyclic_index is ∙ mine)) | inr old ↦ old ]);
    }

    -- it is free
    pub changed_free : ((p : ℕ) → p < after → cyclic_index (entry_at (take after new) p) ≢ x)
        → ((p : ℕ) → p < after → (q : ℕ) × (q < held) × (entry_at (take after new) p ≡ entry_at (take held es) q))
        → IsChanged leaves x free_entry (shown true held es) (shown true after new)
    changed_free none from = record {
      long = length_after;
      here = let n = new_long in now_free x low_x (λ p at. none p (omega (arith, at, n)));
      others = stays (λ p at _. from p at);
    }
