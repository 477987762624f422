-- What each index has, read off the leaves.
use Rattle.std.proofs.Common.{◌≡◌, ◌≢◌, ℕ, zero, suc, ◌+◌, ◌<◌, ◌≤◌, inl, inr, ltb, List, [], ◌∷◌, ◌++◌, length, take, get_or}
use Rattle.std.proofs.Common.{replicate}
use Rattle.std.proofs.Common.{Option, Some, None, is_some, count_by, cond, refl, sym, ap, ◌∙◌, arith}
use Rattle.std.proofs.Math.ListN.{set}
use Rattle.std.proofs.lemmas.Bool.{cases_eq, lt-ltb, le-ltb, cond-true, cond-false}
use Rattle.std.proofs.lemmas.List.{length-map, length-set, length-take-le, get_or-map, get_or-take, get_or-set_same}
use Rattle.std.proofs.lemmas.List.{get_or-set_other}
use Rattle.std.proofs.lemmas.List.{ext_get_or, append-nil, append_assoc, map_more, replicate_more}
use Rattle.std.proofs.lemmas.List.Sums.{sum_by-append}
use Rattle.cyc_types.specs.Series.{never}
use Rattle.cyc_types.specs.Expirations.{Expiration}
use Rattle.cyc_heap.specs.declared.entry.Entry.{Entry}
use Rattle.cyc_heap.specs.Tournament.{nowhere, key, entry_at, slot, slots}

-- a leaf with a moment, and a free one
pub slot_used : (e : Entry) → e.moment ≤ never → slot e ≡ Some (key e)
slot_used e low = cond-false (ltb never e.moment) None (Some (key e)) (le-ltb never e.moment low)

pub slot_free : (e : Entry) → never < e.moment → slot e ≡ None
slot_free e high = cond-true (ltb never e.moment) None (Some (key e)) (lt-ltb never e.moment high)

module _ (size : ℕ) (entries : List Entry) (long : size ≤ length entries) where
  pub length-slots : length (slots size entries) ≡ size
  unfolding slots
  length-slots = length-map (take size entries) slot ∙ length-take-le size entries long

  pub slots_at : (i : ℕ) (d : Option Expiration) → i < size → get_or (slots size entries) i d ≡ slot (entry_at entries i)
  unfolding slots
  slots_at i d low =
      let l = length-take-le size entries long in
      get_or-map slot (take size entries) i nowhere d (omega (arith, l, low))
      ∙ ap slot (get_or-take size entries i nowhere low)

-- the same leaves have the same
pub slots_kept : (size : ℕ) (xs ys : List Entry) → size ≤ length xs → size ≤ length ys
    → ((i : ℕ) → i < size → entry_at ys i ≡ entry_at xs i) → slots size ys ≡ slots size xs
slots_kept size xs ys long_xs long_ys same =
    let n = length-slots size xs long_xs in
    let m = length-slots size ys long_ys in
    ext_get_or None (slots size ys) (slots size xs) (m ∙ sym n)
    (λ i low. slots_at size ys long_ys i None (omega (arith, low, m))
    ∙ ap slot (same i (omega (arith, low, m)))
    ∙ sym (slots_at size xs long_xs i None (omega (arith, low, m))))

-- another entry in one leaf
pub slots_set : (size : ℕ) (xs ys : List Entry) (at : ℕ) (e : Entry) → size ≤ length xs → size ≤ length ys → at < size
    → entry_at ys at ≡ e → ((i : ℕ) → i < size → i ≢ at → entry_at ys i ≡ entry_at xs i)
    → slots size ys ≡ set (slots size xs) at (slot e)
slots_set size xs ys at e long_xs long_ys within here others =
    let n = length-slots size xs long_xs in
    let m = length-slots size ys long_ys in
    let k = length-set (slots size xs) at (slot e) in
    ext_get_or None (slots size ys) (set (slots size xs) at (slot e)) (m ∙ sym (k ∙ n))
    (λ i low. elim (cases_eq i at) [
      | inl is ↦ slots_at size ys long_ys i None (omega (arith, low, m)) ∙ ap (λ j. slot (entry_at ys j)) is ∙ ap slot here
          ∙ sym (ap (λ j. get_or (set (slots size xs) at (slot e)) j None) is
          ∙ get_or-set_same (slots size xs) at (slot e) None (omega (arith, within, n)))
      | inr off ↦ slots_at size ys long_ys i None (omega (arith, low, m)) ∙ ap slot (others i (omega (arith, low, m)) off)
          ∙ sym (get_or-set_other (slots size xs) at i (slot e) None off
          ∙ slots_at size xs long_xs i None (omega (arith, low, m)))
    ])

-- one more index
pub one_more : (n : ℕ) (xs : List Entry) → n < length xs → slots (n + 1) xs ≡ slots n xs ++ slot (entry_at xs n) ∷ []
unfolding slots
one_more n xs low = map_more slot xs n nowhere low

-- some more, all of which are free
pub slots_more : (n k : ℕ) (xs : List Entry) → n + k ≤ length xs
    → ((i : ℕ) → n ≤ i → i < n + k → never < (entry_at xs i).moment) → slots (n + k) xs ≡ slots n xs ++ replicate k None
slots_more n zero xs long unused =
    ap (λ m. slots m xs) (let e : n + zero ≡ n = omega arith in e) ∙ sym (append-nil (slots n xs))
slots_more n (suc k) xs long unused =
    ap (λ m. slots m xs) (let e : n + suc k ≡ n + k + 1 = omega arith in e)
    ∙ one_more (n + k) xs (omega (arith, long))
    ∙ ap (λ o. slots (n + k) xs ++ o ∷ []) (slot_free (entry_at xs (n + k)) (unused (n + k) (omega arith) (omega arith)))
    ∙ ap (λ (os : List (Option Expiration)). os ++ None ∷ [])
    (slots_more n k xs (omega (arith, long)) (λ i from low. unused i from (omega (arith, low))))
    ∙ append_assoc (slots n xs) (replicate k None) (None ∷ [])
    ∙ ap (λ (os : List (Option Expiration)). slots n xs ++ os) (replicate_more k None
    ∙ ap (λ k. replicate k None) (let e : k + 1 ≡ suc k = omega arith in e))

-- free indexes don't count
none_counted : (k : ℕ) → count_by is_some (replicate {A = Option Expiration} k None) ≡ 0
none_counted zero = refl
none_counted (suc k) = none_counted k

pub count_with_free : (os : List (Option Expiration)) (k : ℕ) → count_by is_some (os ++ replicate k None) ≡ count_by is_some os
count_with_free os k = (let both = sum_by-append (λ (o : Option Expiration). cond (is_some o) 1 0) os (replicate k None) in
    let none = none_counted k in omega (arith, both, none))
