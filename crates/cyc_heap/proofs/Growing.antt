-- The leaves of more indexes, and the games among them.
use Rattle.std.proofs.Common.{◌≡◌, ℕ, ◌<◌, ◌≤◌, inl, inr, true, List, [], length, get_or}
use Rattle.std.proofs.Common.{Some, is_some, count_by, refl, sym, ap, ◌∙◌, subst, arith}
use Rattle.std.proofs.lemmas.Bool.{cases_lt}
use Rattle.cyc_types.specs.Series.{never}
use Rattle.cyc_heap.specs.declared.entry.Entry.{Entry}
use Rattle.cyc_heap.specs.Tournament.{entry_at, cyclic_index, slots, last_position, winner_of, comes}
use Rattle.cyc_heap.specs.Tournament.{IsPlayed, IsListed}
use Rattle.cyc_heap.proofs.Slots.{slots_kept}
use Rattle.cyc_heap.proofs.Playing.{comes_antisym, least_of_all, one_of_all}
use Rattle.cyc_heap.proofs.Views.{winner_used, winner_free, comes_later}

-- no index was given
pub none_listed : (xs : List Entry) → IsListed 0 xs []
unfolding slots
none_listed xs = record {
  own = λ i low. absurd (omega (arith, low));
  low = λ p at. absurd (omega (arith, at));
  none = λ p at. absurd (omega (arith, at));
  apart = λ p q less at. absurd (omega (arith, at));
  count = refl;
}

-- the same leaves are listed alike
pub kept_listed : (size : ℕ) (xs ys : List Entry) (free : List ℕ) → size ≤ length xs → size ≤ length ys
    → ((i : ℕ) → i < size → entry_at ys i ≡ entry_at xs i) → IsListed size xs free → IsListed size ys free
kept_listed size xs ys free long_xs long_ys same h = record {
  own = λ i low used. (let at = same i low in
      let m = ap (λ (e : Entry). e.moment) at in
      ap cyclic_index at ∙ h.own i low (omega (arith, m, used)));
  low = h.low;
  none = λ p at. (let m = ap (λ (e : Entry). e.moment) (same (get_or free p 0) (h.low p at)) in
      let was = h.none p at in omega (arith, m, was));
  apart = h.apart;
  count = (let s = ap (count_by is_some) (slots_kept size xs ys long_xs long_ys same) in let count = h.count in omega
      (arith, s, count));
}

-- more free leaves keep the winner as it is
module _ (leaves more : ℕ) (xs ys : List Entry) (played : IsPlayed leaves xs) (played_after : IsPlayed more ys)
    (some : 0 < leaves)
    (wider : leaves ≤ more) (same : (i : ℕ) → i < leaves → entry_at ys i ≡ entry_at xs i)
    (unused : (i : ℕ) → leaves ≤ i → i < more → never < (entry_at ys i).moment) where
  not_later : comes (entry_at ys (last_position more)) (entry_at xs (last_position leaves)) ≡ true
  not_later = (let (i, low, is) = one_of_all leaves xs played some in
      subst (λ (e : Entry). comes (entry_at ys (last_position more)) e ≡ true) (same i low ∙ sym is)
      (least_of_all more ys played_after i (omega (arith, low, wider))))

  pub same_root : winner_of more ys ≡ winner_of leaves xs
  same_root = elim (cases_lt never (entry_at ys (last_position more)).moment) [
    | inl none ↦ (let m = comes_later (entry_at ys (last_position more)) (entry_at xs (last_position leaves)) not_later in
        winner_free more ys none ∙ sym (winner_free leaves xs (omega (arith, m, none))))
    | inr used ↦ (let (i, low, is) = one_of_all more ys played_after (omega (arith, some, wider)) in
        let m = ap (λ (e : Entry). e.moment) is in
        let low_old : i < leaves = elim (cases_lt i leaves)
        [ inl low ↦ low | inr past ↦ absurd (let u = unused i past low in omega (arith, u, m, used)) ] in
        let not_earlier : comes (entry_at xs (last_position leaves)) (entry_at ys (last_position more)) ≡ true
        = subst (λ (e : Entry). comes (entry_at xs (last_position leaves)) e ≡ true) (sym (is ∙ same i low_old))
        (least_of_all leaves xs played i low_old) in
        let eq = comes_antisym (entry_at ys (last_position more)) (entry_at xs (last_position leaves)) not_later not_earlier in
        let n = ap (λ (e : Entry). e.moment) eq in
        winner_used more ys (omega (arith, used)) ∙ ap (λ (e : Entry). Some (cyclic_index e)) eq
        ∙ sym (winner_used leaves xs (omega (arith, n, used))))
  ]
