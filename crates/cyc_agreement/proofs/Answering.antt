-- What a cyclic's counts come to is all that it has expired.
use Rattle.std.proofs.Common.{◌≡◌, ◌==◌, ℕ, suc, ◌+◌, Bool, true, false, Some, List, [], ◌∷◌, map, refl, sym, ap, ◌∙◌, subst}
use Rattle.std.proofs.Common.{arith}
use Rattle.std.specs.Prelude.{sum_by}
use Rattle.std.specs.List.{slice_get, list_any}
use Rattle.std.specs.Option.{option_map_or}
use Rattle.std.proofs.lemmas.List.Sums.{sum_by-cons}
use Rattle.cyc_types.specs.declared.Raise.{Ghosts as Raise}
use Rattle.cyc_types.specs.declared.firing.Sent.{Sent}
use Rattle.cyc_cpu.specs.declared.hard.Totals.{Totals}
use Rattle.cyc_cpu.specs.Cpu.{CpuView}
use Rattle.cyc_cpu.specs.Laws.{IsLawful}
use Rattle.cyc_cpu.specs.Calls.{CpuChanges, AskTotals}
use Rattle.cyc_places.specs.declared.record.Record.{Record}
use Rattle.cyc_places.specs.Places.{summed}
use Rattle.cyc_agreement.specs.Cpus.{CpusView, IsCpu, numbers_from, Works}
use Rattle.cyc_agreement.proofs.CpuSpots.{get_set_other}
use Rattle.cyc_agreement.specs.System.{SystemView, ids_of}
use Rattle.cyc_agreement.proofs.Spots.{same_some}
use Rattle.cyc_agreement.specs.Counting.{Counted, asked, AddsUp, AsksTotals}
use Rattle.cyc_agreement.specs.Counts.{AreLawful}
use Rattle.cyc_agreement.specs.declared.totals.SystemTotals.{SystemTotals}
use Rattle.cyc_agreement.proofs.Sums.{cyclic_found, none_found, of_cyclic, in_cpu, all_of}

first_same : {x y : ℕ} {xs ys : List ℕ} → x ∷ xs ≡ y ∷ ys → x ≡ y
first_same {x} {y} {xs} {ys} f = cc

others_same : {x y : ℕ} {xs ys : List ℕ} → x ∷ xs ≡ y ∷ ys → xs ≡ ys
others_same {x} {y} {xs} {ys} f = cc

module _ {R : Type 0} (firing : Raise R) (g : Sent → ℕ) (id : ℕ) (adds : (a b : Sent)
    → g (summed a b) ≡ g a + g b) where
  -- what a CPU answers
  abbrev pub worth : Counted → ℕ
  worth a = g (record { sent = a.totals.expired; lost = a.totals.lost })

  answer_is : (x y : CpuView R) (t : Totals) → IsLawful firing.view x → CpuChanges firing x (AskTotals id (Some t)) y
      → g (record { sent = t.expired; lost = t.lost }) ≡ in_cpu firing g id adds x
  answer_is x y t law (a, seen, expired, lost, spared) = (λ i. g (record { sent = expired i; lost = lost i }))
      ∙ sym (ap (λ o. option_map_or (of_cyclic firing g id adds) o 0)
      (cyclic_found x.cyclics id a.position a.cyclic law.rising a.here a.named))

  -- one CPU, and those after it
  one_sum : (k : ℕ) (x : CpuView R) (xs : List (CpuView R)) (b : Bool) → list_any (λ own. own == id) (ids_of x) ≡ b
      → ((way : List Counted) (v w : CpusView R)
      → map (λ (a : Counted). a.cpu) way ≡ numbers_from (k + 1) (map (λ cpu. list_any (λ own. own == id) (ids_of cpu)) xs)
      → ((j : ℕ) (y : CpuView R) → slice_get xs j ≡ Some y → IsCpu (k + 1 + j) y v × IsLawful firing.view y)
      → Works firing (map (asked id) way) v w → sum_by worth way ≡ sum_by (in_cpu firing g id adds) xs)
      → (way : List Counted) (v w : CpusView R)
      → map (λ (a : Counted). a.cpu) way ≡ numbers_from k (b ∷ map (λ cpu. list_any (λ own. own == id) (ids_of cpu)) xs)
      → ((j : ℕ) (y : CpuView R) → slice_get (x ∷ xs) j ≡ Some y → IsCpu (k + j) y v × IsLawful firing.view y)
      → Works firing (map (asked id) way) v w → sum_by worth way ≡ sum_by (in_cpu firing g id adds) (x ∷ xs)
  one_sum k x xs true test rest [] v w cpus at works =
      absurd (let odd : [] ≡ k ∷ numbers_from (k + 1) (map (λ cpu. list_any (λ own. own == id) (ids_of cpu)) xs) = cpus in cc)
  one_sum k x xs true test rest (a ∷ way) v w cpus at (u, does, after) =
      let number : a.cpu ≡ k = first_same cpus in
      let here : IsCpu a.cpu x v = subst (λ n. IsCpu n x v) (let z : k + 0 ≡ a.cpu = omega (arith, number) in z) (at 0 x refl).0
      in
      let same : does.before ≡ x = same_some (sym does.here ∙ here) in
      let mine = answer_is does.before does.after a.totals (subst (λ y. IsLawful firing.view y) (sym same) (at 0 x refl).1)
      does.change
      ∙ ap (in_cpu firing g id adds) same in
      let others = rest way u w (others_same cpus)
      (λ j y is. (
        subst (λ n. IsCpu n y u) (let z : k + suc j ≡ k + 1 + j = omega arith in z)
            (ap (λ c. slice_get c.cpus (k + suc j)) does.rest
            ∙ get_set_other v.cpus a.cpu (k + suc j) does.after (λ e. omega (arith, e, number)) ∙ (at (suc j) y is).0),
        (at (suc j) y is).1,
      )) after in
      let p = sum_by-cons worth a way in let q = sum_by-cons (in_cpu firing g id adds) x xs in
      omega (arith, mine, others, p, q)
  one_sum k x xs false test rest way v w cpus at works =
      let others = rest way v w cpus
      (λ j y is. (
        subst (λ n. IsCpu n y v) (let z : k + suc j ≡ k + 1 + j = omega arith in z) (at (suc j) y is).0,
        (at (suc j) y is).1,
      )) works in
      let q = sum_by-cons (in_cpu firing g id adds) x xs in
      let none : in_cpu firing g id adds x ≡ 0 =
      ap (λ o. option_map_or (of_cyclic firing g id adds) o 0) (none_found x.cyclics id test) in
      omega (arith, others, q, none)

  asks_sum : (k : ℕ) (xs : List (CpuView R)) (way : List Counted) (v w : CpusView R)
      → map (λ (a : Counted). a.cpu) way ≡ numbers_from k (map (λ cpu. list_any (λ own. own == id) (ids_of cpu)) xs)
      → ((j : ℕ) (x : CpuView R) → slice_get xs j ≡ Some x → IsCpu (k + j) x v × IsLawful firing.view x)
      → Works firing (map (asked id) way) v w → sum_by worth way ≡ sum_by (in_cpu firing g id adds) xs
  asks_sum k [] [] v w cpus at works = refl
  asks_sum k [] (a ∷ way) v w cpus at works = absurd (let odd : a.cpu ∷ map (λ (b : Counted). b.cpu) way ≡ [] = cpus in cc)
  asks_sum k (x ∷ xs) way v w cpus at works =
      one_sum k x xs (list_any (λ own. own == id) (ids_of x)) refl (asks_sum (k + 1) xs) way v w cpus at works

  pub totals_all : (totals : SystemTotals) (s t : SystemView R) → AreLawful firing.view s → AsksTotals firing id (Some totals) s t
      → (value : ℕ) → ((way : List Counted) (r : Record) → AddsUp way r totals → value ≡ sum_by g r.ended + sum_by worth way)
      → value ≡ all_of firing g id adds s
  totals_all totals s t lawful (way, r, is, cpus, works, sums) value of_way =
      let a = of_way way r sums in
      let b = asks_sum 0 s.cpus.cpus way s.cpus t.cpus cpus (λ j x at. (beginning j x at, lawful j x at)) works.0 in
      let c = ap (λ o. option_map_or (λ (q : Record). sum_by g q.ended) o 0) is in omega (arith, a, b, c)
    where
      beginning : (j : ℕ) (x : CpuView R) → slice_get s.cpus.cpus j ≡ Some x → IsCpu (0 + j) x s.cpus
      beginning j x at = subst (λ n. IsCpu n x s.cpus) (let z : j ≡ 0 + j = omega arith in z) at
