-- The text of a report, line by line.
use Rattle.std.proofs.Common.{◌≡◌, ℕ, zero, suc, ◌+◌, ◌<◌, ◌≤◌, List, [], ◌∷◌, ◌++◌, ◌⊎◌, inl, inr, refl, sym, ap, ◌∙◌, arith}
use Rattle.std.proofs.Common.{take, length, append_assoc, get_or, map, min}
use Rattle.std.proofs.lemmas.List.{get_or-map, get_or_default, length-map}
use Rattle.cyc_text.specs.declared.lines.Counts.{Counts}
use Rattle.cyc_text.specs.Lines.{reported}
use Rattle.cyc_threads.specs.declared.counting.Line.{Line}
use Rattle.cyc_threads.specs.Reporting.{counts_told, report_text}

no_more : (xs : List ℕ) → xs ++ [] ≡ xs
no_more [] = refl
no_more (x ∷ xs) = ap (λ (ys : List ℕ). x ∷ ys) (no_more xs)

-- one line more
pub text_more : (ns : List (List ℕ)) (ls : List Line) (k j : ℕ) (n : List ℕ) (l : Line) → k < length ns → k < length ls
    → get_or ns k n ≡ n → get_or ls k l ≡ l → j ≡ suc k →
    report_text (take j ns) (take j ls) ≡ report_text (take k ns) (take k ls) ++ reported n (counts_told l)
text_more [] ls k j n l low low' e f is = absurd (omega (arith, low))
text_more (m ∷ ns) [] k j n l low low' e f is = absurd (omega (arith, low'))
text_more (m ∷ ns) (x ∷ ls) zero j n l low low' e f is = ap (λ (i : ℕ). report_text (take i (m ∷ ns)) (take i (x ∷ ls))) is
    ∙ no_more (reported m (counts_told x)) ∙ (λ z. reported (e z) (counts_told (f z)))
text_more (m ∷ ns) (x ∷ ls) (suc k) j n l low low' e f is = ap (λ (i : ℕ). report_text (take i (m ∷ ns)) (take i (x ∷ ls))) is
    ∙ ap (λ (t : List ℕ). reported m (counts_told x) ++ t)
    (text_more ns ls k (suc k) n l (omega (arith, low)) (omega (arith, low')) e f refl)
    ∙ sym (append_assoc (reported m (counts_told x)) (report_text (take k ns) (take k ls)) (reported n (counts_told l)))

-- all of them
pub text_all : (ns : List (List ℕ)) (ls : List Line) (k : ℕ) → (length ns ≤ k) ⊎ (length ls ≤ k)
    → report_text (take k ns) (take k ls) ≡ report_text ns ls
text_all [] ls k far = by k
  where
    by : (k : ℕ) → report_text (take k []) (take k ls) ≡ report_text [] ls
    by zero = refl
    by (suc k) = refl
text_all (m ∷ ns) [] zero far = refl
text_all (m ∷ ns) [] (suc k) far = refl
text_all (m ∷ ns) (x ∷ ls) zero (inl far) = absurd (omega (arith, far))
text_all (m ∷ ns) (x ∷ ls) zero (inr far) = absurd (omega (arith, far))
text_all (m ∷ ns) (x ∷ ls) (suc k) (inl far) =
    ap (λ (t : List ℕ). reported m (counts_told x) ++ t) (text_all ns ls k (inl (omega (arith, far))))
text_all (m ∷ ns) (x ∷ ls) (suc k) (inr far) =
    ap (λ (t : List ℕ). reported m (counts_told x) ++ t) (text_all ns ls k (inr (omega (arith, far))))

-- the same as a loop has it, over names that have bytes
low_min : (k e n m : ℕ) → k < e → e ≡ min n m → (k < n) × (k < m)
low_min k e n m low is = (omega (arith, low, is), omega (arith, low, is))

one_more : (n m k : ℕ) → (n ≤ k) ⊎ (m ≤ k) → (suc n ≤ suc k) ⊎ (suc m ≤ suc k)
one_more n m k (inl a) = inl (omega (arith, a))
one_more n m k (inr a) = inr (omega (arith, a))

far_min : (k n m : ℕ) → min n m ≤ k → (n ≤ k) ⊎ (m ≤ k)
far_min k zero m far = inl (omega arith)
far_min k (suc n) zero far = inr (omega arith)
far_min zero (suc n) (suc m) far = absurd (omega (arith, far))
far_min (suc k) (suc n) (suc m) far = one_more n m k (far_min k n m (omega (arith, far)))

module _ {A : Type 0} (f : A → List ℕ) (names : List A) (ls : List Line) (k e : ℕ) where
  pub text_next : (n : A) (none : Line) (old new line name text : List ℕ) (counts : Counts) → k < e
      → e ≡ min (length names) (length ls) → n ≡ get_or names k n →
      counts ≡ counts_told (get_or ls k none) → name ≡ f n → line ≡ reported name counts → text ≡ line → new ≡ old ++ text →
      old ≡ report_text (take k (map f names)) (take k ls) → new ≡ report_text (take (k + 1) (map f names)) (take (k + 1) ls)
  text_next n none old new line name text counts low is at counted named wrote same put inv =
      let lows = low_min k e (length names) (length ls) low is in let long = length-map names f in
      put ∙ (λ z. inv z ++ (same ∙ wrote ∙ (λ y. reported ((named ∙ ap f at ∙ sym (get_or-map f names k n (f n) lows.0)) y)
      (counted y))) z)
      ∙ sym (text_more (map f names) ls k (k + 1) (get_or (map f names) k (f n)) (get_or ls k none)
      (omega (arith, long, lows.0)) lows.1
      (get_or_default (map f names) k (get_or (map f names) k (f n)) (f n) (omega (arith, long, lows.0)))
      (get_or_default ls k (get_or ls k none) none lows.1) (omega arith))

  pub text_end : (text : List ℕ) → e ≤ k → e ≡ min (length names) (length ls)
      → text ≡ report_text (take k (map f names)) (take k ls) →
      text ≡ report_text (map f names) ls
  text_end text far is inv = inv ∙ text_all (map f names) ls k
      (by (far_min k (length names) (length ls) (omega (arith, far, is))))
    where
      by : (length names ≤ k) ⊎ (length ls ≤ k) → (length (map f names) ≤ k) ⊎ (length ls ≤ k)
      by (inl a) = let long = length-map names f in inl (omega (arith, a, long))
      by (inr a) = inr a
