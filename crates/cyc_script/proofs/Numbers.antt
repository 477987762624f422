-- The numbers of names after one more was introduced.
use Rattle.std.proofs.Common.{◌≡◌, ℕ, ◌+◌, ◌<◌, ◌≤◌, ◌++◌, ◌∷◌, [], List, Bool, true, false, cond, ltb, eqb}
use Rattle.std.proofs.Common.{length, get_or, Some, None, refl}
use Rattle.std.proofs.Common.{sym, ◌∙◌, subst, arith}
use Rattle.std.specs.Prelude.{bytes_eq, is_some}
use Rattle.std.specs.List.{position_or_len}
use Rattle.std.proofs.lemmas.Bool.{false_from_ne_true}
use Rattle.std.proofs.lemmas.Bool.Decides.{nat_tests}
use Rattle.std.proofs.lemmas.List.Folds.{position_or_len_push}
use Rattle.std.proofs.lemmas.List.Sums.{prefix_len-le-length}
use Rattle.std.proofs.lemmas.Slice.Eq.{bytes_eq-Decides}
use Rattle.std.proofs.Math.ListN.{length-append, get_or-append}
use Rattle.std.proofs.Math.Seq.{get_or-append_seam}
use Rattle.cyc_script.specs.Names.{IsNumbered, number_of_name}

-- where the first passing element of a list stands, once one more is at its end
at_end : (b : Bool) (a n m : ℕ) → a ≤ n → m ≡ n + 1
    → cond (ltb (cond (eqb a n) (n + cond b 0 1) a) m) (Some (cond (eqb a n) (n + cond b 0 1) a)) None
    ≡ cond (ltb a n) (Some a) (cond b (Some n) None)
at_end true a n m h e = grind (arith, nat_tests)
at_end false a n m h e = grind (arith, nat_tests)

number_of_push : (q t : List ℕ) (names : List (List ℕ))
    → number_of_name q (names ++ t ∷ []) ≡ cond (ltb (position_or_len (bytes_eq q) names) (length names))
    (Some (position_or_len (bytes_eq q) names)) (cond (bytes_eq q t) (Some (length names)) None)
number_of_push q t names =
    let at = position_or_len_push (bytes_eq q) names t in
    let longer : length (names ++ t ∷ []) ≡ length names + 1 = length-append names (t ∷ []) in
    let a = position_or_len (bytes_eq q) names in
    rw at (at_end (bytes_eq q t) a (length names) _ (prefix_len-le-length _ names) longer)

-- a name that is known to be new
pub is_new : (t : List ℕ) (names : List (List ℕ)) → is_some (number_of_name t names) ≡ false
    → ltb (position_or_len (bytes_eq t) names) (length names) ≡ false
is_new t names none = elim (ltb (position_or_len (bytes_eq t) names) (length names)) as
    (λ b. is_some (cond b (Some (position_or_len (bytes_eq t) names)) None) ≡ false
    → b ≡ false) [ true ↦ λ e. e | false ↦ λ _. refl ] none

-- after a new name, each text has the number that it had, and the new name the next one
pub number_of_introduced : (q t : List ℕ) (names : List (List ℕ)) → is_some (number_of_name t names) ≡ false
    → number_of_name q (names ++ t ∷ []) ≡ cond (bytes_eq t q) (Some (length names)) (number_of_name q names)
number_of_introduced q t names none = by_test (bytes_eq t q) refl where
  by_test : (b : Bool) → bytes_eq t q ≡ b → number_of_name q (names
      ++ t ∷ []) ≡ cond b (Some (length names)) (number_of_name q names)
  by_test true e =
      let same : t ≡ q = (bytes_eq-Decides t q).0 e in
      let itself : bytes_eq q t ≡ true = (bytes_eq-Decides q t).1 (sym same) in
      let missing : ltb (position_or_len (bytes_eq q) names) (length names) ≡ false =
      is_new q names (subst (λ (x : List ℕ). is_some (number_of_name x names) ≡ false) same none) in
      number_of_push q t names ∙ rw (missing, itself) refl
  by_test false e =
      let other : bytes_eq q t ≡ false = false_from_ne_true _
      (λ y. absurd (grind (arith, (bytes_eq-Decides q t).0 y, (bytes_eq-Decides t q).1))) in
      number_of_push q t names ∙ rw other refl

-- ---- each name has its own position as its number

pub none_numbered : IsNumbered []
none_numbered i below = absurd (omega (arith, below))

known_is_old : (t q : List ℕ) (names : List (List ℕ)) (n : ℕ) → is_some (number_of_name t names) ≡ false
    → number_of_name q names ≡ Some n → bytes_eq t q ≡ false
known_is_old t q names n none known = by_test (bytes_eq t q) refl where
  by_test : (b : Bool) → bytes_eq t q ≡ b → b ≡ false
  by_test true e =
      let same : t ≡ q = (bytes_eq-Decides t q).0 e in
      let unknown : is_some (number_of_name q names) ≡ false = subst
      (λ (x : List ℕ). is_some (number_of_name x names) ≡ false) same none in
      absurd (grind (arith, unknown, known))
  by_test false e = refl

pub numbered_introduced : (t : List ℕ) (names : List (List ℕ)) → is_some (number_of_name t names) ≡ false → IsNumbered names
    → IsNumbered (names ++ t ∷ [])
numbered_introduced t names none are = λ i below. by_test i below (ltb i (length names)) refl where
  before : (i : ℕ) → i < length names → number_of_name (get_or (names ++ t ∷ []) i []) (names ++ t ∷ []) ≡ Some i
  before i h =
      let known = are i h in
      let other = known_is_old t (get_or names i []) names i none known in
      rw (get_or-append names (t ∷ []) [] i h) (number_of_introduced (get_or names i []) t names none ∙ rw other known)

  last : number_of_name (get_or (names ++ t ∷ []) (length names) []) (names ++ t ∷ []) ≡ Some (length names)
  last =
      let itself : bytes_eq t t ≡ true = (bytes_eq-Decides t t).1 refl in
      rw (get_or-append_seam names t [] []) (number_of_introduced t t names none ∙ rw itself refl)

  by_test : (i : ℕ) → i < length (names ++ t ∷ []) → (b : Bool) → ltb i (length names) ≡ b
      → number_of_name (get_or (names ++ t ∷ []) i []) (names ++ t ∷ []) ≡ Some i
  by_test i below true e = before i (grind (arith, nat_tests))
  by_test i below false e =
      let longer = length-append names (t ∷ []) in
      let far : length names ≤ i = grind (arith, nat_tests) in
      let is : length names ≡ i = omega (arith, below, longer, far) in
      subst (λ k. number_of_name (get_or (names ++ t ∷ []) k []) (names ++ t ∷ []) ≡ Some k) is last
