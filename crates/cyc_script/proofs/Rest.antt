-- The items that are left, counted whatever they are.
use Rattle.std.proofs.Common.{◌≡◌, ℕ, zero, suc, ◌+◌, ◌-◌, ◌<◌, ◌≤◌, List, [], ◌∷◌, length, Option, Some, None, true, false}
use Rattle.std.proofs.Common.{refl, ap, ◌∙◌, arith}
use Rattle.std.specs.Prelude.{Bool, ◌&&◌, nat_lt, option_map}
use Rattle.std.specs.Bool.{MatchBool}
use Rattle.std.proofs.lemmas.Bool.Decides.{nat_tests}
use Rattle.json.specs.Token.{Token}
use Rattle.json.specs.Json.{parse_map}
use Rattle.serde_json.specs.Data.{Data, Items, no_items, item}
use Rattle.cyc_script.specs.Words.{list_of}

-- how many items there are, where so many were counted and the items are left
abbrev pub counted : ℕ → Option (Items × List Token) → Option (ℕ × List Token)
counted count read = option_map (λ p. (count + length (list_of p.0), p.1)) read

pub one_counted : (count : ℕ) (d : Data) (read : Option (Items × List Token))
    → counted count (parse_map (item d) read) ≡ counted (count + 1) read
one_counted count d None = refl
one_counted count d (Some p) =
    let same : count + length (d ∷ list_of p.0) ≡ count + 1 + length (list_of p.0) = omega arith in
    ap (λ k. Some (k, p.1)) same

pub none_counted : (count : ℕ) (r : List Token) → counted count (Some (no_items, r)) ≡ Some (count, r)
none_counted count r =
    let same : count + 0 ≡ count = omega arith in
    ap (λ k. Some (k, r)) same

abbrev count_of : Option (ℕ × List Token) → ℕ
count_of None = 0
count_of (Some p) = p.0

abbrev left_over : Option (ℕ × List Token) → List Token
left_over None = []
left_over (Some p) = p.1

pub all_counted : (count : ℕ) (read : Option (Items × List Token)) (k : ℕ) (r : List Token)
    → counted count read ≡ Some (k, r) → (ds : Items) × (read ≡ Some (ds, r)) × (count + length (list_of ds) ≡ k)
all_counted count None k r e = absurd (cc)
all_counted count (Some p) k r e = (p.0, ap (λ rest. Some (p.0, rest)) (ap left_over e), ap count_of e)

-- whether those counted are at most so many, of which so many are left
abbrev pub Counts : ℕ → Bool → ℕ → ℕ → Type 0
Counts most few left count = MatchBool few (count + left ≡ most) (most < count)

pub one_counts : (most left next count : ℕ) (few : Bool) → Counts most few left count → next ≡ left - 1
    → Counts most (few && nat_lt 0 left) next (count + 1)
one_counts most zero next count true counts is = omega (arith, counts)
one_counts most (suc left) next count true counts is =
    let some : nat_lt 0 (suc left) ≡ true = grind (arith, nat_tests) in
    rw some (omega (arith, counts, is))
one_counts most left next count false counts is = omega (arith, counts)

pub all_counts : (most left count length : ℕ) (few : Bool) → Counts most few left count → 0 + length ≡ count
    → MatchBool few (length ≤ most) (most < length)
all_counts most left count length true counts is = omega (arith, counts, is)
all_counts most left count length false counts is = omega (arith, counts, is)

pub counted_none : (before count : ℕ) (read left : Option (Items × List Token)) → counted before read ≡ counted count left
    → left ≡ None → read ≡ None
counted_none before count None left same none = refl
counted_none before count (Some p) left same none = let e = same ∙ ap (counted count) none in absurd (cc)
