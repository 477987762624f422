-- No CPU has more cyclics than the system has records: each has one of its own.
use Rattle.std.proofs.Common.{◌≡◌, ◌≢◌, ℕ, suc, ◌+◌, ◌<◌, ◌≤◌, ◌==◌, Bool, true, false, List, [], ◌∷◌, length, map, get_or}
use Rattle.std.proofs.Common.{refl, ap, sym, ◌∙◌, subst, arith}
use Rattle.std.specs.Prelude.{◌||◌}
use Rattle.std.proofs.lemmas.List.{length-map}
use Rattle.std.proofs.lemmas.Option.{slice_get_within, get_or_from_slice_get}
use mathlib.Core.Logic.{dite}
use native.Mathlib.Decide.{ℕ_discrete}
use Rattle.cyc_core.specs.Tables.{Tables}
use Rattle.cyc_cpu.specs.Cpu.{CpuView}
use Rattle.cyc_places.specs.declared.record.Record.{Record}
use Rattle.cyc_places.specs.Places.{IsRecord, HasRisingIds}
use Rattle.cyc_agreement.proofs.Lists.{among, any_map, any_at, true_eq, false_ne, false_true}
use Rattle.cyc_system.proofs.Places.{length_is}
use Rattle.cyc_agreement.proofs.Shifted.{Rise, ids_rise}
use Rattle.cyc_agreement.proofs.Who.{ids_there}
use Rattle.cyc_system.specs.Agreement.{Agrees}
use Rattle.cyc_system.specs.Cpus.{CpusView, IsCpu}
use Rattle.cyc_system.specs.System.{SystemView, ids_on, has}
use Rattle.cyc_system_model.specs.Shown.{AreTied}

-- ---- numbers that rise

-- these rise, and none is below the first
abbrev RiseFrom : ℕ → List ℕ → Type 0
RiseFrom low [] = Unit {0}
RiseFrom low (x ∷ xs) = (low ≤ x) × RiseFrom (x + 1) xs

not_below : (low z : ℕ) (xs : List ℕ) → RiseFrom low xs → among z xs ≡ true → low ≤ z
not_below low z [] rise here = absurd (false_true here)
not_below low z (x ∷ xs) (from, rest) here = dite (ℕ_discrete x z)
    (λ e. omega (arith, from, e))
    (λ ne. let later = not_below (x + 1) z xs rest (sym (ap (λ b. b || among z xs) (false_ne x z ne)) ∙ here) in
    omega (arith, from, later))

-- one that isn't the first is among the rest
skip : (x z : ℕ) (xs : List ℕ) → x ≢ z → among z (x ∷ xs) ≡ true → among z xs ≡ true
skip x z xs ne here = sym (ap (λ b. b || among z xs) (false_ne x z ne)) ∙ here

first : (x : ℕ) (xs : List ℕ) → among x (x ∷ xs) ≡ true
first x xs = ap (λ b. b || among x xs) (true_eq x x refl)

or_more : (a b : Bool) → b ≡ true → (a || b) ≡ true
or_more true b e = refl
or_more false b e = e

more : (x z : ℕ) (xs : List ℕ) → among z xs ≡ true → among z (x ∷ xs) ≡ true
more x z xs here = or_more (x == z) (among z xs) here

-- none that is absent is the first, nor among the rest
out_rest : (x z : ℕ) (xs : List ℕ) → among z (x ∷ xs) ≡ false → among z xs ≡ false
out_rest x z xs out = by (among z xs) refl
  where
    by : (b : Bool) → among z xs ≡ b → b ≡ false
    by true e = absurd (false_true (sym out ∙ more x z xs e))
    by false e = refl

out_first : (x z : ℕ) (xs : List ℕ) → among z (x ∷ xs) ≡ false → x ≢ z
out_first x z xs out e = false_true (sym out ∙ ap (λ b. b || among z xs) (true_eq x z e))

-- the first of some among others is not below the first of these
reaches : (x y : ℕ) (xs ys : List ℕ) → RiseFrom (y + 1) ys → x ≢ y
    → ((z : ℕ) → among z (x ∷ xs) ≡ true → among z (y ∷ ys) ≡ true) → y + 1 ≤ x
reaches x y xs ys rise ne inside =
    not_below (y + 1) x ys rise (skip y x ys (λ e. ne (sym e)) (inside x (first x xs)))

-- all of some that rise are among the rest where the first of the others is below them
all_skip : (low y : ℕ) (xs ys : List ℕ) → RiseFrom low xs → y < low
    → ((z : ℕ) → among z xs ≡ true → among z (y ∷ ys) ≡ true)
    → (z : ℕ) → among z xs ≡ true → among z ys ≡ true
all_skip low y xs ys rise below inside z here =
    let at = not_below low z xs rise here in
    skip y z ys (λ e. omega (arith, at, below, e)) (inside z here)

-- as many at most
within : (low : ℕ) (xs ys : List ℕ) → RiseFrom low xs → RiseFrom low ys → ((z : ℕ) → among z xs ≡ true → among z ys ≡ true)
    → length xs ≤ length ys
within low [] ys a b inside = omega arith
within low (x ∷ xs) [] a b inside = absurd (false_true (inside x (first x xs)))
within low (x ∷ xs) (y ∷ ys) (p, a) (q, b) inside = dite (ℕ_discrete x y)
    (λ e. let up : RiseFrom (y + 1) xs = subst (λ k. RiseFrom (k + 1) xs) e a in
    let rest = within (y + 1) xs ys up b (all_skip (y + 1) y xs ys up (omega arith) (λ z here. inside z (more x z xs here))) in
    omega (arith, rest))
    (λ ne. let above = reaches x y xs ys b ne inside in
    let rest = within (y + 1) (x ∷ xs) ys (above, a) b (all_skip (y + 1) y (x ∷ xs) ys (above, a) (omega arith) inside) in
    omega (arith, rest))

-- fewer, where one of the others is not among them
pub fewer : (low z : ℕ) (xs ys : List ℕ) → RiseFrom low xs → RiseFrom low ys
    → ((k : ℕ) → among k xs ≡ true → among k ys ≡ true)
    → among z ys ≡ true → among z xs ≡ false → length xs + 1 ≤ length ys
fewer low z xs [] a b inside here out = absurd (false_true here)
fewer low z [] (y ∷ ys) a b inside here out = omega arith
fewer low z (x ∷ xs) (y ∷ ys) (p, a) (q, b) inside here out = dite (ℕ_discrete x y)
    (λ e. let up : RiseFrom (y + 1) xs = subst (λ k. RiseFrom (k + 1) xs) e a in
    let rest = fewer (y + 1) z xs ys up b
    (all_skip (y + 1) y xs ys up (omega arith) (λ k at. inside k (more x k xs at)))
    (skip y z ys (λ f. out_first x z xs out (e ∙ f)) here) (out_rest x z xs out) in
    omega (arith, rest))
    (λ ne. let above = reaches x y xs ys b ne inside in
    let all = all_skip (y + 1) y (x ∷ xs) ys (above, a) (omega arith) inside in
    dite (ℕ_discrete y z)
    (λ e. let rest = within (y + 1) (x ∷ xs) ys (above, a) b all in omega (arith, rest))
    (λ nz. let rest = fewer (y + 1) z (x ∷ xs) ys (above, a) b all (skip y z ys nz here) out in omega (arith, rest)))

-- ---- those of cyclics and of records

rise_from : (low : ℕ) (xs : List ℕ) → (0 < length xs → low ≤ get_or xs 0 0) → Rise xs → RiseFrom low xs
rise_from low [] from rise = tt
rise_from low (x ∷ xs) from rise = (
  from (omega arith),
  rise_from (x + 1) xs (λ some. let up = rise 0 1 (omega arith) (omega (arith, some)) in omega (arith, up))
      (λ i j less within. rise (suc i) (suc j) (omega (arith, less)) (omega (arith, within))),
)

records_rise : (low : ℕ) (rs : List Record) → ((r : Record) → IsRecord rs 0 r → low ≤ r.id) → HasRisingIds rs
    → RiseFrom low (map (λ (r : Record). r.id) rs)
records_rise low [] from rise = tt
records_rise low (r ∷ rs) from rise = (
  from r refl,
  records_rise (r.id + 1) rs (λ q is. let up = rise 0 1 r q (omega arith) refl is in omega (arith, up))
      (λ i j a b less p q. rise (suc i) (suc j) a b (omega (arith, less)) p q),
)

-- a record's id is among those of all
recorded : (rs : List Record) (k id : ℕ) (r : Record) → IsRecord rs k r → r.id ≡ id
    → among id (map (λ (q : Record). q.id) rs) ≡ true
recorded rs k id r is named = any_map (λ (q : Record). q.id) (λ own. own == id) rs
    ∙ any_at (λ (q : Record). q.id == id) rs k r (slice_get_within rs k r is)
    (true_eq _ id (ap (λ (q : Record). q.id) (get_or_from_slice_get rs k r r is) ∙ named))

-- the ids of a CPU rise
pub ids_up : (v : CpusView Tables) (n : ℕ) (cpu : CpuView Tables) → AreTied v → IsCpu n cpu v → Rise (ids_on n v)
ids_up v n cpu tied at = subst Rise (sym (ids_there v n cpu cpu at)) (ids_rise cpu.cyclics (tied n cpu at).rising)

-- a CPU that does not have the cyclic of a record has fewer cyclics than there are records
pub fewer_here : (v : SystemView Tables) (n k : ℕ) (cpu : CpuView Tables) (r : Record) → Agrees v → HasRisingIds v.records
    → AreTied v.cpus → IsCpu n cpu v.cpus → IsRecord v.records k r → has n r.id v.cpus ≡ false
    → length cpu.cyclics + 1 ≤ length v.records
fewer_here v n k cpu r a rising tied at is none =
    let few = fewer 0 r.id (ids_on n v.cpus) (map (λ (q : Record). q.id) v.records)
    (rise_from 0 (ids_on n v.cpus) (λ some. omega arith) (ids_up v.cpus n cpu tied at))
    (records_rise 0 v.records (λ q here. omega arith) rising)
    (λ id here. let (j, q, there, named, stands, on) = a.known n id here in recorded v.records j id q there named)
    (recorded v.records k r.id r is refl) none in
    let mine = length_is v.cpus n cpu at in let all = length-map v.records (λ (q : Record). q.id) in
    omega (arith, few, mine, all)
