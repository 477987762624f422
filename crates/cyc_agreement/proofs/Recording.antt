-- The record of an id, by its position among the others.
use Rattle.std.proofs.Common.{◌≡◌, ◌==◌, ℕ, zero, suc, ◌-◌, ◌<◌, cond, Option, Some, None, List, [], ◌∷◌, find, refl, sym, ap}
use Rattle.std.proofs.Common.{◌∙◌, arith}
use mathlib.Core.Logic.{dite}
use native.Mathlib.Decide.{ℕ_discrete}
use Rattle.cyc_places.specs.declared.record.Record.{Record}
use Rattle.cyc_places.specs.Places.{IsRecord, HasNoRecord, HasRisingIds}
use Rattle.cyc_agreement.proofs.Spots.{same_some, none_some}
use Rattle.cyc_agreement.proofs.Lists.{true_eq, false_ne}

abbrev pub found : ℕ → List Record → Option Record
found id rs = find (λ r. r.id == id) rs

pub tail_rises : (x : Record) (rs : List Record) → HasRisingIds (x ∷ rs) → HasRisingIds rs
tail_rises x rs h i j r s less a b = h (suc i) (suc j) r s (omega (arith, less)) a b

pub record_here : (id k : ℕ) (r : Record) (rs : List Record) → HasRisingIds rs → IsRecord rs k r → r.id ≡ id
    → found id rs ≡ Some r
record_here id k r [] rising is named = absurd (none_some is)
record_here id zero r (x ∷ rs) rising is named =
    let e : x.id ≡ id = ap (λ (q : Record). q.id) (same_some is) ∙ named in
    ap (λ b. cond b (Some x) (found id rs)) (true_eq x.id id e) ∙ is
record_here id (suc k) r (x ∷ rs) rising is named =
    let less = rising 0 (suc k) x r (omega arith) refl is in
    ap (λ b. cond b (Some x) (found id rs)) (false_ne x.id id (λ e. omega (arith, less, e, named)))
    ∙ record_here id k r rs (tail_rises x rs rising) is named

pub record_none : (id : ℕ) (rs : List Record) → HasNoRecord id rs → found id rs ≡ None
record_none id [] none = refl
record_none id (x ∷ rs) none = ap (λ b. cond b (Some x) (found id rs)) (false_ne x.id id (none 0 x (omega arith)))
    ∙ record_none id rs (λ k d low. none (suc k) d (omega (arith, low)))

-- an id has one record
pub one_record : (rs : List Record) (i j : ℕ) (r q : Record) → HasRisingIds rs → IsRecord rs i r → IsRecord rs j q → q.id ≡ r.id
    → j ≡ i
one_record rs i j r q rising a b same = dite (ℕ_discrete j i) (λ e. e) (λ ne. dite (ℕ_discrete (j - i) 0)
    (λ z. let less : j < i = omega (arith, z, ne) in let l = rising j i q r less b a in absurd (omega (arith, l, same)))
    (λ n. let less : i < j = omega (arith, n) in let l = rising i j r q less a b in absurd (omega (arith, l, same))))

-- what is read at the position of a record is that record
pub record_read : (id k : ℕ) (q : Record) (rs : List Record) → HasRisingIds rs → ((r : Record) × IsRecord rs k r × (r.id ≡ id))
    → IsRecord rs k q → (q.id ≡ id) × (found id rs ≡ Some q)
record_read id k q rs rising (r, is, named) at =
    let e : q.id ≡ id = ap (λ (x : Record). x.id) (same_some (sym at ∙ is)) ∙ named in
    (e, record_here id k q rs rising at e)
