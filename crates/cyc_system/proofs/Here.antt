-- The record of a cyclic that is on the source, and what a turn changes of it.
use Rattle.std.proofs.Common.{◌≡◌, ℕ, Bool, true, false, sym, ap, ◌∙◌, subst}
use Rattle.std.specs.Option.{option_map_or}
use Rattle.cyc_places.specs.declared.record.Placement.TheVariants.{On}
use Rattle.cyc_places.specs.declared.record.Record.{Record}
use Rattle.cyc_places.specs.Places.{IsRecord, HasRisingIds}
use Rattle.cyc_agreement.specs.System.{SystemView, has, is_everywhere, is_omnipresent}
use Rattle.cyc_agreement.specs.Agreement.{Agrees, Stands}
use Rattle.cyc_agreement.proofs.Spots.{same_some}
use Rattle.cyc_agreement.proofs.Recording.{record_here, one_record}

pub omni_is : {R : Type 0} (s : SystemView R) (id k : ℕ) (q : Record) → HasRisingIds s.records → IsRecord s.records k q
    → q.id ≡ id
    → is_omnipresent id s ≡ is_everywhere q.placement
omni_is s id k q rising is named = ap (λ o. option_map_or (λ (r : Record). is_everywhere r.placement) o false)
    (record_here id k q s.records rising is named)

-- the record of a cyclic that is on the source speaks of the source
pub home_of : {R : Type 0} (s : SystemView R) (source id k n : ℕ) (bound : Bool) (q : Record) → Agrees s → HasRisingIds s.records
    → IsRecord s.records k q → q.id ≡ id
    → has source id s.cpus ≡ true → q.placement ≡ On n bound → q.placement ≡ On source bound
home_of s source id k n bound q a rising is named here placement =
    let (j, x, at, same, stands, on) = a.known source id here in
    let e : x ≡ q = same_some (sym at ∙ subst (λ i. IsRecord s.records i q)
    (sym (one_record s.records k j q x rising is at (same ∙ sym named))) is) in
    placement ∙ ap (λ m. On m bound) (subst (λ p. Stands source p) (ap (λ (y : Record). y.placement) e ∙ placement) stands)
