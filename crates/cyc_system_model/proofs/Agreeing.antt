-- The turn of a cyclic in a juggle leaves CPUs and records that agree.
use Rattle.std.proofs.Common.{◌≡◌, ◌≢◌, ℕ, inr, false, Some, Err, ap, sym, ◌∙◌, subst, length}
use Rattle.std.proofs.lemmas.List.{length-set}
use Rattle.cyc_core.specs.Tables.{Tables}
use Rattle.cyc_cpu.specs.Soft.{raise_tables}
use Rattle.cyc_cpu.specs.declared.moving.Taken.{Taken}
use Rattle.cyc_places.specs.declared.record.Placement.TheVariants as placements
use Rattle.cyc_places.specs.declared.record.Record.{Record}
use Rattle.cyc_places.specs.Places.{IsRecord, with_placement}
use Rattle.cyc_agreement.proofs.Given.{agrees_same}
use Rattle.cyc_system.proofs.MayGo
use Rattle.cyc_agreement.proofs.Recording.{one_record}
use Rattle.cyc_system.proofs.Replaced.{not_elsewhere, agrees_replaced}
use Rattle.cyc_agreement.proofs.Shifted as shifted
use Rattle.cyc_agreement.proofs.Spots.{get_some, same_some}
use Rattle.cyc_agreement.proofs.Who.{SameWho, same_changed, same_then, same_asked, same_reserve}
use Rattle.cyc_system.specs.Agreement.{Agrees}
use Rattle.cyc_system.specs.Binding.{HasPlacement, Records}
use Rattle.cyc_system.specs.Cpus.{CpusView, Works}
use Rattle.cyc_system.specs.Destination.{destination}
use Rattle.cyc_system.specs.Juggling.{TakesTurn}
use Rattle.cyc_system.specs.Shifting.{moving}
use Rattle.cyc_system.specs.System.{SystemView}
use Rattle.cyc_system.specs.declared.turning.Turn.{Turn}
use Rattle.cyc_system.specs.declared.turning.Turn.TheVariants.{StaysBound, StaysPending, StaysRefused, Moves}
use Rattle.cyc_system_model.proofs.Half.{Half}
use Rattle.cyc_system_model.proofs.Records.{ids_up}

-- the CPUs have the cyclics that they had, and no record changed
same_agrees : (v w : SystemView Tables) (u : CpusView Tables) → Agrees v → SameWho v.cpus u → u ≡ w.cpus
    → w.records ≡ v.records → w.last ≡ v.last → Agrees w
same_agrees v w u a same cpus records last =
    subst (λ (x : SystemView Tables). Agrees x)
    (λ z. record { cpus = cpus z; records = sym records z; last = sym last z }) (agrees_same v u a same)

-- a cyclic went to its destination
moved_agrees : (source id d : ℕ) (taken : Taken) (v w : SystemView Tables) → Half v → Agrees v → HasPlacement id source false v
    → destination (Some source) v.cpus ≡ Some d → Works raise_tables (moving id source d taken) v.cpus w.cpus
    → Records id (placements.On d false) v w → Agrees w
moved_agrees source id d taken v w hv a (j, q, at, known, stands) dest works (k, r, is, named, records, last) =
    let spot : j ≡ k = one_record v.records k j r q hv.rising is at (known ∙ sym named) in
    let same : q ≡ r = same_some (sym at ∙ subst (λ i. IsRecord v.records i r) (sym spot) is) in
    let here : r.placement ≡ placements.On source false = ap (λ (x : Record). x.placement) (sym same) ∙ stands in
    let (cpu, there) = get_some v.cpus.cpus source (MayGo.low_source v a hv.rising source d k r is here dest) in
    let ne : source ≢ d = λ e. MayGo.apart v a hv.rising source d k r is here dest (sym e) in
    let (but, now, gone) = shifted.went raise_tables r.id source d v.cpus w.cpus (ids_up v.cpus source cpu hv.tied there)
    (MayGo.home v a hv.rising source d k r is here dest)
    (λ m other. not_elsewhere v k source m false r a hv.rising is here other)
    (inr (ne, (taken, subst (λ i. Works raise_tables (moving i source d taken) v.cpus w.cpus) (sym named) works))) in
    subst (λ (x : SystemView Tables). Agrees x)
    (λ z. record { cpus = w.cpus; records = sym records z; last = sym last z })
    (agrees_replaced v k d false false source r w.cpus a hv.rising is here but
    (MayGo.up v a hv.rising source d k r is here dest) now gone)

pub turn_agrees : (source id : ℕ) (t : Turn) (v w : SystemView Tables) → Half v → Agrees v
    → TakesTurn raise_tables source id t v w → Agrees w
turn_agrees source id StaysBound v w hv a (at, same) = subst (λ (x : SystemView Tables). Agrees x) (sym same) a
turn_agrees source id StaysPending v w hv a (at, k, some, ((u, ask, same), records, last)) =
    same_agrees v w u a (same_changed source _ v.cpus u ask (same_asked raise_tables ask.before ask.after id k ask.change.0))
    same records last
turn_agrees source id StaysRefused v w hv a (at, d, dest, e, ((u, ask, (x, reserve, same)), records, last)) =
    same_agrees v w x a (same_then v.cpus u x
    (same_changed source _ v.cpus u ask (same_asked raise_tables ask.before ask.after id 0 ask.change.0))
    (same_changed d _ u x reserve (same_reserve raise_tables reserve.before reserve.after 1 (Err e) reserve.change)))
    same records last
turn_agrees source id Moves v w hv a (at, d, dest, (taken, works), records) =
    moved_agrees source id d taken v w hv a at dest works records

-- and as many records
pub turn_records : (source id : ℕ) (t : Turn) (v w : SystemView Tables) → TakesTurn raise_tables source id t v w
    → length w.records ≡ length v.records
turn_records source id StaysBound v w (at, same) = ap (λ (x : SystemView Tables). length x.records) same
turn_records source id StaysPending v w (at, k, some, (works, records, last)) = ap (λ rs. length rs) records
turn_records source id StaysRefused v w (at, d, dest, e, (works, records, last)) = ap (λ rs. length rs) records
turn_records source id Moves v w (at, d, dest, works, (k, r, is, named, records, last)) =
    ap (λ rs. length rs) records ∙ length-set v.records k (with_placement (placements.On d false) r)
