-- What one turn changes: the ids of the source, and nothing of who is omnipresent.
use Rattle.std.proofs.Common.{◌≡◌, ◌≢◌, ℕ, zero, suc, ◌<◌, inl, inr, Bool, true, false, cond, Option, Some, None, Ok, List, []}
use Rattle.std.proofs.Common.{◌∷◌, length, map, slice_set, find, refl, sym, ap, ◌∙◌, subst, arith}
use Rattle.std.specs.Prelude.{◌==◌, remove}
use Rattle.std.specs.List.{slice_get}
use Rattle.std.specs.Option.{option_map_or, option_and_then, option_map}
use Rattle.std.proofs.lemmas.Option.{slice_get-map, slice_get-get_or, slice_get_within}
use Rattle.std.proofs.lemmas.List.{length-set}
use mathlib.Core.Logic.{dite}
use native.Mathlib.Decide.{ℕ_discrete}
use Rattle.cyc_types.specs.declared.Raise.{Ghosts as Raise}
use Rattle.cyc_types.specs.declared.refusal.Refusal.TheVariants as why
use Rattle.cyc_cpu.specs.Cpu.{CpuView}
use Rattle.cyc_cpu.specs.declared.moving.Taken.{Taken}
use Rattle.cyc_places.specs.declared.record.Placement.TheVariants.{On}
use Rattle.cyc_places.specs.declared.record.Record.{Record}
use Rattle.cyc_places.specs.Places.{IsRecord, HasRisingIds, with_placement, ended_on}
use Rattle.cyc_agreement.specs.Cpus.{CpusView, ChangesAt, Works}
use Rattle.cyc_agreement.specs.Shifting.{moving, HasRemoval}
use Rattle.cyc_agreement.proofs.CpuSpots.{get_set_same, get_set_other}
use Rattle.cyc_agreement.specs.System.{SystemView, ids_of, ids_on, removal_on, is_everywhere, is_omnipresent}
use Rattle.cyc_agreement.specs.Agreement.{most_on, suspended_on}
use Rattle.cyc_agreement.proofs.Spots.{same_some, none_some, get_some}
use Rattle.cyc_agreement.proofs.Recording.{one_record}
use Rattle.cyc_agreement.proofs.Destinations.{destination_fits}
use Rattle.cyc_agreement.proofs.Who
use Rattle.cyc_agreement.proofs.Shifted.{Rise, moved, unmoved, map_remove}
use Rattle.cyc_system.specs.declared.turning.Turn.{Turn}
use Rattle.cyc_system.specs.declared.turning.Turn.TheVariants.{StaysBound, StaysPending, StaysRefused, Moves}
use Rattle.cyc_system.specs.Walking.{Visits}
use Rattle.cyc_system.proofs.ListsUpTo.{one_position}

-- the ids of the source afterwards
abbrev pub ids_after : Option Turn → ℕ → List ℕ → List ℕ
ids_after None position ids = ids
ids_after (Some StaysBound) position ids = ids
ids_after (Some StaysPending) position ids = ids
ids_after (Some StaysRefused) position ids = ids
ids_after (Some Moves) position ids = remove ids position

pub record Stepped {R : Type 0} (source position : ℕ) (turn : Option Turn) (s t : SystemView R) : Type 0 where
  pub ids : ids_on source t.cpus ≡ ids_after turn position (ids_on source s.cpus)
  pub still : removal_on source t.cpus ≡ None
  pub online : t.cpus.online ≡ s.cpus.online
  pub there : length t.cpus.cpus ≡ length s.cpus.cpus
  pub omni : (id : ℕ) → is_omnipresent id t ≡ is_omnipresent id s
  pub most : (n : ℕ) → most_on n t.cpus ≡ most_on n s.cpus
  pub suspended : (n : ℕ) → suspended_on n t.cpus ≡ suspended_on n s.cpus
  -- no ended stay
  pub ended : (k : ℕ) (r : Record) → IsRecord t.records k r → (q : Record) × IsRecord s.records k q
      × ((n : ℕ) → ended_on n r ≡ ended_on n q)

-- who is omnipresent where a record gets another placement
abbrev everywhere_of : ℕ → List Record → Bool
everywhere_of id rs = option_map_or (λ (r : Record). is_everywhere r.placement) (find (λ (r : Record). r.id == id) rs) false

replaced : (id k : ℕ) (rs : List Record) (r x : Record) → IsRecord rs k r → x.id ≡ r.id
    → is_everywhere x.placement ≡ is_everywhere r.placement
    → everywhere_of id (slice_set rs k x) ≡ everywhere_of id rs
replaced id k [] r x is named same = absurd (none_some is)
replaced id zero (y ∷ ys) r x is named same =
    (λ i. option_map_or (λ (q : Record). is_everywhere q.placement)
    (cond ((named ∙ ap (λ (q : Record). q.id) (sym (same_some is))) i == id) (Some x) (find (λ (q : Record). q.id == id) ys))
    false)
    ∙ by (y.id == id)
  where
    by : (b : Bool) → option_map_or (λ (q : Record). is_everywhere q.placement)
        (cond b (Some x) (find (λ (q : Record). q.id == id) ys)) false
        ≡ option_map_or (λ (q : Record). is_everywhere q.placement) (cond b (Some y) (find (λ (q : Record). q.id == id) ys)) false
    by true = same ∙ ap (λ (q : Record). is_everywhere q.placement) (sym (same_some is))
    by false = refl
replaced id (suc k) (y ∷ ys) r x is named same = by (y.id == id) (replaced id k ys r x is named same)
  where
    by : (b : Bool) → everywhere_of id (slice_set ys k x) ≡ everywhere_of id ys
        → option_map_or (λ (q : Record). is_everywhere q.placement)
        (cond b (Some y) (find (λ (q : Record). q.id == id) (slice_set ys k x))) false
        ≡ option_map_or (λ (q : Record). is_everywhere q.placement) (cond b (Some y) (find (λ (q : Record). q.id == id) ys)) false
    by true e = refl
    by false e = e

-- another CPU
pub beside : {R : Type 0} (n m : ℕ) (D : CpuView R → CpuView R → Type 0) (v w : CpusView R) → m ≢ n → ChangesAt n D v w
    → slice_get w.cpus m ≡ slice_get v.cpus m
beside n m D v w ne c = ap (λ (u : CpusView _). slice_get u.cpus m) c.rest ∙ get_set_other v.cpus n m c.after ne

pub sized : {R : Type 0} (n : ℕ) (D : CpuView R → CpuView R → Type 0) (v w : CpusView R) → ChangesAt n D v w
    → length w.cpus ≡ length v.cpus
sized n D v w c = ap (λ (u : CpusView _). length u.cpus) c.rest ∙ length-set v.cpus n c.after

-- the source after a cyclic has left it
pub record Left {R : Type 0} (source position : ℕ) (v w : CpusView R) : Type 0 where
  pub ids : ids_on source w ≡ remove (ids_on source v) position
  pub still : removal_on source w ≡ None
  pub online : w.online ≡ v.online
  pub there : length w.cpus ≡ length v.cpus

pub left : {R : Type 0} (firing : Raise R) (id source target position : ℕ)
    (v w : CpusView R) (taken : Taken)
    → target ≢ source → Rise (ids_on source v) → slice_get (ids_on source v) position ≡ Some id
    → Works firing (moving id source target taken) v w → Left source position v w
left firing id source target position v w taken apart rise spot
    (a, asks, (b, reserves, (d, takes, (e, widens, (f, places, last))))) =
    let same = Who.same_then v a b (Who.same_changed source _ v a asks
    (Who.same_asked firing asks.before asks.after id 0 asks.change.0))
    (Who.same_changed target _ a b reserves (Who.same_reserve firing reserves.before reserves.after 1 (Ok tt) reserves.change))
    in
    let (c, counts, is, polled, l) = takes.change.1 in
    let ne : source ≢ target = (λ q. apart (sym q)) in
    let kept = beside target source _ e f ne places ∙ beside target source _ d e ne widens in
    let before : ids_on source v ≡ ids_of takes.before = sym (same.ids source)
    ∙ Who.ids_there b source takes.before takes.after takes.here in
    let spot2 : slice_get (ids_on source v) l.position ≡ Some id = ap (λ ids. slice_get ids l.position) before
    ∙ slice_get-map Who.id_in takes.before.cyclics l.position
    ∙ ap (option_map Who.id_in) (slice_get-get_or takes.before.cyclics l.position c l.here.0 ∙ ap Some l.here.1)
    ∙ ap Some l.named in
    let own : l.position ≡ position = one_position (ids_on source v) l.position position id rise spot2 spot in
    let after : ids_on source d ≡ ids_of takes.after = ap (λ u. ids_on source u) takes.rest
    ∙ Who.ids_now b source takes.before takes.after takes.here in
    let gone : ids_of takes.after ≡ remove (ids_on source v) position = ap (λ cs. map Who.id_in cs) l.cyclics
    ∙ map_remove Who.id_in takes.before.cyclics l.position
    ∙ (λ i. remove (sym before i) (own i)) in
    subst (λ u. Left source position v u) last (record {
      ids = ap (λ o. option_map_or ids_of o []) kept ∙ after ∙ gone;
      still = ap (λ o. option_and_then (λ (x : CpuView _). x.removal) o) kept ∙ ap (λ u. removal_on source u) takes.rest
          ∙ Who.removal_now b source takes.before takes.after takes.here ∙ l.removal;
      online = ap (λ (u : CpusView _). u.online) places.rest ∙ ap (λ (u : CpusView _). u.online) widens.rest
          ∙ ap (λ (u : CpusView _). u.online) takes.rest ∙ same.online;
      there = sized target _ e f places ∙ sized target _ d e widens ∙ sized source _ b d takes ∙ same.long;
    })

module _ {R : Type 0} (firing : Raise R) (source position id : ℕ) (s t : SystemView R)
    (rising : HasRisingIds s.records)
    (rise : Rise (ids_on source s.cpus)) (spot : slice_get (ids_on source s.cpus) position ≡ Some id)
    (still : removal_on source s.cpus ≡ None)
    (low : source < length s.cpus.cpus) where
  same : (turn : Option Turn) → ids_after turn position (ids_on source s.cpus) ≡ ids_on source s.cpus → t ≡ s
      → Stepped source position turn s t
  same turn e is = record {
    ids = ap (λ (x : SystemView _). ids_on source x.cpus) is ∙ sym e;
    still = ap (λ (x : SystemView _). removal_on source x.cpus) is ∙ still;
    online = ap (λ (x : SystemView _). x.cpus.online) is;
    there = ap (λ (x : SystemView _). length x.cpus.cpus) is;
    omni = λ q. ap (λ (x : SystemView _). is_omnipresent q x) is;
    most = λ n. ap (λ (x : SystemView _). most_on n x.cpus) is;
    suspended = λ n. ap (λ (x : SystemView _). suspended_on n x.cpus) is;
    ended = λ k r at. (r, ap (λ (x : SystemView _). slice_get x.records k) (sym is) ∙ at, λ n. refl);
  }

  who : (turn : Option Turn) → ids_after turn position (ids_on source s.cpus) ≡ ids_on source s.cpus → Who.SameWho s.cpus t.cpus
      → t.records ≡ s.records → Stepped source position turn s t
  who turn e w records = record {
    ids = w.ids source ∙ sym e;
    still = w.removals source ∙ still;
    online = w.online;
    there = w.long;
    omni = λ q. ap (λ (rs : List Record). option_map_or (λ (r : Record). is_everywhere r.placement)
        (find (λ (r : Record). r.id == q) rs) false) records;
    most = w.most;
    suspended = w.suspended;
    ended = λ k r at. (r, ap (λ (rs : List Record). slice_get rs k) (sym records) ∙ at, λ n. refl);
  }

  none_open : HasRemoval source None s.cpus
  none_open = let (cpu, at) = get_some s.cpus.cpus source low in
      (cpu, at, sym (ap (λ o. option_and_then (λ (x : CpuView _). x.removal) o) at) ∙ still)

  pub stepped : (turn : Option Turn) → Visits firing source id turn s t → Stepped source position turn s t
  stepped None (omni, is) = same None refl is
  stepped (Some StaysBound) (single, (home, is)) = same (Some StaysBound) refl is
  stepped (Some StaysPending) (single, (home, n, some, (works, records, last))) =
      who (Some StaysPending) refl (unmoved firing id source (suc source) s.cpus t.cpus
      (λ e. absurd (omega (arith, e))) rise why.Pending (inr (inl (none_open, n, some, refl, works)))) records
  stepped (Some StaysRefused) (single, (home, d, chosen, e, (works, records, last))) =
      who (Some StaysRefused) refl (unmoved firing id source d s.cpus t.cpus
      (λ q. (destination_fits (Some source) s.cpus d chosen).1 (ap Some (sym q))) rise e (inr (inr (none_open, works))))
      records
  stepped (Some Moves) (single, (home, d, chosen, (taken, works), (k, r, is, named, records, last))) =
      let (j, x, at, same, position_is) = home in
      let e : x ≡ r = same_some (sym at ∙ subst (λ i. IsRecord s.records i r)
      (sym (one_record s.records k j r x rising is at (same ∙ sym named))) is) in
      let l = left firing id source d position s.cpus t.cpus taken
      (λ q. (destination_fits (Some source) s.cpus d chosen).1 (ap Some (sym q))) rise spot works in record {
        ids = l.ids;
        still = l.still;
        online = l.online;
        there = l.there;
        omni = λ q. ap (λ (rs : List Record). option_map_or (λ (y : Record). is_everywhere y.placement)
            (find (λ (y : Record). y.id == q) rs) false) records
            ∙ replaced q k s.records r (with_placement (On d false) r) is refl
            (sym (ap (λ (y : Record). is_everywhere y.placement) (sym e) ∙ ap is_everywhere position_is));
        most = (moved firing id source d s.cpus t.cpus
            (λ q. (destination_fits (Some source) s.cpus d chosen).1 (ap Some (sym q))) rise taken works).but.most;
        suspended = (moved firing id source d s.cpus t.cpus
            (λ q. (destination_fits (Some source) s.cpus d chosen).1 (ap Some (sym q))) rise taken works).but.suspended;
        ended = λ m y held. ended_at d k r is records m y held;
      }
    where
      ended_at : (d k : ℕ) (r : Record) → IsRecord s.records k r
          → t.records ≡ slice_set s.records k (with_placement (On d false) r)
          → (m : ℕ) (y : Record) → IsRecord t.records m y
          → (q : Record) × IsRecord s.records m q × ((n : ℕ) → ended_on n y ≡ ended_on n q)
      ended_at d k r is records m y held = dite (ℕ_discrete m k)
          (λ e. (
            r,
            ap (λ j. slice_get s.records j) e ∙ is,
            λ n. ap (λ (x : Record). ended_on n x) (same_some (sym held ∙ ap (λ (rs : List Record). slice_get rs m) records
                ∙ ap (λ j. slice_get (slice_set s.records k (with_placement (On d false) r)) j) e
                ∙ get_set_same s.records k (with_placement (On d false) r) (slice_get_within s.records k r is))),
          ))
          (λ ne. (
            y,
            sym (get_set_other s.records k m (with_placement (On d false) r) ne)
                ∙ ap (λ (rs : List Record). slice_get rs m) (sym records) ∙ held,
            λ n. refl,
          ))
