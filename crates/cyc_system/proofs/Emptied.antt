-- The CPUs and the records agree where all components have left the source and it is offline.
use Rattle.std.proofs.Common.{◌≡◌, ◌≢◌, ◌==◌, ℕ, ◌<◌, ◌≤◌, ◌⊎◌, inl, inr, Bool, true, false, Some, None, List, [], length, sym}
use Rattle.std.proofs.Common.{ap, ◌∙◌, subst, arith}
use Rattle.std.specs.List.{slice_get}
use Rattle.std.specs.Option.{option_map_or, option_and_then}
use Rattle.std.proofs.lemmas.Option.{slice_get_within, get_or_from_slice_get}
use Rattle.std.proofs.lemmas.List.{length-set}
use mathlib.Core.Logic.{dite}
use native.Mathlib.Decide.{ℕ_discrete}
use Rattle.cyc_types.specs.declared.Raise.{Ghosts as Raise}
use Rattle.cyc_places.specs.declared.record.Placement.TheVariants.{On}
use Rattle.cyc_places.specs.declared.record.Record.{Record}
use Rattle.cyc_places.specs.Places.{RecordsView, IsRecord, HasRisingIds, ended_on}
use Rattle.cyc_agreement.specs.Cpus.{CpusView}
use Rattle.cyc_agreement.specs.Destination.{destination}
use Rattle.cyc_agreement.proofs.CpuSpots.{get_set_same, get_set_other}
use Rattle.cyc_agreement.specs.System.{SystemView, ids_of, ids_on, has, removal_on, is_online, is_everywhere}
use Rattle.cyc_agreement.specs.Agreement.{Agrees, Stands}
use Rattle.cyc_agreement.proofs.Lists.{among, any_position, eq_true, false_true}
use Rattle.cyc_agreement.proofs.Spots.{same_some, none_some, get_some}
use Rattle.cyc_agreement.proofs.Destinations.{destination_fits}
use Rattle.cyc_system.specs.Juggling.{system_of, single_ids}
use Rattle.cyc_system.specs.GoingOffline.{offline_at}
use Rattle.cyc_system.proofs.Retired.{Retired, SameBeside, everywhere_here}

-- an id of a CPU stands at a position
pub placed_at : {R : Type 0} (v : CpusView R) (n id : ℕ) → has n id v ≡ true → (k : ℕ) × (slice_get (ids_on n v) k ≡ Some id)
placed_at v n id h =
    let (k, low, passes) = any_position (λ own. own == id) (ids_on n v) h in
    let (x, at) = get_some (ids_on n v) k low in
    (k, at ∙ ap Some (eq_true x id (ap (λ y. y == id) (sym (get_or_from_slice_get (ids_on n v) k x 0 at)) ∙ passes 0)))

module _ {R : Type 0} (firing : Raise R) (source : ℕ) (v : CpusView R)
    (rs : RecordsView) (done : ℕ) (w : CpusView R) (qs : RecordsView)
    (i : Retired firing source v rs done w qs) (components : single_ids source (system_of v rs 0) ≡ [])
    (rising : HasRisingIds rs.list) (empty : ids_on source w ≡ [])
    (low : source < length v.cpus) (still_first : removal_on source v ≡ None) (d last : ℕ)
    (chosen : destination (Some source) v ≡ Some d) (a : Agrees (system_of v rs last)) where
  abbrev t : SystemView R
  t = offline_at source (system_of w qs last)

  low_online : source < length w.online
  low_online = let l = a.long in let o = ap (λ (xs : List Bool). length xs) i.online in omega (arith, low, l, o)

  off : is_online source t.cpus ≡ false
  off = ap (λ o. option_map_or (λ online. online) o false) (get_set_same w.online source false low_online)

  up : (n : ℕ) → n ≢ source → is_online n t.cpus ≡ is_online n v
  up n ne = ap (λ o. option_map_or (λ online. online) o false) (get_set_other w.online source n false ne
      ∙ ap (λ (xs : List Bool). slice_get xs n) i.online)

  none_there : (id : ℕ) → has source id t.cpus ≡ true → ⊥
  none_there id h = false_true (sym (ap (λ ids. among id ids) empty) ∙ h)

  has_same : (n id : ℕ) → n ≢ source → has n id t.cpus ≡ has n id v
  has_same n id ne = ap (λ o. among id (option_map_or ids_of o [])) (i.elsewhere n ne)

  removal_same : (n : ℕ) → n ≢ source → removal_on n t.cpus ≡ removal_on n v
  removal_same n ne = ap (λ o. option_and_then (λ cpu. cpu.removal) o) (i.elsewhere n ne)

  -- each record was one
  back : (k : ℕ) (q : Record) → IsRecord qs.list k q → (r : Record) × IsRecord rs.list k r × SameBeside source r q
  back k q is =
      let (r, at) = get_some rs.list k (let l = slice_get_within qs.list k q is in let n = i.long in omega (arith, l, n)) in
      let (b, here, same) = i.forth k r at in
      (r, at, subst (SameBeside source r) (same_some (sym here ∙ is)) same)

  -- no record speaks of the source alone
  not_home : (k : ℕ) (bound : Bool) (r : Record) → IsRecord rs.list k r → r.placement ≡ On source bound → ⊥
  not_home k bound r is placement =
      let (p, spot) = placed_at v source r.id (a.home k source bound r is placement) in
      false_true (ap is_everywhere (sym placement) ∙ everywhere_here firing source v rs components rising p k r spot is)

  apart : (n : ℕ) (id : ℕ) → has n id t.cpus ≡ true → n ≢ source
  apart n id h e = none_there id (ap (λ m. has m id t.cpus) (sym e) ∙ h)

  by_everywhere : (k n : ℕ) (r q : Record) → IsRecord rs.list k r → SameBeside source r q → n ≢ source → (has n r.id v ≡ true)
      ⊎ ((m : ℕ) × (removal_on m v ≡ Some r.id))
      → (has n q.id t.cpus ≡ true) ⊎ ((m : ℕ) × (removal_on m t.cpus ≡ Some q.id))
  by_everywhere k n r q is same ne (inl h) = inl (has_same n q.id ne ∙ ap (λ id. has n id v) same.id ∙ h)
  by_everywhere k n r q is same ne (inr (m, open_is)) = inr (
    m,
    dite (ℕ_discrete m source)
        (λ e. absurd (none_some (sym (sym open_is ∙ ap (λ x. removal_on x v) e ∙ still_first))))
        (λ apart_too. removal_same m apart_too ∙ open_is ∙ ap Some (sym same.id)),
  )

  pub agrees_offline : Agrees (offline_at source (system_of w qs last))
  agrees_offline = record {
    known = λ n id h. (let ne = apart n id h in let (k, r, is, named, stands, on) = a.known n id (sym (has_same n id ne) ∙ h) in
        let (q, at, same) = i.forth k r is in
        (k, q, at, same.id ∙ named, subst (λ p. Stands n p) (sym same.placement) stands, up n ne ∙ on));
    home = λ k n bound q is placement. (let (r, at, same) = back k q is in dite (ℕ_discrete n source)
        (λ e. absurd (not_home k bound r at (sym same.placement ∙ placement ∙ ap (λ m. On m bound) e)))
        (λ ne. has_same n q.id ne ∙ ap (λ id. has n id v) same.id ∙ a.home k n bound r at (sym same.placement ∙ placement)));
    everywhere = λ k n q is all on. (let (r, at, same) = back k q is in
        let ne : n ≢ source = (λ e. false_true (sym off ∙ ap (λ m. is_online m t.cpus) (sym e) ∙ on)) in
        by_everywhere k n r q at same ne (a.everywhere k n r at (ap is_everywhere (sym same.placement) ∙ all) (sym (up n ne)
        ∙ on)));
    ended = λ k n q is h. (let (r, at, same) = back k q is in let ne = apart n q.id h in
        same.ended n ne ∙ a.ended k n r at (ap (λ id. has n id v) (sym same.id) ∙ sym (has_same n q.id ne) ∙ h));
    single = λ k n q is one. (let (r, at, same) = back k q is in let too = ap is_everywhere (sym same.placement) ∙ one in
        ap (λ (x : Record). ended_on n x) (same.single too) ∙ a.single k n r at too);
    given = λ k q is. (let (r, at, same) = back k q is in let l = a.given k r at in let e = same.id in omega (arith, l, e));
    few = subst (λ n. n ≤ 16) (sym i.there) a.few;
    long = length-set w.online source false ∙ ap (λ (xs : List Bool). length xs) i.online ∙ a.long ∙ sym i.there;
    some = (let (on, beside) = destination_fits (Some source) v d chosen in (d, up d (λ e. beside (ap Some (sym e))) ∙ on));
    most = λ n m x y p q. a.most n m x y (sym (i.most n) ∙ p) (sym (i.most m) ∙ q);
    suspended = λ n m x y p q. a.suspended n m x y (sym (i.suspended n) ∙ p) (sym (i.suspended m) ∙ q);
  }
