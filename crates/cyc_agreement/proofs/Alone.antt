-- The removal of a cyclic that is on one CPU alone.
use Rattle.std.proofs.Common.{◌≡◌, ℕ, ◌+◌, ◌<◌, Bool, length, true, false, Option, Some, None, Ok, List, [], ◌∷◌, map}
use Rattle.std.proofs.Common.{refl, sym, ap, ◌∙◌, subst, arith}
use Rattle.std.specs.Prelude.{sum_by, remove}
use Rattle.std.specs.List.{list_any}
use Rattle.std.proofs.lemmas.Option.{slice_get_within, get_or_from_slice_get}
use Rattle.cyc_types.specs.declared.Raise.{Ghosts as Raise}
use Rattle.cyc_types.specs.declared.receipt.Receipt.{Receipt}
use Rattle.cyc_types.specs.Firing.{FiringView}
use Rattle.cyc_types.specs.Reasons.{first_refusal, busy, or_else}
use Rattle.cyc_cpu.specs.declared.removing.Removal.{Removal}
use Rattle.cyc_cpu.specs.Cpu.{CpuView}
use Rattle.cyc_cpu.specs.Laws.{IsLawful}
use Rattle.cyc_places.specs.declared.record.Placement.TheVariants.{On}
use Rattle.cyc_places.specs.declared.record.Record.{Record}
use Rattle.cyc_places.specs.Places.{IsRecord, IsReceiptOf, HasNoRecord, HasRisingIds}
use Rattle.cyc_agreement.specs.Cpus.{CpusView, IsCpu, OfCpu}
use Rattle.cyc_agreement.specs.System.{has, removal_on, is_leaving_here}
use Rattle.cyc_agreement.specs.Agreement.{Agrees, Stands}
use Rattle.cyc_agreement.specs.Holding.{Holds}
use Rattle.cyc_agreement.specs.declared.removing.SystemRemoval.TheVariants as system_removal
use Rattle.cyc_agreement.specs.Removing.{Begun, BeginsOn, BeginsEach, BeginsRemoval, busy_on_each, cpus_with, kept_in}
use Rattle.cyc_agreement.specs.Polling.{Polled, PollsOn, PollsEach, PollsRemoval, leaving_cpus}
use Rattle.cyc_agreement.specs.Withdrawing.{system, Owns, Withdraws, LeavesAt}
use Rattle.cyc_agreement.proofs.Spots.{get_some, same_some}
use Rattle.cyc_agreement.proofs.Lists.{any_at, false_true}
use Rattle.cyc_agreement.proofs.Presence.{has_low}
use Rattle.cyc_agreement.proofs.Recording.{one_record}
use Rattle.cyc_agreement.proofs.One.{is_leaving_open, leaving_is, removal_there, open_here}
use Rattle.cyc_agreement.proofs.Agreeing.{owned, has_record, holds_leaving, holds_left}
use Rattle.cyc_agreement.proofs.Where.{alone, leaving_somewhere, leaving_alone, shut_alone}
use Rattle.cyc_agreement.proofs.Telling.{removal_done, removal_kept, poll_answered, poll_waits}

-- the record at this position is of this cyclic, and says that it is on this CPU
abbrev pub IsAlone : (id position n : ℕ) → List Record → Type 0
IsAlone id position n rs = (r : Record) × (bound : Bool) × IsRecord rs position r × (r.id ≡ id) × (r.placement ≡ On n bound)

module _ {R : Type 0} (v : CpusView R) (rs : List Record) (last id position n : ℕ) (a : Agrees (system v rs last))
    (rising : HasRisingIds rs) (own : IsAlone id position n rs) where
  -- it is there
  pub home_has : has n id v ≡ true
  home_has = let (r, bound, is, named, home) = own in ap (λ i. has n i v) (sym named) ∙ a.home position n bound r is home

  -- and nowhere else
  pub home_only : (m : ℕ) → has m id v ≡ true → m ≡ n
  home_only m there = let (r, bound, is, named, home) = own in let (j, x, at, same, stands, on) = a.known m id there in
      let e : x ≡ r = same_some (sym at
      ∙ subst (λ i. IsRecord rs i r) (sym (one_record rs position j r x rising is at (same ∙ sym named))) is) in
      sym (subst (λ p. Stands m p) (ap (λ (y : Record). y.placement) e ∙ home) stands)

  pub home_low : n < length v.cpus
  home_low = has_low v n id home_has

  pub home_few : n < 16
  home_few = let low = home_low in let few = a.few in omega (arith, low, few)

  pub home_owned : Owns id position v rs
  home_owned = let (r, bound, is, named, home) = own in owned v rs last id position a (r, is, named)

  -- a removal that is open there refuses, and no other does
  pub home_busy : first_refusal (busy_on_each id (system v rs last)) ≡ or_else (busy (removal_on n v)) None
  home_busy = ap (λ ns. first_refusal (map (λ m. busy (removal_on m v)) ns)) (alone id v n home_only home_has)

module _ {R : Type 0} (v w : CpusView R) (rs ss : List Record) (id position n : ℕ) (only : (m : ℕ) → has m id v ≡ true → m ≡ n)
    (d : Withdraws id position v w rs ss × LeavesAt n id v w) where
  -- where it still is, its removal is open
  pub open_alone : (m : ℕ) → has m id w ≡ true → removal_on m w ≡ Some id
  open_alone m h = let e = only m (d.0.fewer m h) in ap (λ k. removal_on k w) e
      ∙ d.1.leaving (ap (λ k. has k id w) (sym e) ∙ h)

  -- and where that is not open, it has left
  pub left_alone : (x : CpuView R) → IsCpu n x w → is_leaving_here id x ≡ false → (m : ℕ) → has m id w ≡ false
  left_alone x at shut m = by (has m id w) refl
    where
      by : (b : Bool) → has m id w ≡ b → b ≡ false
      by false h = refl
      by true h = absurd (false_true (sym shut ∙ leaving_is id x (sym (removal_there w n x at)
          ∙ ap (λ k. removal_on k w) (sym (only m (d.0.fewer m h))) ∙ open_alone m h)))

-- no removal is open of an id that no record has
pub unknown_shut : {R : Type 0} (view : R → FiringView) (v : CpusView R) (rs : List Record) (last id : ℕ)
    → Agrees (system v rs last) → ((m : ℕ) (x : CpuView R) → IsCpu m x v → IsLawful view x) → HasNoRecord id rs
    → list_any (is_leaving_here id) v.cpus ≡ false
unknown_shut view v rs last id a law none = by (list_any (is_leaving_here id) v.cpus) refl
  where
    by : (b : Bool) → list_any (is_leaving_here id) v.cpus ≡ b → b ≡ false
    by false e = refl
    by true e = let (m, here, is) = leaving_somewhere id v view law e in absurd (has_record v rs last id m a here none)

-- what is asked there about its removal tells of all CPUs
module _ {R : Type 0} (view : R → FiringView) (v : CpusView R) (rs : List Record) (last id position n : ℕ)
    (a : Agrees (system v rs last)) (rising : HasRisingIds rs) (own : IsAlone id position n rs)
    (law : (m : ℕ) (x : CpuView R) → IsCpu m x v → IsLawful view x) (b : Bool)
    (tested : OfCpu n (λ cpu. b ≡ is_leaving_here id cpu) v) where
  spot : (x : CpuView R) × IsCpu n x v
  spot = get_some v.cpus n (home_low v rs last id position n a rising own)

  pub home_leaving : b ≡ true → (list_any (is_leaving_here id) v.cpus ≡ true) × (leaving_cpus id v ≡ n ∷ [])
  home_leaving is = let (x, at) = spot in let e = sym (tested x at) ∙ is in (
    any_at (is_leaving_here id) v.cpus n x (slice_get_within v.cpus n x at)
        (ap (is_leaving_here id) (get_or_from_slice_get v.cpus n x x at) ∙ e),
    leaving_alone id v n (home_only v rs last id position n a rising own) view law x at e,
  )

  pub home_shut : b ≡ false → list_any (is_leaving_here id) v.cpus ≡ false
  home_shut is = let (x, at) = spot in
      shut_alone id v n (home_only v rs last id position n a rising own) view law x at (sym (tested x at) ∙ is)

module _ {R : Type 0} (firing : Raise R) (v w : CpusView R) (rs ss : List Record) (first id position n : ℕ)
    (h : Holds (system v rs first)) (rising : HasRisingIds rs) (own : IsAlone id position n rs)
    (d : Withdraws id position v w rs ss × LeavesAt n id v w) where
  only : (m : ℕ) → has m id v ≡ true → m ≡ n
  only = home_only v rs first id position n h.agrees rising own

  owns : Owns id position v rs
  owns = home_owned v rs first id position n h.agrees rising own

  low_still : n < length w.cpus
  low_still = subst (λ k. n < k) (sym d.0.long) (home_low v rs first id position n h.agrees rising own)

  module _ (law : (m : ℕ) (x : CpuView R) → IsCpu m x w → IsLawful firing.view x) (b : Bool)
      (tested : OfCpu n (λ cpu. b ≡ is_leaving_here id cpu) w) where
    left : b ≡ false → (m : ℕ) → has m id w ≡ false
    left is = let (x, at) = get_some w.cpus n low_still in
        left_alone v w rs ss id position n only d x at (sym (tested x at) ∙ is)

    still_here : b ≡ true → (has n id w ≡ true) × (removal_on n w ≡ Some id)
    still_here is = let (x, at) = get_some w.cpus n low_still in let e = is_leaving_open id x (sym (tested x at) ∙ is) in
        (open_here firing.view w n id x (law n x at) at e, removal_there w n x at ∙ e)

    -- ---- what holds of the system

    pub holds_open : b ≡ true → Holds (system w ss first)
    holds_open is = let (here, own_removal) = still_here is in
        holds_leaving v w rs ss first id position h rising owns d.0 (open_alone v w rs ss id position n only d) n here
        own_removal

    pub holds_gone : b ≡ false → Holds (system w (remove ss position) first)
    holds_gone is = holds_left v w rs ss first id position h rising owns d.0 (open_alone v w rs ss id position n only d)
        (left is)

    -- ---- what its beginning answers
    module _ (last kept : ℕ) (still : removal_on n v ≡ None)
        (did : (found : Removal) × (kept ≡ kept_in found)
        × BeginsOn firing id n found (system v rs last) (system w ss last)) where
      clear : first_refusal (busy_on_each id (system v rs last)) ≡ None
      clear = home_busy v rs first id position n h.agrees rising own ∙ ap (λ o. or_else (busy o) None) still

      way : (way : List Begun) × (map (λ b. b.cpu) way ≡ cpus_with id v)
          × BeginsEach firing id way (system v rs last) (system w ss last) × (kept ≡ sum_by (λ b. kept_in b.found) way)
      way = (
        record { cpu = n; found = did.0 } ∷ [],
        sym (alone id v n only (home_has v rs first id position n h.agrees rising own)),
        (system w ss last, did.2, refl),
        (let e : 0 + kept_in did.0 ≡ kept_in did.0 = omega arith in did.1 ∙ sym e),
      )

      pub begun_kept : b ≡ true
          → BeginsRemoval firing id (Ok (system_removal.Kept kept)) (system v rs last) (system w ss last)
      begun_kept is = let (steps, cpus, works, sum) = way in
          removal_kept firing id position v w rs ss last owns d.0 rising clear (steps, cpus, works) n kept
          (still_here is).0 sum

      pub begun_done : b ≡ false → (receipt : Receipt) → ((r : Record) → IsRecord ss position r → IsReceiptOf receipt r)
          → BeginsRemoval firing id (Ok (system_removal.Done receipt)) (system v rs last) (system w (remove ss position) last)
      begun_done is receipt counts = let (steps, cpus, works, sum) = way in
          removal_done firing id position v w rs ss last owns d.0 rising clear (steps, cpus, works) receipt (left is) counts

    -- ---- what a poll answers
    module _ (last : ℕ) (was : (list_any (is_leaving_here id) v.cpus ≡ true) × (leaving_cpus id v ≡ n ∷ []))
        (did : (answer : Option Receipt) × PollsOn firing id n answer (system v rs last) (system w ss last)) where
      polled_way : (way : List Polled) × (map (λ p. p.cpu) way ≡ leaving_cpus id v)
          × PollsEach firing id way (system v rs last) (system w ss last)
      polled_way = (record { cpu = n; answer = did.0 } ∷ [], sym was.1, (system w ss last, did.1, refl))

      pub polled_waits : b ≡ true → PollsRemoval firing id (Ok None) (system v rs last) (system w ss last)
      polled_waits is = poll_waits firing id position v w rs ss last owns d.0 was.0 polled_way n (still_here is).0

      pub polled_done : b ≡ false → (receipt : Receipt) → ((r : Record) → IsRecord ss position r → IsReceiptOf receipt r)
          → PollsRemoval firing id (Ok (Some receipt)) (system v rs last) (system w (remove ss position) last)
      polled_done is receipt counts = poll_answered firing id position v w rs ss last owns d.0 was.0 polled_way receipt
          (left is) counts
