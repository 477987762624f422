-- What a removal over all CPUs tells of the system.
use Rattle.std.proofs.Common.{◌≡◌, ℕ, true, false, not, Some, None, Ok, Err, inl, inr, List, ◌∷◌, [], map, refl, sym, ap, ◌∙◌}
use Rattle.std.specs.Prelude.{sum_by, is_some, remove}
use Rattle.cyc_types.specs.declared.Raise.{Ghosts as Raise}
use Rattle.cyc_types.specs.declared.receipt.Receipt.{Receipt}
use Rattle.cyc_types.specs.declared.refusal.Refusal.TheVariants.{NoCyclic, Busy}
use Rattle.cyc_types.specs.Reasons.{first_refusal}
use Rattle.cyc_places.specs.declared.record.Record.{Record}
use Rattle.cyc_places.specs.Places.{IsRecord, IsReceiptOf, HasRisingIds, HasNoRecord}
use Rattle.cyc_agreement.specs.Cpus.{CpusView}
use Rattle.cyc_agreement.specs.System.{SystemView, has, is_unknown, is_leaving}
use Rattle.cyc_agreement.proofs.Spots.{same_some}
use Rattle.cyc_agreement.proofs.Recording.{record_here, record_none}
use Rattle.cyc_agreement.proofs.FirstReason.{not_when, is_when, passes, stops}
use Rattle.cyc_agreement.specs.Removing.{
  BeginsRemoval,
  BeginsEach,
  Begun,
  AnswersRemoval,
  unknown_cyclic,
  busy_on_each,
  cpus_with,
}
use Rattle.cyc_agreement.specs.Removing.{kept_in}
use Rattle.cyc_agreement.specs.Polling.{PollsRemoval, PollsEach, Polled, not_leaving, leaving_cpus}
use Rattle.cyc_agreement.specs.Withdrawing.{system, Owns, Withdraws}
use Rattle.cyc_agreement.specs.declared.removing.SystemRemoval.TheVariants as removal
use Rattle.cyc_agreement.proofs.Withdrawing.{now_here}
use Rattle.cyc_agreement.proofs.Where.{nowhere, somewhere}

pub is_unknown_cyclic : {R : Type 0} (s : SystemView R) (id : ℕ) → HasNoRecord id s.records → unknown_cyclic id s ≡ Some NoCyclic
is_unknown_cyclic s id none = is_when (is_unknown id s) NoCyclic (ap (λ o. not (is_some o)) (record_none id s.records none))

pub is_known_cyclic : {R : Type 0} (s : SystemView R) (id k : ℕ) → HasRisingIds s.records
    → ((r : Record) × IsRecord s.records k r × (r.id ≡ id)) → unknown_cyclic id s ≡ None
is_known_cyclic s id k rising (r, is, named) =
    not_when (is_unknown id s) NoCyclic (ap (λ o. not (is_some o)) (record_here id k r s.records rising is named))

module _ {R : Type 0} (firing : Raise R) (id position : ℕ) (v w : CpusView R)
    (rs rs' : List Record) (last : ℕ)
    (o : Owns id position v rs) (d : Withdraws id position v w rs rs') where
  -- the record went, and the receipt is of it
  pub answered : (receipt : Receipt) → ((n : ℕ) → has n id w ≡ false)
      → ((r : Record) → IsRecord rs' position r → IsReceiptOf receipt r)
      → AnswersRemoval id receipt (system w rs' last) (system w (remove rs' position) last)
  answered receipt none counts = record {
    nowhere = nowhere id w none;
    position = position;
    own = d.after;
    here = now_here id position v w rs rs' d;
    named = d.same_id ∙ ap (λ (r : Record). r.id) (same_some (sym d.was ∙ o.here)) ∙ o.named;
    counts = counts d.after (now_here id position v w rs rs' d);
    cpus = refl;
    records = refl;
    last = refl;
  }

  module _ (rising : HasRisingIds rs) (clear : first_refusal (busy_on_each id (system v rs last)) ≡ None)
      (did : (way : List Begun) × (map (λ b. b.cpu) way ≡ cpus_with id v)
      × BeginsEach firing id way (system v rs last) (system w rs' last)) where
    none_refuses : first_refusal (unknown_cyclic id (system v rs last) ∷ busy_on_each id (system v rs last)) ≡ None
    none_refuses = passes (unknown_cyclic id (system v rs last)) (busy_on_each id (system v rs last)) None
        (is_known_cyclic (system v rs last) id position rising (o.own, o.here, o.named)) clear

    pub removal_done : (receipt : Receipt) → ((n : ℕ) → has n id w ≡ false)
        → ((r : Record) → IsRecord rs' position r → IsReceiptOf receipt r)
        → BeginsRemoval firing id (Ok (removal.Done receipt)) (system v rs last) (system w (remove rs' position) last)
    removal_done receipt none counts = inr (none_refuses, (did.0, system w rs' last, did.1, did.2, answered receipt none counts))

    pub removal_kept : (n kept : ℕ) → has n id w ≡ true → kept ≡ sum_by (λ b. kept_in b.found) did.0
        → BeginsRemoval firing id (Ok (removal.Kept kept)) (system v rs last) (system w rs' last)
    removal_kept n kept here sum = inr (none_refuses, (did.0, did.1, did.2, somewhere id w n here, sum))

  module _ (leaving : is_leaving id (system v rs last) ≡ true)
      (did : (way : List Polled) × (map (λ p. p.cpu) way ≡ leaving_cpus id v)
      × PollsEach firing id way (system v rs last) (system w rs' last)) where
    is_open : first_refusal (not_leaving id (system v rs last) ∷ []) ≡ None
    is_open = passes (not_leaving id (system v rs last)) [] None
        (not_when (not (is_leaving id (system v rs last))) NoCyclic (ap not leaving)) refl

    pub poll_answered : (receipt : Receipt) → ((n : ℕ) → has n id w ≡ false)
        → ((r : Record) → IsRecord rs' position r → IsReceiptOf receipt r)
        → PollsRemoval firing id (Ok (Some receipt)) (system v rs last) (system w (remove rs' position) last)
    poll_answered receipt none counts = inr (is_open, (did.0, system w rs' last, did.1, did.2, answered receipt none counts))

    pub poll_waits : (n : ℕ) → has n id w ≡ true → PollsRemoval firing id (Ok None) (system v rs last) (system w rs' last)
    poll_waits n here = inr (is_open, (did.0, did.1, did.2, somewhere id w n here))

module _ {R : Type 0} (firing : Raise R) (id : ℕ) (s : SystemView R) where
  pub not_known : HasNoRecord id s.records → BeginsRemoval firing id (Err NoCyclic) s s
  not_known none = inl (
    NoCyclic,
    stops (unknown_cyclic id s) (busy_on_each id s) NoCyclic (is_unknown_cyclic s id none),
    refl,
    refl,
  )

  pub is_busy : (k removed : ℕ) → HasRisingIds s.records → ((r : Record) × IsRecord s.records k r × (r.id ≡ id))
      → first_refusal (busy_on_each id s) ≡ Some (Busy removed)
      → BeginsRemoval firing id (Err (Busy removed)) s s
  is_busy k removed rising own first = inl (
    Busy removed,
    passes (unknown_cyclic id s) (busy_on_each id s) (Some (Busy removed))
        (is_known_cyclic s id k rising own) first,
    refl,
    refl,
  )

  pub is_not_open : is_leaving id s ≡ false → PollsRemoval firing id (Err NoCyclic) s s
  is_not_open none = inl (
    NoCyclic,
    stops (not_leaving id s) [] NoCyclic (is_when (not (is_leaving id s)) NoCyclic (ap not none)),
    refl,
    refl,
  )
