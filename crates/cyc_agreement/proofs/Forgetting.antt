-- Once a removal has answered nothing is left of its cyclic.
use Rattle.std.proofs.Common.{◌≡◌, ℕ, inl, inr, Bool, true, false, Option, Some, None, Ok, Err, List, get_or, slice_set, refl}
use Rattle.std.proofs.Common.{sym, ap, ◌∙◌, subst, arith}
use Rattle.std.specs.Prelude.{remove}
use Rattle.std.specs.List.{slice_get}
use Rattle.std.proofs.lemmas.Option.{slice_get-get_or, slice_get_within}
use mathlib.Core.Logic.{dite}
use native.Mathlib.Decide.{ℕ_discrete}
use Rattle.cyc_types.specs.declared.Raise.{Ghosts as Raise}
use Rattle.cyc_types.specs.declared.receipt.Receipt.{Receipt}
use Rattle.cyc_cpu.specs.declared.removing.Removal.{Removal}
use Rattle.cyc_cpu.specs.declared.removing.Removal.TheVariants.{Done, Kept}
use Rattle.cyc_places.specs.declared.record.Record.{Record}
use Rattle.cyc_places.specs.Places.{IsRecord, HasNoRecord, HasRisingIds, with_ended, ended_on, summed}
use Rattle.cyc_agreement.proofs.CpuSpots.{get_set_same, get_set_other}
use Rattle.cyc_agreement.specs.System.{SystemView, has}
use Rattle.cyc_agreement.proofs.Spots.{same_some}
use Rattle.cyc_agreement.proofs.Recording.{found, one_record, record_none}
use Rattle.cyc_agreement.specs.Removing.{Begun, BeginsOn, BeginsRemoval, AnswersRemoval, counts_of_receipt}
use Rattle.cyc_agreement.specs.Polling.{Polled, PollsOn, PollsRemoval}
use Rattle.cyc_agreement.specs.RemovalLaws.{IsForgotten}
use Rattle.cyc_agreement.specs.declared.removing.SystemRemoval.TheVariants as system
use Rattle.cyc_agreement.proofs.Removed.{left_was}
use Rattle.cyc_agreement.proofs.Where.{somewhere}
use Rattle.cyc_agreement.proofs.Folds.{folds_keep}

-- a record was changed, and kept its id
pub was_there : (rs : List Record) (k i : ℕ) (r x q : Record) → IsRecord rs k r → x.id ≡ r.id → IsRecord (slice_set rs k x) i q
    → (p : Record) × IsRecord rs i p × (p.id ≡ q.id)
was_there rs k i r x q is same at = dite (ℕ_discrete i k)
    (λ e. (r, subst (λ j. IsRecord rs j r) (sym e) is, sym (ap (λ (y : Record). y.id) (now e) ∙ same)))
    (λ ne. (q, sym (get_set_other rs k i x ne) ∙ at, refl))
  where
    now : i ≡ k → q ≡ x
    now e = same_some (sym at ∙ ap (λ j. slice_get (slice_set rs k x) j) e ∙ get_set_same rs k x (slice_get_within rs k r is))

pub rising_set : (rs : List Record) (k : ℕ) (r x : Record) → HasRisingIds rs → IsRecord rs k r → x.id ≡ r.id
    → HasRisingIds (slice_set rs k x)
rising_set rs k r x rising is same i j a b less p q =
    let (a0, at, e) = was_there rs k i r x a is same p in let (b0, bt, f) = was_there rs k j r x b is same q in
    let l = rising i j a0 b0 less at bt in omega (arith, l, e, f)

module _ {R : Type 0} (firing : Raise R) (id : ℕ) where
  kept_rising : (n : ℕ) (receipt : Receipt) (s t : SystemView R) (k : ℕ) (r : Record) → IsRecord s.records k r
      → t.records ≡ slice_set s.records k (with_ended n (summed (ended_on n r) (counts_of_receipt receipt)) r)
      → HasRisingIds s.records
      → HasRisingIds t.records
  kept_rising n receipt s t k r is e rising =
      subst HasRisingIds (sym e) (rising_set s.records k r (with_ended n (summed (ended_on n r) (counts_of_receipt receipt)) r)
      rising is
      refl)

  begins_rising : (n : ℕ) (found : Removal) (s t : SystemView R) → BeginsOn firing id n found s t → HasRisingIds s.records
      → HasRisingIds t.records
  begins_rising n (Done receipt) s t (does, k, r, is, named, records, last) rising =
      kept_rising n receipt s t k r is records rising
  begins_rising n (Kept kept) s t (does, records, last) rising = subst HasRisingIds (sym records) rising

  polls_rising : (n : ℕ) (answer : Option Receipt) (s t : SystemView R) → PollsOn firing id n answer s t
      → HasRisingIds s.records → HasRisingIds t.records
  polls_rising n (Some receipt) s t (does, k, r, is, named, records, last) rising =
      kept_rising n receipt s t k r is records rising
  polls_rising n None s t (does, records, last) rising = subst HasRisingIds (sym records) rising

  -- the record went
  none_left : (s : List Record) (k : ℕ) (r : Record) → HasRisingIds s → IsRecord s k r → r.id ≡ id → HasNoRecord id (remove s k)
  none_left s k r rising is named j d low same =
      let (i, ne, at) = left_was s k j (get_or (remove s k) j d) (slice_get-get_or (remove s k) j d low) in
      ne (one_record s k i r (get_or (remove s k) j d) rising is at (same ∙ sym named))

  answered_forgotten : (receipt : Receipt) (s t : SystemView R) → HasRisingIds s.records → AnswersRemoval id receipt s t
      → IsForgotten id t
  answered_forgotten receipt s t rising a = record {
    nowhere = λ n. ap (λ v. has n id v) a.cpus ∙ by n (has n id s.cpus) refl;
    unknown = ap (λ rs. found id rs) a.records
        ∙ record_none id (remove s.records a.position) (none_left s.records a.position a.own rising a.here a.named);
  }
    where
      by : (n : ℕ) (b : Bool) → has n id s.cpus ≡ b → b ≡ false
      by n false e = refl
      by n true e = absurd (somewhere id s.cpus n e a.nowhere)

  pub begins_forgotten : (receipt : Receipt) (s t : SystemView R) → HasRisingIds s.records
      → BeginsRemoval firing id (Ok (system.Done receipt)) s t → IsForgotten id t
  begins_forgotten receipt s t rising (inl (e, why, is, same)) = absurd (let odd : Ok (system.Done receipt) ≡ Err e = is in cc)
  begins_forgotten receipt s t rising (inr (clear, (way, u, cpus, each, answers))) = answered_forgotten receipt u t
      (folds_keep (λ x (b : Begun) y. BeginsOn firing id b.cpu b.found x y) (λ x y. HasRisingIds x.records
      → HasRisingIds y.records) (λ x h. h) (λ x y z f g h. g (f h))
      (λ x b y. begins_rising b.cpu b.found x y) way s u each rising) answers

  pub polls_forgotten : (receipt : Receipt) (s t : SystemView R) → HasRisingIds s.records
      → PollsRemoval firing id (Ok (Some receipt)) s t → IsForgotten id t
  polls_forgotten receipt s t rising (inl (e, why, is, same)) = absurd (let odd : Ok (Some receipt) ≡ Err e = is in cc)
  polls_forgotten receipt s t rising (inr (clear, (way, u, cpus, each, answers))) = answered_forgotten receipt u t
      (folds_keep (λ x (p : Polled) y. PollsOn firing id p.cpu p.answer x y) (λ x y. HasRisingIds x.records
      → HasRisingIds y.records) (λ x h. h) (λ x y z f g h. g (f h))
      (λ x p y. polls_rising p.cpu p.answer x y) way s u each rising) answers
