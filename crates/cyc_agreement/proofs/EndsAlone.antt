-- The removal of a cyclic that is on one CPU alone ends there: its receipt is the CPU's own. Stays that a move ended left no
-- counts in its record: the stay that goes on has them.
use Rattle.std.proofs.Common.{◌≡◌, ℕ, ◌+◌, ◌≤◌, inl, inr, true, false, Some, None, Ok, List, [], ◌∷◌}
use Rattle.std.proofs.Common.{slice_set, refl, sym, ap, ◌∙◌, subst, arith, zero, suc}
use Rattle.std.specs.Prelude.{sum_by, remove, ◌==◌}
use Rattle.std.specs.Option.{option_map_or}
use Rattle.std.proofs.lemmas.Option.{slice_get_within, get_or_from_slice_get}
use Rattle.cyc_types.specs.Counting.{no_counts}
use Rattle.cyc_types.specs.declared.Raise.{Ghosts as Raise}
use Rattle.cyc_types.specs.declared.firing.Sent.{Sent}
use Rattle.cyc_types.specs.declared.receipt.Receipt.{Receipt}
use Rattle.cyc_cpu.specs.declared.removing.Removal.TheVariants.{Done, Kept}
use Rattle.cyc_cpu.specs.Cpu.{CpuView}
use Rattle.cyc_cpu.specs.Laws.{IsLawful}
use Rattle.cyc_cpu.specs.Calls.{CpuChanges, BeginRemove, PollRemove}
use Rattle.cyc_places.specs.declared.record.Record.{Record}
use Rattle.cyc_places.specs.Places.{IsRecord, IsReceiptOf, HasRisingIds, HaveAllCounts, ended_on, summed, with_ended}
use Rattle.cyc_agreement.specs.Cpus.{CpusView, IsCpu, OfCpu, with_cpu}
use Rattle.cyc_agreement.specs.System.{is_leaving_here, is_everywhere}
use Rattle.cyc_agreement.specs.Holding.{Holds}
use Rattle.cyc_agreement.specs.declared.removing.SystemRemoval.TheVariants as system_removal
use Rattle.cyc_agreement.specs.Removing.{BeginsRemoval, counts_of_receipt}
use Rattle.cyc_agreement.specs.Polling.{PollsRemoval}
use Rattle.cyc_agreement.specs.Withdrawing.{system, Withdraws, LeavesAt}
use Rattle.cyc_agreement.proofs.CpuSpots.{get_set_same, changed, cpu_there}
use Rattle.cyc_agreement.proofs.Spots.{get_some, same_some, none_some}
use Rattle.cyc_agreement.proofs.One.{begun, polled, less_done, less_ended, done_fits, ended_fits, leaving_is, removal_there}
use Rattle.cyc_agreement.proofs.Withdrawing.{at_end, at_open}
use Rattle.cyc_agreement.proofs.Sums.{sum_none, sum_set}
use Rattle.cyc_agreement.proofs.Alone.{IsAlone, home_has, home_few, home_leaving, holds_open, holds_gone, begun_kept, begun_done}
use Rattle.cyc_agreement.proofs.Alone.{polled_waits, polled_done}

-- what is removed may have been changed before
remove_set : {A : Type 0} (xs : List A) (k : ℕ) (x : A) → remove (slice_set xs k x) k ≡ remove xs k
remove_set [] k x = refl
remove_set (y ∷ xs) zero x = refl
remove_set (y ∷ xs) (suc k) x = ap (λ l. y ∷ l) (remove_set xs k x)

module _ {R : Type 0} (firing : Raise R) (v : CpusView R) (rs : List Record) (first id position n : ℕ)
    (h : Holds (system v rs first)) (rising : HasRisingIds rs) (all : HaveAllCounts rs) (own : IsAlone id position n rs) where
  -- its record, where the stay has ended with this receipt
  abbrev pub ended_with : Receipt → Record
  ended_with receipt = with_ended n (summed (ended_on n own.0) (counts_of_receipt receipt)) own.0

  fresh : (k : ℕ) → ended_on k own.0 ≡ no_counts
  fresh k = h.agrees.single position k own.0 own.2 (ap is_everywhere own.4)

  -- its record has no counts but the receipt's
  sum_is : (f : Sent → ℕ) → f no_counts ≡ 0 → (receipt : Receipt)
      → sum_by f (ended_with receipt).ended ≡ f (summed (ended_on n own.0) (counts_of_receipt receipt))
  sum_is f none receipt =
      let few = home_few v rs first id position n h.agrees rising own in let long = all position own.0 own.2 in
      let (z, at) = get_some own.0.ended n (omega (arith, few, long)) in
      let total = sum_set f own.0.ended n z (summed (ended_on n own.0) (counts_of_receipt receipt)) at in
      let rest = sum_none f own.0.ended (λ k c is. ap f (sym (get_or_from_slice_get own.0.ended k c no_counts is) ∙ fresh k)
      ∙ none) in
      let here = ap f (sym (get_or_from_slice_get own.0.ended n z no_counts at) ∙ fresh n) ∙ none in
      omega (arith, total, rest, here)

  receipt_is : (receipt : Receipt) → receipt.id ≡ id → (q : Record)
      → IsRecord (slice_set rs position (ended_with receipt)) position q
      → IsReceiptOf receipt q
  receipt_is receipt named q at = subst (λ (r : Record). IsReceiptOf receipt r)
      (same_some (sym (get_set_same rs position (ended_with receipt) (slice_get_within rs position own.0 own.2)) ∙ at)) (record {
        id = named ∙ sym own.3;
        sent = (let s = sum_is (λ e. e.sent) refl receipt in let f = ap (λ (e : Sent). e.sent) (fresh n) in
            omega (arith, s, f));
        lost = (let s = sum_is (λ e. e.lost) refl receipt in let f = ap (λ (e : Sent). e.lost) (fresh n) in
            omega (arith, s, f));
      })

  -- ---- what a call made of the CPU
  module _ (x y : CpuView R) (at : IsCpu n x v) (law : IsLawful firing.view x)
      (laws : (m : ℕ) (z : CpuView R) → IsCpu m z (with_cpu v n y) → IsLawful firing.view z) where
    shut : y.removal ≡ None → OfCpu n (λ cpu. false ≡ is_leaving_here id cpu) (with_cpu v n y)
    shut none cpu there = sym (ap (λ o. option_map_or (λ own. own == id) o false) none)
        ∙ ap (λ (c : CpuView R). is_leaving_here id c) (same_some (sym (cpu_there n x y v at) ∙ there))

    still_open : y.removal ≡ Some id → OfCpu n (λ cpu. true ≡ is_leaving_here id cpu) (with_cpu v n y)
    still_open is cpu there = sym (leaving_is id y is)
        ∙ ap (λ (c : CpuView R). is_leaving_here id c) (same_some (sym (cpu_there n x y v at) ∙ there))

    few : (receipt : Receipt) → receipt.sent ≤ x.most → (ended_on n own.0).sent + receipt.sent ≤ x.most
    few receipt low = subst (λ (e : Sent). e.sent + receipt.sent ≤ x.most) (sym (fresh n)) (omega (arith, low))

    -- the removal is done as it begins
    module _ (receipt : Receipt) (e : CpuChanges firing x (BeginRemove id (Ok (Done receipt))) y) where
      done_at : Withdraws id position v (with_cpu v n y) rs (slice_set rs position (ended_with receipt))
          × LeavesAt n id v (with_cpu v n y)
      done_at = at_end v n id position x y at (begun firing id x y law (Done receipt) e) rs own.0 own.2
          (slice_set rs position (ended_with receipt)) (summed (ended_on n own.0) (counts_of_receipt receipt))
          (home_has v rs first id position n h.agrees rising own) (less_done firing id x y law receipt e).gone
          (few receipt (done_fits firing id x y receipt law e)) refl

      closed : OfCpu n (λ cpu. false ≡ is_leaving_here id cpu) (with_cpu v n y)
      closed = shut (less_done firing id x y law receipt e).removal

      named : receipt.id ≡ id
      named = let (still, (c, counts, is, polls, leaves)) = e in is.0 ∙ leaves.named

      pub done_at_once : (last : ℕ) → BeginsRemoval firing id (Ok (system_removal.Done receipt)) (system v rs last)
          (system (with_cpu v n y) (remove rs position) last)
      done_at_once last = subst (λ l. BeginsRemoval firing id (Ok (system_removal.Done receipt)) (system v rs last)
          (system (with_cpu v n y) l last)) (remove_set rs position (ended_with receipt))
          (begun_done firing v (with_cpu v n y) rs (slice_set rs position (ended_with receipt)) first id position n h rising own
          done_at laws false closed last 0 (removal_there v n x at ∙ e.0)
          (Done receipt, refl, (changed n _ x y v at e, position, own.0, own.2, own.3, refl, refl)) refl receipt
          (receipt_is receipt named))

      pub holds_at_once : Holds (system (with_cpu v n y) (remove rs position) first)
      holds_at_once = subst (λ l. Holds (system (with_cpu v n y) l first)) (remove_set rs position (ended_with receipt))
          (holds_gone firing v (with_cpu v n y) rs (slice_set rs position (ended_with receipt)) first id position n h rising own
          done_at laws false closed refl)

    -- it stays open
    module _ (kept : ℕ) (e : CpuChanges firing x (BeginRemove id (Ok (Kept kept))) y) where
      opens_at : Withdraws id position v (with_cpu v n y) rs rs × LeavesAt n id v (with_cpu v n y)
      opens_at = at_open v n id position x y at (begun firing id x y law (Kept kept) e) rs own.0 own.2 rs refl

      pub stays_open : (last total : ℕ) → total ≡ kept → BeginsRemoval firing id (Ok (system_removal.Kept total))
          (system v rs last) (system (with_cpu v n y) rs last)
      stays_open last total is = begun_kept firing v (with_cpu v n y) rs rs first id position n h rising own opens_at laws true
          (still_open e.1.removal) last total (removal_there v n x at ∙ e.0)
          (Kept kept, is, (changed n _ x y v at e, refl, refl)) refl

      pub holds_kept : Holds (system (with_cpu v n y) rs first)
      holds_kept = holds_open firing v (with_cpu v n y) rs rs first id position n h rising own opens_at laws true
          (still_open e.1.removal) refl

    -- it is polled where it is open
    module _ (was : x.removal ≡ Some id) (was_laws : (m : ℕ) (z : CpuView R) → IsCpu m z v → IsLawful firing.view z)
        (was_open : OfCpu n (λ cpu. true ≡ is_leaving_here id cpu) v) where
      module _ (receipt : Receipt) (e : CpuChanges firing x (PollRemove (Some receipt)) y) where
        ended_at : Withdraws id position v (with_cpu v n y) rs (slice_set rs position (ended_with receipt))
            × LeavesAt n id v (with_cpu v n y)
        ended_at = at_end v n id position x y at (polled firing id x y law (Some receipt) was e) rs own.0 own.2
            (slice_set rs position (ended_with receipt)) (summed (ended_on n own.0) (counts_of_receipt receipt))
            (home_has v rs first id position n h.agrees rising own) (less_ended firing id x y law receipt was e).gone
            (few receipt (ended_fits firing id x y receipt law e)) refl

        over : OfCpu n (λ cpu. false ≡ is_leaving_here id cpu) (with_cpu v n y)
        over = shut (less_ended firing id x y law receipt was e).removal

        pub ends_at_last : (last : ℕ) → PollsRemoval firing id (Ok (Some receipt)) (system v rs last)
            (system (with_cpu v n y) (remove rs position) last)
        ends_at_last last = subst (λ l. PollsRemoval firing id (Ok (Some receipt)) (system v rs last)
            (system (with_cpu v n y) l last)) (remove_set rs position (ended_with receipt))
            (polled_done firing v (with_cpu v n y) rs (slice_set rs position
            (ended_with receipt)) first id position n h rising own
            ended_at laws false over last
            (home_leaving firing.view v rs first id position n h.agrees rising own was_laws true was_open refl)
            (Some receipt, (changed n _ x y v at e, position, own.0, own.2, own.3, refl, refl)) refl receipt
            (receipt_is receipt (same_some (sym e.was_open ∙ was))))

        pub holds_at_last : Holds (system (with_cpu v n y) (remove rs position) first)
        holds_at_last = subst (λ l. Holds (system (with_cpu v n y) l first)) (remove_set rs position (ended_with receipt))
            (holds_gone firing v (with_cpu v n y) rs (slice_set rs position (ended_with receipt)) first id position n h rising own
            ended_at laws false over refl)

      module _ (e : CpuChanges firing x (PollRemove None) y) where
        waits_at : Withdraws id position v (with_cpu v n y) rs rs × LeavesAt n id v (with_cpu v n y)
        waits_at = at_open v n id position x y at (polled firing id x y law None was e) rs own.0 own.2 rs refl

        waiting : y.removal ≡ Some id
        waiting = by e
          where
            by : CpuChanges firing x (PollRemove None) y → y.removal ≡ Some id
            by (inl (none, same)) = absurd (none_some (sym none ∙ was))
            by (inr (other, is, waits)) = waits.kept.removal ∙ was

        pub still_waits : (last : ℕ) → PollsRemoval firing id (Ok None) (system v rs last) (system (with_cpu v n y) rs last)
        still_waits last = polled_waits firing v (with_cpu v n y) rs rs first id position n h rising own waits_at laws true
            (still_open waiting) last
            (home_leaving firing.view v rs first id position n h.agrees rising own was_laws true was_open refl)
            (None, (changed n _ x y v at e, refl, refl)) refl

        pub holds_waiting : Holds (system (with_cpu v n y) rs first)
        holds_waiting = holds_open firing v (with_cpu v n y) rs rs first id position n h rising own waits_at laws true
            (still_open waiting) refl
