-- A receipt has all that its cyclic expired, over all CPUs and all of its stays.
use Rattle.std.proofs.Common.{◌≡◌, ◌≢◌, ◌==◌, ℕ, ◌+◌, inl, inr, Bool, true, false, Some, None, Ok, Err, List, map, refl, sym, ap}
use Rattle.std.proofs.Common.{◌∙◌, subst, arith}
use Rattle.std.specs.Prelude.{sum_by}
use Rattle.std.specs.List.{slice_get, list_any}
use Rattle.std.specs.Option.{option_map, option_map_or}
use Rattle.std.proofs.lemmas.Option.{slice_get-map}
use Rattle.cyc_types.specs.declared.Raise.{Ghosts as Raise}
use Rattle.cyc_types.specs.declared.firing.Sent.{Sent}
use Rattle.cyc_types.specs.declared.receipt.Receipt.{Receipt}
use Rattle.cyc_cpu.specs.declared.removing.Removal.{Removal}
use Rattle.cyc_cpu.specs.declared.removing.Removal.TheVariants.{Done, Kept}
use Rattle.cyc_cpu.specs.Cpu.{CpuView}
use Rattle.cyc_cpu.specs.Laws.{IsLawful}
use Rattle.cyc_places.specs.declared.record.Record.{Record}
use Rattle.cyc_places.specs.Places.{summed}
use Rattle.cyc_agreement.specs.Cpus.{IsCpu}
use Rattle.cyc_agreement.proofs.CpuSpots.{get_set_other}
use Rattle.cyc_agreement.specs.System.{SystemView, ids_of, has, is_leaving_here}
use Rattle.cyc_agreement.proofs.Spots.{same_some}
use Rattle.cyc_agreement.proofs.Lists.{among}
use Rattle.cyc_agreement.proofs.Who.{ids_there}
use Rattle.cyc_agreement.proofs.Recording.{record_here}
use Rattle.cyc_agreement.specs.Removing.{Begun, BeginsOn, BeginsEach, BeginsRemoval, AnswersRemoval, cpus_with}
use Rattle.cyc_agreement.specs.Polling.{Polled, PollsOn, PollsEach, PollsRemoval, leaving_cpus}
use Rattle.cyc_agreement.specs.Counts.{IsFit, AreLawful}
use Rattle.cyc_agreement.specs.declared.removing.SystemRemoval.TheVariants as system
use Rattle.cyc_agreement.proofs.One.{is_leaving_open}
use Rattle.cyc_agreement.proofs.Where.{somewhere}
use Rattle.cyc_agreement.proofs.Folds.{folds_known, folds_keep, Known}
use Rattle.cyc_agreement.proofs.Others.{polls_elsewhere}
use Rattle.cyc_agreement.proofs.Sums.{sum_none, none_found, of_cyclic, in_cpu, all_of, begin_keeps, poll_keeps}

-- only the CPU on which the removal begins changes
begins_elsewhere : {R : Type 0} (firing : Raise R) (id : ℕ) (b : Begun)
    (s t : SystemView R) → BeginsOn firing id b.cpu b.found s t
    → (m : ℕ) → m ≢ b.cpu → slice_get t.cpus.cpus m ≡ slice_get s.cpus.cpus m
begins_elsewhere firing id b s t on m ne = by b.found on
  where
    by : (found : Removal) → BeginsOn firing id b.cpu found s t → slice_get t.cpus.cpus m ≡ slice_get s.cpus.cpus m
    by (Done receipt) d = ap (λ u. slice_get u.cpus m) d.0.rest ∙ get_set_other s.cpus.cpus b.cpu m d.0.after ne
    by (Kept kept) d = ap (λ u. slice_get u.cpus m) d.0.rest ∙ get_set_other s.cpus.cpus b.cpu m d.0.after ne

module _ {R : Type 0} (firing : Raise R) (g : Sent → ℕ) (id : ℕ) (adds : (a b : Sent)
    → g (summed a b) ≡ g a + g b) where
  begins_keep : (way : List Begun) (s t : SystemView R) → map (λ b. b.cpu) way ≡ cpus_with id s.cpus → AreLawful firing.view s
      → BeginsEach firing id way s t → IsFit s
      → IsFit t × (all_of firing g id adds t ≡ all_of firing g id adds s)
  begins_keep way s t cpus lawful f =
      folds_keep (λ u (b : Begun) w. Known (λ (a : Begun) x y. BeginsOn firing id a.cpu a.found x y) (λ a. a.cpu)
      (λ x. IsLawful firing.view x) (begins_elsewhere firing id) b u w)
      (λ u w. IsFit u → IsFit w × (all_of firing g id adds w ≡ all_of firing g id adds u)) (λ u fit. (fit, refl))
      (λ u w z a b fit. (let (fit1, e1) = a fit in let (fit2, e2) = b fit1 in (fit2, e2 ∙ e1)))
      (λ u b w k. begin_keeps firing g id adds b.cpu b.found u w k.0 k.1) way s t
      (folds_known (λ (a : Begun) x y. BeginsOn firing id a.cpu a.found x y) (λ a. a.cpu) (λ x. IsLawful firing.view x)
      (begins_elsewhere firing id) 0
      (map (λ cpu. list_any (λ own. own == id) (ids_of cpu)) s.cpus.cpus) way s t cpus (λ j x is at. lawful (0 + j) x at) f)

  polls_keep : (way : List Polled) (s t : SystemView R) → map (λ p. p.cpu) way ≡ leaving_cpus id s.cpus → AreLawful firing.view s
      → PollsEach firing id way s t → IsFit s
      → IsFit t × (all_of firing g id adds t ≡ all_of firing g id adds s)
  polls_keep way s t cpus lawful f =
      folds_keep (λ u (p : Polled) w. Known (λ (a : Polled) x y. PollsOn firing id a.cpu a.answer x y) (λ a. a.cpu)
      (λ x. IsLawful firing.view x × (x.removal ≡ Some id)) (polls_elsewhere firing id) p u w)
      (λ u w. IsFit u → IsFit w × (all_of firing g id adds w ≡ all_of firing g id adds u)) (λ u fit. (fit, refl))
      (λ u w z a b fit. (let (fit1, e1) = a fit in let (fit2, e2) = b fit1 in (fit2, e2 ∙ e1)))
      (λ u p w k. poll_keeps firing g id adds p.cpu p.answer u w k.0 k.1) way s t
      (folds_known (λ (a : Polled) x y. PollsOn firing id a.cpu a.answer x y) (λ a. a.cpu) (λ x. IsLawful firing.view x
      × (x.removal ≡ Some id)) (polls_elsewhere firing id) 0
      (map (is_leaving_here id) s.cpus.cpus) way s t cpus
      (λ j x is at. (
        lawful (0 + j) x at,
        is_leaving_open id x (same_some (sym (ap (λ o. option_map (is_leaving_here id) o) (beginning j x at))
            ∙ sym (slice_get-map (is_leaving_here id) s.cpus.cpus j) ∙ is)),
      )) f)
    where
      beginning : (j : ℕ) (x : CpuView R) → IsCpu (0 + j) x s.cpus → slice_get s.cpus.cpus j ≡ Some x
      beginning j x at = subst (λ n. IsCpu n x s.cpus) (let z : 0 + j ≡ j = omega arith in z) at

  -- where no CPU has the cyclic, all of its counts are in its record
  answered_all : (receipt : Receipt) (u t : SystemView R) → IsFit u → (a : AnswersRemoval id receipt u t)
      → all_of firing g id adds u ≡ sum_by g a.own.ended
  answered_all receipt u t fit a =
      let none = sum_none (in_cpu firing g id adds) u.cpus.cpus absent in
      let own = ap (λ o. option_map_or (λ (r : Record). sum_by g r.ended) o 0)
      (record_here id a.position a.own u.records fit.rising a.here a.named) in
      omega (arith, none, own)
    where
      lacks : (n : ℕ) (b : Bool) → has n id u.cpus ≡ b → has n id u.cpus ≡ false
      lacks n false e = e
      lacks n true e = absurd (somewhere id u.cpus n e a.nowhere)

      absent : (n : ℕ) (x : CpuView R) → slice_get u.cpus.cpus n ≡ Some x → in_cpu firing g id adds x ≡ 0
      absent n x at = ap (λ o. option_map_or (of_cyclic firing g id adds) o 0)
          (none_found x.cyclics id (sym (ap (λ ids. among id ids) (ids_there u.cpus n x x at)) ∙ lacks n (has n id u.cpus) refl))

  pub begun_done : (receipt : Receipt) (s t : SystemView R) → IsFit s → AreLawful firing.view s
      → BeginsRemoval firing id (Ok (system.Done receipt)) s t
      → ((r : Record) → receipt.sent ≡ sum_by (λ e. e.sent) r.ended → receipt.lost ≡ sum_by (λ e. e.lost) r.ended
      → g (record { sent = receipt.sent; lost = receipt.lost }) ≡ sum_by g r.ended)
      → g (record { sent = receipt.sent; lost = receipt.lost }) ≡ all_of firing g id adds s
  begun_done receipt s t fit lawful (inl (e, why, is, same)) sums = absurd (let odd : Ok (system.Done receipt) ≡ Err e = is in cc)
  begun_done receipt s t fit lawful (inr (clear, (way, u, cpus, each, a))) sums =
      let (fit1, e1) = begins_keep way s u cpus lawful each fit in
      sums a.own a.counts.sent a.counts.lost ∙ sym (answered_all receipt u t fit1 a) ∙ e1

  pub begun_kept : (kept : ℕ) (s t : SystemView R) → IsFit s → AreLawful firing.view s
      → BeginsRemoval firing id (Ok (system.Kept kept)) s t
      → all_of firing g id adds t ≡ all_of firing g id adds s
  begun_kept kept s t fit lawful (inl (e, why, is, same)) = absurd (let odd : Ok (system.Kept kept) ≡ Err e = is in cc)
  begun_kept kept s t fit lawful (inr (clear, (way, cpus, each, some, sum))) = (begins_keep way s t cpus lawful each fit).1

  pub poll_done : (receipt : Receipt) (s t : SystemView R) → IsFit s → AreLawful firing.view s
      → PollsRemoval firing id (Ok (Some receipt)) s t
      → ((r : Record) → receipt.sent ≡ sum_by (λ e. e.sent) r.ended → receipt.lost ≡ sum_by (λ e. e.lost) r.ended
      → g (record { sent = receipt.sent; lost = receipt.lost }) ≡ sum_by g r.ended)
      → g (record { sent = receipt.sent; lost = receipt.lost }) ≡ all_of firing g id adds s
  poll_done receipt s t fit lawful (inl (e, why, is, same)) sums = absurd (let odd : Ok (Some receipt) ≡ Err e = is in cc)
  poll_done receipt s t fit lawful (inr (clear, (way, u, cpus, each, a))) sums =
      let (fit1, e1) = polls_keep way s u cpus lawful each fit in
      sums a.own a.counts.sent a.counts.lost ∙ sym (answered_all receipt u t fit1 a) ∙ e1

  pub poll_kept : (s t : SystemView R) → IsFit s → AreLawful firing.view s → PollsRemoval firing id (Ok None) s t
      → all_of firing g id adds t ≡ all_of firing g id adds s
  poll_kept s t fit lawful (inl (e, why, is, same)) = absurd (let odd : Ok None ≡ Err e = is in cc)
  poll_kept s t fit lawful (inr (clear, (way, cpus, each, some))) = (polls_keep way s t cpus lawful each fit).1
