-- The counts that a component leaves are no more than a cyclic of its CPU can have.
use Rattle.std.proofs.Common.{◌≡◌, ℕ, ◌-◌, ◌≤◌, ◌⊎◌, inl, inr, Some, Ok, List, length, get_or, slice_set, option_map, refl, sym}
use Rattle.std.proofs.Common.{ap, ◌∙◌, arith}
use Rattle.std.specs.List.{slice_get}
use Rattle.std.proofs.lemmas.Option.{slice_get_within}
use Rattle.std.proofs.lemmas.List.{length-set, get_or-set_same, get_or-set_other, get_or_past}
use mathlib.Core.Logic.{dite}
use native.Mathlib.Decide.{ℕ_discrete}
use Rattle.cyc_types.specs.declared.Raise.{Ghosts as Raise}
use Rattle.cyc_types.specs.declared.firing.Sent.{Sent}
use Rattle.cyc_types.specs.Counting.{no_counts}
use Rattle.cyc_cpu.specs.Cpu.{CpuView}
use Rattle.cyc_cpu.specs.declared.moving.Taken.{Taken}
use Rattle.cyc_cpu.specs.Calls.{TakeNow}
use Rattle.cyc_places.specs.declared.record.Record.{Record}
use Rattle.cyc_places.specs.Places.{RecordsView, IsRecord, ended_on, summed, with_ended}
use Rattle.cyc_agreement.specs.Cpus.{CpusView, on, DoesAt}
use Rattle.cyc_agreement.proofs.CpuSpots.{get_set_same, get_set_other}
use Rattle.cyc_agreement.specs.Agreement.{most_on}
use Rattle.cyc_agreement.specs.Holding.{EndedWithin}
use Rattle.cyc_agreement.proofs.Holding.{within_kept}
use Rattle.cyc_agreement.proofs.Spots.{same_some}
use Rattle.cyc_agreement.proofs.Who
use Rattle.cyc_system.specs.Juggling.{system_of}

set_either : {A : Type 0} (xs : List A) (i : ℕ) (x d : A) → (get_or (slice_set xs i x) i d ≡ x)
    ⊎ (get_or (slice_set xs i x) i d ≡ d)
set_either xs i x d = dite (ℕ_discrete (length xs - i) 0)
    (λ z. (let l = length-set xs i x in inr (get_or_past (slice_set xs i x) i d (omega (arith, z, l)))))
    (λ p. inl (get_or-set_same xs i x d (omega (arith, p))))

module _ {R : Type 0} (firing : Raise R) (source id last : ℕ) (taken : Taken)
    (v w : CpusView R) (rs qs : RecordsView)
    (takes : DoesAt firing v (on source (TakeNow id (Ok taken))) w) (few : taken.sent.sent ≤ takes.before.most) where
  kept : (n : ℕ) → most_on n w ≡ most_on n v
  kept n = let (c, counts, is, polled, l) = takes.change.1 in
      ap (λ u. most_on n u) takes.rest ∙ Who.kept_at v source takes.before takes.after takes.here
      (λ o. option_map (λ (cpu : CpuView R). cpu.most) o) (ap Some l.most) n

  pub within_taken : (k : ℕ) (r : Record) → IsRecord rs.list k r → ended_on source r ≡ no_counts
      → qs.list ≡ slice_set rs.list k (with_ended source (summed (ended_on source r) taken.sent) r)
      → EndedWithin (system_of v rs last) → EndedWithin (system_of w qs last)
  within_taken k r is fresh list h = within_kept (system_of v rs last) (system_of w qs last) kept
      (λ j n m q at most. dite (ℕ_discrete j k)
      (λ e. changed_at n m q (same_some (sym at ∙ ap (λ l. slice_get l j) list
      ∙ ap (λ i. slice_get (slice_set rs.list k (with_ended source counts r)) i) e
      ∙ get_set_same rs.list k (with_ended source counts r) (slice_get_within rs.list k r is))) most)
      (λ ne. inl (
        j,
        q,
        sym (get_set_other rs.list k j (with_ended source counts r) ne) ∙ ap (λ l. slice_get l j) (sym list)
            ∙ at,
        refl,
      ))) h
    where
      counts : Sent
      counts = summed (ended_on source r) taken.sent

      its_most : (n m : ℕ) → n ≡ source → most_on n v ≡ Some m → takes.before.most ≡ m
      its_most n m same most = same_some (sym (ap (λ o. option_map (λ (cpu : CpuView R). cpu.most) o) takes.here)
          ∙ ap (λ j. most_on j v) (sym same) ∙ most)

      changed_at : (n m : ℕ) (q : Record) → q ≡ with_ended source (summed (ended_on source r) taken.sent) r → most_on n v ≡ Some m
          → ((j : ℕ) × (p : Record) × IsRecord rs.list j p × (ended_on n q ≡ ended_on n p)) ⊎ ((ended_on n q).sent ≤ m)
      changed_at n m q e most = dite (ℕ_discrete n source)
          (λ same. (let o = its_most n m same most in
          inr (elim (set_either r.ended source (summed (ended_on source r) taken.sent) no_counts) [
            | inl now ↦ (let a = ap (λ (x : Record). (ended_on n x).sent) e in let b =
                ap (λ j. (ended_on j (with_ended source (summed (ended_on source r) taken.sent) r)).sent) same in
                let d = ap (λ (x : Sent). x.sent) now in let z = ap (λ (x : Sent). x.sent) fresh in
                omega (arith, a, b, d, z, few, o))
            | inr none ↦ (let a = ap (λ (x : Record). (ended_on n x).sent) e in let b =
                ap (λ j. (ended_on j (with_ended source (summed (ended_on source r) taken.sent) r)).sent) same in
                let d = ap (λ (x : Sent). x.sent) none in omega (arith, a, b, d))
          ])))
          (λ ne. inl (
            k,
            r,
            is,
            ap (λ (x : Record). ended_on n x) e
                ∙ get_or-set_other r.ended source n (summed (ended_on source r) taken.sent) no_counts ne,
          ))
