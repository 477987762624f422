-- What an add did, in the words of the calls of a system.
use Rattle.std.proofs.Common.{◌≡◌, ◌+◌, ℕ, Some, None, Ok, Err, inr, [], ◌∷◌, ◌++◌, refl, sym, subst, false}
use Rattle.cyc_types.specs.declared.Raise.{Ghosts as Raise}
use Rattle.cyc_types.specs.Series.{first}
use Rattle.cyc_types.specs.declared.level.Level.{Level}
use Rattle.cyc_types.specs.declared.moment.When.{When}
use Rattle.cyc_types.specs.declared.refusal.Refusal.{Refusal}
use Rattle.cyc_types.specs.declared.refusal.Refusal.TheVariants.{Memory}
use Rattle.cyc_types.specs.Reasons.{first_refusal, bad_now}
use Rattle.cyc_cpu.specs.Calls.{Reserve}
use Rattle.cyc_places.specs.declared.record.Placement.TheVariants.{On}
use Rattle.cyc_places.specs.Places.{new_record}
use Rattle.cyc_agreement.specs.Cpus.{CpusView, on, DoesAt, Works}
use Rattle.cyc_agreement.specs.Destination.{destination}
use Rattle.cyc_agreement.specs.System.{SystemView}
use Rattle.cyc_agreement.specs.Adding.{entering}
use Rattle.cyc_agreement.specs.Refusals.{ids_spent}
use Rattle.cyc_agreement.proofs.FirstReason.{passes}
use Rattle.cyc_system.specs.Calls.{Changes, Add}

-- what an add did
module _ {R : Type 0} (firing : Raise R) (s t : SystemView R) (level : Level)
    (when : When) (now d : ℕ) (u : CpusView R)
    (now_is : bad_now now ≡ None) (id_is : ids_spent s ≡ None) (chosen : destination None s.cpus ≡ Some d)
    (reserved : DoesAt firing s.cpus (on d (Reserve 1 (Ok tt))) u) where
  clear : first_refusal (bad_now now ∷ ids_spent s ∷ []) ≡ None
  clear = passes (bad_now now) (ids_spent s ∷ []) None now_is (passes (ids_spent s) [] None id_is refl)

  pub add_done : (id moment : ℕ) → id ≡ s.last + 1 → moment ≡ first when.start when.interval now
      → Works firing (entering d id level when.interval moment) u t.cpus
      → t.records ≡ s.records ++ new_record id level (On d false) ∷ [] → t.last ≡ id
      → Changes firing s (Add level when now (Ok id)) t
  add_done id moment next is works records last =
      inr (
        clear,
        (
          d,
          chosen,
          next,
          (
            u,
            reserved,
            subst (λ m. Works firing (entering d id level when.interval m) u t.cpus) is works,
          ),
          records,
          last,
        ),
      )

  pub add_unrecorded : (e : Refusal) → e ≡ Memory → t.cpus ≡ u → t.records ≡ s.records → t.last ≡ s.last
      → Changes firing s (Add level when now (Err e)) t
  add_unrecorded e is cpus records last = inr (clear, (d, chosen, inr (is, ((u, reserved, sym cpus), records, last))))
