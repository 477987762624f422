-- What runs of calls at the ends add up to.
use Rattle.std.proofs.Common.{◌≡◌, ℕ, ◌+◌, ◌%◌, List, [], ◌∷◌, ◌++◌, refl, ap, sym, ◌∙◌, arith, true, false, cond, ◌==◌, eq-eqb}
use Rattle.std.proofs.Common.{ne_eqb}
use mathlib.Core.Logic.{dite}
use native.Mathlib.Decide.{ℕ_discrete}
use Rattle.std.proofs.lemmas.Bool.Decides.{nat_tests}
use Rattle.std.proofs.lemmas.List.{append_assoc}
use Rattle.std.specs.Prelude.{Option, Some, None}
use Rattle.std.specs.List.{FoldsTo}
use Rattle.cyc_types.specs.Counting.{times, one_at}
use Rattle.cyc_types.specs.Firing.{FiringCall, Admits, Loads, Raises, Marks, Polls, Expands, Looks}
use Rattle.cyc_types.specs.Draining.{DrainCall, Takes, Finishes}
use Rattle.cyc_types.specs.Runs.{Taught, raised_by, lost_by, finished_by, raises_in_call as raise_in, losses_in_call as loss_in}
use Rattle.cyc_types.specs.declared.firing.Raised.TheVariants as answers
use Rattle.cyc_level.specs.Level.{AdmittedCyclic, in_hand}
use Rattle.cyc_level.specs.Runs.{StayCounts}
use Rattle.ring_rule.specs.declared.RaiseStep.{RaiseStep}
use Rattle.ring_rule.specs.declared.DrainStep.{DrainStep}
use Rattle.ring_rule.specs.declared.DrainStep.TheVariants.{LoadedProducer, LoadedHardBank}
use Rattle.ring_rule.specs.declared.Setting.{Setting}
use Rattle.ring_rule.specs.Words.{index_range}
use Rattle.ring_rule.specs.Trail.{
  raises_of,
  losses_on_trail,
  made_calls,
  drainer_hand_of,
  id_in_entry,
  consumer_index,
  soft_bank_of,
}
use Rattle.ring_rule.specs.Trail.{open_stay, ended_calls}
use Rattle.ring_rule.specs.Log.{raise_side, drain_side, level_after_steps}
use Rattle.ring_rule.specs.Shown.{IsSameStay}
use Rattle.cyc_ring.specs.Steps.{RaiseSteps, DrainSteps}
use Rattle.cyc_ring.specs.Ends.{raise_trail, drain_trail, raise_end, DrainEndCall, IsSameRaiseSeat, IsSameDrainSeat}
use Rattle.cyc_ring.specs.Ends.{end_made}
use Rattle.cyc_ring.specs.Laws.{RaiseWaysAddUp, DrainWaysAddUp, IdleIsFound, NoFinishFollowsRemoval, IsQuiet}
use Rattle.cyc_ring.specs.Laws.{QuietCallsRaiseNothing, EndsKeepTheirCeiling}
use Rattle.cyc_ring.specs.declared.ends.RaiseEnd.{RaiseEnd}
use Rattle.cyc_ring.specs.declared.ends.DrainEnd.{DrainEnd}
use Rattle.cyc_types.proofs.Runs.{finished_on}
use Rattle.cyc_ring.proofs.Hands.{made_take}

module _ (k : Setting) (t : List RaiseStep) (id : ℕ) where
  -- the steps of a call have its raise and its loss
  pub call_adds : (call : FiringCall) (steps : List RaiseStep) → RaiseSteps k t call steps
      → (raises_of id (steps ++ t) ≡ raises_of id t + raise_in id call)
      × (losses_on_trail id (steps ++ t) ≡ losses_on_trail id t + loss_in id call)
  call_adds (Admits a i) steps f = (
    ap (λ (l : List RaiseStep). raises_of id (l ++ t)) f
        ∙ omega arith,
    ap (λ (l : List RaiseStep). losses_on_trail id (l ++ t)) f ∙ omega arith,
  )
  call_adds (Loads a i) steps f = (
    ap (λ (l : List RaiseStep). raises_of id (l ++ t)) f.3
        ∙ omega arith,
    ap (λ (l : List RaiseStep). losses_on_trail id (l ++ t)) f.3 ∙ omega arith,
  )
  call_adds (Raises a answers.Lost) steps f = (
    ap (λ (l : List RaiseStep). raises_of id (l ++ t)) f.1
        ∙ omega arith,
    ap (λ (l : List RaiseStep). losses_on_trail id (l ++ t)) f.1 ∙ omega arith,
  )
  call_adds (Raises a answers.More) steps f = (
    ap (λ (l : List RaiseStep). raises_of id (l ++ t)) f.6
        ∙ omega arith,
    ap (λ (l : List RaiseStep). losses_on_trail id (l ++ t)) f.6 ∙ omega arith,
  )
  call_adds (Raises a answers.First) steps f = (
    ap (λ (l : List RaiseStep). raises_of id (l ++ t)) f.5
        ∙ omega arith,
    ap (λ (l : List RaiseStep). losses_on_trail id (l ++ t)) f.5 ∙ omega arith,
  )
  call_adds (Marks a i) steps f = (
    ap (λ (l : List RaiseStep). raises_of id (l ++ t)) f.1
        ∙ omega arith,
    ap (λ (l : List RaiseStep). losses_on_trail id (l ++ t)) f.1 ∙ omega arith,
  )
  call_adds (Polls a None) steps f = (
    ap (λ (l : List RaiseStep). raises_of id (l ++ t)) f.3
        ∙ omega arith,
    ap (λ (l : List RaiseStep). losses_on_trail id (l ++ t)) f.3 ∙ omega arith,
  )
  call_adds (Polls a (Some counts)) steps f = (
    ap (λ (l : List RaiseStep). raises_of id (l ++ t)) f.4
        ∙ omega arith,
    ap (λ (l : List RaiseStep). losses_on_trail id (l ++ t)) f.4 ∙ omega arith,
  )
  call_adds (Expands a) steps f = (
    ap (λ (l : List RaiseStep). raises_of id (l ++ t)) f
        ∙ omega arith,
    ap (λ (l : List RaiseStep). losses_on_trail id (l ++ t)) f ∙ omega arith,
  )
  call_adds (Looks a) steps f = (
    ap (λ (l : List RaiseStep). raises_of id (l ++ t)) f.2
        ∙ omega arith,
    ap (λ (l : List RaiseStep). losses_on_trail id (l ++ t)) f.2 ∙ omega arith,
  )

raise_run : (way : List FiringCall) (e f : RaiseEnd) → FoldsTo (Taught raise_end) e way f
    → IsSameRaiseSeat e.seat f.seat × ((id : ℕ)
    → raises_of id (raise_trail f.seat) ≡ raises_of id (raise_trail e.seat) + raised_by id way)
    × ((id : ℕ) → losses_on_trail id (raise_trail f.seat) ≡ losses_on_trail id (raise_trail e.seat) + lost_by id way)
raise_run [] e f h = (
  (ap (λ (x : RaiseEnd). x.seat.side.seat.table_id) (sym h), ap (λ (x : RaiseEnd). x.seat.setting) (sym h)),
  (λ id. ap (λ (x : RaiseEnd). raises_of id (raise_trail x.seat)) (sym h) ∙ omega arith),
  (λ id. ap (λ (x : RaiseEnd). losses_on_trail id (raise_trail x.seat)) (sym h) ∙ omega arith),
)
raise_run (call ∷ way) e f (m, first, rest) = let b = raise_run way m f rest in let c = first.0.1 in (
  (b.0.0 ∙ first.0.0.0, b.0.1 ∙ first.0.0.1),
  (λ id. let x : raises_of id (raise_trail m.seat) ≡ raises_of id (raise_trail e.seat) + raise_in id call =
      ap (raises_of id) c.gained ∙ (call_adds e.seat.setting (raise_trail e.seat) id call c.steps c.made).0 in let y = b.1 id in
      omega (arith, x, y)),
  (λ id. let x : losses_on_trail id (raise_trail m.seat) ≡ losses_on_trail id (raise_trail e.seat) + loss_in id call =
      ap (losses_on_trail id) c.gained ∙ (call_adds e.seat.setting (raise_trail e.seat) id call c.steps c.made).1 in let y =
      b.2 id in
      omega (arith, x, y)),
)

pub raise_ways : RaiseWaysAddUp
raise_ways e f way goes = raise_run way e f goes

one_times : (q id : ℕ) → one_at q id ≡ times q (id ∷ [])
one_times q id = dite (ℕ_discrete q id)
    (λ e. let a : (id == q) ≡ true = grind (arith, nat_tests) in ap (λ b. cond {A = ℕ} b 1 0) (eq-eqb q id e)
    ∙ sym (ap (λ b. 0 + cond {A = ℕ} b 1 0) a))
    (λ ne. let a : (id == q) ≡ false = grind (arith, nat_tests) in ap (λ b. cond {A = ℕ} b 1 0) (ne_eqb q id ne)
    ∙ sym (ap (λ b. 0 + cond {A = ℕ} b 1 0) a))

one_made : (id j m : ℕ) → in_hand id (Some j) + m ≡ m + times id (j ∷ [])
one_made id j m = let e = one_times id j in omega (arith, e)

-- the steps of a call have its finish
call_makes : (start : ℕ) (t : List DrainStep) (id : ℕ) (call : DrainCall) (steps : List DrainStep) → DrainSteps start t call steps
    → made_calls id (steps ++ t) ≡ made_calls id t + finished_by id (call ∷ [])
call_makes start t id (Takes answer) steps f = made_take start t steps answer f id ∙ omega arith
call_makes start t id (Finishes j answer) steps f = let hand : drainer_hand_of t ≡ Some j = ap id_in_entry f.2
    ∙ ap Some (sym f.3) in
    ap (λ (l : List DrainStep). made_calls id (l ++ t)) f.5
    ∙ (ap (λ (o : Option ℕ). in_hand id o + made_calls id t) hand ∙ one_made id j (made_calls id t))

drain_run : (way : List DrainCall) (e f : DrainEnd) → FoldsTo DrainEndCall e way f → IsSameDrainSeat e.seat f.seat
    × ((id : ℕ) → end_made f id ≡ end_made e id + finished_by id way)
drain_run [] e f h = (
  (ap (λ (x : DrainEnd). x.seat.side.seat.table_id) (sym h), ap (λ (x : DrainEnd). x.seat.setting) (sym h)),
  (λ id. ap (λ (x : DrainEnd). end_made x id) (sym h) ∙ omega arith),
)
drain_run (call ∷ way) e f (m, first, rest) = let b = drain_run way m f rest in let c = first.1 in (
  (b.0.0 ∙ first.0.0, b.0.1 ∙ first.0.1),
  (λ id. let x : end_made m id ≡ end_made e id + finished_by id (call ∷ []) = ap (made_calls id) c.gained
      ∙ call_makes e.seat.setting.start (drain_trail e.seat) id call c.steps c.made in
      let y = b.1 id in let z = finished_on id (call ∷ []) way in omega (arith, x, y, z)),
)

pub drain_ways : DrainWaysAddUp
drain_ways e f way goes = drain_run way e f goes

-- a run only adds to the trail
gains : (way : List DrainCall) (e f : DrainEnd) → FoldsTo DrainEndCall e way f → (xs : List DrainStep)
    × (drain_trail f.seat ≡ xs ++ drain_trail e.seat)
gains [] e f h = ([], ap (λ (x : DrainEnd). drain_trail x.seat) (sym h))
gains (call ∷ way) e f (m, first, rest) = let b = gains way m f rest in let c = first.1 in
    (b.0 ++ c.steps, b.1 ∙ (ap (λ (l : List DrainStep). b.0 ++ l) c.gained ∙ sym (append_assoc b.0 c.steps (drain_trail e.seat))))

pub idle : IdleIsFound
idle e m f way goes last = let a = gains way e m goes in let c = last.1 in let d = c.made in let t : List DrainStep =
    drain_trail e.seat in let before : List DrainStep = d.0 ++ a.0 in
    let same : d.0 ++ drain_trail m.seat ≡ before ++ t = ap (λ (l : List DrainStep). d.0 ++ l) a.1
    ∙ sym (append_assoc d.0 a.0 t) in
    let own = (drain_run way e m goes).0 in let n = d.2 in (
      before,
      LoadedProducer n.1 ∷ LoadedHardBank n.0 ∷ before,
      (n.0, n.1, n.2 ∙ ap soft_bank_of same, n.3 ∙ (λ z. consumer_index ((own.1 z).start) (same z) % index_range), refl),
      c.gained ∙ (ap (λ (l : List DrainStep). l ++ drain_trail m.seat) n.4
          ∙ ap (λ (l : List DrainStep). LoadedProducer n.1 ∷ LoadedHardBank n.0 ∷ l) same),
    )

over : (made ended : ℕ) (o : Option StayCounts) (p : Option AdmittedCyclic) → o ≡ None → IsSameStay made ended o p → made ≡ ended
over made ended None None e h = h
over made ended None (Some c) e h = absurd h
over made ended (Some s) p e h = absurd (cc)

pub nothing_follows : NoFinishFollowsRemoval
nothing_follows k log id L none = over (made_calls id (drain_side log)) (ended_calls id (raise_side log))
    (open_stay id (raise_side log)) ((level_after_steps k.ceiling log).cyclics id) none (L.shows.stays id)

-- a call that is no raise
quiet_call : (id : ℕ) (call : FiringCall) → IsQuiet call → (raise_in id call ≡ 0) × (loss_in id call ≡ 0)
quiet_call id (Admits a i) q = (refl, refl)
quiet_call id (Loads a n) q = (refl, refl)
quiet_call id (Raises a answer) q = absurd q
quiet_call id (Marks a n) q = (refl, refl)
quiet_call id (Polls a None) q = (refl, refl)
quiet_call id (Polls a (Some counts)) q = (refl, refl)
quiet_call id (Expands bank) q = (refl, refl)
quiet_call id (Looks answer) q = (refl, refl)

pub quiet : QuietCallsRaiseNothing
quiet id [] q = (refl, refl)
quiet id (call ∷ way) q = let a = quiet_call id call q.0 in let b = quiet id way q.1 in let x = a.0 in let y = a.1 in let u =
    b.0 in let v = b.1 in (omega (arith, x, u), omega (arith, y, v))

pub same_ceiling : EndsKeepTheirCeiling
same_ceiling e f way goes = ap (λ (k : Setting). k.ceiling) (raise_run way e f goes).0.1
