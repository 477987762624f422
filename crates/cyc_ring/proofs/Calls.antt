-- From the steps of a seat to the call that they make.
use Rattle.std.proofs.Common.{◌≡◌, ℕ, List, [], ◌∷◌, ◌++◌, refl, ap, ◌∙◌, subst}
use Rattle.cyc_types.specs.Firing.{FiringCall}
use Rattle.cyc_types.specs.Draining.{DrainCall}
use Rattle.ring_rule.specs.declared.Role.{Role}
use Rattle.ring_rule.specs.declared.Role.TheVariants.{Raise, Drain}
use Rattle.ring_rule.specs.declared.RaiseStep.{RaiseStep}
use Rattle.ring_rule.specs.declared.DrainStep.{DrainStep}
use Rattle.ring_rule.specs.declared.SeatView.{SeatView}
use Rattle.ring_rule.specs.declared.Setting.{Setting}
use Rattle.ring_rule.specs.Rule.{HasItsTrail}
use Rattle.ring_rule.specs.Steps.{ThisSeat}
use Rattle.ring_rule.specs.Conservation.{EndsWithIts, StandsFor}
use Rattle.cyc_ring.specs.Steps.{RaiseStands, DrainStands, RaiseStood, DrainStood, RaiseSteps, DrainSteps, MakesRaiseCall}
use Rattle.cyc_ring.specs.Steps.{MakesDrainCall}
use Rattle.ring_steps.specs.Sides.{TableSeat, MakesRaiseStep, MakesDrainStep}

pub raise_stands : (k : Setting) (v : SeatView) → v.role ≡ Raise → StandsFor k v → RaiseStands k v.raise_trail v.raise_positions
raise_stands k v role s = let own = subst (λ (r : Role). HasItsTrail s.0 v r) role s.1 in let ends =
    subst (λ (r : Role). EndsWithIts s.0 v r) role s.2 in (s.0, own.0, own.1, ends, s.3)

pub drain_stands : (k : Setting) (v : SeatView) → v.role ≡ Drain → StandsFor k v → DrainStands k v.drain_trail v.drain_positions
drain_stands k v role s = let own = subst (λ (r : Role). HasItsTrail s.0 v r) role s.1 in let ends =
    subst (λ (r : Role). EndsWithIts s.0 v r) role s.2 in (s.0, own.0, own.1, ends, s.3)

-- a step of a raise seat: it stays one, its trail gains the step at some position, and such a level stands there
module _ (k : Setting) (x : RaiseStep) (s s' : TableSeat) (role : s.me.0.role ≡ Raise) (m : MakesRaiseStep k x s s') where
  abbrev pub raise_at : ℕ
  raise_at = m.1.0

  pub still_raise : s'.me.0.role ≡ Raise
  still_raise = ap (λ (m : ThisSeat). m.0.role) m.1.1 ∙ role

  pub raise_gained : s'.me.0.raise_trail ≡ x ∷ s.me.0.raise_trail
  raise_gained = ap (λ (m : ThisSeat). m.0.raise_trail) m.1.1

  pub raise_placed : s'.me.0.raise_positions ≡ raise_at ∷ s.me.0.raise_positions
  raise_placed = ap (λ (m : ThisSeat). m.0.raise_positions) m.1.1

  pub raise_stood : RaiseStands k (x ∷ s.me.0.raise_trail) (raise_at ∷ s.me.0.raise_positions)
  raise_stood = subst (λ (p : List RaiseStep × List ℕ). RaiseStands k p.0 p.1) (λ z. (raise_gained z, raise_placed z))
      (raise_stands k s'.me.0 still_raise m.2)

module _ (k : Setting) (x : DrainStep) (s s' : TableSeat) (role : s.me.0.role ≡ Drain) (m : MakesDrainStep k x s s') where
  abbrev pub drain_at : ℕ
  drain_at = m.1.0

  pub still_drain : s'.me.0.role ≡ Drain
  still_drain = ap (λ (m : ThisSeat). m.0.role) m.1.1 ∙ role

  pub drain_gained : s'.me.0.drain_trail ≡ x ∷ s.me.0.drain_trail
  drain_gained = ap (λ (m : ThisSeat). m.0.drain_trail) m.1.1

  pub drain_placed : s'.me.0.drain_positions ≡ drain_at ∷ s.me.0.drain_positions
  drain_placed = ap (λ (m : ThisSeat). m.0.drain_positions) m.1.1

  pub drain_stood : DrainStands k (x ∷ s.me.0.drain_trail) (drain_at ∷ s.me.0.drain_positions)
  drain_stood = subst (λ (p : List DrainStep × List ℕ). DrainStands k p.0 p.1) (λ z. (drain_gained z, drain_placed z))
      (drain_stands k s'.me.0 still_drain m.2)

-- some steps of a raise seat, with the levels that stood
pub record RaiseRun (k : Setting) (s : TableSeat) (steps : List RaiseStep) (s' : TableSeat) : Type 0 where
  pub role : s'.me.0.role ≡ Raise
  pub positions : List ℕ
  pub gained : s'.me.0.raise_trail ≡ steps ++ s.me.0.raise_trail
  pub placed : s'.me.0.raise_positions ≡ positions ++ s.me.0.raise_positions
  pub stood : RaiseStood k steps positions s.me.0.raise_trail s.me.0.raise_positions

pub no_raise : (k : Setting) (s : TableSeat) → s.me.0.role ≡ Raise → RaiseRun k s [] s
no_raise k s role = record { role = role; positions = []; gained = refl; placed = refl; stood = tt }

pub one_raise : (k : Setting) (x : RaiseStep) (s : TableSeat) (steps : List RaiseStep) (a b : TableSeat) → RaiseRun k s steps a
    → MakesRaiseStep k x a b → RaiseRun k s (x ∷ steps) b
one_raise k x s steps a b run m = let p : ℕ = raise_at k x a b run.role m in record {
  role = still_raise k x a b run.role m;
  positions = p ∷ run.positions;
  gained = raise_gained k x a b run.role m ∙ ap (λ (t : List RaiseStep). x ∷ t) run.gained;
  placed = raise_placed k x a b run.role m ∙ ap (λ (t : List ℕ). p ∷ t) run.placed;
  stood = (
    subst (λ (q : List RaiseStep × List ℕ). RaiseStands k (x ∷ q.0) (p ∷ q.1)) (λ z. (run.gained z, run.placed z))
        (raise_stood k x a b run.role m),
    run.stood,
  );
}

pub raise_call : (k : Setting) (s s' : TableSeat) (steps : List RaiseStep) (call : FiringCall) → RaiseRun k s steps s'
    → RaiseSteps k s.me.0.raise_trail call steps → MakesRaiseCall k s.me.0 call s'.me.0
raise_call k s s' steps call run made = record {
  steps = steps;
  positions = run.positions;
  gained = run.gained;
  placed =
      run.placed;
  made = made;
  stood = run.stood;
}

pub record DrainRun (k : Setting) (v : SeatView) (steps : List DrainStep) (s' : TableSeat) : Type 0 where
  pub role : s'.me.0.role ≡ Drain
  pub positions : List ℕ
  pub gained : s'.me.0.drain_trail ≡ steps ++ v.drain_trail
  pub placed : s'.me.0.drain_positions ≡ positions ++ v.drain_positions
  pub stood : DrainStood k steps positions v.drain_trail v.drain_positions

pub no_drain : (k : Setting) (s : TableSeat) → s.me.0.role ≡ Drain → DrainRun k s.me.0 [] s
no_drain k s role = record { role = role; positions = []; gained = refl; placed = refl; stood = tt }

pub one_drain : (k : Setting) (x : DrainStep) (v : SeatView) (steps : List DrainStep) (a b : TableSeat) → DrainRun k v steps a
    → MakesDrainStep k x a b → DrainRun k v (x ∷ steps) b
one_drain k x v steps a b run m = let p : ℕ = drain_at k x a b run.role m in record {
  role = still_drain k x a b run.role m;
  positions = p ∷ run.positions;
  gained = drain_gained k x a b run.role m ∙ ap (λ (t : List DrainStep). x ∷ t) run.gained;
  placed = drain_placed k x a b run.role m ∙ ap (λ (t : List ℕ). p ∷ t) run.placed;
  stood = (
    subst (λ (q : List DrainStep × List ℕ). DrainStands k (x ∷ q.0) (p ∷ q.1)) (λ z. (run.gained z, run.placed z))
        (drain_stood k x a b run.role m),
    run.stood,
  );
}

pub drain_call : (k : Setting) (v : SeatView) (s' : TableSeat) (steps : List DrainStep) (call : DrainCall) → DrainRun k v steps s'
    → DrainSteps k.start v.drain_trail call steps → MakesDrainCall k v call s'.me.0
drain_call k v s' steps call run made = record {
  steps = steps;
  positions = run.positions;
  gained = run.gained;
  placed =
      run.placed;
  made = made;
  stood = run.stood;
}
