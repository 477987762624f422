use Rattle.std.proofs.Common.{arith}
use Rattle.cyc_ring.proofs.Learning.{sound_seat}
use Rattle.std.proofs.Common.{ℕ, ◌%◌, ◌≤◌, List, [], ◌∷◌, refl, sym, subst}
use Rattle.ring_rule.specs.declared.Setting.{Setting}
use Rattle.ring_rule.specs.declared.RaiseStep.{RaiseStep}
use Rattle.ring_rule.specs.declared.RaiseStep.TheVariants.{Loaded}
use Rattle.ring_steps.specs.Sides.{MakesRaiseStep}
use Rattle.cyc_ring.proofs.Calls.{no_raise, one_raise, raise_call}
use Rattle.cyc_types.specs.Firing.{Loads}
use Rattle.ring_rule.specs.Words.{mark_bit}
use Rattle.ring_rule.specs.Trail.{seen_pend}
use Rattle.cyc_ring.proofs.ends.RaiseEndRaise.load_pend.Goals as goal

pub returns-clause-step : goal.returns-clause-step
returns-clause-step c = let e = c.args.self.now in let s = e.seat.side.seat in let k = e.seat.setting in let t : List RaiseStep =
    s.me.0.raise_trail in let found : ℕ = c.load_as-found.result in let s' = c.load_as-found.new.raise_seat.side.seat in
    let named = c.index_of-index.ensures.1 in
    let m : MakesRaiseStep k (Loaded c.args.id found) s s' =
    subst (λ (p : Setting × ℕ). MakesRaiseStep p.0 (Loaded p.1 found) s s')
    (λ z. (sym e.own.1 z, named z)) c.load_as-found.ensures.step in (
      c.load_as-found.ensures.own,
      raise_call k s s' (Loaded c.args.id found ∷ []) (Loads c.args.id (found % mark_bit))
          (one_raise k (Loaded c.args.id found) s [] s s' (no_raise k s e.seat.side.role) m)
          (found, refl, subst (λ (x : ℕ). found % mark_bit ≤ seen_pend x t) named c.load_as-found.ensures.bound, refl),
    )

pub returns-clause-sound : goal.returns-clause-sound
returns-clause-sound c = let r = c.load_as-found.new.raise_seat in
    sound_seat r.setting.ceiling r.stays.value.ids r.stays.value.sent r.stays.value.lost r.side.seat.me.0.raise_trail r.rows
    r.seen (let b = r.bank_is.0 in let m = r.bank_is.1 in omega (arith, b, m)) r.ranges.0
