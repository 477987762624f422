use Rattle.std.proofs.Common.{arith}
use Rattle.cyc_ring.proofs.Learning.{sound_seat}
use Rattle.std.proofs.Common.{ℕ, ◌≤◌, List, [], ◌∷◌, refl, sym, subst}
use Rattle.ring_rule.specs.declared.Setting.{Setting}
use Rattle.ring_rule.specs.declared.RaiseStep.{RaiseStep}
use Rattle.ring_rule.specs.declared.RaiseStep.TheVariants.{Marked}
use Rattle.ring_steps.specs.Sides.{MakesRaiseStep}
use Rattle.cyc_ring.proofs.Calls.{no_raise, one_raise, raise_call}
use Rattle.cyc_types.specs.Firing.{Marks}
use Rattle.ring_rule.specs.Trail.{seen_pend}
use Rattle.cyc_ring.proofs.ends.RaiseEndRaise.mark.Goals as goal

pub returns-clause-step : goal.returns-clause-step
returns-clause-step c = let e = c.args.self.now in let s = e.seat.side.seat in let k = e.seat.setting in let t : List RaiseStep =
    s.me.0.raise_trail in let found : ℕ = c.mark_as.result in let s' = c.mark_as.new.raise_seat.side.seat in let named =
    c.index_of-index.ensures.1 in
    let m : MakesRaiseStep k (Marked c.args.id found) s s' =
    subst (λ (p : Setting × ℕ). MakesRaiseStep p.0 (Marked p.1 found) s s')
    (λ z. (sym e.own.1 z, named z)) c.mark_as.ensures.step in (
      c.mark_as.ensures.own,
      raise_call k s s' (Marked c.args.id found ∷ []) (Marks c.args.id found)
          (one_raise k (Marked c.args.id found) s [] s s' (no_raise k s e.seat.side.role) m)
          (subst (λ (x : ℕ). found ≤ seen_pend x t) named c.mark_as.ensures.bound, refl),
    )

pub returns-clause-sound : goal.returns-clause-sound
returns-clause-sound c = let r = c.mark_as.new.raise_seat in
    sound_seat r.setting.ceiling r.stays.value.ids r.stays.value.sent r.stays.value.lost r.side.seat.me.0.raise_trail r.rows
    r.seen (let b = r.bank_is.0 in let m = r.bank_is.1 in omega (arith, b, m)) r.ranges.0
