use Rattle.std.proofs.Common.{arith}
use Rattle.cyc_ring.proofs.Learning.{sound_seat}
use Rattle.std.proofs.Common.{ℕ, List, [], ◌∷◌, refl, sym, ap, ◌∙◌, subst}
use Rattle.ring_rule.specs.declared.Setting.{Setting}
use Rattle.ring_rule.specs.declared.RaiseStep.{RaiseStep}
use Rattle.ring_rule.specs.declared.RaiseStep.TheVariants.{LoadedSoftBank}
use Rattle.ring_steps.specs.Sides.{MakesRaiseStep}
use Rattle.cyc_ring.proofs.Calls.{no_raise, one_raise, raise_call}
use Rattle.std.specs.Prelude.{◌==◌}
use Rattle.cyc_types.specs.Firing.{Looks}
use Rattle.cyc_ring.proofs.ends.RaiseEndRaise.followed.Goals as goal

pub returns-clause-step : goal.returns-clause-step
returns-clause-step c = let e = c.args.self.now in let s = e.seat.side.seat in let k = e.seat.setting in let t : List RaiseStep =
    s.me.0.raise_trail in let found : ℕ = c.look_as.result in let s' = c.look_as.new.raise_seat.side.seat in
    let m : MakesRaiseStep k (LoadedSoftBank found) s s' =
    subst (λ (x : Setting). MakesRaiseStep x (LoadedSoftBank found) s s') (sym e.own.1) c.look_as.ensures.step in (
      c.look_as.ensures.own,
      raise_call k s s' (LoadedSoftBank found ∷ []) (Looks _)
          (one_raise k (LoadedSoftBank found) s [] s s' (no_raise k s e.seat.side.role) m)
          (found, ap (λ (b : ℕ). found == b) (c.look_as.ensures.bank ∙ e.seat.bank_is.0), refl),
    )

pub returns-clause-sound : goal.returns-clause-sound
returns-clause-sound c = let r = c.look_as.new.raise_seat in
    sound_seat r.setting.ceiling r.stays.value.ids r.stays.value.sent r.stays.value.lost r.side.seat.me.0.raise_trail r.rows
    r.seen (let b = r.bank_is.0 in let m = r.bank_is.1 in omega (arith, b, m)) r.ranges.0
