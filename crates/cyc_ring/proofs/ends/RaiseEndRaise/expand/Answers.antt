use Rattle.std.proofs.Common.{[], ◌∷◌, refl, sym, subst}
use Rattle.ring_rule.specs.declared.Setting.{Setting}
use Rattle.ring_rule.specs.declared.RaiseStep.TheVariants.{Switched}
use Rattle.cyc_types.specs.Firing.{Expands}
use Rattle.ring_steps.specs.Sides.{MakesRaiseStep}
use Rattle.cyc_ring.proofs.Calls.{no_raise, one_raise, raise_call}
use Rattle.std.proofs.Common.{arith}
use Rattle.cyc_ring.proofs.Learning.{sound_seat}
use Rattle.cyc_ring.proofs.ends.RaiseEndRaise.expand.Goals as goal

pub returns-clause-sound : goal.returns-clause-sound
returns-clause-sound c = let r = c.switch_as.new.raise_seat in
    sound_seat r.setting.ceiling r.stays.value.ids r.stays.value.sent r.stays.value.lost r.side.seat.me.0.raise_trail r.rows
    r.seen (let b = r.bank_is.0 in let m = r.bank_is.1 in omega (arith, b, m)) r.ranges.0

pub returns-clause-step : goal.returns-clause-step
returns-clause-step c = let e = c.args.self.now in let s = e.seat.side.seat in let k = e.seat.setting in let s' =
    c.switch_as.new.raise_seat.side.seat in
    let m : MakesRaiseStep k (Switched c.args.bank) s s' =
    subst (λ (x : Setting). MakesRaiseStep x (Switched c.args.bank) s s') (sym e.own.1) c.switch_as.ensures.step in (
      c.switch_as.ensures.own,
      raise_call k s s' ((Switched c.args.bank) ∷ []) (Expands c.args.bank)
          (one_raise k (Switched c.args.bank) s [] s s' (no_raise k s e.seat.side.role) m) refl,
    )
