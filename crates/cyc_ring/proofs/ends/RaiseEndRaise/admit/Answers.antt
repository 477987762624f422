use Rattle.std.proofs.Common.{[], ◌∷◌, sym, subst}
use Rattle.ring_rule.specs.declared.Setting.{Setting}
use Rattle.ring_rule.specs.declared.RaiseStep.TheVariants.{Admitted}
use Rattle.cyc_types.specs.Firing.{Admits}
use Rattle.ring_steps.specs.Sides.{MakesRaiseStep}
use Rattle.cyc_ring.proofs.Calls.{no_raise, one_raise, raise_call}
use Rattle.cyc_ring.proofs.Learning.{sound_seat}
use Rattle.std.proofs.Common.{◌≡◌, ℕ, ◌^◌, ◌<◌, ◌≤◌, refl, ap, arith}
use Rattle.std.proofs.Common.{pow_mono}
use Rattle.cyc_types.specs.Limits.{greatest_bank, cyclics}
use Rattle.ring_rule.specs.Trail.{hard_bank_of}
use Rattle.cyc_ring.proofs.Learning.{free_index}
use Rattle.cyc_ring.proofs.ends.RaiseEndRaise.admit.Goals as goal

pub admit_as-requires-clause-index : goal.admit_as-requires-clause-index
admit_as-requires-clause-index c = let r = c.args.self.now.seat in let b = r.bank_is in let room = c.requires.2 in
    let size : 2 ^ r.bank ≡ 2 ^ hard_bank_of r.side.seat.me.0.raise_trail = ap (λ (x : ℕ). 2 ^ x) b.0 in
    let m : 2 ^ r.bank ≤ 2 ^ greatest_bank = pow_mono {i = r.bank} {j = greatest_bank} b.1 in
    let q : 2 ^ greatest_bank ≡ cyclics = refl in let low : c.args.index < cyclics = omega (arith, m, q, room, size) in (
      omega (arith, room, size),
      free_index r.setting.ceiling r.stays.value.ids r.stays.value.sent r.stays.value.lost
          r.side.seat.me.0.raise_trail r.rows c.args.index low c.requires.1,
    )

pub returns-clause-sound : goal.returns-clause-sound
returns-clause-sound c = let r = c.admit_as.new.raise_seat in
    sound_seat r.setting.ceiling r.stays.value.ids r.stays.value.sent r.stays.value.lost r.side.seat.me.0.raise_trail r.rows
    r.seen (let b = r.bank_is.0 in let m = r.bank_is.1 in omega (arith, b, m)) r.ranges.0

pub returns-clause-step : goal.returns-clause-step
returns-clause-step c = let e = c.args.self.now in let s = e.seat.side.seat in let k = e.seat.setting in let s' =
    c.admit_as.new.raise_seat.side.seat in
    let m : MakesRaiseStep k (Admitted c.args.id c.args.index) s s' =
    subst (λ (x : Setting). MakesRaiseStep x (Admitted c.args.id c.args.index) s s') (sym e.own.1) c.admit_as.ensures.step in (
      c.admit_as.ensures.own,
      raise_call k s s' ((Admitted c.args.id c.args.index) ∷ []) (Admits c.args.id c.args.index)
          (one_raise k (Admitted c.args.id c.args.index) s [] s s' (no_raise k s e.seat.side.role) m) refl,
    )
