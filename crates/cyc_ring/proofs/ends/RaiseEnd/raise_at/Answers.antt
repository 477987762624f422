use Rattle.std.proofs.Common.{List, sym, subst, arith}
use Rattle.ring_rule.specs.declared.Setting.{Setting}
use Rattle.ring_rule.specs.declared.RaiseStep.{RaiseStep}
use Rattle.cyc_types.specs.Firing.{Raises, Learns}
use Rattle.cyc_ring.specs.Steps.{MakesRaiseCall}
use Rattle.cyc_ring.specs.Views.{trail_view}
use Rattle.cyc_ring.proofs.Learning.{the_stay, learns_raises, sound_seat}
use Rattle.cyc_ring.proofs.ends.RaiseEnd.raise_at.Goals as goal

pub returns-clause-learns : goal.returns-clause-learns
returns-clause-learns c = let e = c.args.self.now in let s = e.seat.side.seat in let k = e.seat.setting in
    let t : List RaiseStep = s.me.0.raise_trail in let r = e.seat in let t' : List RaiseStep =
    c.raise_as.new.raise_seat.side.seat.me.0.raise_trail in let w =
    the_stay k.ceiling r.stays.value.ids r.stays.value.sent r.stays.value.lost t r.rows c.args.id _ c.requires.may.0 in
    let call = subst (λ (x : Setting). MakesRaiseCall x s.me.0
    (Raises c.args.id c.raise_as.result) c.raise_as.new.raise_seat.side.seat.me.0) (sym e.own.1) c.raise_as.ensures.call in
    subst (λ (x : Setting). Learns (trail_view k.ceiling t) (Raises c.args.id c.raise_as.result) (trail_view x.ceiling t'))
    (sym c.raise_as.ensures.own.1)
    (learns_raises k t t' call.steps call.gained c.args.id w.0 w.1 r.seen r.free_hand c.raise_as.result call.made)

pub returns-clause-sound : goal.returns-clause-sound
returns-clause-sound c = let r = c.raise_as.new.raise_seat in
    sound_seat r.setting.ceiling r.stays.value.ids r.stays.value.sent r.stays.value.lost r.side.seat.me.0.raise_trail r.rows
    r.seen (let b = r.bank_is.0 in let m = r.bank_is.1 in omega (arith, b, m)) r.ranges.0
