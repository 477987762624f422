use Rattle.std.proofs.Common.{sym, subst, List}
use Rattle.ring_rule.specs.declared.RaiseStep.{RaiseStep}
use Rattle.cyc_ring.specs.Views.{trail_view}
use Rattle.cyc_ring_sides.specs.Knowing.{Knows}
use Rattle.cyc_ring_sides.proofs.Knowing.{knows_begin}
use Rattle.cyc_ring_sides.proofs.firing_side.KnownSeat.new.Goals as goal

pub invariant_of-result : goal.invariant_of-result
invariant_of-result c = let k = c.new.result in let is = c.new.ensures in
    record {
      knows = subst (λ (t : List RaiseStep). Knows k.ids k.raises k.marked k.bank k.followed
          (trail_view c.args.seat.setting.ceiling t))
          (sym c.requires)
          (knows_begin c.args.seat.setting.ceiling k.ids k.raises k.marked k.bank k.followed is.begins.0 is.begins.1 is.begins.2
          is.begins.3 is.free);
    }
