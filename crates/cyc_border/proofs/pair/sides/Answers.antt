use Rattle.std.proofs.Common.{refl, sym, ap, subst, ◌∙◌}
use Rattle.ring_rule.specs.declared.Setting.{Setting}
use Rattle.cyc_ring.specs.Ends.{IsRaiseSeatOf, IsDrainSeatOf}
use Rattle.cyc_ring.specs.declared.ring.Ring.{Ring}
use Rattle.cyc_border.proofs.pair.sides.Goals as goal

pub returns-clause-ok : goal.returns-clause-ok
returns-clause-ok c =
    let o = c.in_ok-ring.ensures in let held = c.in_ok-ring-2.ensures.ok in let shared = c.in_ok-shared.ensures in (
      sym shared,
      ap (λ (r : Ring). r.setting.ceiling) held ∙ ap (λ (s : Setting). s.ceiling) o.setting,
      c.in_ok-ring.raise_seat,
      c.in_ok-ring.drain_seat,
      refl,
      refl,
      subst (λ (r : Ring). IsRaiseSeatOf r c.in_ok-ring.raise_seat) (sym held) o.seats.0,
      subst (λ (r : Ring). IsDrainSeatOf r c.in_ok-ring.drain_seat) (sym (shared ∙ held)) o.seats.1,
      o.empty.0,
      o.empty.1,
    )
