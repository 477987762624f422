use Rattle.std.proofs.Common.{◌≡◌, subst}
use Rattle.cyc_system_laws.specs.Moved.{Moved, outstanding}
use Rattle.cyc_system_laws.proofs.Moves.{moves_calmly}
use Rattle.cyc_system_laws.proofs.shifting.shift_core_law.Goals as goal

pub returns : goal.returns
returns c id source target v w apart (taken, (v1, d1, (v2, d2, (v3, d3, (v4, d4, (v5, d5, last)))))) =
    subst (λ u. (m : Moved id source target v u) × (outstanding m.cyclic.timer.level id m.from ≡ 0)
    × (outstanding m.cyclic.timer.level id m.joined ≡ 0)) last
    (moves_calmly id source target taken apart v v1 v2 v3 v4 v5 d1 d2 d3 d4 d5)
