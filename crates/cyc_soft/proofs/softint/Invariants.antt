use Rattle.std.proofs.Common.{◌≡◌, List, [], length}
use Rattle.cyc_types.specs.Levels.{as_level, handler_at}
use Rattle.cyc_soft.specs.Serving.{Served, Serves, hand_left, soft_side}
use Rattle.cyc_soft.proofs.softint.Given as goal

-- the calls so far were made, and no look since
abbrev pub invariant-loop-done : goal.invariant-loop-done
invariant-loop-done g l = (ran : List Served) × (length ran ≡ l.done)
    × Serves g.D.Drain (handler_at g.C.Calls (as_level l.level)) (soft_side l.fn.drain l.fn.calls) ran []
    (soft_side l.drain l.calls)
    × (g.D.Drain.held l.drain ≡ hand_left (g.D.Drain.held l.fn.drain) ran)
