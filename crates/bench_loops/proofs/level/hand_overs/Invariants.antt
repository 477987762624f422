use Rattle.std.proofs.Common.{◌<◌, ◌≤◌}
use Rattle.cyc_core.specs.Tables.{level_of}
use Rattle.cyc_core.specs.FiringSide.{firing_view}
use Rattle.bench_sides.specs.Ready.{IsReadyLevel}
use Rattle.bench_loops.proofs.level.hand_overs.Given as goal

abbrev pub invariant-loop-round : goal.invariant-loop-round
invariant-loop-round l = (0 < l.number) × (l.number ≤ l.ids) × IsReadyLevel l.ids l.round (firing_view (level_of l.core))
