use Rattle.std.proofs.Common.{◌≡◌, length}
use Rattle.std.specs.Prelude.{All}
use Rattle.cyc_core.specs.Tables.{level_of}
use Rattle.cyc_core.specs.FiringSide.{firing_view}
use Rattle.cyc_cpu.specs.Cpu.{IsFresh}
use Rattle.refused_memory.proofs.systems.three.Given as goal

abbrev pub invariant-loop : goal.invariant-loop
invariant-loop l = record {
  len : length l.ends.items ≡ l.counter;
  fresh : All (λ e. IsFresh (firing_view (level_of e.0)) × IsFresh (firing_view (level_of e.1))) l.ends.items;
}
