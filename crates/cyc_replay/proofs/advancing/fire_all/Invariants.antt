use Rattle.std.proofs.Common.{◌≡◌, ℕ, ◌*◌, ◌^◌, ◌≤◌, length}
use Rattle.cyc_types.specs.Tally.{TallyView}
use Rattle.cyc_core.specs.Tables.{Tables}
use Rattle.cyc_system.specs.System.{RunningSystem}
use Rattle.cyc_model.specs.State.{State}
use Rattle.cyc_system_model.specs.SystemAdvancing.{fired_and_lost}
use Rattle.cyc_replay.specs.Advancing.{IsAdvancing}
use Rattle.cyc_replay.proofs.advancing.fire_all.Given as goal

-- the CPUs below this number have fired
abbrev pub invariant-loop-cpu : goal.invariant-loop-cpu
invariant-loop-cpu l = record {
  so_far : (step : ℕ) (s : State) (first : RunningSystem TallyView Tables)
      → IsAdvancing step 0 (fired_and_lost 0 0) s first l.initial.machine
      → IsAdvancing step l.cpu (fired_and_lost l.made.expired l.made.lost) s first l.machine;
  clock : l.machine.clock ≡ l.initial.machine.clock;
  many : length l.machine.system.cpus.cpus ≡ length l.initial.machine.system.cpus.cpus;
  few_expired : l.made.expired ≤ l.cpu * 2 ^ 64;
  few_lost : l.made.lost ≤ l.cpu * 2 ^ 64;
}
