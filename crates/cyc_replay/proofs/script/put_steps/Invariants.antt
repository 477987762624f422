use Rattle.std.proofs.Common.{◌≡◌, ◌+◌, take, false}
use Rattle.std.specs.Io.KnownBytes.{Appends}
use Rattle.cyc_model.specs.Script.{run_on, names_of, no_indexes}
use Rattle.cyc_replay.specs.Runs.{RunsTo}
use Rattle.cyc_replay.proofs.script.put_steps.Given as goal

-- the lines so far are put, and the steps so far led to the machine
abbrev pub invariant-loop-taken : goal.invariant-loop-taken
invariant-loop-taken g l = record {
  number : l.step ≡ l.taken-index + 1;
  whole : g.S.Sink.has_failed l.sink ≡ false;
  runs : RunsTo l.script.cpus l.script.ceiling (names_of l.script) (take l.taken-index l.script.steps.items) l.machine;
  text : Appends (g.S.Sink.written l.initial.sink) (g.S.Sink.written l.sink)
      (run_on no_indexes l.script.cpus l.script.ceiling (names_of l.script) (take l.taken-index l.script.steps.items)).line;
}
