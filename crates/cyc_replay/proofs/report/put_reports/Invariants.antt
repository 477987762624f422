use Rattle.std.proofs.Common.{◌≡◌, ℕ, List, ◌++◌, map, drop, false, string_bytes}
use Rattle.std.specs.Io.KnownBytes.{Appends}
use Rattle.cyc_model.specs.State.{State}
use Rattle.cyc_model.specs.Report.{reports}
use Rattle.cyc_model.specs.Script.{names_of}
use Rattle.cyc_replay.specs.Machine.{ShowsMachine, IsReached}
use Rattle.cyc_replay.proofs.report.put_reports.Given as goal

-- the reports so far are put, and the others follow them
abbrev pub invariant-loop-name : goal.invariant-loop-name
invariant-loop-name g l = record {
  count : l.number ≡ l.name-index;
  holds : (s : State) → ShowsMachine s l.initial.machine → ShowsMachine s l.machine;
  whole : g.S.Sink.has_failed l.sink ≡ false;
  text : (step : ℕ) (s : State) → IsReached step s → ShowsMachine s l.initial.machine → (done : List ℕ)
      × (reports 0 (names_of l.script) s ≡ done ++ reports l.name-index
      (map string_bytes (drop l.name-index l.script.names.items)) s)
      × Appends (g.S.Sink.written l.initial.sink) (g.S.Sink.written l.sink) done;
}
