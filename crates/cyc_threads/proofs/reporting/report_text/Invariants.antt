use Rattle.std.proofs.Common.{◌≡◌, map, take}
use Rattle.std.specs.Prelude.{string_bytes}
use Rattle.cyc_threads.specs.Reporting.{report_text}
use Rattle.cyc_threads.proofs.reporting.report_text.Given as goal

abbrev pub invariant-loop-position : goal.invariant-loop-position
invariant-loop-position l = string_bytes l.text ≡ report_text (take l.position (map string_bytes l.names)) (take l.position
    l.lines)
