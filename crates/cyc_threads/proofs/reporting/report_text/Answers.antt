use Rattle.std.specs.Prelude.{string_bytes}
use Rattle.cyc_threads.proofs.Texts.{text_next, text_end}
use Rattle.cyc_threads.proofs.reporting.report_text.Goals as goal

pub loop-position-preserved : goal.loop-position-preserved
loop-position-preserved c = text_next string_bytes c.args.names.now c.args.lines.now c.loop-position.position
    c.min-position-end.result
    c.index-names-position.result
    (record { expired = 0; lost = 0; pending = 0 }) (string_bytes c.loop-position.text) (string_bytes c.push_str.new.self)
    (string_bytes c.write_report.new.line)
    c.as_str.result.now c.as_str-in-loop-position.result.now c.counts_of.result c.loop-position-test.true
    c.min-position-end.ensures
    c.index-names-position.is c.counts_of.ensures c.as_str.ensures.value
    c.in_ok-write_report.ensures c.as_str-in-loop-position.ensures.value c.in_ok-push_str.ensures.bytes c.loop-position.invariant

pub returns : goal.returns
returns c = text_end string_bytes c.args.names.now c.args.lines.now c.loop-position.position c.min-position-end.result
    (string_bytes c.loop-position.text)
    c.loop-position-test.false c.min-position-end.ensures c.loop-position.invariant
