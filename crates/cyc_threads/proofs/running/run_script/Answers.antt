use Rattle.std.proofs.Common.{◌∙◌, map}
use Rattle.std.specs.Prelude.{string_bytes}
use Rattle.cyc_workers.proofs.Joining.{at_err}
use Rattle.cyc_threads.specs.Refusing.{WhyNotRun}
use Rattle.cyc_threads.specs.Reporting.{report_text}
use Rattle.cyc_threads.proofs.Ran.{not_ran, ran}
use Rattle.cyc_threads.proofs.running.run_script.Goals as goal

pub returns-in_err-all-clause-refused : goal.returns-in_err-all-clause-refused
returns-in_err-all-clause-refused g c =
    at_err (λ e. WhyNotRun g.C.Calls c.args.script.now c.args.calls.items e)
    c.from_residual-in_err-all.result c.in_err-all.field-0.0 c.from_residual-in_err-all.ensures.1
    (not_ran g.C.Calls c.args.script.now c.args.calls.items c.in_ok-rings.all.items
    c.in_ok-rings.ensures.given c.in_ok-rings.ensures.new
    c.in_err-all.field-0.0 c.in_err-all.ensures.refused)

pub returns-clause-ran : goal.returns-clause-ran
returns-clause-ran g c =
    ran g.C.Calls c.args.script.now c.args.calls.items c.in_ok-rings.all.items
    c.in_ok-rings.ensures.given c.in_ok-rings.ensures.new
    c.in_ok-all.field-0.all.items c.in_ok-all.field-0.lines.items (string_bytes c.in_ok-text.text) c.in_ok-ended.ended
    c.in_ok-rings.ensures.many c.in_ok-all.ensures.played
    (c.in_ok-text.ensures ∙ (λ z. report_text (map string_bytes (c.as_slice-2.ensures.value z)) (c.as_slice-3.ensures.value z)))
    c.in_ok-ended.ensures.calls c.in_ok-ended.ensures.rings
