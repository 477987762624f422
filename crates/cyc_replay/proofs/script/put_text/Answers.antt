use Rattle.std.proofs.Common.{◌+◌, List, ℕ, length, subst, arith}
use Rattle.std.specs.Prelude.{Result, Ok, Err, OnOk, Option}
use Rattle.std.proofs.lemmas.Result.{err_from_is_err_and}
use Rattle.cyc_text.specs.Puts.{Puts, AppendsPrefix}
use Rattle.cyc_text.proofs.Puts.{more, stops}
use Rattle.cyc_script.specs.declared.script.Script.{Script}
use Rattle.cyc_model.specs.Report.{reports}
use Rattle.cyc_model.specs.Script.{names_of, no_indexes, run_on, run_of, text_of, text_with}
use Rattle.cyc_replay.proofs.Introduced.{all_names}
use Rattle.cyc_replay.proofs.RunningMachine.{reached_so}
use Rattle.cyc_replay.proofs.Running.{runs_shown, whole_text}
use Rattle.cyc_replay.proofs.script.put_text.Goals as goal

stops_early : (script : Script) (old new : Option (List ℕ))
    → AppendsPrefix old new (run_on no_indexes script.cpus script.ceiling (names_of script) script.steps.items).line
    → AppendsPrefix old new (text_of script)
unfolding text_with run_of
stops_early script old new p = stops old new
    (run_on no_indexes script.cpus script.ceiling (names_of script) script.steps.items).line
    (reports 0 (names_of script) (run_on no_indexes script.cpus script.ceiling (names_of script) script.steps.items).state) p

pub returns-in_err-put_steps-clause-text : goal.returns-in_err-put_steps-clause-text
returns-in_err-put_steps-clause-text g c =
    let p = err_from_is_err_and c.from_residual.result c.from_residual.ensures.1 in
    rw p.1 (stops_early c.args.script.now (g.S.Sink.written c.args.sink.now) (g.S.Sink.written c.put_steps.new.sink)
    c.in_err-put_steps.ensures.text)

pub returns-clause-text : goal.returns-clause-text
returns-clause-text g c =
    let script = c.args.script.now in let low = script.cpus_in_range.0 in let r = c.in_ok-put_steps.ensures.runs in
    let reached = reached_so script.cpus script.ceiling (names_of script) script.steps.items c.put_steps.new.machine r
    (omega (arith, low))
    script.cpus_in_range.1 (all_names c.args.script.now) (1 + length script.steps.items) (omega arith) in
    let P : List ℕ → Type 0 = λ text. Puts (g.S.Sink.written c.args.sink.now)
    (g.S.Sink.written c.put_reports.new.sink) c.put_reports.result text in
    subst P (whole_text c.args.script.now c.put_steps.new.machine r)
    (more _ _ _ _ _ _ c.in_ok-put_steps.ensures.text (c.put_reports.ensures.text _ _ reached r.holds))

at_ok : {A E : Type 0} (P : Type 0) (r : Result A E) → P → OnOk r P
at_ok P (Ok x) p = p
at_ok P (Err e) p = tt

pub returns-clause-runs : goal.returns-clause-runs
returns-clause-runs g c =
    let script = c.args.script.now in
    at_ok _ c.put_reports.result (runs_shown script.cpus script.ceiling
    (names_of script) script.steps.items c.put_steps.new.machine
    c.put_reports.new.machine c.in_ok-put_steps.ensures.runs c.put_reports.ensures.holds)
