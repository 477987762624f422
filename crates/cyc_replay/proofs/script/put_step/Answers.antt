use Rattle.std.proofs.Common.{List, ℕ, ap, ◌∙◌, map, string_bytes, subst, arith}
use Rattle.std.proofs.lemmas.Result.{err_from_is_err_and}
use Rattle.std.specs.Io.KnownBytes.{Appends}
use Rattle.cyc_text.specs.Puts.{AppendsPrefix}
use Rattle.cyc_text.proofs.Puts.{nothing}
use Rattle.cyc_model.specs.Script.{run_on, names_of, no_indexes}
use Rattle.cyc_replay.specs.Runs.{listed}
use Rattle.cyc_replay.proofs.Introduced.{fewer_before}
use Rattle.cyc_replay.proofs.RunningMachine.{reached_so, takes_at}
use Rattle.cyc_replay.proofs.Reading.{takes_named}
use Rattle.cyc_replay.proofs.script.put_step.Goals as goal

pub take_step-requires-clause-reached : goal.take_step-requires-clause-reached
take_step-requires-clause-reached g c =
    let script = c.args.script.now in let low = script.cpus_in_range.0 in
    let done = c.requires.runs.0 in let is = c.requires.runs.1 in let r = c.requires.runs.3 in (
      (run_on (listed r.given) script.cpus script.ceiling (names_of script) done).state,
      reached_so script.cpus script.ceiling (names_of script) done c.args.machine.now r
          (omega (arith, low)) script.cpus_in_range.1 (fewer_before (names_of script) done c.args.taken.now c.requires.runs.2)
          c.args.step (omega (arith, is)),
      r.holds,
    )

pub returns-in_err-take_step-clause-text : goal.returns-in_err-take_step-clause-text
returns-in_err-take_step-clause-text g c done is names r =
    let p = err_from_is_err_and c.from_residual.result c.from_residual.ensures.1 in
    rw p.1 (nothing _ _)

pub returns-in_err-put-clause-text : goal.returns-in_err-put-clause-text
returns-in_err-put-clause-text g c done is names r =
    let script = c.args.script.now in let low = script.cpus_in_range.0 in
    let takes = takes_named _ (names_of script) (ap (map string_bytes) c.as_slice.ensures.value) c.args.step c.args.taken.now _
    c.args.machine.now
    c.take_step.new.machine c.in_ok-take_step.ensures.takes in
    let t = takes_at script.cpus script.ceiling (names_of script) done c.args.step c.args.taken.now _ c.args.machine.now
    c.take_step.new.machine
    (omega (arith, low)) script.cpus_in_range.1 is names r takes in
    let P : List ℕ → Type 0 = λ text. AppendsPrefix (g.S.Sink.written c.args.sink.now) (g.S.Sink.written c.put.new.self) text in
    let p = err_from_is_err_and c.from_residual-in_err-put.result c.from_residual-in_err-put.ensures.1 in
    rw p.1 (subst P (c.as_bytes.ensures.value ∙ t.0 no_indexes) c.in_err-put.ensures.bytes)

pub returns-clause-text : goal.returns-clause-text
returns-clause-text g c done is names r =
    let script = c.args.script.now in let low = script.cpus_in_range.0 in
    let takes = takes_named _ (names_of script) (ap (map string_bytes) c.as_slice.ensures.value) c.args.step c.args.taken.now _
    c.args.machine.now
    c.take_step.new.machine c.in_ok-take_step.ensures.takes in
    let t = takes_at script.cpus script.ceiling (names_of script) done c.args.step c.args.taken.now _ c.args.machine.now
    c.take_step.new.machine
    (omega (arith, low)) script.cpus_in_range.1 is names r takes in
    let P : List ℕ → Type 0 = λ text. Appends (g.S.Sink.written c.args.sink.now) (g.S.Sink.written c.put.new.self) text in
    subst P (c.as_bytes.ensures.value ∙ t.0 no_indexes) c.in_ok-put.ensures.bytes

pub returns-clause-runs : goal.returns-clause-runs
returns-clause-runs g c done is names r =
    let script = c.args.script.now in let low = script.cpus_in_range.0 in
    let takes = takes_named _ (names_of script) (ap (map string_bytes) c.as_slice.ensures.value) c.args.step c.args.taken.now _
    c.args.machine.now
    c.take_step.new.machine c.in_ok-take_step.ensures.takes in
    (takes_at script.cpus script.ceiling (names_of script) done c.args.step c.args.taken.now _ c.args.machine.now
    c.take_step.new.machine
    (omega (arith, low)) script.cpus_in_range.1 is names r takes).1
