use Rattle.std.proofs.Common.{ap, sym, ◌∙◌, length, string_bytes}
use Rattle.std.proofs.lemmas.List.{length-map}
use Rattle.cyc_model.specs.Script.{names_of}
use Rattle.cyc_replay.proofs.Running.{begun, has_run}
use Rattle.cyc_replay.proofs.script.run_script.Goals as goal

pub put_text-requires-clause-new : goal.put_text-requires-clause-new
put_text-requires-clause-new g c =
    let script = c.args.script.now in
    begun script.cpus script.ceiling (names_of script) (length c.as_slice-names.result.now) c.in_ok-machine.machine
    (ap length c.as_slice-names.ensures.value ∙ sym (length-map script.names.items string_bytes)) c.in_ok-machine.ensures.holds

pub returns-clause-run : goal.returns-clause-run
returns-clause-run g c = has_run c.args.script.now c.put_text.new.machine c.in_ok-put_text.ensures.runs
