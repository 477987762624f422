use Rattle.cyc_model.specs.Script.{names_of, run_of, text_with}
use Rattle.cyc_model.proofs.Unindexed.{text_bare}
use Rattle.cyc_model.proofs.text_tells_no_index.Goals as goal

pub returns : goal.returns
unfolding text_with run_of
returns c = λ indexes script. text_bare indexes script.cpus script.ceiling (names_of script) script.steps.items
