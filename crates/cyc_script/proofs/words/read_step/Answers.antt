use Rattle.cyc_script.proofs.Fits.{items_fit}
use Rattle.cyc_script.proofs.words.read_step.Goals as goal

pub returns-clause-fits : goal.returns-clause-fits
returns-clause-fits c = items_fit _ _ _ _ c.step_of_items.ensures
