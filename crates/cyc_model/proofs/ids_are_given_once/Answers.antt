use Rattle.cyc_model.proofs.Given.{given_from_start}
use Rattle.cyc_model.proofs.ids_are_given_once.Goals as goal

pub returns : goal.returns
returns c = given_from_start
