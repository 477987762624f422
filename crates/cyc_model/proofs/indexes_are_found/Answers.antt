use Rattle.cyc_model.proofs.Choosing.{indexes_are_found}
use Rattle.cyc_model.proofs.indexes_are_found.Goals as goal

pub returns : goal.returns
returns c = indexes_are_found
