use Rattle.cyc_model.proofs.Printing.{nothing_follows_removal}
use Rattle.cyc_model.proofs.nothing_follows_removal.Goals as goal

pub returns : goal.returns
returns c = nothing_follows_removal
