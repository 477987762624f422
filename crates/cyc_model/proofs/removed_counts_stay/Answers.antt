use Rattle.cyc_model.proofs.Gone.{removed_counts_stay}
use Rattle.cyc_model.proofs.removed_counts_stay.Goals as goal

pub returns : goal.returns
returns c = removed_counts_stay
