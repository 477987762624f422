use Rattle.cyc_system_laws.proofs.Given.{no_counts_yet, no_losses_yet}
use Rattle.cyc_system_laws.proofs.sparing.unused_law.Goals as goal

pub returns : goal.returns
returns g c id s sound new = (no_counts_yet g.R.Raise.view id s sound new, no_losses_yet g.R.Raise.view id s sound new)
