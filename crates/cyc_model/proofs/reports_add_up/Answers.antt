use Rattle.cyc_model.proofs.Printing.{reports_add_up}
use Rattle.cyc_model.proofs.reports_add_up.Goals as goal

pub returns : goal.returns
returns c = reports_add_up
