use Rattle.cyc_system_laws.proofs.Pieces.{made_of}
use Rattle.cyc_system_laws.proofs.parts.parts_law.Goals as goal

pub returns : goal.returns
returns g c = made_of g.R.Raise
