use Rattle.cyc_border.proofs.HandingOut.{parts}
use Rattle.cyc_border.proofs.parts.parts_law.Goals as goal

pub returns : goal.returns
returns g c now answer high high' v w fires = parts g.R.Raise now answer high high' v w fires
