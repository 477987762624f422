use Rattle.cyc_border.proofs.WholeFire.{whole}
use Rattle.cyc_border.proofs.parts.whole_fire_law.Goals as goal

pub returns : goal.returns
returns g c now calls last v w soon distinct sound stops way =
    whole g.R.Raise now soon calls last v w distinct sound stops way
