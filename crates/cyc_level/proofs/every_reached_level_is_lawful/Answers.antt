use Rattle.cyc_level.proofs.Keeps.{always_lawful}
use Rattle.cyc_level.proofs.every_reached_level_is_lawful.Goals as goal

pub returns : goal.returns
returns c = always_lawful
