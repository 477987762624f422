use Rattle.cyc_level.specs.Events.{reached}
use Rattle.cyc_level.proofs.Keeps.{always_lawful}
use Rattle.cyc_level.proofs.Room.{conserved_level}
use Rattle.cyc_level.proofs.level_conservation.Goals as goal

pub returns : goal.returns
returns c = λ ceiling events on. conserved_level (reached ceiling events) (always_lawful ceiling events on)
