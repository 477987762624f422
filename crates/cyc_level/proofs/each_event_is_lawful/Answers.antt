use Rattle.cyc_level.proofs.Keeps.{keeps_law}
use Rattle.cyc_level.proofs.each_event_is_lawful.Goals as goal

pub returns : goal.returns
returns c = λ event level law on. keeps_law level law event on
