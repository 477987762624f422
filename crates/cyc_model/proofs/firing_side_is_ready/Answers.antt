use Rattle.cyc_model.proofs.Telling.{ready_steps}
use Rattle.cyc_model.proofs.firing_side_is_ready.Goals as goal

pub returns : goal.returns
returns c = ready_steps
