use Rattle.cyc_model.proofs.Enabling.{events_are_enabled}
use Rattle.cyc_model.proofs.events_are_enabled.Goals as goal

pub returns : goal.returns
returns c = events_are_enabled
