use Rattle.cyc_model.proofs.Telling.{tells_steps}
use Rattle.cyc_model.proofs.acts_tell_all.Goals as goal

pub returns : goal.returns
returns c = λ q texts indexes step xs s. (tells_steps q texts indexes step xs s).tells
