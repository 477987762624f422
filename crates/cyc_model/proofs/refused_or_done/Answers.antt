use Rattle.std.proofs.Common.{ap}
use Rattle.cyc_model.specs.Refusals.{unless}
use Rattle.cyc_model.specs.Script.{does}
use Rattle.cyc_model.proofs.refused_or_done.Goals as goal

pub returns : goal.returns
returns c = λ q texts indexes step x s. (
  λ why e. ap (λ o. unless o step x (does q texts indexes step x) s) e,
  λ e. ap (λ o. unless o step x (does q texts indexes step x) s) e,
)
