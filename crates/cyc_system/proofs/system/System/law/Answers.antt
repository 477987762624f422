use Rattle.std.proofs.Common.{subst}
use Rattle.cyc_agreement.specs.System.{SystemView}
use Rattle.cyc_agreement.specs.Agreement.{Agrees}
use Rattle.cyc_system.proofs.system.System.law.Goals as goal

pub returns : goal.returns
returns g c = subst (λ (x : SystemView _). Agrees x) c.self.view_is c.self.invariant.0.agrees
