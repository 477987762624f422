use Rattle.std.proofs.Common.{subst}
use Rattle.cyc_agreement.specs.System.{SystemView}
use Rattle.cyc_agreement.specs.Counts.{AreLawful}
use Rattle.cyc_system.proofs.system.System.fit_law.Goals as goal

pub returns-clause-lawful : goal.returns-clause-lawful
returns-clause-lawful g c = subst (λ (x : SystemView _). AreLawful g.R.Raise.view x) c.self.view_is c.law.ensures
