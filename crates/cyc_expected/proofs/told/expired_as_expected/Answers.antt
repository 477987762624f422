use Rattle.cyc_expected.proofs.Lines.{met_as_told}
use Rattle.cyc_expected.proofs.Whole.{expired_as_expected}
use Rattle.cyc_expected.proofs.told.expired_as_expected.Goals as goal

pub returns-clause-met : goal.returns-clause-met
returns-clause-met c = met_as_told

pub returns-clause-expired : goal.returns-clause-expired
returns-clause-expired c = expired_as_expected
