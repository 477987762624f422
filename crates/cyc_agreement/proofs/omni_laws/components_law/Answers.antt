use Rattle.cyc_agreement.proofs.Visits.{each_one, others_stay}
use Rattle.cyc_agreement.proofs.omni_laws.components_law.Goals as goal

pub returns-clause-each : goal.returns-clause-each
returns-clause-each g c s t level when skew now id did n = each_one g.R.Raise s t level when skew now id did n

pub returns-clause-others : goal.returns-clause-others
returns-clause-others g c s t level when skew now id did n =
    others_stay g.R.Raise s t level when skew now id did n
