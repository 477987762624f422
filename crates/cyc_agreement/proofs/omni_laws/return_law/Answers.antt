use Rattle.cyc_agreement.proofs.Regained.{all_back, others_stay, nothing_lost}
use Rattle.cyc_agreement.proofs.omni_laws.return_law.Goals as goal

pub returns-clause-all : goal.returns-clause-all
returns-clause-all g c s t n now did k r when skew is placement stays =
    all_back g.R.Raise s t n now did k r when skew is placement stays

pub returns-clause-others : goal.returns-clause-others
returns-clause-others g c s t n now did m ne = others_stay g.R.Raise s t n now did m ne

pub returns-clause-counts : goal.returns-clause-counts
returns-clause-counts g c s t n now a rising off did k r is =
    nothing_lost g.R.Raise s t n now did a rising off k r is
