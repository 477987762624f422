use Rattle.cyc_system_rings.proofs.Components.{each_from}
use Rattle.cyc_system_rings.proofs.expecting.expected_everywhere_law.Goals as goal

pub returns : goal.returns
returns g c id level when skew now before s t way told online a d b ready run keeps =
    each_from g.C.Calls g.R.Raise id level when skew now
    before s t way
    told online a d b ready run keeps
