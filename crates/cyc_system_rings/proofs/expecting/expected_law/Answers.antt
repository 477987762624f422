use Rattle.cyc_system_rings.proofs.Runs.{expected_from, receipt_from}
use Rattle.cyc_system_rings.proofs.expecting.expected_law.Goals as goal

pub returns-clause-expired : goal.returns-clause-expired
returns-clause-expired g c id level when now before s t way told a d b ready run keeps =
    expected_from g.C.Calls g.R.Raise id level when now
    before s t way
    told a d b ready run keeps

pub returns-clause-receipt : goal.returns-clause-receipt
returns-clause-receipt g c id level when now before after s t way told receipt a d b ready run keeps done =
    receipt_from g.C.Calls g.R.Raise id level when now before
    after
    s t way told receipt a d b ready run keeps done
