use Rattle.cyc_agreement.specs.Withdrawing.{system}
use Rattle.cyc_agreement.proofs.Telling.{not_known}
use Rattle.cyc_agreement.proofs.removing.begin_remove.Goals as goal

pub returns-in_default-clause-did : goal.returns-in_default-clause-did
returns-in_default-clause-did g c last =
    not_known g.R.Raise c.args.id
    (system c.args.cpus.now c.args.records.now.list last) c.in_default.ensures.none
