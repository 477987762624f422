use Rattle.cyc_system_laws.proofs.Lowering.{asked_lawful, looked_lawful, reserved_lawful, widened_lawful}
use Rattle.cyc_system_laws.proofs.lawful.lawful_law.Goals as goal

pub returns-clause-asked : goal.returns-clause-asked
returns-clause-asked g c = asked_lawful g.R.Raise

pub returns-clause-looked : goal.returns-clause-looked
returns-clause-looked g c = looked_lawful g.R.Raise

pub returns-clause-reserved : goal.returns-clause-reserved
returns-clause-reserved g c = reserved_lawful g.R.Raise

pub returns-clause-widened : goal.returns-clause-widened
returns-clause-widened g c = widened_lawful g.R.Raise
