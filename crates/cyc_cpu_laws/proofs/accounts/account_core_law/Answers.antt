use Rattle.cyc_cpu_laws.proofs.Cores.{core_proceeds_none, core_proceeds_one, core_proceeds_on, core_proceeds_in}
use Rattle.cyc_cpu_laws.proofs.accounts.account_core_law.Goals as goal

pub returns-clause-none : goal.returns-clause-none
returns-clause-none g c = core_proceeds_none g.C.Calls

pub returns-clause-one : goal.returns-clause-one
returns-clause-one g c = core_proceeds_one g.C.Calls

pub returns-clause-joined : goal.returns-clause-joined
returns-clause-joined g c = core_proceeds_on g.C.Calls

pub returns-clause-run : goal.returns-clause-run
returns-clause-run g c = core_proceeds_in g.C.Calls
