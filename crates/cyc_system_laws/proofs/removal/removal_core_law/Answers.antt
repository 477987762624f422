use Rattle.cyc_system_laws.proofs.Stays.{is_whole, stays_whole}
use Rattle.cyc_system_laws.proofs.removal.removal_core_law.Goals as goal

pub returns-clause-whole : goal.returns-clause-whole
returns-clause-whole g c = is_whole

pub returns-clause-run : goal.returns-clause-run
returns-clause-run g c id s t way = stays_whole g.C.Calls id s t way
