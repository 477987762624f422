use Rattle.cyc_system_laws.proofs.Settles.{refused_until}
use Rattle.cyc_system_laws.proofs.Beginning.{kept_found}
use Rattle.cyc_system_laws.proofs.Turning.{juggled_none, left_none, counted, stopped, turned}
use Rattle.cyc_system_laws.proofs.settling.settled_law.Goals as goal

pub returns-clause-refused : goal.returns-clause-refused
returns-clause-refused g c s t call d until = refused_until g.R.Raise s t call d until

pub returns-clause-kept : goal.returns-clause-kept
returns-clause-kept g c id calls s t law d = kept_found g.R.Raise id calls s t law d

pub returns-clause-juggled : goal.returns-clause-juggled
returns-clause-juggled g c n report s t d settled = juggled_none g.R.Raise n report s t d settled

pub returns-clause-left : goal.returns-clause-left
returns-clause-left g c n report s t settled d = left_none g.R.Raise n report s t d settled

pub returns-clause-counted : goal.returns-clause-counted
returns-clause-counted g c n report s t moves = counted g.R.Raise n report s t moves

pub returns-clause-stopped : goal.returns-clause-stopped
returns-clause-stopped g c n report s t moves = stopped g.R.Raise n report s t moves

pub returns-clause-turned : goal.returns-clause-turned
returns-clause-turned g c n report s t moves settled = turned g.R.Raise n report s t moves settled
