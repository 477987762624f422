use Rattle.cyc_threads.proofs.KeepingSeats.{same_all, then_all, called_all, asked_all, fired_all}
use Rattle.cyc_threads.proofs.ring_seats.seats_law.Goals as goal

pub returns-clause-none : goal.returns-clause-none
returns-clause-none g c = same_all

pub returns-clause-joined : goal.returns-clause-joined
returns-clause-joined g c = then_all

pub returns-clause-called : goal.returns-clause-called
returns-clause-called g c = called_all

pub returns-clause-asked : goal.returns-clause-asked
returns-clause-asked g c = asked_all

pub returns-clause-fired : goal.returns-clause-fired
returns-clause-fired g c = fired_all g.C.Calls
