use Rattle.cyc_system_laws.proofs.Best.{is_destination, destination_is, none_fits}
use Rattle.cyc_system_laws.proofs.choosing.destination_law.Goals as goal

pub returns-clause-some : goal.returns-clause-some
returns-clause-some g c source d v is = is_destination source v d is

pub returns-clause-only : goal.returns-clause-only
returns-clause-only g c source d v is = destination_is source v d is

pub returns-clause-none : goal.returns-clause-none
returns-clause-none g c source n v is fit = none_fits source v n is fit
