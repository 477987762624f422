use Rattle.std.proofs.Common.{ap}
use Rattle.cyc_expected.specs.Course.{Told, untold}
use Rattle.cyc_expected.proofs.Moves.{same_told}
use Rattle.cyc_expected.proofs.calm.calm_law.Goals as goal

pub returns : goal.returns
returns c cpus name xs ys agree = ap (λ (t : Told). t.expired) (same_told name xs ys agree 0 (untold cpus))
