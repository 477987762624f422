use Rattle.std.proofs.Common.{◌≡◌, false, take}
use Rattle.std.specs.List.{list_any}
use Rattle.cyc_agreement.specs.System.{is_leaving_here}
use Rattle.cyc_agreement.proofs.finding.is_leaving.Given as goal

abbrev pub invariant-loop-number : goal.invariant-loop-number
invariant-loop-number g l = list_any (is_leaving_here l.id) (take l.number l.cpus.cpus) ≡ false
