use Rattle.std.proofs.Common.{◌≡◌, length, filter, take}
use Rattle.cyc_agreement.specs.Online.{is_staying}
use Rattle.cyc_system.proofs.returning.count_staying.Given as goal

abbrev pub invariant-loop-position : goal.invariant-loop-position
invariant-loop-position g l = l.count ≡ length (filter (is_staying l.cpus) (take l.position l.records.list))
