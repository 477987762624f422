use Rattle.std.proofs.Common.{ℕ}
use Rattle.cyc_agreement.specs.Holding.{EndedWithin}
use Rattle.cyc_system.specs.Juggling.{system_of}
use Rattle.cyc_system.proofs.Retired.{Retired}
use Rattle.cyc_system.proofs.retiring.retire_all.Given as goal

abbrev pub invariant-loop-done : goal.invariant-loop-done
invariant-loop-done g l = record {
  walk : Retired g.R.Raise l.source l.fn.cpus l.fn.records l._done l.cpus l.records;
  within : (last : ℕ) → EndedWithin (system_of l.fn.cpus l.fn.records last) → EndedWithin (system_of l.cpus l.records last);
}
