use Rattle.std.proofs.Common.{ℕ}
use Rattle.cyc_agreement.specs.System.{ids_on}
use Rattle.cyc_system.proofs.Stepping.{WalksOver}
use Rattle.cyc_system.proofs.Walked.{Walked}
use Rattle.cyc_system.proofs.juggling.move_away.Given as goal

-- at some position among the ids that are still there the walk goes on
abbrev pub invariant-loop-done : goal.invariant-loop-done
invariant-loop-done g l = (position : ℕ)
    × Walked g.R.Raise l.source l.fn.cpus l.fn.records l._done position l.report l.cpus l.records
    × WalksOver (ids_on l.source l.cpus) l.passed position
