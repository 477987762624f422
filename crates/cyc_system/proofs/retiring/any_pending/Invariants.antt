use Rattle.cyc_agreement.specs.System.{ids_on}
use Rattle.cyc_system.proofs.AskingEach.{Asked}
use Rattle.cyc_system.proofs.Stepping.{WalksOver}
use Rattle.cyc_system.proofs.retiring.any_pending.Given as goal

abbrev pub invariant-loop-position : goal.invariant-loop-position
invariant-loop-position g l = record {
  asked : Asked g.R.Raise l.source l.fn.cpus l._position l.cpus;
  walk : WalksOver (ids_on l.source l.cpus) l.passed l._position;
}
