use Rattle.cyc_workers.specs.Settled.{AllAsked, AreSettled}
use Rattle.cyc_workers.proofs.settling.settle_all.Given as goal

abbrev pub invariant-loop-position : goal.invariant-loop-position
invariant-loop-position g l = record {
  asked : AllAsked g.R.Raise l.fn.all.items l.all.items;
  settled : AreSettled g.R.Raise.view l.position l.all.items;
}
