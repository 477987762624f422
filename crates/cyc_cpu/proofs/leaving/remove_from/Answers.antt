use Rattle.cyc_cpu.proofs.Removals.{may_poll}
use Rattle.cyc_cpu.proofs.leaving.remove_from.Goals as goal

pub poll_clear-requires : goal.poll_clear-requires
poll_clear-requires g c = may_poll (g.R.Raise.view c.args.end.now)
    (g.R.Raise.view c.mark-left.new.self) c.args.id c.mark-left.result c.requires c.mark-left.ensures.learns
