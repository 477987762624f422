use Rattle.std.proofs.Common.{subst}
use Rattle.std.specs.Prelude.{IfNone}
use Rattle.cyc_system_workers.specs.Settled.{AllSettled}
use Rattle.cyc_threads.proofs.Ready.{polls_ready}
use Rattle.cyc_threads.proofs.Telling.{waited}
use Rattle.cyc_threads.proofs.waiting.wait.Goals as goal

pub settle-side-requires : goal.settle-side-requires
settle-side-requires g c = polls_ready g.C.Calls g.R.Raise
    c.poll_all.ensures.polled.0 c.args.progress c.poll_all.new.progress c.poll_all.ensures.polled.1 c.requires

pub returns-clause-waited : goal.returns-clause-waited
returns-clause-waited g c = waited g.R.Raise c.args.progress c.poll_all.new.progress c.settle-side.result.side
    c.poll_all.ensures.polled c.settle-side.ensures.asked
    (subst (λ o. IfNone o (AllSettled g.R.Raise.view c.settle-side.result.side.system.cpus.cpus)) c.in_default-refused.is
    c.settle-side.ensures.settled)
    c.in_default.ensures.none c.sound.ensures
