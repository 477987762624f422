use Rattle.cyc_cpu.specs.Calls.{Suspend}
use Rattle.cyc_agreement.proofs.Marked.{marked_none, marked_more}
use Rattle.cyc_agreement.proofs.cpus.Cpus.suspend_each.Goals as goal

pub loop-number-init : goal.loop-number-init
loop-number-init g c = marked_none g.R.Raise Suspend c.args.self.now

pub loop-number-preserved : goal.loop-number-preserved
loop-number-preserved g c =
    marked_more g.R.Raise Suspend c.args.self.now c.loop-number.number c.loop-number.self c.cpu_mut.result.now c.suspend.new.self
    c.loop-number.invariant c.cpu_mut.ensures.cpu c.suspend.ensures
