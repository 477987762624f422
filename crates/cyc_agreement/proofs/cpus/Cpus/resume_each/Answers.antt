use Rattle.cyc_cpu.specs.Calls.{Resume}
use Rattle.cyc_agreement.proofs.Marked.{marked_none, marked_more}
use Rattle.cyc_agreement.proofs.cpus.Cpus.resume_each.Goals as goal

pub loop-number-init : goal.loop-number-init
loop-number-init g c = marked_none g.R.Raise Resume c.args.self.now

pub loop-number-preserved : goal.loop-number-preserved
loop-number-preserved g c =
    marked_more g.R.Raise Resume c.args.self.now c.loop-number.number c.loop-number.self c.cpu_mut.result.now c.resume.new.self
    c.loop-number.invariant c.cpu_mut.ensures.cpu c.resume.ensures
