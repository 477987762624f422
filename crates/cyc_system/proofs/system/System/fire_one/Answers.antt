use Rattle.cyc_cpu.specs.Calls.{no_interrupts}
use Rattle.cyc_cpu.specs.Cpu.{running}
use Rattle.cyc_agreement.proofs.Who.{same_changed, same_fired}
use Rattle.cyc_agreement.proofs.Holding.{holds_same}
use Rattle.cyc_system.proofs.system.System.fire_one.Goals as goal

pub invariant_of-self : goal.invariant_of-self
invariant_of-self g c = (
  holds_same _ c.fire_at.new.cpus c.self.invariant.0
      (same_changed c.args.cpu _ c.self.inside.cpus c.fire_at.new.cpus c.fire_at.ensures
      (same_fired g.C.Calls g.R.Raise no_interrupts
      (running c.args.calls.now c.fire_at.ensures.before)
      (running c.fire_at.new.calls c.fire_at.ensures.after) c.args.now c.fire_at.result c.fire_at.ensures.change)),
  c.self.invariant.1,
)
