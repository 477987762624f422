use Rattle.std.proofs.Common.{true}
use Rattle.cyc_cpu.specs.Calls.{Suspend}
use Rattle.cyc_agreement.proofs.Marked.{holds_marked}
use Rattle.cyc_system.proofs.system.System.suspend.Goals as goal

pub invariant_of-self : goal.invariant_of-self
invariant_of-self g c = (
  holds_marked g.R.Raise Suspend true (λ x y d. d) (record {
    cpus = c.self.inside.cpus;
    records = c.self.inside.records.list;
    last = c.self.inside.last;
  })
      c.suspend_each.new.self c.suspend_each.ensures c.self.invariant.0,
  c.self.invariant.1,
)
