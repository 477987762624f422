use Rattle.std.proofs.Common.{arith, subst}
use Rattle.cyc_cpu.specs.Cpu.{CpuView}
use Rattle.cyc_cpu.specs.Laws.{IsLawful}
use Rattle.cyc_cpu.proofs.Lawful.{lawful}
use Rattle.cyc_cpu.proofs.hard.Hard.law.Goals as goal

pub returns : goal.returns
returns g c =
    let i = c.self.inside in
    subst (λ (v : CpuView _). IsLawful g.R.Raise.view v) c.self.view_is
    (lawful g.R.Raise.view i.table.size i.table.room i.most i.removal i.lock i.low i.table.rows c.self.invariant
    c.law.ensures.rising i.suspended
    (let a = c.len.ensures in omega (arith, a)) (let b = c.size.ensures in omega (arith, b))
    (let b = c.size.ensures in omega (arith, b)))
