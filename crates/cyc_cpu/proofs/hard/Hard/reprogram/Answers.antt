use Rattle.std.proofs.Common.{Ok, ap, sym, ◌∙◌}
use Rattle.cyc_cpu.specs.Calls.{Reprogram}
use Rattle.cyc_cpu.specs.Cpu.{CpuView}
use Rattle.cyc_cpu.proofs.Cyclics.{changes_from}
use Rattle.cyc_cpu.proofs.Reprogramming.{over, hard_reprogrammed, reprogrammed}
use Rattle.cyc_cpu.proofs.hard.Hard.reprogram.Goals as goal

pub invariant_of-self : goal.invariant_of-self
invariant_of-self g c = let i = c.self.inside in
    hard_reprogrammed g.R.Raise i.removal i.most i.lock i.low i.table c.reprogram.new.self c.args.id c.in-Some.index c.args.moment
    c.in-Some.ensures.some (λ q. c.if-is_removed.ensures.kept (sym (ap (λ (v : CpuView _). v.removal) c.self.view_is) ∙ q))
    c.reprogram.ensures.rows c.reprogram.ensures.size c.self.invariant

pub returns-in-Some : goal.returns-in-Some
returns-in-Some g c = let i = c.self.inside in
    changes_from g.R.Raise (Reprogram c.args.id c.args.moment (Ok tt)) _ _
    (over i.removal i.most i.suspended i.lock i.low c.reprogram.new.self) c.self.view_is
    (reprogrammed g.R.Raise i.removal i.most i.lock i.low i.table c.reprogram.new.self c.args.id c.in-Some.index c.args.moment
    c.in-Some.ensures.some (λ q. c.if-is_removed.ensures.kept (sym (ap (λ (v : CpuView _). v.removal) c.self.view_is) ∙ q))
    c.reprogram.ensures.rows c.reprogram.ensures.size i.suspended c.reprogram.ensures.room)
