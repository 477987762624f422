use Rattle.cyc_cpu.proofs.Following.{answered_gone, stays_gone, runs_gone}
use Rattle.cyc_cpu.proofs.laws.Hard+LevelCore.removal_law.Goals as goal

pub returns-clause-left : goal.returns-clause-left
returns-clause-left g c id w h =
    let e = c.law.ensures in let k = c.levels_conservation.ensures in
    answered_gone id c.args.self.now w e.rising e.lock e.low k.lock_lawful k.low_lawful h

pub returns-clause-kept : goal.returns-clause-kept
returns-clause-kept g c id s t call gone not runs =
    stays_gone g.C.Calls id s t call gone not runs

pub returns-clause-nothing_follows : goal.returns-clause-nothing_follows
returns-clause-nothing_follows g c id s t way h not runs =
    let e = c.law.ensures in let k = c.levels_conservation.ensures in
    runs_gone g.C.Calls id s t way
    (answered_gone id c.args.self.now s.cpu e.rising e.lock e.low k.lock_lawful k.low_lawful h) not runs
