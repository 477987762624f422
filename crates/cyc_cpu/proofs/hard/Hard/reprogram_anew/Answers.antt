use Rattle.std.proofs.Common.{Ok, ap, sym, ◌∙◌, subst, refl, inl}
use Rattle.cyc_timers.specs.Rows.{TableView}
use Rattle.cyc_timers.specs.Ends.{IsHard, lock_and_low}
use Rattle.cyc_cpu.specs.Calls.{Reprogram}
use Rattle.cyc_cpu.specs.Cpu.{CpuView, HasNoCyclic}
use Rattle.cyc_cpu.proofs.Cyclics.{no_cyclic, changes_from}
use Rattle.cyc_cpu.proofs.Reprogramming.{over, hard_reprogrammed, reprogrammed}
use Rattle.cyc_cpu.proofs.hard.Hard.reprogram_anew.Goals as goal

pub invariant_of-self : goal.invariant_of-self
invariant_of-self g c = let i = c.self.inside in
    hard_reprogrammed g.R.Raise i.removal i.most i.lock i.low c.seek.new.self c.reprogram.new.self c.args.id c.in-Some.index
    c.args.moment c.in-Some.ensures.some (λ q. c.requires (sym (ap (λ (v : CpuView _). v.removal) c.self.view_is) ∙ q))
    c.reprogram.ensures.rows c.reprogram.ensures.size
    (subst (λ (t : TableView). IsHard g.R.Raise.view t.size i.most i.removal (lock_and_low i.lock i.low) t.rows) (sym
    c.seek.ensures.same)
    c.self.invariant)

pub returns-in-Some-clause-here : goal.returns-in-Some-clause-here
returns-in-Some-clause-here g c = let i = c.self.inside in
    let v = ap (over i.removal i.most i.suspended i.lock i.low) c.seek.ensures.same ∙ c.self.view_is in
    changes_from g.R.Raise (Reprogram c.args.id c.args.moment (Ok tt)) _ _
    (over i.removal i.most i.suspended i.lock i.low c.reprogram.new.self) v
    (reprogrammed g.R.Raise i.removal i.most i.lock i.low c.seek.new.self c.reprogram.new.self c.args.id c.in-Some.index
    c.args.moment c.in-Some.ensures.some (λ q. c.requires (sym (ap (λ (v : CpuView _). v.removal) c.self.view_is) ∙ q))
    c.reprogram.ensures.rows c.reprogram.ensures.size i.suspended c.reprogram.ensures.room)

pub returns-in-None-clause-none : goal.returns-in-None-clause-none
returns-in-None-clause-none g c =
    let i = c.self.inside in
    let v = ap (over i.removal i.most i.suspended i.lock i.low) c.seek.ensures.same ∙ c.self.view_is in (
      refl,
      inl (subst (λ (x : CpuView _). HasNoCyclic c.args.id x.cyclics) v
          (no_cyclic c.args.id c.seek.new.self.rows c.in-None.ensures.none)),
      v,
    )
