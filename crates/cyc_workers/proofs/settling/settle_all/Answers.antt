use Rattle.std.proofs.Common.{◌≡◌, Some, subst, arith}
use Rattle.std.specs.Prelude.{IfNone}
use Rattle.std.specs.List.{slice_get}
use Rattle.cyc_cpu.specs.Cpu.{CpuView}
use Rattle.cyc_cpu.specs.Moving.{IsSettled}
use Rattle.cyc_workers.proofs.Asked.{none_asked, asked_at, settled_at, settled_all}
use Rattle.cyc_workers.proofs.settling.settle_all.Goals as goal

pub loop-position-init : goal.loop-position-init
loop-position-init g c = record {
  asked = none_asked g.R.Raise c.args.all.now.items;
  settled = λ n y low at. absurd (omega (arith, low));
}

pub loop-position-preserved : goal.loop-position-preserved
loop-position-preserved g c = record {
  asked = asked_at g.R.Raise c.loop-position.position c.args.all.now.items c.loop-position.all.items
      c.settle_at.new.all.items c.loop-position.invariant.asked c.settle_at.ensures.asked;
  settled = settled_at g.R.Raise c.loop-position.position c.loop-position.all.items c.settle_at.new.all.items
      c.loop-position.invariant.settled c.settle_at.ensures.asked
      (subst (λ o. IfNone o ((y : CpuView _) → slice_get c.settle_at.new.all.items c.loop-position.position ≡ Some y
      → IsSettled g.R.Raise.view y)) c.in_default.is c.settle_at.ensures.settled);
}

pub returns-in-Some-clause-asked : goal.returns-in-Some-clause-asked
returns-in-Some-clause-asked g c = asked_at g.R.Raise c.loop-position.position c.args.all.now.items
    c.loop-position.all.items c.settle_at.new.all.items c.loop-position.invariant.asked c.settle_at.ensures.asked

pub returns-clause-settled : goal.returns-clause-settled
returns-clause-settled g c = let far = c.loop-position-test.false in let long = c.loop-position.invariant.asked.long in let r =
    c.requires in
    settled_all g.R.Raise c.loop-position.position c.loop-position.all.items
    (omega (arith, far, long, r)) c.loop-position.invariant.settled
