use Rattle.std.proofs.Common.{refl, sym, subst, ◌∙◌}
use Rattle.std.proofs.lemmas.Option.{slice_get_read, same_Some}
use Rattle.cyc_cpu.specs.Cpu.{CpuView}
use Rattle.cyc_cpu.specs.Moving.{IsSettled}
use Rattle.cyc_workers.proofs.Asked.{get_set_same, if_none_then}
use Rattle.cyc_workers.proofs.settling.settle_at.Goals as goal

pub returns-clause-asked : goal.returns-clause-asked
returns-clause-asked g c = record {
  before = c.index_mut.result.now;
  after = c.settle.new.hard;
  here = slice_get_read c.args.all.now.items _ c.args.position c.index_mut.result.now refl c.requires c.index_mut.ensures.value;
  asked = c.settle.ensures.asked;
  rest = refl;
}

pub returns-clause-settled : goal.returns-clause-settled
returns-clause-settled g c = if_none_then c.settle.result _ _
    (λ s y at. subst (λ (x : CpuView _). IsSettled g.R.Raise.view x)
    (same_Some c.settle.new.hard y (sym (get_set_same c.args.all.now.items c.args.position c.settle.new.hard c.requires) ∙ at))
    s)
    c.settle.ensures.settled
