use Rattle.std.proofs.Common.{refl, sym, ap, subst}
use Rattle.cyc_cpu.specs.Cpu.{CpuView}
use Rattle.cyc_border.specs.Pair.{IsNewPair}
use Rattle.cyc_border.specs.declared.held.HeldEnd.{HeldEnd}
use Rattle.cyc_border.proofs.pair.opened.Goals as goal

pub returns-clause-ok : goal.returns-clause-ok
returns-clause-ok c =
    let made = c.in_ok-hard.ensures.ok in (
      subst (λ (v : CpuView HeldEnd). IsNewPair c.args.ceiling v.lock c.in_ok-lock.lock_soft) (sym made) c.in_ok-lock.ensures.ok,
      subst (λ (v : CpuView HeldEnd). IsNewPair c.args.ceiling v.low c.in_ok-low.low_soft) (sym made) c.in_ok-low.ensures.ok,
      ap (λ (v : CpuView HeldEnd). v.most) made,
      ap (λ (v : CpuView HeldEnd). v.suspended) made,
      refl,
    )
