use Rattle.std.proofs.Common.{◌+◌, length, Some, sym, ap, ◌∙◌, subst, arith}
use Rattle.cyc_types.specs.declared.moment.When.{When}
use Rattle.cyc_agreement.specs.Cpus.{Works}
use Rattle.cyc_agreement.specs.Adding.{entering}
use Rattle.cyc_agreement.proofs.Entries.{Entries, entries_start, entries_one, entries_none, entries_done}
use Rattle.cyc_agreement.proofs.adding.enter_each.Goals as goal
use Rattle.cyc_agreement.proofs.adding.enter_each.Goals.{then-is_online, else-is_online}

pub loop-number-init : goal.loop-number-init
loop-number-init g c = entries_start _ _ _ _ _ _ c.args.cpus.now
    (let a = c.count-number-end.ensures in omega arith) c.requires.room c.requires.absent

pub loop-number-preserved : goal.loop-number-preserved
loop-number-preserved g c =
    let v = c.args.cpus.now in
    let u = c.loop-number.cpus in
    let n = c.loop-number.number in
    let r = c.loop-number.invariant in
    let series : When = record { start = c.args.start; interval = c.args.interval } in
    elim c.if-is_online.branch [
      | then-is_online w ↦ subst (λ x. Entries g.R.Raise c.args.id c.args.level series c.args.skew c.args.now
          v (n + 1) x) (sym w.cpus-is)
          (entries_one g.R.Raise c.args.id c.args.level series c.args.skew c.args.now v u w.enter.new.cpus n r
          (c.is_online.ensures ∙ ap Some w.if-is_online.true)
          (subst (λ m. Works g.R.Raise
          (entering n c.args.id c.args.level c.args.interval m) u w.enter.new.cpus)
          w.component_first-first.ensures w.enter.ensures))
      | else-is_online w ↦ subst (λ x. Entries g.R.Raise c.args.id c.args.level series c.args.skew c.args.now
          v (n + 1) x) (sym w.cpus-is)
          (entries_none g.R.Raise c.args.id c.args.level series c.args.skew c.args.now v u n r
          (c.is_online.ensures ∙ ap Some w.if-is_online.false))
    ]

pub returns : goal.returns
returns g c = entries_done _ _ _ _ _ _ c.args.cpus.now c.loop-number.cpus c.loop-number.number
    (let a = ap length c.loop-number.invariant.online in let b = c.count-number-end.ensures.online in
    omega arith) c.loop-number.invariant
