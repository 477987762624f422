use Rattle.std.proofs.Common.{[], ◌∷◌, length, ap, sym, subst, ◌∙◌, arith}
use Rattle.std.proofs.lemmas.List.{length-append}
use Rattle.cyc_system_model.specs.Kept.{LevelsAreNew}
use Rattle.cyc_replay.proofs.Start.{one_more_new}
use Rattle.cyc_replay.proofs.beginning.new_levels.Goals as goal

pub loop-preserved : goal.loop-preserved
loop-preserved c =
    let old = c.loop.ends.items in let e = c.in_ok-new_pair.field-0 in
    let long = length-append old (e ∷ []) in let was = c.loop.invariant.long in let room = c.loop.invariant.room in
    let pushed = c.push_reserved.ensures in let kept = pushed.capacity in
    record {
      long = ap length pushed.items ∙ omega (arith, long, was);
      room = omega (arith, room, kept);
      new = subst (LevelsAreNew c.args.ceiling) (sym pushed.items)
          (one_more_new c.args.ceiling old e c.loop.invariant.new c.in_ok-new_pair.ensures.lock c.in_ok-new_pair.ensures.low);
    }
