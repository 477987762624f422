use Rattle.std.proofs.Common.{◌≡◌, ◌+◌, ◌-◌, drop, filter, Some, sym, ap, ◌∙◌, arith}
use Rattle.cyc_agreement.specs.Cpus.{numbers_from}
use Rattle.cyc_agreement.specs.Destination.{is_not}
use Rattle.cyc_agreement.proofs.Choices.{is_not_source, source_not_among, offline_not_among, best_taken, best_kept}
use Rattle.cyc_agreement.proofs.cpus.Cpus.destination.Goals as goal
use Rattle.cyc_agreement.proofs.cpus.Cpus.destination.Goals.{else-is_online-via-then-is_online+else-ne}
use Rattle.cyc_agreement.proofs.cpus.Cpus.destination.Goals.{else-is_online-via-else-is_online}

pub loop-number-preserved-then-ne : goal.loop-number-preserved-then-ne
loop-number-preserved-then-ne g c =
    let v = c.args.self.now in let source = c.args.source in let k = c.loop-number.number in
    let fit = sym (is_not_source source (k - 1)) ∙ sym c.ne.ensures ∙ c.if-ne.true in
    record {
      best = best_taken source v (k - 1) k c.fewer.result c.loop-number.best (omega arith)
          (c.is_online.ensures ∙ ap Some c.if-is_online.true)
          fit c.loop-number.invariant.best c.fewer.ensures.fewer;
      here = c.fewer.ensures.within;
    }

pub loop-number-preserved : goal.loop-number-preserved
loop-number-preserved g c =
    let v = c.args.self.now in let source = c.args.source in let k = c.loop-number.number in
    let among = elim c.else-is_online.branch as (λ w. filter (is_not source) (numbers_from (k - 1) (drop (k - 1) v.online))
    ≡ filter (is_not source) (numbers_from (k - 1 + 1) (drop (k - 1 + 1) v.online))) [
      | else-is_online-via-then-is_online+else-ne w ↦ source_not_among source v.online (k - 1)
          (c.is_online.ensures ∙ ap Some w.if-is_online.true)
          (sym (is_not_source source (k - 1)) ∙ sym w.ne.ensures ∙ w.if-ne.false)
      | else-is_online-via-else-is_online w ↦ offline_not_among source v.online (k - 1)
          (c.is_online.ensures ∙ ap Some w.if-is_online.false)
    ] in
    record {
      best = best_kept source v (k - 1) k c.loop-number.best (omega arith) among c.loop-number.invariant.best;
      here = c.loop-number.invariant.here;
    }
