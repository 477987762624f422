use Rattle.std.proofs.Common.{◌<◌, ◌||◌, sym, ap, ◌∙◌, arith, length, get_or}
use Rattle.std.proofs.lemmas.Option.{get_or_from_slice_get}
use Rattle.std.proofs.lemmas.List.Folds.{list_any_more}
use Rattle.cyc_agreement.specs.System.{is_leaving_here}
use Rattle.cyc_agreement.proofs.Spots.{get_some}
use Rattle.cyc_agreement.proofs.Lists.{any_at}
use Rattle.cyc_agreement.proofs.finding.is_leaving.Goals as goal

pub returns-then-is_leaving_at : goal.returns-then-is_leaving_at
returns-then-is_leaving_at g c =
    let v = c.args.cpus.now in
    let low : c.loop-number.number < length v.cpus = omega arith in
    let (x, at) = get_some v.cpus c.loop-number.number low in
    sym (any_at (is_leaving_here c.args.id) v.cpus c.loop-number.number x low
    (ap (is_leaving_here c.args.id) (get_or_from_slice_get v.cpus c.loop-number.number x x at)
    ∙ sym (c.is_leaving_at.ensures x at) ∙ c.if-is_leaving_at.true))

pub loop-number-preserved : goal.loop-number-preserved
loop-number-preserved g c =
    let v = c.args.cpus.now in
    let low : c.loop-number.number < length v.cpus = omega arith in
    let (x, at) = get_some v.cpus c.loop-number.number low in
    list_any_more (is_leaving_here c.args.id) v.cpus c.loop-number.number x low
    ∙ ap (λ b. b || is_leaving_here c.args.id (get_or v.cpus c.loop-number.number x)) c.loop-number.invariant
    ∙ ap (is_leaving_here c.args.id) (get_or_from_slice_get v.cpus c.loop-number.number x x at)
    ∙ sym (c.is_leaving_at.ensures x at) ∙ c.if-is_leaving_at.false
