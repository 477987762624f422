use Rattle.std.proofs.Common.{◌∙◌, sym, ap, arith, length, filter}
use Rattle.std.proofs.lemmas.List.{take_all}
use Rattle.cyc_agreement.proofs.Spots.{get_some}
use Rattle.cyc_agreement.specs.Online.{is_staying}
use Rattle.cyc_agreement.proofs.Prefixes.{passing_count, passing_low}
use Rattle.cyc_system.proofs.returning.count_staying.Goals as goal
use Rattle.cyc_system.proofs.returning.count_staying.Goals.{then-is_staying, else-is_staying}

pub overflow_add-count : goal.overflow_add-count
overflow_add-count g c = let l = passing_low (is_staying c.args.cpus.now) c.loop-position.position c.args.records.now.list in
    let i = c.loop-position.invariant in let t = c.loop-position-test.true in let most = c.len-position-end.type_inv in
    omega (arith, l, i, t, most)

pub loop-position-preserved : goal.loop-position-preserved
loop-position-preserved g c =
    let p = is_staying c.args.cpus.now in
    let rs = c.args.records.now.list in
    let k = c.loop-position.position in
    let i = c.loop-position.invariant in
    let (r, at) = get_some rs k (let t = c.loop-position-test.true in let n = c.len-position-end.ensures in omega (
      arith,
      t,
      n,
    )) in
    elim c.if-is_staying.branch [
      | then-is_staying w ↦ (let e = passing_count p k rs r _ at (sym (c.is_staying.ensures r at) ∙ w.if-is_staying.true) in
          let d = w.count-is in omega (arith, e, i, d))
      | else-is_staying w ↦ (let e = passing_count p k rs r _ at (sym (c.is_staying.ensures r at) ∙ w.if-is_staying.false) in
          let d = w.count-is in omega (arith, e, i, d))
    ]

pub returns : goal.returns
returns g c = c.loop-position.invariant ∙ ap (λ rs. length (filter (is_staying c.args.cpus.now) rs))
    (take_all c.loop-position.position c.args.records.now.list
    (let n = c.len-position-end.ensures in omega arith))
