use Rattle.std.proofs.Common.{◌<◌, ◌≤◌, ◌+◌, sym, ap, ◌∙◌, subst, arith}
use Rattle.cyc_agreement.specs.Cpus.{CpusView}
use Rattle.cyc_agreement.proofs.Spots.{get_some}
use Rattle.cyc_agreement.proofs.Bringing.{Bringing, bringing_start, bringing_more, bringing_same, bringing_done, so_far, many}
use Rattle.cyc_agreement.proofs.Bringing.{old_at, now_at, still_staying, may_come}
use Rattle.cyc_system.proofs.returning.bring_all_back.Goals as goal
use Rattle.cyc_system.proofs.returning.bring_all_back.Goals.{then-is_staying, else-is_staying}

pub loop-position-init : goal.loop-position-init
loop-position-init g c = bringing_start g.R.Raise c.args.number c.args.now c.args.cpus.now
    c.args.records.now.list

pub is_staying-requires : goal.is_staying-requires
is_staying-requires g c = let e = many _ _ _ _ _ _ _ _ c.loop-position.invariant in
    let t = c.loop-position-test.true in let n = c.len-position-end.ensures in omega (arith, e, t, n)

pub bring_back-requires-clause-number : goal.bring_back-requires-clause-number
bring_back-requires-clause-number g c = let b = so_far _ _ _ _ _ _ _ _ c.loop-position.invariant in
    subst (λ n. c.args.number < n) (sym b.long) c.requires.number

pub bring_back-requires-clause-few : goal.bring_back-requires-clause-few
bring_back-requires-clause-few g c = let b = so_far _ _ _ _ _ _ _ _ c.loop-position.invariant in
    subst (λ n. n ≤ 16) (sym b.long) c.requires.few

pub bring_back-requires-clause-position : goal.bring_back-requires-clause-position
bring_back-requires-clause-position g c = let e = many _ _ _ _ _ _ _ _ c.loop-position.invariant in
    let t = c.loop-position-test.true in let n = c.len-position-end.ensures in omega (arith, e, t, n)

pub bring_back-requires-clause-fits : goal.bring_back-requires-clause-fits
bring_back-requires-clause-fits g c r is y there =
    let i = c.loop-position.invariant in
    let (x, at) = get_some c.args.cpus.now.cpus c.args.number c.requires.number in
    let old = old_at _ _ _ _ _ _ _ _ r i is in
    may_come _ _ _ _ _ x at _ _ _ r y i old
    (sym (still_staying _ _ _ _ _ x at _ _ _ i r) ∙ sym (c.is_staying.ensures r is) ∙ c.if-is_staying.true) there
    c.requires.rising c.requires.counts (c.requires.empty x at) (c.requires.room x at)
    (c.requires.within c.loop-position.position r old x at)

pub loop-position-preserved : goal.loop-position-preserved
loop-position-preserved g c =
    let v = c.args.cpus.now in
    let rs = c.args.records.now.list in
    let k = c.loop-position.position in
    let i = c.loop-position.invariant in
    let (x, at) = get_some c.args.cpus.now.cpus c.args.number c.requires.number in
    let (r, old) = get_some rs k (let t = c.loop-position-test.true in let n = c.len-position-end.ensures in omega (
      arith,
      t,
      n,
    )) in
    let is = now_at _ _ _ _ _ _ _ _ r i old in
    let same = sym (still_staying _ _ _ _ _ x at _ _ _ i r) ∙ sym (c.is_staying.ensures r is) in
    elim c.if-is_staying.branch [
      | then-is_staying w ↦ subst (λ (u : CpusView _). Bringing g.R.Raise c.args.number c.args.now v rs
          (k + 1) u c.if-is_staying.records.list) (sym w.cpus-is)
          (bringing_more g.R.Raise c.args.number c.args.now v rs k c.loop-position.cpus w.bring_back.new.cpus
          c.loop-position.records.list c.if-is_staying.records.list r i old
          (same ∙ w.if-is_staying.true) (w.bring_back.ensures.did r is) (ap (λ q. q.list) w.records-is
          ∙ w.bring_back.ensures.list r is))
      | else-is_staying w ↦ subst (λ (u : CpusView _). Bringing g.R.Raise c.args.number c.args.now v rs
          (k + 1) u c.if-is_staying.records.list) (sym w.cpus-is)
          (subst (λ l. Bringing g.R.Raise c.args.number c.args.now v rs (k + 1) c.loop-position.cpus l)
          (sym (ap (λ q. q.list) w.records-is))
          (bringing_same g.R.Raise c.args.number c.args.now v rs k c.loop-position.cpus c.loop-position.records.list
          r i old (same ∙ w.if-is_staying.false)))
    ]

pub returns-clause-did : goal.returns-clause-did
returns-clause-did g c = (bringing_done _ _ _ _ _ _ _ _
    (let n = c.len-position-end.ensures in omega arith) c.loop-position.invariant).0

pub returns-clause-list : goal.returns-clause-list
returns-clause-list g c = (bringing_done _ _ _ _ _ _ _ _
    (let n = c.len-position-end.ensures in omega arith) c.loop-position.invariant).1
