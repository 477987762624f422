use Rattle.std.proofs.Common.{ℕ, ◌+◌, ◌<◌, length, refl, sym, ap, ◌∙◌, arith}
use Rattle.cyc_places.specs.Places.{RecordsView}
use Rattle.cyc_agreement.specs.System.{is_leaving_here}
use Rattle.cyc_agreement.proofs.Spots.{get_some}
use Rattle.cyc_agreement.specs.Polling.{Polled, PollsOn}
use Rattle.cyc_agreement.proofs.Withdrawing.{owns_still}
use Rattle.cyc_agreement.proofs.Walking.{PollWalk, along, walk_start, walk_one, walk_none, walk_did, walk_left, ahead_has}
use Rattle.cyc_agreement.proofs.Walking.{ahead_removal}
use Rattle.cyc_agreement.proofs.One.{is_leaving_open, removal_there}
use Rattle.cyc_agreement.proofs.removing.poll_each.Goals as goal
use Rattle.cyc_agreement.proofs.removing.poll_each.Goals.{then-is_leaving_at, else-is_leaving_at}

pub loop-number-init : goal.loop-number-init
loop-number-init g c = walk_start _ _ _ _ _ _ c.args.cpus.now c.args.records.now.list c.requires.owns.own c.requires.owns.here

pub poll_at-requires-clause-owns : goal.poll_at-requires-clause-owns
poll_at-requires-clause-owns g c =
    owns_still c.args.id c.args.position c.args.cpus.now c.loop-number.cpus c.args.records.now.list c.loop-number.records.list
    c.requires.owns c.loop-number.invariant.withdraws

pub poll_at-requires-clause-open_here : goal.poll_at-requires-clause-open_here
poll_at-requires-clause-open_here g c =
    let u = c.loop-number.cpus in let n = c.loop-number.number in
    let low : n < length u.cpus = omega arith in
    let (x, at) = get_some u.cpus n low in
    removal_there u n x at ∙ is_leaving_open c.args.id x (sym (c.is_leaving_at.ensures x at) ∙ c.if-is_leaving_at.true)

pub loop-number-preserved : goal.loop-number-preserved
loop-number-preserved g c =
    let v = c.args.cpus.now in let u = c.loop-number.cpus in let n = c.loop-number.number in let rs = c.args.records.now.list in
    let ss = c.loop-number.records.list in
    let walk = c.loop-number.invariant in
    let low : n < length u.cpus = omega arith in
    let (x, at) = get_some u.cpus n low in
    elim c.if-is_leaving_at.branch [
      | then-is_leaving_at w ↦ along (λ (k : ℕ) y ts. PollWalk g.R.Raise c.args.id c.args.position
          (n + 1) v y rs ts)
          0 0 w.poll_at.new.cpus c.if-is_leaving_at.cpus w.poll_at.new.records.list c.if-is_leaving_at.records.list
          refl w.cpus-is (ap (λ (l : RecordsView). l.list) w.records-is)
          (walk_one (λ (p : Polled) s t. PollsOn g.R.Raise c.args.id p.cpu p.answer s t) (λ p. p.cpu) (λ p. 0)
          (is_leaving_here c.args.id) c.args.id c.args.position n 0 v u rs ss walk
          0 x w.poll_at.new.cpus w.poll_at.new.records.list at (sym (c.is_leaving_at.ensures x at) ∙ w.if-is_leaving_at.true)
          (λ last. (let (answer, on) = w.poll_at.ensures.did last in (record { cpu = n; answer = answer }, refl, refl, on)))
          w.poll_at.ensures.withdraws)
      | else-is_leaving_at w ↦ along (λ (k : ℕ) y ts. PollWalk g.R.Raise c.args.id c.args.position
          (n + 1) v y rs ts)
          0 0 u c.if-is_leaving_at.cpus ss c.if-is_leaving_at.records.list
          refl w.cpus-is (ap (λ (l : RecordsView). l.list) w.records-is)
          (walk_none (λ (p : Polled) s t. PollsOn g.R.Raise c.args.id p.cpu p.answer s t) (λ p. p.cpu)
          (λ p. 0)
          (is_leaving_here c.args.id) c.args.id c.args.position n 0 v u rs ss walk x at (sym (c.is_leaving_at.ensures x at)
          ∙ w.if-is_leaving_at.false)
          (λ h. ahead_removal _ _ _ _ _ _ n 0 v u rs ss walk
          ∙ c.requires.whole n (sym (ahead_has _ _ _ _ _ _ n 0 v u rs ss walk) ∙ h)))
    ]

pub returns-clause-did : goal.returns-clause-did
returns-clause-did g c last =
    let (way, cpus, works, sum) = walk_did _ _ _ _ _ _ c.loop-number.number 0 c.args.cpus.now c.loop-number.cpus
    c.args.records.now.list c.loop-number.records.list c.loop-number.invariant
    (let e = c.count-number-end.ensures.count in let l = c.loop-number.invariant.withdraws.long in omega arith) last in
    (way, cpus, works)

pub returns-clause-leaving : goal.returns-clause-leaving
returns-clause-leaving g c =
    walk_left _ _ _ _ _ _ c.loop-number.number 0 c.args.cpus.now c.loop-number.cpus c.args.records.now.list
    c.loop-number.records.list c.loop-number.invariant
    (let e = c.count-number-end.ensures.count in let l = c.loop-number.invariant.withdraws.long in omega arith)
