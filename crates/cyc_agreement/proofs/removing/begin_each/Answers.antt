use Rattle.std.proofs.Common.{◌+◌, ◌==◌, refl, sym, ap, ◌∙◌, arith}
use Rattle.std.specs.List.{list_any}
use Rattle.cyc_agreement.specs.System.{ids_of}
use Rattle.cyc_agreement.proofs.Lists.{false_true}
use Rattle.cyc_agreement.proofs.Presence.{has_is}
use Rattle.cyc_agreement.specs.Removing.{Begun, BeginsOn, kept_in}
use Rattle.cyc_agreement.proofs.Withdrawing.{owns_still}
use Rattle.cyc_places.specs.Places.{RecordsView}
use Rattle.cyc_agreement.proofs.Walking.{BeginWalk, along, walk_start, walk_one, walk_none, walk_did, walk_left, ahead_has}
use Rattle.cyc_agreement.proofs.Walking.{ahead_removal}
use Rattle.cyc_agreement.proofs.Opening.{tested}
use Rattle.cyc_agreement.proofs.removing.begin_each.Goals as goal
use Rattle.cyc_agreement.proofs.removing.begin_each.Goals.{then-has, else-has}

pub loop-number-init : goal.loop-number-init
loop-number-init g c = record {
  few = omega arith;
  walk = walk_start _ _ _ _ _ _ c.args.cpus.now c.args.records.now.list c.requires.owns.own c.requires.owns.here;
}

pub begin_at-kept-requires-clause-owns : goal.begin_at-kept-requires-clause-owns
begin_at-kept-requires-clause-owns g c =
    owns_still c.args.id c.args.position c.args.cpus.now c.loop-number.cpus c.args.records.now.list c.loop-number.records.list
    c.requires.owns c.loop-number.invariant.walk.withdraws

pub begin_at-kept-requires-clause-here : goal.begin_at-kept-requires-clause-here
begin_at-kept-requires-clause-here g c =
    sym (has_is c.loop-number.cpus c.loop-number.number c.args.id c.cpu.result.now c.has.result c.cpu.ensures c.has.ensures.here
    c.has.ensures.none) ∙ c.if-has.true

pub begin_at-kept-requires-clause-still : goal.begin_at-kept-requires-clause-still
begin_at-kept-requires-clause-still g c =
    let v = c.args.cpus.now in let w = c.loop-number.cpus in let n = c.loop-number.number in let rs = c.args.records.now.list in
    let ss = c.loop-number.records.list in
    let here = sym (has_is w n c.args.id c.cpu.result.now c.has.result c.cpu.ensures c.has.ensures.here c.has.ensures.none)
    ∙ c.if-has.true in
    ahead_removal _ _ _ _ _ _ n c.loop-number.kept v w rs ss c.loop-number.invariant.walk
    ∙ c.requires.still n (sym (ahead_has _ _ _ _ _ _ n c.loop-number.kept v w rs ss c.loop-number.invariant.walk) ∙ here)

pub loop-number-preserved : goal.loop-number-preserved
loop-number-preserved g c =
    let v = c.args.cpus.now in let u = c.loop-number.cpus in let n = c.loop-number.number in let rs = c.args.records.now.list in
    let ss = c.loop-number.records.list in
    let x = c.cpu.result.now in let at = c.cpu.ensures in
    let test = tested u n c.args.id x c.has.result at c.has.ensures.here c.has.ensures.none in
    let is = has_is u n c.args.id x c.has.result at c.has.ensures.here c.has.ensures.none in
    let few = c.loop-number.invariant.few in
    elim c.if-has.branch [
      | then-has w ↦ (let low = w.begin_at-kept.ensures.few in let e = w.kept-is in record {
        few = omega arith;
        walk = along (λ k y ts. BeginWalk g.R.Raise c.args.id c.args.position (n + 1) k v y rs ts)
            (c.loop-number.kept + w.begin_at-kept.result) c.if-has.kept w.begin_at-kept.new.cpus c.if-has.cpus
            w.begin_at-kept.new.records.list c.if-has.records.list
            w.kept-is w.cpus-is (ap (λ (l : RecordsView). l.list) w.records-is)
            (walk_one (λ (b : Begun) s t. BeginsOn g.R.Raise c.args.id b.cpu b.found s t) (λ b. b.cpu)
            (λ b. kept_in b.found)
            (λ cpu. list_any (λ own. own == c.args.id) (ids_of cpu)) c.args.id c.args.position n c.loop-number.kept v u rs ss
            c.loop-number.invariant.walk
            w.begin_at-kept.result x w.begin_at-kept.new.cpus w.begin_at-kept.new.records.list at (test ∙ w.if-has.true)
            (λ last. (let (found, is, on) = w.begin_at-kept.ensures.did last in
            (record { cpu = n; found = found }, refl, sym is, on)))
            w.begin_at-kept.ensures.withdraws);
      })
      | else-has w ↦ (let e = w.kept-is in record {
        few = omega arith;
        walk = along (λ k y ts. BeginWalk g.R.Raise c.args.id c.args.position (n + 1) k v y rs ts)
            c.loop-number.kept c.if-has.kept u c.if-has.cpus ss c.if-has.records.list
            w.kept-is w.cpus-is (ap (λ (l : RecordsView). l.list) w.records-is)
            (walk_none (λ (b : Begun) s t. BeginsOn g.R.Raise c.args.id b.cpu b.found s t) (λ b. b.cpu)
            (λ b. kept_in b.found)
            (λ cpu. list_any (λ own. own == c.args.id) (ids_of cpu)) c.args.id c.args.position n c.loop-number.kept v u rs ss
            c.loop-number.invariant.walk
            x at (test ∙ w.if-has.false) (λ h. absurd (false_true (sym w.if-has.false ∙ is ∙ h))));
      })
    ]

pub returns-clause-did : goal.returns-clause-did
returns-clause-did g c =
    walk_did _ _ _ _ _ _ c.loop-number.number c.loop-number.kept c.args.cpus.now c.loop-number.cpus c.args.records.now.list
    c.loop-number.records.list c.loop-number.invariant.walk
    (let e = c.count-number-end.ensures.count in let l = c.loop-number.invariant.walk.withdraws.long in omega arith)

pub returns-clause-leaving : goal.returns-clause-leaving
returns-clause-leaving g c =
    walk_left _ _ _ _ _ _ c.loop-number.number c.loop-number.kept c.args.cpus.now c.loop-number.cpus c.args.records.now.list
    c.loop-number.records.list c.loop-number.invariant.walk
    (let e = c.count-number-end.ensures.count in let l = c.loop-number.invariant.walk.withdraws.long in omega arith)
