use Rattle.std.proofs.Common.{Ok, option_map, sym, ap, ◌∙◌, subst}
use Rattle.std.proofs.lemmas.Option.{slice_get_within}
use Rattle.cyc_types.specs.declared.refusal.Refusal.TheVariants.{Busy}
use Rattle.cyc_agreement.specs.Holding.{Holds}
use Rattle.cyc_agreement.specs.Withdrawing.{system}
use Rattle.cyc_agreement.specs.Removing.{BeginsRemoval}
use Rattle.cyc_agreement.specs.declared.removing.SystemRemoval.TheVariants.{Done}
use Rattle.cyc_agreement.proofs.One.{is_none}
use Rattle.cyc_agreement.proofs.Withdrawing.{now_here}
use Rattle.cyc_agreement.proofs.Agreeing.{owned, holds_leaving, holds_left}
use Rattle.cyc_agreement.proofs.Where.{leaving_somewhere, left_all}
use Rattle.cyc_agreement.proofs.Telling.{is_busy, removal_done, removal_kept}
use Rattle.cyc_agreement.proofs.removing.begin_omni.Goals as goal

pub returns-in-Some-clause-did : goal.returns-in-Some-clause-did
returns-in-Some-clause-did g c last =
    is_busy g.R.Raise c.args.id (system c.args.cpus.now c.args.records.now.list last) c.args.position
    c.in-Some.removed c.law.ensures.rising c.requires.own
    (c.open_removal.ensures.first c.args.records.now.list last ∙ ap (λ o. option_map (λ r. Busy r) o) c.in-Some.is)

pub returns-then-is_leaving-clause-did : goal.returns-then-is_leaving-clause-did
returns-then-is_leaving-clause-did g c last =
    let v = c.args.cpus.now in let w = c.begin_each-kept.new.cpus in let rs = c.args.records.now.list in let ss =
    c.begin_each-kept.new.records.list in
    let o = owned v rs c.requires.holds.0 c.args.id c.args.position c.requires.holds.1.agrees c.requires.own in
    let (m, here, is) = leaving_somewhere c.args.id w g.R.Raise.view c.law-2.ensures (sym c.is_leaving.ensures
    ∙ c.if-is_leaving.true) in
    let (way, cpus, works, sum) = c.begin_each-kept.ensures.did last in
    removal_kept g.R.Raise c.args.id c.args.position v w rs ss last o c.begin_each-kept.ensures.withdraws
    c.law.ensures.rising
    (c.open_removal.ensures.first rs last ∙ ap (λ o. option_map (λ r. Busy r) o)
    (is_none c.open_removal.result c.in_default.not-Some))
    (way, cpus, works) m c.begin_each-kept.result here sum

pub close-requires : goal.close-requires
close-requires g c =
    let v = c.args.cpus.now in let w = c.begin_each-kept.new.cpus in let rs = c.args.records.now.list in let ss =
    c.begin_each-kept.new.records.list in
    let d = c.begin_each-kept.ensures.withdraws in
    slice_get_within ss c.args.position d.after (now_here c.args.id c.args.position v w rs ss d)

pub returns-clause-did : goal.returns-clause-did
returns-clause-did g c last =
    let v = c.args.cpus.now in let w = c.begin_each-kept.new.cpus in let rs = c.args.records.now.list in let ss =
    c.begin_each-kept.new.records.list in
    let o = owned v rs c.requires.holds.0 c.args.id c.args.position c.requires.holds.1.agrees c.requires.own in
    let none = left_all c.args.id w (sym c.is_leaving.ensures ∙ c.if-is_leaving.false) c.begin_each-kept.ensures.leaving in
    let (way, cpus, works, sum) = c.begin_each-kept.ensures.did last in
    subst (λ l. BeginsRemoval g.R.Raise c.args.id (Ok (Done c.close.result)) (system v rs last)
    (system w l last)) (sym c.close.ensures.records)
    (removal_done g.R.Raise c.args.id c.args.position v w rs ss last o c.begin_each-kept.ensures.withdraws
    c.law.ensures.rising
    (c.open_removal.ensures.first rs last ∙ ap (λ o. option_map (λ r. Busy r) o)
    (is_none c.open_removal.result c.in_default.not-Some))
    (way, cpus, works) c.close.result none c.close.ensures.receipt)

pub returns-then-is_leaving-clause-holds : goal.returns-then-is_leaving-clause-holds
returns-then-is_leaving-clause-holds g c last h =
    let v = c.args.cpus.now in let w = c.begin_each-kept.new.cpus in let rs = c.args.records.now.list in let ss =
    c.begin_each-kept.new.records.list in
    let o = owned v rs last c.args.id c.args.position h.agrees c.requires.own in
    let (m, here, is) = leaving_somewhere c.args.id w g.R.Raise.view c.law-2.ensures (sym c.is_leaving.ensures
    ∙ c.if-is_leaving.true) in
    holds_leaving v w rs ss last c.args.id c.args.position h c.law.ensures.rising o c.begin_each-kept.ensures.withdraws
    c.begin_each-kept.ensures.leaving m here is

pub returns-clause-holds : goal.returns-clause-holds
returns-clause-holds g c last h =
    let v = c.args.cpus.now in let w = c.begin_each-kept.new.cpus in let rs = c.args.records.now.list in let ss =
    c.begin_each-kept.new.records.list in
    let o = owned v rs last c.args.id c.args.position h.agrees c.requires.own in
    let none = left_all c.args.id w (sym c.is_leaving.ensures ∙ c.if-is_leaving.false) c.begin_each-kept.ensures.leaving in
    subst (λ l. Holds (system w l last)) (sym c.close.ensures.records)
    (holds_left v w rs ss last c.args.id c.args.position h c.law.ensures.rising o c.begin_each-kept.ensures.withdraws
    c.begin_each-kept.ensures.leaving none)
