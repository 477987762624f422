use Rattle.std.proofs.Common.{Some, Ok, sym, ◌∙◌, subst}
use Rattle.std.proofs.lemmas.Option.{slice_get_within}
use Rattle.cyc_agreement.specs.Holding.{Holds}
use Rattle.cyc_agreement.specs.Withdrawing.{system}
use Rattle.cyc_agreement.specs.Polling.{PollsRemoval}
use Rattle.cyc_agreement.proofs.Withdrawing.{now_here}
use Rattle.cyc_agreement.proofs.Agreeing.{owned, holds_leaving, holds_left}
use Rattle.cyc_agreement.proofs.Where.{leaving_somewhere, left_all}
use Rattle.cyc_agreement.proofs.Telling.{poll_answered, poll_waits}
use Rattle.cyc_agreement.proofs.removing.poll_omni.Goals as goal

pub poll_each-requires-clause-whole : goal.poll_each-requires-clause-whole
poll_each-requires-clause-whole g c n h =
    let (m, here, is) = leaving_somewhere c.args.id c.args.cpus.now g.R.Raise.view c.law-2.ensures (sym c.is_leaving.ensures
    ∙ c.if-not-is_leaving.false) in
    c.requires.holds.1.whole m n c.args.id is h

pub returns-then-is_leaving-clause-did : goal.returns-then-is_leaving-clause-did
returns-then-is_leaving-clause-did g c last =
    let v = c.args.cpus.now in let w = c.poll_each.new.cpus in let rs = c.args.records.now.list in let ss =
    c.poll_each.new.records.list in
    let o = owned v rs c.requires.holds.0 c.args.id c.args.position c.requires.holds.1.agrees c.requires.own in
    let (m, here, is) = leaving_somewhere c.args.id w g.R.Raise.view c.law-3.ensures (sym c.is_leaving-2.ensures
    ∙ c.if-is_leaving.true) in
    poll_waits g.R.Raise c.args.id c.args.position v w rs ss last o c.poll_each.ensures.withdraws
    (sym c.is_leaving.ensures ∙ c.if-not-is_leaving.false) (c.poll_each.ensures.did last) m here

pub close-requires : goal.close-requires
close-requires g c =
    let v = c.args.cpus.now in let w = c.poll_each.new.cpus in let rs = c.args.records.now.list in let ss =
    c.poll_each.new.records.list in
    let d = c.poll_each.ensures.withdraws in
    slice_get_within ss c.args.position d.after (now_here c.args.id c.args.position v w rs ss d)

pub returns-clause-did : goal.returns-clause-did
returns-clause-did g c last =
    let v = c.args.cpus.now in let w = c.poll_each.new.cpus in let rs = c.args.records.now.list in let ss =
    c.poll_each.new.records.list in
    let o = owned v rs c.requires.holds.0 c.args.id c.args.position c.requires.holds.1.agrees c.requires.own in
    let none = left_all c.args.id w (sym c.is_leaving-2.ensures ∙ c.if-is_leaving.false) c.poll_each.ensures.leaving in
    subst (λ l. PollsRemoval g.R.Raise c.args.id (Ok (Some c.close.result)) (system v rs last)
    (system w l last)) (sym c.close.ensures.records)
    (poll_answered g.R.Raise c.args.id c.args.position v w rs ss last o c.poll_each.ensures.withdraws
    (sym c.is_leaving.ensures ∙ c.if-not-is_leaving.false)
    (c.poll_each.ensures.did last) c.close.result none c.close.ensures.receipt)

pub returns-then-is_leaving-clause-holds : goal.returns-then-is_leaving-clause-holds
returns-then-is_leaving-clause-holds g c last h =
    let v = c.args.cpus.now in let w = c.poll_each.new.cpus in let rs = c.args.records.now.list in let ss =
    c.poll_each.new.records.list in
    let o = owned v rs last c.args.id c.args.position h.agrees c.requires.own in
    let (m, here, is) = leaving_somewhere c.args.id w g.R.Raise.view c.law-3.ensures (sym c.is_leaving-2.ensures
    ∙ c.if-is_leaving.true) in
    holds_leaving v w rs ss last c.args.id c.args.position h c.law.ensures.rising o c.poll_each.ensures.withdraws
    c.poll_each.ensures.leaving m here is

pub returns-clause-holds : goal.returns-clause-holds
returns-clause-holds g c last h =
    let v = c.args.cpus.now in let w = c.poll_each.new.cpus in let rs = c.args.records.now.list in let ss =
    c.poll_each.new.records.list in
    let o = owned v rs last c.args.id c.args.position h.agrees c.requires.own in
    let none = left_all c.args.id w (sym c.is_leaving-2.ensures ∙ c.if-is_leaving.false) c.poll_each.ensures.leaving in
    subst (λ l. Holds (system w l last)) (sym c.close.ensures.records)
    (holds_left v w rs ss last c.args.id c.args.position h c.law.ensures.rising o c.poll_each.ensures.withdraws
    c.poll_each.ensures.leaving none)
