use Rattle.std.proofs.Common.{◌≡◌, true, Some, Ok, sym, ◌∙◌, subst}
use Rattle.std.proofs.lemmas.Option.{slice_get_within}
use Rattle.cyc_cpu.specs.Calls.{CpuChanges, PollRemove}
use Rattle.cyc_agreement.specs.Cpus.{OfCpu, with_cpu}
use Rattle.cyc_agreement.specs.System.{is_leaving_here}
use Rattle.cyc_agreement.specs.Holding.{Holds}
use Rattle.cyc_agreement.specs.Withdrawing.{system}
use Rattle.cyc_agreement.specs.Polling.{PollsRemoval}
use Rattle.cyc_agreement.proofs.One.{is_leaving_open}
use Rattle.cyc_agreement.proofs.Alone.{home_low, home_shut}
use Rattle.cyc_agreement.proofs.EndsAlone.{ends_at_last, holds_at_last, still_waits, holds_waiting}
use Rattle.cyc_agreement.proofs.Telling.{is_not_open}
use Rattle.cyc_agreement.proofs.removing_on.poll_on.Goals as goal

pub is_leaving_at-requires : goal.is_leaving_at-requires
is_leaving_at-requires g c = let (last, h) = c.requires.holds in
    home_low c.args.cpus.now c.args.records.now.list last c.args.id c.args.position c.args.number h.agrees c.law.ensures.rising
    c.requires.own

pub returns-then-not-is_leaving_at-clause-did : goal.returns-then-not-is_leaving_at-clause-did
returns-then-not-is_leaving_at-clause-did g c last =
    let v = c.args.cpus.now in let rs = c.args.records.now.list in let (first, h) = c.requires.holds in
    is_not_open g.R.Raise c.args.id (system v rs last)
    (home_shut g.R.Raise.view v rs first c.args.id c.args.position c.args.number h.agrees c.law.ensures.rising c.requires.own
    c.law-2.ensures c.is_leaving_at.result c.is_leaving_at.ensures c.if-not-is_leaving_at.true)

pub cpu_mut-requires : goal.cpu_mut-requires
cpu_mut-requires g c = let (last, h) = c.requires.holds in
    home_low c.args.cpus.now c.args.records.now.list last c.args.id c.args.position c.args.number h.agrees c.law.ensures.rising
    c.requires.own

pub remove-requires : goal.remove-requires
remove-requires g c = let (r, bound, is, named, home) = c.requires.own in
    slice_get_within c.args.records.now.list c.args.position r is

pub returns-in_default-clause-did : goal.returns-in_default-clause-did
returns-in_default-clause-did g c last =
    let v = c.args.cpus.now in let rs = c.args.records.now.list in let n = c.args.number in
    let (first, h) = c.requires.holds in let x = c.cpu_mut.result.now in
    let y = c.poll_remove-answer.new.self in let at = c.cpu_mut.ensures.cpu in
    let d = subst (λ r. CpuChanges g.R.Raise x (PollRemove r) y) c.in_default.is c.poll_remove-answer.ensures in
    let was_open : OfCpu n (λ cpu. true ≡ is_leaving_here c.args.id cpu) v = λ cpu there.
    (sym c.if-not-is_leaving_at.false ∙ c.is_leaving_at.ensures cpu there) in
    still_waits g.R.Raise v rs first c.args.id c.args.position n h c.law.ensures.rising c.law.ensures.all c.requires.own
    x y at (c.law-2.ensures n x at) c.law-3.ensures
    (is_leaving_open c.args.id x (sym (was_open x at))) c.law-2.ensures was_open d last

pub returns-in_default-clause-holds : goal.returns-in_default-clause-holds
returns-in_default-clause-holds g c last h =
    let v = c.args.cpus.now in let rs = c.args.records.now.list in let n = c.args.number in
    let x = c.cpu_mut.result.now in let y = c.poll_remove-answer.new.self in let at = c.cpu_mut.ensures.cpu in
    let d = subst (λ r. CpuChanges g.R.Raise x (PollRemove r) y) c.in_default.is c.poll_remove-answer.ensures in
    let was_open : OfCpu n (λ cpu. true ≡ is_leaving_here c.args.id cpu) v = λ cpu there.
    (sym c.if-not-is_leaving_at.false ∙ c.is_leaving_at.ensures cpu there) in
    holds_waiting g.R.Raise v rs last c.args.id c.args.position n h c.law.ensures.rising c.law.ensures.all c.requires.own
    x y at (c.law-2.ensures n x at) c.law-3.ensures
    (is_leaving_open c.args.id x (sym (was_open x at))) c.law-2.ensures was_open d

pub returns-clause-did : goal.returns-clause-did
returns-clause-did g c last =
    let v = c.args.cpus.now in let rs = c.args.records.now.list in let n = c.args.number in
    let (first, h) = c.requires.holds in let x = c.cpu_mut.result.now in
    let y = c.poll_remove-answer.new.self in let at = c.cpu_mut.ensures.cpu in
    let d = subst (λ r. CpuChanges g.R.Raise x (PollRemove r) y) c.in-Some.is c.poll_remove-answer.ensures in
    let was_open : OfCpu n (λ cpu. true ≡ is_leaving_here c.args.id cpu) v = λ cpu there.
    (sym c.if-not-is_leaving_at.false ∙ c.is_leaving_at.ensures cpu there) in
    subst (λ l. PollsRemoval g.R.Raise c.args.id (Ok (Some c.in-Some.receipt)) (system v rs last)
    (system (with_cpu v n y) l last)) (sym c.remove.ensures)
    (ends_at_last g.R.Raise v rs first c.args.id c.args.position n h c.law.ensures.rising c.law.ensures.all c.requires.own
    x y at (c.law-2.ensures n x at) c.law-3.ensures
    (is_leaving_open c.args.id x (sym (was_open x at))) c.law-2.ensures was_open c.in-Some.receipt d last)

pub returns-clause-holds : goal.returns-clause-holds
returns-clause-holds g c last h =
    let v = c.args.cpus.now in let rs = c.args.records.now.list in let n = c.args.number in
    let x = c.cpu_mut.result.now in let y = c.poll_remove-answer.new.self in let at = c.cpu_mut.ensures.cpu in
    let d = subst (λ r. CpuChanges g.R.Raise x (PollRemove r) y) c.in-Some.is c.poll_remove-answer.ensures in
    let was_open : OfCpu n (λ cpu. true ≡ is_leaving_here c.args.id cpu) v = λ cpu there.
    (sym c.if-not-is_leaving_at.false ∙ c.is_leaving_at.ensures cpu there) in
    subst (λ l. Holds (system (with_cpu v n y) l last)) (sym c.remove.ensures)
    (holds_at_last g.R.Raise v rs last c.args.id c.args.position n h c.law.ensures.rising c.law.ensures.all c.requires.own
    x y at (c.law-2.ensures n x at) c.law-3.ensures
    (is_leaving_open c.args.id x (sym (was_open x at))) c.law-2.ensures was_open c.in-Some.receipt d)
