use Rattle.std.proofs.Common.{None, Ok, sym, ap, ◌∙◌, subst}
use Rattle.std.proofs.lemmas.Option.{slice_get_within}
use Rattle.cyc_types.specs.Reasons.{busy, or_else}
use Rattle.cyc_cpu.specs.Calls.{CpuChanges, BeginRemove}
use Rattle.cyc_agreement.specs.Cpus.{with_cpu}
use Rattle.cyc_agreement.specs.Holding.{Holds}
use Rattle.cyc_agreement.specs.Withdrawing.{system}
use Rattle.cyc_agreement.specs.Removing.{BeginsRemoval}
use Rattle.cyc_agreement.specs.declared.removing.SystemRemoval.TheVariants.{Done}
use Rattle.cyc_agreement.proofs.One.{is_none, is_begun, removal_there}
use Rattle.cyc_agreement.proofs.Presence.{cyclic_here}
use Rattle.cyc_agreement.proofs.Alone.{home_has, home_low, home_busy}
use Rattle.cyc_agreement.proofs.EndsAlone.{done_at_once, holds_at_once, stays_open, holds_kept}
use Rattle.cyc_agreement.proofs.Telling.{is_busy}
use Rattle.cyc_agreement.proofs.removing_on.begin_on.Goals as goal

pub cpu-requires : goal.cpu-requires
cpu-requires g c = let (last, h) = c.requires.holds in
    home_low c.args.cpus.now c.args.records.now.list last c.args.id c.args.position c.args.number h.agrees c.law.ensures.rising
    c.requires.own

pub returns-in-Some-clause-did : goal.returns-in-Some-clause-did
returns-in-Some-clause-did g c last =
    let v = c.args.cpus.now in let rs = c.args.records.now.list in let n = c.args.number in
    let (first, h) = c.requires.holds in let (r, bound, is, named, home) = c.requires.own in
    is_busy g.R.Raise c.args.id (system v rs last) c.args.position c.in-Some.removed c.law.ensures.rising (r, is, named)
    (home_busy v rs first c.args.id c.args.position n h.agrees c.law.ensures.rising c.requires.own
    ∙ ap (λ o. or_else (busy o) None) (removal_there v n c.cpu.result.now c.cpu.ensures ∙ sym c.removal.ensures ∙ c.in-Some.is))

pub cpu_mut-requires : goal.cpu_mut-requires
cpu_mut-requires g c = let (last, h) = c.requires.holds in
    home_low c.args.cpus.now c.args.records.now.list last c.args.id c.args.position c.args.number h.agrees c.law.ensures.rising
    c.requires.own

pub unreachable-requires : goal.unreachable-requires
unreachable-requires g c =
    let v = c.args.cpus.now in let rs = c.args.records.now.list in let n = c.args.number in let (last, h) = c.requires.holds in
    let x = c.cpu_mut.result.now in let y = c.begin_remove.new.self in
    let d = subst (λ r. CpuChanges g.R.Raise x (BeginRemove c.args.id r) y) c.in_default-begin_remove.is c.begin_remove.ensures in
    is_begun g.R.Raise c.args.id x y c.in_default-begin_remove.field-0 (sym (removal_there v n x c.cpu_mut.ensures.cpu)
    ∙ removal_there v n c.cpu.result.now c.cpu.ensures ∙ sym c.removal.ensures ∙ is_none c.removal.result c.in_default.not-Some)
    (cyclic_here v n c.args.id x
    (home_has v rs last c.args.id c.args.position n h.agrees c.law.ensures.rising c.requires.own) c.cpu_mut.ensures.cpu) d

pub remove-requires : goal.remove-requires
remove-requires g c = let (r, bound, is, named, home) = c.requires.own in
    slice_get_within c.args.records.now.list c.args.position r is

pub returns-in-Done-clause-did : goal.returns-in-Done-clause-did
returns-in-Done-clause-did g c last =
    let v = c.args.cpus.now in let rs = c.args.records.now.list in let n = c.args.number in let (first, h) = c.requires.holds in
    let x = c.cpu_mut.result.now in let y = c.begin_remove.new.self in let at = c.cpu_mut.ensures.cpu in
    let d = subst (λ r. CpuChanges g.R.Raise x (BeginRemove c.args.id r) y) (c.in-Ok.is ∙ ap Ok c.in-Done.is)
    c.begin_remove.ensures in
    subst (λ l. BeginsRemoval g.R.Raise c.args.id (Ok (Done c.in-Done.receipt)) (system v rs last)
    (system (with_cpu v n y) l last)) (sym c.remove.ensures)
    (done_at_once g.R.Raise v rs first c.args.id c.args.position n h c.law.ensures.rising c.law.ensures.all c.requires.own
    x y at (c.law-2.ensures n x at) c.law-3.ensures c.in-Done.receipt d last)

pub returns-in-Done-clause-holds : goal.returns-in-Done-clause-holds
returns-in-Done-clause-holds g c last h =
    let v = c.args.cpus.now in let rs = c.args.records.now.list in let n = c.args.number in
    let x = c.cpu_mut.result.now in let y = c.begin_remove.new.self in let at = c.cpu_mut.ensures.cpu in
    let d = subst (λ r. CpuChanges g.R.Raise x (BeginRemove c.args.id r) y) (c.in-Ok.is ∙ ap Ok c.in-Done.is)
    c.begin_remove.ensures in
    subst (λ l. Holds (system (with_cpu v n y) l last)) (sym c.remove.ensures)
    (holds_at_once g.R.Raise v rs last c.args.id c.args.position n h c.law.ensures.rising c.law.ensures.all c.requires.own
    x y at (c.law-2.ensures n x at) c.law-3.ensures c.in-Done.receipt d)

pub returns-in-Kept-clause-did : goal.returns-in-Kept-clause-did
returns-in-Kept-clause-did g c last =
    let v = c.args.cpus.now in let rs = c.args.records.now.list in let n = c.args.number in let (first, h) = c.requires.holds in
    let x = c.cpu_mut.result.now in let y = c.begin_remove.new.self in let at = c.cpu_mut.ensures.cpu in
    let d = subst (λ r. CpuChanges g.R.Raise x (BeginRemove c.args.id r) y) (c.in-Ok.is ∙ ap Ok c.in-Kept.is)
    c.begin_remove.ensures in
    stays_open g.R.Raise v rs first c.args.id c.args.position n h c.law.ensures.rising c.law.ensures.all c.requires.own
    x y at (c.law-2.ensures n x at) c.law-3.ensures c.in-Kept.kept d last c.from.result c.from.ensures

pub returns-in-Kept-clause-holds : goal.returns-in-Kept-clause-holds
returns-in-Kept-clause-holds g c last h =
    let v = c.args.cpus.now in let rs = c.args.records.now.list in let n = c.args.number in
    let x = c.cpu_mut.result.now in let y = c.begin_remove.new.self in let at = c.cpu_mut.ensures.cpu in
    let d = subst (λ r. CpuChanges g.R.Raise x (BeginRemove c.args.id r) y) (c.in-Ok.is ∙ ap Ok c.in-Kept.is)
    c.begin_remove.ensures in
    holds_kept g.R.Raise v rs last c.args.id c.args.position n h c.law.ensures.rising c.law.ensures.all c.requires.own
    x y at (c.law-2.ensures n x at) c.law-3.ensures c.in-Kept.kept d
