use Rattle.std.proofs.Common.{◌≤◌, sym, ap, ◌∙◌, subst}
use Rattle.cyc_types.specs.declared.firing.Sent.{Sent}
use Rattle.cyc_places.specs.Places.{is_everywhere}
use Rattle.cyc_agreement.proofs.Lists.{false_true}
use Rattle.cyc_agreement.proofs.Spots.{same_some}
use Rattle.cyc_agreement.proofs.Returned.{one_back}
use Rattle.cyc_system.proofs.returning.bring_back.Goals as goal

pub unreachable-requires : goal.unreachable-requires
unreachable-requires g c = false_true (sym (ap is_everywhere c.in_default.is)
    ∙ c.requires.everywhere c.at.result.now c.at.ensures)

pub place-requires-clause-absent : goal.place-requires-clause-absent
place-requires-clause-absent g c = (c.requires.fits c.at.result.now c.at.ensures c.cpu_mut.result.now
    c.cpu_mut.ensures.cpu).absent

pub place-requires-clause-free : goal.place-requires-clause-free
place-requires-clause-free g c = (c.requires.fits c.at.result.now c.at.ensures c.cpu_mut.result.now c.cpu_mut.ensures.cpu).free

pub place-requires-clause-lost : goal.place-requires-clause-lost
place-requires-clause-lost g c = subst (λ (s : Sent). s.lost ≤ s.sent)
    (sym (c.take_ended-counts.ensures.counts c.at.result.now c.at.ensures))
    (c.requires.fits c.at.result.now c.at.ensures c.cpu_mut.result.now c.cpu_mut.ensures.cpu).lost

pub place-requires-clause-most : goal.place-requires-clause-most
place-requires-clause-most g c = subst (λ (s : Sent). s.sent ≤ c.cpu_mut.result.now.most)
    (sym (c.take_ended-counts.ensures.counts c.at.result.now c.at.ensures))
    (c.requires.fits c.at.result.now c.at.ensures c.cpu_mut.result.now c.cpu_mut.ensures.cpu).most

pub returns-clause-did : goal.returns-clause-did
returns-clause-did g c r at =
    one_back g.R.Raise c.args.number c.args.now r c.at.result.now c.in-Everywhere.when c.in-Everywhere.skew
    c.component_first-first.result c.take_ended-counts.result
    c.args.cpus.now c.cpu_mut.result.now c.place.new.self
    (same_some (sym at ∙ c.at.ensures)) c.in-Everywhere.is c.cpu_mut.ensures.cpu
    c.component_first-first.ensures (c.take_ended-counts.ensures.counts c.at.result.now c.at.ensures) c.place.ensures
