use Rattle.std.proofs.Common.{◌≡◌, refl, sym, ap, ◌∙◌}
use Rattle.std.specs.List.{slice_get}
use Rattle.cyc_places.specs.declared.record.Record.{Record}
use Rattle.cyc_places.specs.Places.{ended_on}
use Rattle.cyc_agreement.specs.Cpus.{with_cpu}
use Rattle.cyc_agreement.proofs.Recording.{one_record}
use Rattle.cyc_agreement.proofs.Spots.{same_some}
use Rattle.cyc_system.proofs.Within.{within_taken}
use Rattle.std.proofs.lemmas.Option.{slice_get_within}
use Rattle.cyc_agreement.proofs.Shifts.{is_taken}
use Rattle.cyc_agreement.proofs.CpuSpots.{changed}
use Rattle.cyc_system.proofs.retiring.retire.Goals as goal

pub unreachable-requires-in_default-take_now : goal.unreachable-requires-in_default-take_now
unreachable-requires-in_default-take_now g c =
    is_taken g.R.Raise c.args.id c.cpu_mut.result.now c.take_now.new.self c.in_default-take_now.field-0
    (c.requires.leaves c.cpu_mut.result.now c.cpu_mut.ensures.cpu) c.in_default-take_now.ensures.did

pub add_ended-requires-clause-here : goal.add_ended-requires-clause-here
add_ended-requires-clause-here g c = let (r, is, named) = c.in-Some.ensures.some in
    slice_get_within c.args.records.now.list c.in-Some.position r is

pub returns-clause-did : goal.returns-clause-did
returns-clause-did g c last = let (r, is, named) = c.in-Some.ensures.some in (
  c.in-Ok.taken,
  changed c.args.source _ c.cpu_mut.result.now c.take_now.new.self c.args.cpus.now c.cpu_mut.ensures.cpu c.in-Ok.ensures.did,
  c.in-Some.position,
  r,
  is,
  named,
  c.add_ended.ensures r is,
  refl,
)

pub returns-clause-within : goal.returns-clause-within
returns-clause-within g c last h =
    let (r, is, named) = c.in-Some.ensures.some in let (k, q, at, own, fresh) = c.requires.record in
    let same : r ≡ q = same_some (sym is ∙ ap (λ j. slice_get c.args.records.now.list j)
    (one_record c.args.records.now.list k c.in-Some.position q r c.law.ensures.rising at is (named ∙ sym own)) ∙ at) in
    within_taken g.R.Raise c.args.source c.args.id last c.in-Ok.taken c.args.cpus.now
    (with_cpu c.args.cpus.now c.args.source c.take_now.new.self)
    c.args.records.now c.add_ended.new.self
    (record {
      before = c.cpu_mut.result.now;
      after = c.take_now.new.self;
      here = c.cpu_mut.ensures.cpu;
      change =
          c.in-Ok.ensures.did;
      rest = refl;
    })
    c.in-Ok.ensures.counts.1 c.in-Some.position r is (ap (λ (x : Record). ended_on c.args.source x) same ∙ fresh)
    (c.add_ended.ensures r is) h
