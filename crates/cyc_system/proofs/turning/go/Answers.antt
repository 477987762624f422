use Rattle.std.proofs.Common.{Ok, Err, refl, sym, ◌∙◌, subst}
use Rattle.std.proofs.lemmas.Option.{slice_get_within}
use Rattle.cyc_agreement.specs.Shifting.{move_of, Shifts}
use Rattle.cyc_agreement.specs.Agreement.{Agrees}
use Rattle.cyc_system.specs.Juggling.{system_of}
use Rattle.cyc_system.proofs.MayGo
use Rattle.cyc_system.proofs.turning.go.Goals as goal

pub shift-requires-clause-source : goal.shift-requires-clause-source
shift-requires-clause-source g c = let (r, is, named, placement) = c.requires.record in let (last, a) = c.requires.agrees in
    MayGo.low_source (system_of c.args.cpus.now c.args.records.now last) a c.law-2.ensures.rising c.args.source c.in-Some.target
    c.args.position r is placement (sym c.in-Some.ensures)

pub shift-requires-clause-target : goal.shift-requires-clause-target
shift-requires-clause-target g c = let (r, is, named, placement) = c.requires.record in let (last, a) = c.requires.agrees in
    MayGo.low_target (system_of c.args.cpus.now c.args.records.now last) a c.law-2.ensures.rising c.args.source c.in-Some.target
    c.args.position r is placement (sym c.in-Some.ensures)

pub shift-requires-clause-apart : goal.shift-requires-clause-apart
shift-requires-clause-apart g c = let (r, is, named, placement) = c.requires.record in let (last, a) = c.requires.agrees in
    MayGo.apart (system_of c.args.cpus.now c.args.records.now last) a c.law-2.ensures.rising c.args.source c.in-Some.target
    c.args.position r is placement (sym c.in-Some.ensures)

pub shift-requires-clause-here : goal.shift-requires-clause-here
shift-requires-clause-here g c cpu at = let (r, is, named, placement) = c.requires.record in let (last, a) = c.requires.agrees in
    let (k, x, there, same) = MayGo.here (system_of c.args.cpus.now c.args.records.now last) a c.law-2.ensures.rising
    c.args.source c.in-Some.target c.args.position r is placement (sym c.in-Some.ensures) cpu at in
    (k, x, there, same ∙ named)

pub shift-requires-clause-absent : goal.shift-requires-clause-absent
shift-requires-clause-absent g c cpu at k d low same = let (r, is, named, placement) = c.requires.record in let (last, a) =
    c.requires.agrees in
    MayGo.absent (system_of c.args.cpus.now c.args.records.now last) a c.law-2.ensures.rising c.args.source c.in-Some.target
    c.args.position r is placement (sym c.in-Some.ensures) cpu at k d low (same ∙ sym named)

pub shift-requires-clause-most : goal.shift-requires-clause-most
shift-requires-clause-most g c x p y q = let (r, is, named, placement) = c.requires.record in let (last, a) = c.requires.agrees in
    MayGo.most (system_of c.args.cpus.now c.args.records.now last) a c.law-2.ensures.rising c.args.source c.in-Some.target
    c.args.position r is placement (sym c.in-Some.ensures) x y p q

pub set_placement-requires : goal.set_placement-requires
set_placement-requires g c = let (r, is, named, placement) = c.requires.record in
    slice_get_within c.args.records.now.list c.args.position r is

pub returns-in-Ok-clause-agrees : goal.returns-in-Ok-clause-agrees
returns-in-Ok-clause-agrees g c last a = let (r, is, named, placement) = c.requires.record in
    let s = system_of c.args.cpus.now c.args.records.now last in
    let shifts = subst (λ i. Shifts g.R.Raise (move_of i c.args.source c.in-Some.target)
    (Ok tt) c.args.cpus.now c.shift.new.self) (sym named) c.in-Ok.ensures in
    subst (λ rs. Agrees (record { cpus = c.shift.new.self; records = rs; last = last })) (sym (c.set_placement.ensures r is))
    (MayGo.agrees_moved s a c.law-2.ensures.rising c.args.source c.in-Some.target c.args.position r is placement (sym
    c.in-Some.ensures)
    g.R.Raise c.law.ensures c.shift.new.self shifts)

pub returns-in-Pending-clause-agrees : goal.returns-in-Pending-clause-agrees
returns-in-Pending-clause-agrees g c last a = let (r, is, named, placement) = c.requires.record in
    let s = system_of c.args.cpus.now c.args.records.now last in
    let shifts = subst (λ i. Shifts g.R.Raise (move_of i c.args.source c.in-Some.target)
    (Err c.in-Err.why) c.args.cpus.now c.shift.new.self) (sym named) c.in-Err.ensures in
    MayGo.agrees_stayed s a c.law-2.ensures.rising c.args.source c.in-Some.target c.args.position r is placement (sym
    c.in-Some.ensures)
    g.R.Raise c.law.ensures c.shift.new.self c.in-Err.why shifts

pub returns-in_default-why : goal.returns-in_default-why
returns-in_default-why g c = let (r, is, named, placement) = c.requires.record in
    record {
      did = λ last. (
        (c.args.position, r, is, named, placement),
        c.in-Some.target,
        sym c.in-Some.ensures,
        c.in-Err.why,
        (
          MayGo.refused g.R.Raise c.args.id c.args.source c.in-Some.target c.args.cpus.now c.shift.new.self
              c.in-Err.why c.requires.still c.in_default-why.not-Pending c.in-Err.ensures,
          refl {a = c.args.records.now.list},
          refl {a = last},
        ),
      );
      agrees = λ last a.
          (let s = system_of c.args.cpus.now c.args.records.now last in
          let shifts = subst (λ i. Shifts g.R.Raise (move_of i c.args.source c.in-Some.target)
          (Err c.in-Err.why) c.args.cpus.now c.shift.new.self) (sym named) c.in-Err.ensures in
          MayGo.agrees_stayed s a c.law-2.ensures.rising c.args.source c.in-Some.target c.args.position r is placement
          (sym c.in-Some.ensures)
          g.R.Raise c.law.ensures c.shift.new.self c.in-Err.why shifts);
    }
