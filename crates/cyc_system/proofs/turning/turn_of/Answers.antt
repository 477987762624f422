use Rattle.std.proofs.Common.{refl, ap, ◌∙◌}
use Rattle.cyc_places.specs.declared.record.Placement.TheVariants.{On}
use Rattle.cyc_agreement.specs.System.{is_everywhere}
use Rattle.cyc_agreement.proofs.Recording.{record_read}
use Rattle.cyc_system.specs.Juggling.{system_of}
use Rattle.cyc_system.proofs.Here.{omni_is, home_of}
use Rattle.cyc_system.proofs.turning.turn_of.Goals as goal

pub returns-then-bound-clause-did : goal.returns-then-bound-clause-did
returns-then-bound-clause-did g c last =
    let (first, a) = c.requires.agrees in let q = c.at.result.now in let k = c.in-Some.position in
    let s = system_of c.args.cpus.now c.args.records.now first in
    let (named, known) = record_read c.args.id k q c.args.records.now.list c.law.ensures.rising c.in-Some.ensures.some
    c.at.ensures in
    let placement = home_of s c.args.source c.args.id k c.in-On.cpu c.in-On.bound q a c.law.ensures.rising c.at.ensures named
    c.requires.here c.in-On.is in (
      omni_is s c.args.id k q c.law.ensures.rising c.at.ensures named
          ∙ ap is_everywhere placement,
      ((k, q, c.at.ensures, named, placement ∙ ap (λ b. On c.args.source b) c.if-bound.true), refl),
    )

pub returns-else-bound-clause-did : goal.returns-else-bound-clause-did
returns-else-bound-clause-did g c last =
    let (first, a) = c.requires.agrees in let q = c.at.result.now in let k = c.in-Some.position in
    let s = system_of c.args.cpus.now c.args.records.now first in
    let (named, known) = record_read c.args.id k q c.args.records.now.list c.law.ensures.rising c.in-Some.ensures.some
    c.at.ensures in
    (omni_is s c.args.id k q c.law.ensures.rising c.at.ensures named ∙ ap is_everywhere c.in-On.is, c.go.ensures.did last)

pub returns-in-Everywhere-clause-did : goal.returns-in-Everywhere-clause-did
returns-in-Everywhere-clause-did g c last =
    let (first, a) = c.requires.agrees in let q = c.at.result.now in let k = c.in-Some.position in
    let s = system_of c.args.cpus.now c.args.records.now first in
    let (named, known) = record_read c.args.id k q c.args.records.now.list c.law.ensures.rising c.in-Some.ensures.some
    c.at.ensures in
    (omni_is s c.args.id k q c.law.ensures.rising c.at.ensures named ∙ ap is_everywhere c.in-Everywhere.is, refl)
