use Rattle.std.proofs.lemmas.Option.{slice_get_within}
use Rattle.cyc_agreement.specs.Withdrawing.{system}
use Rattle.cyc_agreement.proofs.Alone.{unknown_shut}
use Rattle.cyc_agreement.proofs.Telling.{is_not_open}
use Rattle.cyc_agreement.proofs.removing.poll_remove.Goals as goal

pub returns-in_default-clause-did : goal.returns-in_default-clause-did
returns-in_default-clause-did g c last =
    let v = c.args.cpus.now in let rs = c.args.records.now.list in let (first, h) = c.requires in
    is_not_open g.R.Raise c.args.id (system v rs last)
    (unknown_shut g.R.Raise.view v rs first c.args.id h.agrees c.law.ensures c.in_default.ensures.none)

pub at-requires : goal.at-requires
at-requires g c = let (r, is, named) = c.in-Some.ensures.some in slice_get_within c.args.records.now.list c.in-Some.position r is
