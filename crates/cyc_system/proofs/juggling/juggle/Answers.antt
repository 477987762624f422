use Rattle.std.proofs.Common.{Err, inl, inr, refl, ap, ◌∙◌}
use Rattle.std.proofs.lemmas.Result.{err_from_is_err_and}
use Rattle.cyc_system.proofs.juggling.juggle.Goals as goal

pub returns-in_err-may_leave-clause-did : goal.returns-in_err-may_leave-clause-did
returns-in_err-may_leave-clause-did g c last =
    let e = err_from_is_err_and c.from_residual.result c.from_residual.ensures.1 in
    inl (c.in_err-may_leave.field-0.0, c.in_err-may_leave.ensures.err c.args.records.now last, e.1 ∙ ap Err e.2, refl)

pub returns-clause-did : goal.returns-clause-did
returns-clause-did g c last = inr (
  c.in_ok-may_leave.ensures.ok c.args.records.now last,
  (c.move_away.result, refl, c.move_away.ensures.did last),
)
