use Rattle.std.proofs.Common.{◌<◌, ◌++◌, ◌∷◌, [], Ok, Err, length, refl, sym, ap, ◌∙◌, subst, arith, get_or}
use Rattle.std.proofs.lemmas.Result.{err_from_is_err_and}
use Rattle.cyc_places.specs.declared.record.Record.{Record}
use Rattle.cyc_places.specs.declared.record.Placement.TheVariants.{Everywhere}
use Rattle.cyc_places.specs.Places.{new_record}
use Rattle.cyc_agreement.proofs.Who.{has_same}
use Rattle.cyc_agreement.proofs.Entering.{not_given, none_here, below_next}
use Rattle.cyc_agreement.proofs.FirstReason.{not_never, not_spent}
use Rattle.cyc_agreement.proofs.Spots.{seen}
use Rattle.cyc_agreement.proofs.Quiet.{quiet_reserves}
use Rattle.cyc_agreement.proofs.Added.{omni_full, omni_unrecorded, omni_done, holds_refused, holds_done}
use Rattle.cyc_agreement.proofs.adding.add_omni.Goals as goal

pub returns-in_err-reserve_each-clause-holds : goal.returns-in_err-reserve_each-clause-holds
returns-in_err-reserve_each-clause-holds g c =
    let p = err_from_is_err_and c.from_residual.result c.from_residual.ensures.1 in
    holds_refused g.R.Raise c.args.cpus.now c.args.records.now.list c.args.last c.requires.holds
    c.reserve_each.new.self c.args.records.now.list
    p.0 c.from_residual.result (Err c.in_err-reserve_each.field-0.0) p.1 refl c.in_err-reserve_each.ensures.did

pub returns-in_err-reserve-clause-holds : goal.returns-in_err-reserve-clause-holds
returns-in_err-reserve-clause-holds g c =
    let p = err_from_is_err_and c.from_residual-in_err-reserve.result c.from_residual-in_err-reserve.ensures.1 in
    holds_refused g.R.Raise c.args.cpus.now c.args.records.now.list c.args.last c.requires.holds
    c.reserve_each.new.self c.reserve.new.self.list
    p.0 c.from_residual-in_err-reserve.result (Ok tt) p.1 c.reserve.ensures.list c.in_ok-reserve_each.ensures.did

pub returns-in_err-reserve_each-clause-did : goal.returns-in_err-reserve_each-clause-did
returns-in_err-reserve_each-clause-did g c =
    let low = c.nanoseconds.ensures.valid in let a = c.nanoseconds.ensures.value in let b = c.nanoseconds-2.ensures.value in
    let never_is = c.if-nanoseconds.false in
    let valid = c.in-Some.ensures.valid in
    let p = err_from_is_err_and c.from_residual.result c.from_residual.ensures.1 in
    omni_full g.R.Raise c.args.level c.args.when c.args.skew c.args.now c.args.cpus.now
    c.args.records.now.list c.args.last
    (not_never c.args.now (omega (arith, low, a)) (λ e. absurd (omega (arith, never_is, a, b, e))))
    (not_spent (seen c.args.cpus.now c.args.records.now.list c.args.last) (valid.0 refl).1)
    c.reserve_each.new.self c.args.records.now.list c.in_err-reserve_each.field-0.0 c.from_residual.result
    (p.1 ∙ ap Err p.2) refl c.in_err-reserve_each.ensures.did

pub returns-in_err-reserve-clause-did : goal.returns-in_err-reserve-clause-did
returns-in_err-reserve-clause-did g c =
    let low = c.nanoseconds.ensures.valid in let a = c.nanoseconds.ensures.value in let b = c.nanoseconds-2.ensures.value in
    let never_is = c.if-nanoseconds.false in
    let valid = c.in-Some.ensures.valid in
    let p = err_from_is_err_and c.from_residual-in_err-reserve.result c.from_residual-in_err-reserve.ensures.1 in
    omni_unrecorded g.R.Raise c.args.level c.args.when c.args.skew c.args.now c.args.cpus.now
    c.args.records.now.list c.args.last
    (not_never c.args.now (omega (arith, low, a)) (λ e. absurd (omega (arith, never_is, a, b, e))))
    (not_spent (seen c.args.cpus.now c.args.records.now.list c.args.last) (valid.0 refl).1)
    c.reserve_each.new.self c.reserve.new.self.list p.0 c.from_residual-in_err-reserve.result p.1
    (p.2 ∙ c.in_err-reserve.ensures.err) c.reserve.ensures.list c.in_ok-reserve_each.ensures.did

pub enter_each-requires-clause-absent : goal.enter_each-requires-clause-absent
enter_each-requires-clause-absent g c n cpu at =
    let next = c.in-Some.ensures.value in
    let same = quiet_reserves g.R.Raise 1
    (Ok tt) c.args.cpus.now c.reserve_each.new.self c.in_ok-reserve_each.ensures.did in
    none_here c.reserve_each.new.self n c.in-Some.id cpu
    (λ h. not_given _ c.in-Some.id n c.requires.holds.agrees (omega (arith, next))
    (sym (has_same c.args.cpus.now c.reserve_each.new.self same n c.in-Some.id) ∙ h)) at

pub push-requires-clause-last : goal.push-requires-clause-last
push-requires-clause-last g c = let next = c.in-Some.ensures.value in
    subst (λ (rs : _). (k : _) (d : Record) → k < length rs → (get_or rs k d).id < c.in-Some.id) (sym c.reserve.ensures.list)
    (below_next _ c.in-Some.id c.requires.holds.agrees (omega (arith, next)))

pub returns-clause-did : goal.returns-clause-did
returns-clause-did g c =
    let low = c.nanoseconds.ensures.valid in let a = c.nanoseconds.ensures.value in let b = c.nanoseconds-2.ensures.value in
    let never_is = c.if-nanoseconds.false in
    let valid = c.in-Some.ensures.valid in
    omni_done g.R.Raise c.args.level c.args.when c.args.skew c.args.now c.args.cpus.now
    c.args.records.now.list c.args.last
    (not_never c.args.now (omega (arith, low, a)) (λ e. absurd (omega (arith, never_is, a, b, e))))
    (not_spent (seen c.args.cpus.now c.args.records.now.list c.args.last) (valid.0 refl).1)
    c.reserve_each.new.self c.enter_each.new.cpus c.push.new.self.list c.in-Some.id c.in-Some.ensures.value
    c.in_ok-reserve_each.ensures.did c.enter_each.ensures
    (c.push.ensures ∙ ap (λ rs. rs ++ new_record c.in-Some.id c.args.level (Everywhere c.args.when c.args.skew) ∷ [])
    c.reserve.ensures.list)

pub returns-clause-holds : goal.returns-clause-holds
returns-clause-holds g c = holds_done g.R.Raise c.args.cpus.now c.args.records.now.list c.args.last
    c.requires.holds c.law.ensures
    c.args.level c.args.when c.args.skew c.args.now c.reserve_each.new.self c.enter_each.new.cpus c.push.new.self.list
    c.in-Some.id c.in-Some.ensures.value c.in_ok-reserve_each.ensures.did c.enter_each.ensures
    (c.push.ensures ∙ ap (λ rs. rs ++ new_record c.in-Some.id c.args.level (Everywhere c.args.when c.args.skew) ∷ [])
    c.reserve.ensures.list)
