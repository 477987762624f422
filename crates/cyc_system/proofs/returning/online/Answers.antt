use Rattle.std.proofs.Common.{◌≡◌, ◌≤◌, false, Some, Err, [], length, filter, refl, ap, ◌∙◌, subst, arith}
use Rattle.std.specs.Option.{option_map}
use Rattle.std.proofs.lemmas.Result.{err_from_is_err_and}
use Rattle.cyc_cpu.specs.Cpu.{CpuView, MayWiden}
use Rattle.cyc_agreement.specs.Cpus.{with_cpu}
use Rattle.cyc_agreement.proofs.CpuSpots.{one_cpu, cpu_there, of_cpu}
use Rattle.cyc_agreement.proofs.Presence.{online_read}
use Rattle.cyc_agreement.proofs.FirstReason.{not_never}
use Rattle.cyc_places.specs.Places.{ended_on}
use Rattle.cyc_agreement.specs.Online.{is_staying, switched_on}
use Rattle.cyc_agreement.proofs.Going.{empty, online_refused, holds_refused, empty_ready, most_ready, room_ready, at_ready}
use Rattle.cyc_agreement.proofs.Going.{low_after, online_done, holds_done}
use Rattle.cyc_system.proofs.returning.online.Goals as goal

pub returns-in_err-reserve-clause-did : goal.returns-in_err-reserve-clause-did
returns-in_err-reserve-clause-did g c last =
    let low = c.nanoseconds.ensures.valid in let a = c.nanoseconds.ensures.value in let b = c.nanoseconds-2.ensures.value in
    let never_is = c.if-nanoseconds.false in
    let p = err_from_is_err_and c.from_residual.result c.from_residual.ensures.1 in
    online_refused g.R.Raise c.args.cpus.now c.args.records.now.list c.args.number c.args.now
    c.law-2.ensures.rising c.law.ensures
    c.cpu_mut.result.now c.cpu_mut.ensures.cpu
    (online_read c.args.cpus.now c.args.number false (c.is_online.ensures ∙ ap Some c.if-is_online.false))
    c.count_staying-more.result c.reserve.new.self c.in_err-reserve.field-0.0 c.from_residual.result c.requires.holds.0 last
    c.requires.holds.1.agrees
    (not_never c.args.now (omega (arith, low, a)) (λ e. absurd (omega (arith, never_is, a, b, e))))
    (p.1 ∙ ap Err p.2) c.count_staying-more.ensures c.in_err-reserve.ensures

pub returns-in_err-reserve-clause-holds : goal.returns-in_err-reserve-clause-holds
returns-in_err-reserve-clause-holds g c last a =
    holds_refused g.R.Raise c.args.cpus.now c.args.records.now.list c.args.number c.args.now
    c.law-2.ensures.rising c.law.ensures
    c.cpu_mut.result.now c.cpu_mut.ensures.cpu
    (online_read c.args.cpus.now c.args.number false (c.is_online.ensures ∙ ap Some c.if-is_online.false))
    c.count_staying-more.result c.reserve.new.self c.in_err-reserve.field-0.0 last c.in_err-reserve.ensures a

pub widen-requires : goal.widen-requires
widen-requires g c = subst (MayWiden g.R.Raise.view c.count_staying-more.result)
    (one_cpu c.args.number c.reserve.new.self c.cpu_mut-2.result.now (with_cpu c.args.cpus.now c.args.number c.reserve.new.self)
    (cpu_there c.args.number c.cpu_mut.result.now c.reserve.new.self c.args.cpus.now c.cpu_mut.ensures.cpu)
    c.cpu_mut-2.ensures.cpu)
    c.in_ok-reserve.ensures.1

pub bring_all_back-requires-clause-empty : goal.bring_all_back-requires-clause-empty
bring_all_back-requires-clause-empty g c =
    of_cpu c.args.number (λ cpu. cpu.cyclics ≡ []) c.widen.new.self
    (with_cpu (with_cpu c.args.cpus.now c.args.number c.reserve.new.self) c.args.number c.widen.new.self)
    (at_ready g.R.Raise c.args.cpus.now c.args.records.now.list c.args.number c.args.now
    c.law-2.ensures.rising c.law.ensures
    c.cpu_mut.result.now c.cpu_mut.ensures.cpu
    (online_read c.args.cpus.now c.args.number false (c.is_online.ensures ∙ ap Some c.if-is_online.false))
    c.count_staying-more.result c.count_staying-more.ensures c.reserve.new.self c.cpu_mut-2.result.now c.widen.new.self
    c.in_ok-reserve.ensures c.cpu_mut-2.ensures.cpu c.widen.ensures)
    (empty_ready g.R.Raise c.args.cpus.now c.args.records.now.list c.args.number c.args.now
    c.law-2.ensures.rising c.law.ensures
    c.cpu_mut.result.now c.cpu_mut.ensures.cpu
    (online_read c.args.cpus.now c.args.number false (c.is_online.ensures ∙ ap Some c.if-is_online.false))
    c.count_staying-more.result c.count_staying-more.ensures c.reserve.new.self c.cpu_mut-2.result.now c.widen.new.self
    c.in_ok-reserve.ensures c.cpu_mut-2.ensures.cpu c.widen.ensures
    (empty g.R.Raise c.args.cpus.now c.args.records.now.list c.args.number c.args.now c.law-2.ensures.rising
    c.law.ensures
    c.cpu_mut.result.now c.cpu_mut.ensures.cpu
    (online_read c.args.cpus.now c.args.number false (c.is_online.ensures ∙ ap Some c.if-is_online.false)) c.requires.holds.0
    c.requires.holds.1.agrees))

pub bring_all_back-requires-clause-room : goal.bring_all_back-requires-clause-room
bring_all_back-requires-clause-room g c =
    of_cpu c.args.number (λ cpu. length (filter
    (is_staying (with_cpu (with_cpu c.args.cpus.now c.args.number c.reserve.new.self) c.args.number c.widen.new.self))
    c.args.records.now.list) ≤ cpu.size) c.widen.new.self
    (with_cpu (with_cpu c.args.cpus.now c.args.number c.reserve.new.self) c.args.number c.widen.new.self)
    (at_ready g.R.Raise c.args.cpus.now c.args.records.now.list c.args.number c.args.now
    c.law-2.ensures.rising c.law.ensures
    c.cpu_mut.result.now c.cpu_mut.ensures.cpu
    (online_read c.args.cpus.now c.args.number false (c.is_online.ensures ∙ ap Some c.if-is_online.false))
    c.count_staying-more.result c.count_staying-more.ensures c.reserve.new.self c.cpu_mut-2.result.now c.widen.new.self
    c.in_ok-reserve.ensures c.cpu_mut-2.ensures.cpu c.widen.ensures)
    (room_ready g.R.Raise c.args.cpus.now c.args.records.now.list c.args.number c.args.now
    c.law-2.ensures.rising c.law.ensures
    c.cpu_mut.result.now c.cpu_mut.ensures.cpu
    (online_read c.args.cpus.now c.args.number false (c.is_online.ensures ∙ ap Some c.if-is_online.false))
    c.count_staying-more.result c.count_staying-more.ensures c.reserve.new.self c.cpu_mut-2.result.now c.widen.new.self
    c.in_ok-reserve.ensures c.cpu_mut-2.ensures.cpu c.widen.ensures)

pub bring_all_back-requires-clause-within : goal.bring_all_back-requires-clause-within
bring_all_back-requires-clause-within g c k r is =
    of_cpu c.args.number (λ cpu. (ended_on c.args.number r).sent ≤ cpu.most) c.widen.new.self
    (with_cpu (with_cpu c.args.cpus.now c.args.number c.reserve.new.self) c.args.number c.widen.new.self)
    (at_ready g.R.Raise c.args.cpus.now c.args.records.now.list c.args.number c.args.now
    c.law-2.ensures.rising c.law.ensures
    c.cpu_mut.result.now c.cpu_mut.ensures.cpu
    (online_read c.args.cpus.now c.args.number false (c.is_online.ensures ∙ ap Some c.if-is_online.false))
    c.count_staying-more.result c.count_staying-more.ensures c.reserve.new.self c.cpu_mut-2.result.now c.widen.new.self
    c.in_ok-reserve.ensures c.cpu_mut-2.ensures.cpu c.widen.ensures)
    (let most = most_ready g.R.Raise c.args.cpus.now c.args.records.now.list c.args.number c.args.now
    c.law-2.ensures.rising c.law.ensures
    c.cpu_mut.result.now c.cpu_mut.ensures.cpu
    (online_read c.args.cpus.now c.args.number false (c.is_online.ensures ∙ ap Some c.if-is_online.false))
    c.count_staying-more.result c.count_staying-more.ensures c.reserve.new.self c.cpu_mut-2.result.now c.widen.new.self
    c.in_ok-reserve.ensures c.cpu_mut-2.ensures.cpu c.widen.ensures in
    let within = c.requires.holds.1.within k c.args.number c.cpu_mut.result.now.most r is
    (ap (λ o. option_map (λ (cpu : CpuView _). cpu.most) o) c.cpu_mut.ensures.cpu) in omega (arith, most, within))

pub set_online-requires : goal.set_online-requires
set_online-requires g c = low_after g.R.Raise c.args.cpus.now c.args.records.now.list c.args.number c.args.now
    c.law-2.ensures.rising c.law.ensures
    c.cpu_mut.result.now c.cpu_mut.ensures.cpu
    (online_read c.args.cpus.now c.args.number false (c.is_online.ensures ∙ ap Some c.if-is_online.false))
    c.count_staying-more.result c.count_staying-more.ensures c.reserve.new.self c.cpu_mut-2.result.now c.widen.new.self
    c.in_ok-reserve.ensures c.cpu_mut-2.ensures.cpu c.widen.ensures
    c.bring_all_back.new.cpus (switched_on c.args.number c.bring_all_back.new.cpus) c.bring_all_back.new.records.list
    c.bring_all_back.ensures.did c.bring_all_back.ensures.list refl

pub returns-clause-did : goal.returns-clause-did
returns-clause-did g c last =
    let low = c.nanoseconds.ensures.valid in let a = c.nanoseconds.ensures.value in let b = c.nanoseconds-2.ensures.value in
    let never_is = c.if-nanoseconds.false in
    online_done g.R.Raise c.args.cpus.now c.args.records.now.list c.args.number c.args.now
    c.law-2.ensures.rising c.law.ensures
    c.cpu_mut.result.now c.cpu_mut.ensures.cpu
    (online_read c.args.cpus.now c.args.number false (c.is_online.ensures ∙ ap Some c.if-is_online.false))
    c.count_staying-more.result c.count_staying-more.ensures c.reserve.new.self c.cpu_mut-2.result.now c.widen.new.self
    c.in_ok-reserve.ensures c.cpu_mut-2.ensures.cpu c.widen.ensures
    c.bring_all_back.new.cpus c.set_online.new.self c.bring_all_back.new.records.list c.bring_all_back.ensures.did
    c.bring_all_back.ensures.list c.set_online.ensures
    c.requires.holds.0 last c.requires.holds.1.agrees
    (not_never c.args.now (omega (arith, low, a)) (λ e. absurd (omega (arith, never_is, a, b, e))))

pub returns-clause-holds : goal.returns-clause-holds
returns-clause-holds g c last a = holds_done g.R.Raise c.args.cpus.now c.args.records.now.list c.args.number
    c.args.now c.law-2.ensures.rising c.law.ensures
    c.cpu_mut.result.now c.cpu_mut.ensures.cpu
    (online_read c.args.cpus.now c.args.number false (c.is_online.ensures ∙ ap Some c.if-is_online.false))
    c.count_staying-more.result c.count_staying-more.ensures c.reserve.new.self c.cpu_mut-2.result.now c.widen.new.self
    c.in_ok-reserve.ensures c.cpu_mut-2.ensures.cpu c.widen.ensures
    c.bring_all_back.new.cpus c.set_online.new.self c.bring_all_back.new.records.list c.bring_all_back.ensures.did
    c.bring_all_back.ensures.list c.set_online.ensures last a
