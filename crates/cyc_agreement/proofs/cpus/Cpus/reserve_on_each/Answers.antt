use Rattle.std.proofs.Common.{◌+◌, length, Some, Ok, Err, sym, ap, ◌∙◌, subst, arith, IfErr}
use Rattle.std.proofs.lemmas.Result.{err_from_is_err_and}
use Rattle.cyc_cpu.specs.Cpu.{HasRoom, MayWiden}
use Rattle.cyc_cpu.specs.Calls.{Reserve}
use Rattle.cyc_agreement.specs.Cpus.{with_cpu}
use Rattle.cyc_agreement.specs.Reserving.{WhyNotAllReserved}
use Rattle.cyc_agreement.proofs.Rooms.{only_memory}
use Rattle.cyc_agreement.proofs.Rounds.{Round, round_start, round_stopped, round_one, round_none, round_all}
use Rattle.cyc_agreement.proofs.cpus.Cpus.reserve_on_each.Goals as goal
use Rattle.cyc_agreement.proofs.cpus.Cpus.reserve_on_each.Goals.{then-is_online+in_ok-reserve, else-is_online}

pub loop-number-init : goal.loop-number-init
loop-number-init g c = round_start _ _ _ _ c.args.self.now (let a = c.count-number-end.ensures in omega arith) c.requires

pub returns-in_err-reserve-clause-err : goal.returns-in_err-reserve-clause-err
returns-in_err-reserve-clause-err g c =
    let r = c.loop-number.invariant in
    let n = c.loop-number.number in
    let w = c.loop-number.self in
    let x = c.cpu_mut.result.now in
    let here = c.is_online.ensures ∙ ap Some c.if-is_online.true in
    let p = err_from_is_err_and c.from_residual.result c.from_residual.ensures.1 in
    let s = round_stopped _ _ _ _ c.args.self.now w n c.cpu_mut.result.now c.reserve.new.self _ r
    (c.is_online.ensures ∙ ap Some c.if-is_online.true) c.cpu_mut.ensures.cpu c.in_err-reserve.ensures in
    subst (λ x. IfErr x (λ refusal. WhyNotAllReserved g.R.Raise c.args.more refusal c.args.self.now
    (with_cpu w n c.reserve.new.self))) (sym (p.1 ∙ ap Err p.2)) (
      only_memory g.R.Raise c.args.more x c.reserve.new.self c.in_err-reserve.field-0.0
          (r.left n (omega arith) here x c.cpu_mut.ensures.cpu) c.in_err-reserve.ensures.0 c.in_err-reserve.ensures.1,
      r.before,
      n,
      s.0,
      s.1,
    )

pub loop-number-preserved : goal.loop-number-preserved
loop-number-preserved g c =
    let v = c.args.self.now in
    let u = c.loop-number.self in
    let n = c.loop-number.number in
    let r = c.loop-number.invariant in
    elim c.if-is_online.branch [
      | then-is_online+in_ok-reserve w ↦ subst (λ x. Round g.R.Raise (Reserve c.args.more (Ok tt))
          (MayWiden g.R.Raise.view c.args.more) (HasRoom g.R.Raise.view c.args.more) v (n + 1) x) (sym w.self-is)
          (round_one g.R.Raise (Reserve c.args.more (Ok tt)) (MayWiden g.R.Raise.view c.args.more)
          (HasRoom g.R.Raise.view c.args.more) v u n w.cpu_mut.result.now w.reserve.new.self r
          (c.is_online.ensures ∙ ap Some w.if-is_online.true) w.cpu_mut.ensures.cpu w.in_ok-reserve.ensures
          w.in_ok-reserve.ensures.1)
      | else-is_online w ↦ subst (λ x. Round g.R.Raise (Reserve c.args.more (Ok tt))
          (MayWiden g.R.Raise.view c.args.more) (HasRoom g.R.Raise.view c.args.more) v (n + 1) x) (sym w.self-is)
          (round_none g.R.Raise (Reserve c.args.more (Ok tt)) (MayWiden g.R.Raise.view c.args.more)
          (HasRoom g.R.Raise.view c.args.more) v u n r (c.is_online.ensures ∙ ap Some w.if-is_online.false))
    ]

pub returns-clause-ready : goal.returns-clause-ready
returns-clause-ready g c = round_all _ _ _ _ c.args.self.now c.loop-number.self c.loop-number.number
    (let a = ap length c.loop-number.invariant.online in let b = c.count-number-end.ensures.online in
    omega arith) c.loop-number.invariant
