use Rattle.std.proofs.Common.{◌+◌, length, Some, Ok, Err, sym, ap, ◌∙◌, subst, arith, IfErr}
use Rattle.std.proofs.lemmas.Result.{err_from_is_err_and}
use Rattle.cyc_cpu.specs.Cpu.{HasRoom}
use Rattle.cyc_cpu.specs.Calls.{AskRoom}
use Rattle.cyc_agreement.specs.Cpus.{with_cpu}
use Rattle.cyc_agreement.specs.Reserving.{WhyNoRooms}
use Rattle.cyc_agreement.proofs.Rounds.{Round, round_start, round_stopped, round_one, round_none, round_all}
use Rattle.cyc_agreement.proofs.cpus.Cpus.room_on_each.Goals as goal
use Rattle.cyc_agreement.proofs.cpus.Cpus.room_on_each.Goals.{then-is_online+in_ok-room, else-is_online}

pub loop-number-init : goal.loop-number-init
loop-number-init g c = round_start _ _ _ _ c.args.self.now (let a = c.count-number-end.ensures in omega arith)
    (λ m on cpu at. tt)

pub returns-in_err-room-clause-err : goal.returns-in_err-room-clause-err
returns-in_err-room-clause-err g c =
    let r = c.loop-number.invariant in
    let n = c.loop-number.number in
    let w = c.loop-number.self in
    let p = err_from_is_err_and c.from_residual.result c.from_residual.ensures.1 in
    let s = round_stopped _ _ _ _ c.args.self.now w n c.cpu_mut.result.now c.room.new.self _ r
    (c.is_online.ensures ∙ ap Some c.if-is_online.true) c.cpu_mut.ensures.cpu c.in_err-room.ensures in
    subst (λ x. IfErr x (λ refusal. WhyNoRooms g.R.Raise c.args.more refusal c.args.self.now
    (with_cpu w n c.room.new.self))) (sym (p.1 ∙ ap Err p.2))
    (r.before, n, s.0, s.1)

pub loop-number-preserved : goal.loop-number-preserved
loop-number-preserved g c =
    let v = c.args.self.now in
    let u = c.loop-number.self in
    let n = c.loop-number.number in
    let r = c.loop-number.invariant in
    elim c.if-is_online.branch [
      | then-is_online+in_ok-room w ↦ subst (λ x. Round g.R.Raise (AskRoom c.args.more (Ok tt))
          (HasRoom g.R.Raise.view c.args.more) (λ cpu. Unit {0}) v (n + 1) x) (sym w.self-is)
          (round_one g.R.Raise (AskRoom c.args.more (Ok tt)) (HasRoom g.R.Raise.view c.args.more)
          (λ cpu. Unit {0}) v u n w.cpu_mut.result.now w.room.new.self r
          (c.is_online.ensures ∙ ap Some w.if-is_online.true) w.cpu_mut.ensures.cpu w.in_ok-room.ensures w.in_ok-room.ensures.1)
      | else-is_online w ↦ subst (λ x. Round g.R.Raise (AskRoom c.args.more (Ok tt))
          (HasRoom g.R.Raise.view c.args.more) (λ cpu. Unit {0}) v (n + 1) x) (sym w.self-is)
          (round_none g.R.Raise (AskRoom c.args.more (Ok tt)) (HasRoom g.R.Raise.view c.args.more)
          (λ cpu. Unit {0}) v u n r (c.is_online.ensures ∙ ap Some w.if-is_online.false))
    ]

pub returns-clause-room : goal.returns-clause-room
returns-clause-room g c = round_all _ _ _ _ c.args.self.now c.loop-number.self c.loop-number.number
    (let a = ap length c.loop-number.invariant.online in let b = c.count-number-end.ensures.online in
    omega arith) c.loop-number.invariant
