use Rattle.std.proofs.Common.{◌≤◌, inl, inr, Err, refl, sym, ap, ◌∙◌, subst, arith}
use Rattle.std.proofs.lemmas.Result.{err_from_is_err_and}
use Rattle.cyc_cpu.specs.Cpu.{CpuView, HasNoCyclic, MayWiden}
use Rattle.cyc_agreement.specs.Cpus.{with_cpu}
use Rattle.cyc_agreement.specs.Shifting.{MayLeave, move_of, Shifts}
use Rattle.cyc_agreement.proofs.CpuSpots.{changed, one_cpu, of_cpu, cpu_there, cpu_beside, cpu_stays, cpu_after}
use Rattle.cyc_agreement.proofs.Shifts.{found_some, found_none, may_leave}
use Rattle.cyc_agreement.proofs.cpus.Cpus.shift.Goals as goal

pub returns-in-Some : goal.returns-in-Some
returns-in-Some g c = inl (c.in-Some.removed, (c.cpu.result.now, c.cpu.ensures, sym c.removal.ensures ∙ c.in-Some.is), refl, refl)

pub returns-then-ne : goal.returns-then-ne
returns-then-ne g c =
    let x = c.cpu_mut.result.now in
    let here = c.requires.here x c.cpu_mut.ensures.cpu in
    let (n, some, did) = found_some g.R.Raise c.args.id x c.pending.new.self c.pending.result here
    (sym c.ne.ensures ∙ c.if-ne.true) c.pending.ensures in
    inr (inl (
      (c.cpu.result.now, c.cpu.ensures, sym c.removal.ensures ∙ c.in_default.is),
      n,
      some,
      refl,
      (_, changed _ _ x c.pending.new.self _ c.cpu_mut.ensures.cpu did, refl),
    ))

pub returns-in_err-reserve : goal.returns-in_err-reserve
returns-in_err-reserve g c =
    let x = c.cpu_mut.result.now in
    let a = c.pending.new.self in
    let b = c.reserve.new.self in
    let v = c.args.self.now in
    let did = found_none g.R.Raise c.args.id x a c.pending.result
    (sym c.ne.ensures ∙ c.if-ne.false) c.pending.ensures in
    let p = err_from_is_err_and c.from_residual.result c.from_residual.ensures.1 in
    subst (λ r. Shifts g.R.Raise (move_of c.args.id c.args.source c.args.target) r v
    (with_cpu (with_cpu v c.args.source a) c.args.target b)) (sym (p.1 ∙ ap Err p.2))
    (inr (inr (
      (c.cpu.result.now, c.cpu.ensures, sym c.removal.ensures ∙ c.in_default.is),
      (
        with_cpu v c.args.source a,
        changed c.args.source _ x a v c.cpu_mut.ensures.cpu did,
        (
          _,
          changed c.args.target _ c.cpu_mut-2.result.now b
              (with_cpu v c.args.source a) c.cpu_mut-2.ensures.cpu c.in_err-reserve.ensures,
          refl,
        ),
      ),
    )))

pub take-taken-requires-clause-leaves : goal.take-taken-requires-clause-leaves
take-taken-requires-clause-leaves g c =
    let v = c.args.self.now in
    let x = c.cpu_mut.result.now in
    let a = c.pending.new.self in
    let did = found_none g.R.Raise c.args.id x a c.pending.result
    (sym c.ne.ensures ∙ c.if-ne.false) c.pending.ensures in
    let still = ap (λ (y : CpuView g.row.R.Denot). y.removal)
    (one_cpu c.args.source x c.cpu.result.now v c.cpu_mut.ensures.cpu c.cpu.ensures) ∙ sym c.removal.ensures
    ∙ c.in_default.is in
    let may = may_leave g.R.Raise c.args.id x a (c.requires.here x c.cpu_mut.ensures.cpu) still did in
    of_cpu c.args.source (MayLeave g.R.Raise.view c.args.id) a (with_cpu
    (with_cpu v c.args.source a) c.args.target c.reserve.new.self)
    (cpu_stays c.args.target c.args.source a c.reserve.new.self (with_cpu v c.args.source a) (λ e. c.requires.apart (sym e))
    (cpu_there c.args.source x a v c.cpu_mut.ensures.cpu)) may

pub bring-requires-clause-room : goal.bring-requires-clause-room
bring-requires-clause-room g c =
    let v = with_cpu c.args.self.now c.args.source c.pending.new.self in
    let b = c.reserve.new.self in
    of_cpu c.args.target (MayWiden g.R.Raise.view 1) b c.take-taken.new.self
    (cpu_after c.args.source c.args.target _ b
    (with_cpu v c.args.target b) c.take-taken.new.self c.requires.apart c.take-taken.ensures.did
    (cpu_there c.args.target c.cpu_mut-2.result.now b v c.cpu_mut-2.ensures.cpu))
    c.in_ok-reserve.ensures.1

pub bring-requires-clause-absent : goal.bring-requires-clause-absent
bring-requires-clause-absent g c =
    let v = with_cpu c.args.self.now c.args.source c.pending.new.self in
    let b = c.reserve.new.self in
    let y = c.cpu_mut-2.result.now in
    let none = c.requires.absent y
    (cpu_beside c.args.source c.args.target y c.pending.new.self c.args.self.now c.requires.apart c.cpu_mut-2.ensures.cpu) in
    of_cpu c.args.target (λ cpu. HasNoCyclic c.args.id cpu.cyclics) b c.take-taken.new.self
    (cpu_after c.args.source c.args.target _ b
    (with_cpu v c.args.target b) c.take-taken.new.self c.requires.apart c.take-taken.ensures.did
    (cpu_there c.args.target y b v c.cpu_mut-2.ensures.cpu))
    (subst (λ cs. HasNoCyclic c.args.id cs) (sym c.in_ok-reserve.ensures.0.cyclics) none)

pub bring-requires-clause-most : goal.bring-requires-clause-most
bring-requires-clause-most g c =
    let v = with_cpu c.args.self.now c.args.source c.pending.new.self in
    let x = c.cpu_mut.result.now in
    let a = c.pending.new.self in
    let b = c.reserve.new.self in
    let y = c.cpu_mut-2.result.now in
    let did = found_none g.R.Raise c.args.id x a c.pending.result
    (sym c.ne.ensures ∙ c.if-ne.false) c.pending.ensures in
    let sent = c.take-taken.ensures.counts a (cpu_stays c.args.target c.args.source a b v (λ e. c.requires.apart (sym e))
    (cpu_there c.args.source x a c.args.self.now c.cpu_mut.ensures.cpu)) in
    let most = c.requires.most x c.cpu_mut.ensures.cpu y
    (cpu_beside c.args.source c.args.target y a c.args.self.now c.requires.apart c.cpu_mut-2.ensures.cpu) in
    let from = did.0.kept.most in
    let to = c.in_ok-reserve.ensures.0.most in
    let s = sent.1 in
    of_cpu c.args.target (λ cpu. c.take-taken.result.sent.sent ≤ cpu.most) b c.take-taken.new.self
    (cpu_after c.args.source c.args.target _ b
    (with_cpu v c.args.target b) c.take-taken.new.self c.requires.apart c.take-taken.ensures.did
    (cpu_there c.args.target y b v c.cpu_mut-2.ensures.cpu))
    (omega (arith, s, most, from, to))

pub returns : goal.returns
returns g c =
    let x = c.cpu_mut.result.now in
    let did = found_none g.R.Raise c.args.id x c.pending.new.self c.pending.result
    (sym c.ne.ensures ∙ c.if-ne.false) c.pending.ensures in (
      c.take-taken.result,
      (
        _,
        changed _ _ x c.pending.new.self _ c.cpu_mut.ensures.cpu did,
        (
          _,
          changed _ _ c.cpu_mut-2.result.now c.reserve.new.self _ c.cpu_mut-2.ensures.cpu c.in_ok-reserve.ensures,
          (_, c.take-taken.ensures.did, c.bring.ensures),
        ),
      ),
    )
