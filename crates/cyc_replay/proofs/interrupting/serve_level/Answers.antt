use Rattle.std.proofs.Common.{sym, subst, arith, length}
use Rattle.std.specs.Prelude.{Ok}
use Rattle.cyc_types.specs.Tally.{TallyView}
use Rattle.cyc_core.specs.Tables.{Tables}
use Rattle.cyc_system.specs.System.{RunningSystem, running_system}
use Rattle.cyc_script.specs.declared.step.Softint.{Softint as SoftintStep}
use Rattle.cyc_replay.specs.Machine.{ShowsMachine}
use Rattle.cyc_system.specs.Calls.{SoftInterrupt}
use Rattle.cyc_replay.proofs.Doing.{keeps}
use Rattle.cyc_replay.proofs.Named.{reached_good}
use Rattle.cyc_replay.proofs.Served.{never_refused, no_cpu_there, wide_served, served_holds}
use Rattle.cyc_replay.proofs.interrupting.serve_level.Goals as goal

pub unreachable-requires : goal.unreachable-requires
unreachable-requires c =
    let (step, s, few, r, h) = c.requires.reached in let fits = c.ranges.budget.fits in
    never_refused step c.args.cpu c.args.budget c.args.level s c.args.machine.now few
    (omega (arith, fits)) r h c.in-Refused.field-0
    (running_system c.softint-answer.new.calls c.softint-answer.new.self) (rw c.in-Refused.is at c.in-Err.ensures)

pub returns-in-Ok-clause-some : goal.returns-in-Ok-clause-some
returns-in-Ok-clause-some c = λ step s r h.
    let m = c.args.machine.now in
    let i : SoftintStep = record { cpu = c.args.cpu; level = c.args.level; budget = c.args.budget } in
    let before = running_system m.tally m.system in let after =
    running_system c.softint-answer.new.calls c.softint-answer.new.self in
    let ran = c.in-Ok.ran in let did = c.in-Ok.ensures in
    let call = SoftInterrupt c.args.cpu c.args.level c.args.budget (Ok ran) in
    let served = c.softint_law.ensures.accepted i ran s before after h.system h.shows did in
    let system = c.kept_law.ensures.system call before after did h.system c.law.ensures in
    let most = c.kept_law.ensures.most call before after did h.system in
    record {
      reached = r;
      served = served;
      holds = served_holds step i ran s m after (reached_good step s r) h served
          (keeps s m after.system h system most (c.kept_law.ensures.room call before after did h.system (length s.names) h.room)
          (c.kept_law.ensures.suspended call before after did tt))
          (wide_served i s m after h ran did);
    }

pub returns-in-NoCpu-clause-none : goal.returns-in-NoCpu-clause-none
returns-in-NoCpu-clause-none c = λ s h.
    let m = c.args.machine.now in
    let i : SoftintStep = record { cpu = c.args.cpu; level = c.args.level; budget = c.args.budget } in
    let after = running_system c.softint-answer.new.calls c.softint-answer.new.self in
    let p = no_cpu_there i s m after h (rw c.in-NoCpu.is at c.in-Err.ensures) in (
      p.0,
      subst (λ (t : RunningSystem TallyView Tables). ShowsMachine s (record m { system = t.system; tally = t.calls })) (sym
          p.1) h,
    )
