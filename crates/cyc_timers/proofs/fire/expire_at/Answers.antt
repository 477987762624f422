use Rattle.std.proofs.Common.{subst}
use Rattle.cyc_types.specs.Levels.{at_level}
use Rattle.cyc_types.specs.declared.level.Level.TheVariants.{High}
use Rattle.cyc_timers.proofs.Acting.{one_high, one_lock, one_low}
use Rattle.cyc_timers.proofs.fire.expire_at.Goals as goal

pub returns-in_ok-call-in-High-clause-acts : goal.returns-in_ok-call-in-High-clause-acts
returns-in_ok-call-in-High-clause-acts g c =
    one_high (at_level g.C.Calls.called High) g.C.Calls.count g.R.Raise c.args.level c.args.id
    c.args.calls.now c.call.new.self c.args.lock.now c.args.low.now c.in-High.is
    (subst (λ level. g.C.Calls.called c.args.calls.now c.args.id level c.call.new.self) c.in-High.is
    c.in_ok-call-in-High.ensures.called) c.in_ok-call-in-High.ensures.counted

pub returns-in-Lock-clause-acts : goal.returns-in-Lock-clause-acts
returns-in-Lock-clause-acts g c =
    one_lock (at_level g.C.Calls.called High) g.C.Calls.count g.R.Raise c.args.level c.args.id
    c.args.calls.now c.args.lock.now c.raise_once.new.end c.args.low.now c.raise_once.result c.in-Lock.is
    c.raise_once.ensures.raised

pub returns-in-Low-clause-acts : goal.returns-in-Low-clause-acts
returns-in-Low-clause-acts g c =
    one_low (at_level g.C.Calls.called High) g.C.Calls.count g.R.Raise c.args.level c.args.id c.args.calls.now
    c.args.lock.now c.args.low.now c.raise_once-in-Low.new.end c.raise_once-in-Low.result c.in-Low.is
    c.raise_once-in-Low.ensures.raised
