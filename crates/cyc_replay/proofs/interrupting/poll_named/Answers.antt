use Rattle.std.specs.Prelude.{Ok}
use Rattle.cyc_replay.proofs.Asked.{never_unpolled}
use Rattle.cyc_replay.proofs.interrupting.poll_named.Goals as goal

pub unreachable-requires : goal.unreachable-requires
unreachable-requires c =
    never_unpolled c.args.id c.requires.open.0 c.in-Err.field-0 c.args.system.now c.poll.new.system c.requires.open.1
    c.in-Err.ensures.did

pub returns-clause-others : goal.returns-clause-others
returns-clause-others c = λ n k ne.
    let u = c.others_law.ensures.polled c.args.id k (Ok c.in-Ok.polled) c.args.system.now c.poll.new.system ne
    c.in-Ok.ensures.did in
    (u.was_open n, u.stays_open n)
