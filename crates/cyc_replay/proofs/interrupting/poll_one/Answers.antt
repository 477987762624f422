use Rattle.std.proofs.Common.{map, string_bytes}
use Rattle.cyc_replay.proofs.Taking.{on_ok}
use Rattle.cyc_replay.proofs.Polled.{answered_none, answered_some}
use Rattle.cyc_replay.proofs.interrupting.poll_one.Goals as goal

pub returns-in_default-clause-polls : goal.returns-in_default-clause-polls
returns-in_default-clause-polls c = λ ids lines i s p.
    answered_none (map string_bytes c.args.names.now) c.args.step i s ids lines c.args.id c.poll_removal.result
    (string_bytes c.args.line.now) c.poll_removal.new.machine
    c.in_default.is (c.poll_removal.ensures.polls (map string_bytes c.args.names.now) c.args.step ids lines i s p)

pub returns-clause-polls : goal.returns-clause-polls
returns-clause-polls c = on_ok _ _ _ c.append_removed.result
    (λ line same ids lines i s p.
    answered_some (map string_bytes c.args.names.now) c.args.step i s ids lines c.args.id c.in-Some.receipt
    (string_bytes c.args.line.now) (string_bytes c.append_removed.new.line) c.text_of-text.result.now c.calls.result
    c.poll_removal.new.machine
    (c.in-Some.ensures.polls (map string_bytes c.args.names.now) c.args.step ids lines i s p) c.text_of-text.ensures
    c.calls.ensures line)
    c.append_removed.ensures c.append_removed.ensures
