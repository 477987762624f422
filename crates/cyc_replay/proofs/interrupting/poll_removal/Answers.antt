use Rattle.std.proofs.Common.{refl, length}
use Rattle.std.specs.Prelude.{Ok}
use Rattle.cyc_system.specs.System.{running_system}
use Rattle.cyc_system.specs.Calls.{PollRemove}
use Rattle.cyc_model.specs.Softint.{interrupt}
use Rattle.cyc_replay.proofs.Doing.{keeps}
use Rattle.cyc_replay.proofs.Polled.{left, polling_next, remembers_polled}
use Rattle.cyc_replay.proofs.interrupting.poll_removal.Goals as goal

pub returns-clause-polls : goal.returns-clause-polls
returns-clause-polls c = λ texts step ids lines i s p.
    let m = c.args.machine.now in let t = c.poll_named.new.system in let id = c.args.id in
    let answer = c.poll_named.result in let did = c.poll_named.ensures.polled in
    let n = record m { system = t; names = c.poll_named.new.names } in
    let before = running_system m.tally m.system in let after = running_system m.tally t in
    let kept = c.kept_law.ensures in let call = PollRemove id (Ok answer) in
    let system = kept.system call before after (did.did, refl) p.holds.system did.agrees in
    let next = c.poll_law.ensures.polls texts step ids lines id answer
    (interrupt step i s).state m.system t p.holds.system p.polled did.did in
    let remembered = remembers_polled texts step i s ids lines id m p answer c.name_with-name.result n
    c.name_with-name.ensures.here c.name_with-name.ensures.other did.told refl next.comes.shows did.agrees did.did in
    polling_next texts step i s ids lines id m p answer n next
    (keeps (left texts step i s ids) m t p.holds system (kept.most call before after (did.did, refl) p.holds.system)
    (kept.room call before after (did.did, refl) p.holds.system
    (length (left texts step i s ids).names) p.holds.room)
    (kept.suspended call before after (did.did, refl) tt))
    refl refl remembered.1 remembered.0
