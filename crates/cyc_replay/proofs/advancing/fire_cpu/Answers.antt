use Rattle.std.proofs.Common.{◌+◌, ◌∙◌, refl, sym, subst, arith, length}
use Rattle.std.specs.Prelude.{Ok}
use Rattle.cyc_types.specs.Tally.{tally_count}
use Rattle.cyc_system.specs.System.{running_system}
use Rattle.cyc_system.specs.Calls.{FireOne}
use Rattle.cyc_system_model.specs.SystemAdvancing.{at_clock, fired_and_lost, HasFired}
use Rattle.cyc_replay.proofs.Remembering.{remembers_on}
use Rattle.cyc_replay.proofs.Fired.{most_fired, wide_fired, passed, never_fire, low_here, passed_on}
use Rattle.cyc_replay.proofs.advancing.fire_cpu.Goals as goal

pub unreachable-requires : goal.unreachable-requires
unreachable-requires c =
    let (step, expired, lost, s, first, a) = c.requires.ready in
    never_fire step c.args.cpu expired lost s first c.args.machine.now a c.requires.there c.in-Err.refused
    (running_system c.fire_one-answer.new.calls c.fire_one-answer.new.self) c.in_default.not-Offline c.in-Err.ensures

pub returns-in-Ok-clause-next : goal.returns-in-Ok-clause-next
returns-in-Ok-clause-next c step expired lost s first a =
    let m = c.args.machine.now in let fired = c.in-Ok.fired in
    let before = running_system m.tally m.system in let after =
    running_system c.fire_one-answer.new.calls c.fire_one-answer.new.self in
    let next = c.advance_law.ensures.fires c.args.cpu expired lost fired
    (at_clock m.clock s) first before after a.system a.fired c.in-Ok.ensures in
    record {
      reached = a.reached;
      few = a.few;
      before = a.before;
      awake = a.awake;
      suspended = a.suspended
          ∙ sym (c.kept_law.ensures.suspended (FireOne c.args.cpu m.clock (Ok fired)) before after c.in-Ok.ensures tt);
      fired = subst (λ k. HasFired tally_count (c.args.cpu + 1) (fired_and_lost (expired + k) (lost + c.from-in-Ok.result))
          (at_clock m.clock s) first after) (sym c.from.ensures)
          (subst (λ k. HasFired tally_count (c.args.cpu + 1) (fired_and_lost (expired + fired.expired) (lost + k))
          (at_clock m.clock s) first after) (sym c.from-in-Ok.ensures) next);
      called = a.called;
      system = c.kept_law.ensures.system (FireOne c.args.cpu m.clock (Ok fired)) before after c.in-Ok.ensures a.system
          c.law.ensures;
      names = a.names;
      remembers = remembers_on s s m (record m { system = c.fire_one-answer.new.self; tally = c.fire_one-answer.new.calls })
          a.remembers
          (record { names = refl; named = refl }) (omega arith) (λ id low gone. gone) (λ id low gone. gone)
          (λ id low gone. refl);
      room = c.kept_law.ensures.room (FireOne c.args.cpu m.clock (Ok fired)) before after c.in-Ok.ensures a.system
          (length s.names) a.room;
      tally = wide_fired c.args.cpu m.clock before after (length s.names) fired c.in-Ok.ensures a.tally;
      most = most_fired c.args.cpu m.clock before after fired c.in-Ok.ensures a.most;
    }

pub returns-in-Offline-clause-next : goal.returns-in-Offline-clause-next
returns-in-Offline-clause-next c step expired lost s first a =
    let m = c.args.machine.now in
    let before = running_system m.tally m.system in let after =
    running_system c.fire_one-answer.new.calls c.fire_one-answer.new.self in
    let p = passed c.args.cpu m.clock c.in-Err.refused before after c.requires.there c.in-Offline.is c.in-Err.ensures in
    let next = c.advance_law.ensures.passes c.args.cpu expired lost (at_clock m.clock s) first before a.system
    (low_here step c.args.cpu expired lost s first m a c.requires.there) a.fired p.0 in
    passed_on step c.args.cpu expired lost s first m
    (record m { system = c.fire_one-answer.new.self; tally = c.fire_one-answer.new.calls }) a p.1 refl
    (record { names = refl; named = refl }) next
