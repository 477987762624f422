use Rattle.std.proofs.Common.{◌≡◌, ◌<◌, ◌∙◌, true, string_bytes, sym, subst}
use Rattle.cyc_types.specs.Series.{never}
use Rattle.cyc_types.specs.declared.refusal.Refusal.TheVariants.{Suspended}
use Rattle.cyc_script.specs.declared.step.Step.TheVariants.{Advance}
use Rattle.cyc_system.specs.System.{running_system}
use Rattle.cyc_agreement.specs.Suspending.{is_suspended}
use Rattle.cyc_system_model.specs.SystemAdvancing.{at_clock}
use Rattle.cyc_replay.specs.Machine.{ShowsMachine}
use Rattle.cyc_replay.specs.Words.{TakesWord}
use Rattle.cyc_replay.proofs.Fired.{many_here}
use Rattle.cyc_replay.proofs.Taking.{on_ok, refused_takes}
use Rattle.cyc_replay.proofs.Advanced.{begins, fired_at, advanced, advance_taken, stands_still, holds_at}
use Rattle.cyc_replay.proofs.advancing.take_advance.Goals as goal

pub returns-then-is_suspended-clause-takes : goal.returns-then-is_suspended-clause-takes
returns-then-is_suspended-clause-takes c = on_ok _ _ _ c.write_answer.result
    (λ line other texts s r h.
    let m = c.args.machine.now in let now = c.moment_of-machine.result in let moment = c.args.moment in
    let on : is_suspended m.system ≡ true = sym c.is_suspended.ensures ∙ c.if-is_suspended.true in
    refused_takes texts c.args.step (Advance moment) _ Suspended s (record m { clock = now })
    (stands_still moment s (h.suspended ∙ on)) line
    (subst (λ k. ShowsMachine (at_clock moment s) (record m { clock = k })) (sym c.moment_of-machine.ensures) (holds_at moment
    s m h)))
    c.write_answer.ensures.line c.write_answer.ensures.other

pub fire_all-made-requires : goal.fire_all-made-requires
fire_all-made-requires c =
    let (s, r, h) = c.requires.reached in let m = c.args.machine.now in let now = c.moment_of-machine.result in
    let first = running_system m.tally m.system in
    let before = subst (λ k. k < never) (sym c.moment_of-machine.ensures) c.requires.before in
    let awake = h.suspended ∙ sym c.is_suspended.ensures ∙ c.if-is_suspended.false in
    record {
      ready = (
        c.args.step,
        s,
        first,
        begins c.args.step now s m c.requires.few r h before awake (c.advance_law.ensures.begins now s first h.shows),
      );
    }

pub returns-clause-takes : goal.returns-clause-takes
returns-clause-takes c = λ texts s r h.
    let m = c.args.machine.now in let now = c.moment_of-machine.result in let step = c.args.step in
    let first = running_system m.tally m.system in
    let t = c.fire_all-made.new.machine in let made = c.fire_all-made.result in
    let line = string_bytes c.write_fired.new.line in
    let before = subst (λ k. k < never) (sym c.moment_of-machine.ensures) c.requires.before in
    let awake = h.suspended ∙ sym c.is_suspended.ensures ∙ c.if-is_suspended.false in
    let a = begins step now s m c.requires.few r h before awake (c.advance_law.ensures.begins now s first h.shows) in
    let all = c.fire_all-made.ensures.all step s first a in
    let ends = c.advance_law.ensures.ends now _ made.expired made.lost s first (running_system t.tally t.system)
    (sym (many_here step 0 0 0 s first (record m { clock = now }) a))
    (fired_at step _ made.expired made.lost now s first t all c.fire_all-made.ensures.clock) in
    subst (λ k. TakesWord texts step (Advance k) line s t) c.moment_of-machine.ensures
    (advance_taken texts step now line s t before awake (c.in_ok-write_fired.ensures ∙ sym (ends.line step))
    (advanced step step _ made.expired made.lost now s first t all c.fire_all-made.ensures.clock before ends))
