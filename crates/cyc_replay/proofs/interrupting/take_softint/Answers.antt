use Rattle.std.proofs.Common.{map, string_bytes, ap, ◌++◌, ◌∙◌}
use Rattle.cyc_system.specs.System.{running_system}
use Rattle.cyc_model.specs.Softint.{interrupt}
use Rattle.cyc_replay.proofs.Polled.{polling_begins, softint_taken}
use Rattle.cyc_replay.proofs.interrupting.take_softint.Goals as goal

pub returns-clause-takes : goal.returns-clause-takes
returns-clause-takes c = λ s r h.
    let texts = map string_bytes c.args.names.now in let step = c.args.step in let i = c.args.softint.now in let ran =
    c.in-Some.ran in
    let m = c.args.machine.now in let n = c.serve_level-served.new.machine in let t = c.poll_all.new.machine in
    let before = running_system m.tally m.system in let after = running_system n.tally n.system in
    let served = c.in-Some.ensures.some step s r h in
    let start = polling_begins texts step i s ran m n served
    (c.poll_law.ensures.begins texts step (interrupt step i s).state n.system served.holds.shows) in
    let (lines, same, p) = c.in_ok-poll_all.ensures.polls i s start in
    softint_taken texts step i s lines (string_bytes c.poll_all.new.line) ran before after t p
    (c.poll_law.ensures.ends texts step i ran lines s before after t.system served.served p.polled)
    (same ∙ ap (λ xs. xs ++ lines) c.in_ok-write_ran.ensures)
