use Rattle.cyc_cpu.specs.Soft.{firing_at}
use Rattle.cyc_system.specs.System.{running_system}
use Rattle.cyc_system_laws.specs.Sound.{IsSound}
use Rattle.uses.proofs.Keeping.{no_end, one_call, run, served_keeps}
use Rattle.uses.proofs.system.serve.Goals as goal

pub returns-clause-keeps : goal.returns-clause-keeps
returns-clause-keeps g c =
    let handler = g.C.Calls in
    let s = running_system c.args.calls.now c.args.system.now in
    let t = running_system c.softint-answer.new.calls c.softint-answer.new.self in
    let n = c.args.cpu in let budget = c.args.budget in let level = c.args.level in
    let answer = c.softint-answer.result in let d = c.softint-answer.ensures in
    let before : IsSound firing_at s.system =
    record { agrees = c.law.ensures; fit = c.fit_law.ensures.fit; lawful = c.fit_law.ensures.lawful } in
    let after : IsSound firing_at t.system =
    record { agrees = c.law-2.ensures; fit = c.fit_law-2.ensures.fit; lawful = c.fit_law-2.ensures.lawful } in
    let way = one_call handler n budget level answer s t d after in
    let went = run handler n budget level answer s t d after in
    let ends = no_end handler n budget level answer s t d after in
    served_keeps handler n budget level answer s t d after
    (λ id. c.expirations_core_law.ensures.expired id s t way went before (ends id))
    (λ id. c.expirations_core_law.ensures.lost id s t way went before (ends id))
    (λ id. c.interrupts_law.ensures id n budget level answer s t before after d)
