use Rattle.std.specs.Prelude.{IsTrue}
use Rattle.cyc_timers.specs.Quiet.{KeepsStays}
use Rattle.cyc_cpu.specs.Soft.{firing_at, HasEmptyLists}
use Rattle.cyc_cpu.proofs.Idling.{emptied, on_ok}
use Rattle.cyc_cpu.proofs.Softs.{serving_keeps, on_answer}
use Rattle.cyc_cpu.proofs.soft.serve.Goals as goal

pub returns-clause-keeps : goal.returns-clause-keeps
returns-clause-keeps g c = on_answer _ _ (KeepsStays (firing_at c.args.end.now) (firing_at c.softint-answer.new.drain))
    c.softint-answer.result c.softint-answer.ensures.served c.softint-answer.ensures.refused
    (λ r h. serving_keeps _ _ _ h.2.way)
    (λ e h. serving_keeps _ _ _ h.4.way)

pub returns-clause-empty : goal.returns-clause-empty
returns-clause-empty g c = on_ok _ (λ r. IsTrue r.idle → HasEmptyLists c.softint-answer.new.drain) c.softint-answer.result
    (λ r stops idle. (let (before, way, goes, last, none) = stops idle in
    emptied c.args.end.now before c.softint-answer.new.drain way c.conservation.ensures.lawful goes last))
    c.softint-answer.ensures.idle
