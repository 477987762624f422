use Rattle.std.proofs.Common.{List, sym, ap, subst, ◌∙◌, length}
use Rattle.std.specs.Prelude.{IfNone}
use Rattle.std.specs.List.{slice_get}
use Rattle.cyc_cpu.specs.Cpu.{CpuView}
use Rattle.cyc_workers.specs.Settled.{AllSettled}
use Rattle.cyc_system.specs.System.{SystemView}
use Rattle.cyc_system_workers.proofs.Questions.{settles_back}
use Rattle.cyc_system_workers.proofs.settling.settle.Goals as goal

pub unite-system-requires : goal.unite-system-requires
unite-system-requires g c =
    let left = c.split-desk.ensures.cpus ∙ sym (ap (λ (s : SystemView _). s.cpus.cpus) c.split-desk.ensures.desk) in
    let asked = c.settle_all-refused.ensures.asked in
    c.away_law.ensures.each c.split-desk.result.0.cpus.cpus c.settle_all-refused.new.all.items
    (asked.long ∙ ap (λ l. length l) left) (λ n x y p q.
    settles_back g.R.Raise c.away_law.ensures.same c.away_law.ensures.joined c.away_law.ensures.settled x y
    (asked.each n x y (ap (λ z. slice_get z n) left ∙ p) q))

pub returns-clause-settled : goal.returns-clause-settled
returns-clause-settled g c = subst (λ (v : List (CpuView _)). IfNone c.settle_all-refused.result (AllSettled g.R.Raise.view v))
    (sym (ap (λ (s : SystemView _). s.cpus.cpus) c.unite-system.ensures)) c.settle_all-refused.ensures.settled
