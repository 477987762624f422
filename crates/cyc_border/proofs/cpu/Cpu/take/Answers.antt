use Rattle.std.proofs.Common.{◌≡◌, ℕ, Option, sym, ◌∙◌, ap, subst}
use Rattle.std.specs.Prelude.{IfNone}
use Rattle.cyc_core.specs.Tables.{Tables}
use Rattle.cyc_cpu.specs.Cpu.{CpuView}
use Rattle.cyc_cpu.specs.Soft.{end_at, HasEmptyLists}
use Rattle.cyc_border.specs.Border.{refused_at, call_at}
use Rattle.cyc_border.specs.declared.cpu.Cpu.{Cpu}
use Rattle.cyc_border.proofs.Taking.{idle_of, call_is, same_hard}
use Rattle.cyc_border.proofs.cpu.Cpu.take.Goals as goal

pub returns-clause-idle : goal.returns-clause-idle
returns-clause-idle c =
    let level = c.args.level in let was = c.args.self.now in let hard = c.softint-answer.new.self in
    let found = refused_at c.softint-answer.result in
    let before : Cpu = record was { hard = hard } in
    let named : c.call_at.result ≡ found = c.call_at.ensures ∙ ap (call_at level) c.set_call.ensures
    ∙ call_is level c.refused_of.result before ∙ c.refused_of.ensures in
    let same : c.set_call.new.self.hard ≡ hard = ap (λ (v : Cpu). v.hard) c.set_call.ensures
    ∙ same_hard level c.refused_of.result before in
    subst (λ (m : Option ℕ). IfNone m (HasEmptyLists (end_at level c.set_call.new.self.hard))) (sym named)
    (subst (λ (v : CpuView Tables). IfNone found (HasEmptyLists (end_at level v))) (sym same)
    (idle_of level (end_at level was.hard) (end_at level hard) c.softint-answer.new.calls c.softint-answer.result
    c.softint-answer.ensures.did.0 c.softint-answer.ensures.empty))
