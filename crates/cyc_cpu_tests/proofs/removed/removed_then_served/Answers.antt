use Rattle.std.proofs.Common.{◌≡◌, inl, subst}
use Rattle.cyc_types.specs.declared.level.Soft.TheVariants.{Low}
use Rattle.cyc_cpu.specs.declared.removing.Removal.{Removal}
use Rattle.cyc_cpu.specs.Cpu.{running}
use Rattle.cyc_cpu.specs.Removal.{BeginsHere}
use Rattle.cyc_cpu.specs.Soft.{raise_tables}
use Rattle.cyc_cpu.specs.Calls.{SoftInterrupt}
use Rattle.cyc_cpu_tests.proofs.removed.removed_then_served.Goals as goal

pub returns : goal.returns
returns g c =
    let begun = subst (λ (r : Removal). BeginsHere raise_tables c.args.id c.args.cpu.now r c.begin_remove.new.self)
    c.in-Ok-Done.field-0-is c.in-Ok-Done.ensures.1 in
    let gone = c.removal_law.ensures.left c.args.id c.begin_remove.new.self (inl (c.in-Ok-Done._receipt, begun)) in
    (c.removal_law.ensures.kept c.args.id (running c.args.calls.now c.begin_remove.new.self)
    (running c.softint-answer.new.calls c.softint-answer.new.self)
    (SoftInterrupt Low c.args.budget c.softint-answer.result) gone tt c.softint-answer.ensures.did).1
