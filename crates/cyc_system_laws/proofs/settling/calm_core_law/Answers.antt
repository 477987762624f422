use Rattle.std.proofs.Common.{arith}
use Rattle.cyc_cpu.specs.Soft.{raise_tables, Interrupts}
use Rattle.cyc_cpu_laws.proofs.Softs.{interrupts_settle}
use Rattle.cyc_system_laws.proofs.Calming.{run_settled}
use Rattle.cyc_system_laws.proofs.settling.calm_core_law.Goals as goal

pub returns : goal.returns
returns g c n x y s t way at there settled not same run =
    let handler = g.C.Calls in
    run_settled handler raise_tables (Interrupts handler)
    (λ s t level budget answer d. record {
      grows = (let e = d.1.kept.size in omega (arith, e));
      settled = λ e h. interrupts_settle handler level budget answer s t d h;
    }) n x y s t way at there settled not same run
