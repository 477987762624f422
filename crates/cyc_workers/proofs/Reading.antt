-- The counts of a cyclic are asked for.
use Rattle.std.proofs.Common.{ℕ, Some, refl}
use Rattle.cyc_types.specs.declared.Calls.{Ghosts as Calls}
use Rattle.cyc_types.specs.declared.Raise.{Ghosts as Raise}
use Rattle.cyc_cpu.specs.declared.hard.Totals.{Totals}
use Rattle.cyc_cpu.specs.Cpu.{CpuView, running}
use Rattle.cyc_cpu.specs.Moving.{IsSettled}
use Rattle.cyc_cpu.specs.Calls.{CpuChanges, AskTotals, no_interrupts}
use Rattle.cyc_cpu_laws.proofs.Staying.{none_settled, settled_one}

-- a CPU that has settled stays so
pub totals_settled : {C R : Type 0} (handler : Calls C)
    (firing : Raise R) (c : C) (v w : CpuView R) (id : ℕ) (t : Totals)
    → IsSettled firing.view v → CpuChanges firing v (AskTotals id (Some t)) w → IsSettled firing.view w
totals_settled handler firing c v w id t s a = settled_one firing handler no_interrupts (none_settled firing)
    (running c v) (running c w) (AskTotals id (Some t)) s tt a.0.kept.size (a, refl)
