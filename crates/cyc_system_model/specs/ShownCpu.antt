-- A CPU over levels that no other thread uses, as the definition of a script has it.
use Rattle.std.specs.Prelude.{Bool, map}
use Rattle.cyc_timers.specs.Rows.{Cyclic as Timed}
use Rattle.cyc_core.specs.Tables.{Tables, level_of}
use Rattle.cyc_cpu.specs.Cpu.{CpuView}
use Rattle.cyc_model.specs.Cpu.{CyclicState, Cpu}

-- a cyclic, without the counts that it carried in
abbrev pub shown_cyclic : Timed → CyclicState
shown_cyclic c = record { timer = c.timer; lost = c.lost }

-- the CPU, which is online or not
abbrev pub shown_cpu : Bool → CpuView Tables → Cpu
shown_cpu online v = record {
  online = online;
  cyclics = map shown_cyclic v.cyclics;
  size = v.size;
  removal = v.removal;
  lock = level_of v.lock;
  low = level_of v.low;
}
