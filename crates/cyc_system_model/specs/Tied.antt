-- What ties the cyclics of a CPU to its two soft levels, from call to call.
use Rattle.std.specs.Prelude.{◌≡◌, ◌≢◌, ℕ, Bool, Some, IsSome}
use Rattle.cyc_types.specs.declared.level.Soft.{Soft}
use Rattle.cyc_types.specs.declared.level.Level.TheVariants.{High}
use Rattle.cyc_core.specs.Tables.{Tables}
use Rattle.cyc_cpu.specs.Cpu.{CpuView, HasRisingCyclics}
use Rattle.cyc_model.specs.Cpu.{Cpu, handler_level_of}
use Rattle.cyc_model.specs.Serving.{level_at}
use Rattle.cyc_types.specs.Levels.{as_level}
use Rattle.cyc_system_model.specs.ShownCpu.{shown_cpu}

-- what is admitted at a soft level is a cyclic of that level, and an open removal is of a cyclic of a soft level
pub record HasOwn (c : Cpu) : Type 0 where
  pub known : (soft : Soft) (id : ℕ) → IsSome ((level_at soft c).cyclics id) → handler_level_of id c ≡ as_level soft
  pub removed : (id : ℕ) → c.removal ≡ Some id → handler_level_of id c ≢ High

-- the same of a CPU, whose ids rise
pub record IsTied (v : CpuView Tables) : Type 0 where
  pub rising : HasRisingCyclics v.cyclics
  pub own : (online : Bool) → HasOwn (shown_cpu online v)
