-- What the run of a whole script did to its machine.
use Rattle.std.specs.Prelude.{ℕ, ◌<◌}
use Rattle.cyc_types.specs.declared.level.Soft.{Soft}
use Rattle.cyc_core.specs.Tables.{Tables, level_of}
use Rattle.cyc_cpu.specs.Cpu.{CpuView}
use Rattle.cyc_system.specs.Cpus.{IsCpu}
use Rattle.cyc_script.specs.declared.script.Script.{Script}
use Rattle.cyc_model.specs.Along.{IsSoundLevel}
use Rattle.cyc_model.specs.Enabled.{CanBeDone}
use Rattle.cyc_model.specs.Free.{AreFree}
use Rattle.cyc_model.specs.Script.{run_of}
use Rattle.cyc_replay.specs.declared.machine.Machine.{Machine}
use Rattle.cyc_replay.specs.Machine.{ShowsMachine}

-- both soft levels of each CPU of the machine are lawful and conserved
abbrev pub LevelsAreSound : Machine → Type 0
LevelsAreSound m = (n : ℕ) (cpu : CpuView Tables) → IsCpu n cpu m.system.cpus
    → IsSoundLevel (level_of cpu.lock) × IsSoundLevel (level_of cpu.low)

-- The machine is the one that the script led to: there are free indexes with which the definition's run leaves a machine that
-- shows it, with its clock, whether it is suspended, each CPU with its cyclics and both levels, what ended, the calls of each id,
-- and the id of each name.
-- A level shows the index of each cyclic that is admitted there: those are the machine's own. At each soft level of each CPU each
-- event of that run was enabled when it happened, and the level was lawful and conserved before the first of them, after each,
-- and at the end.
pub record HasReplayed (script : Script) (m : Machine) : Type 0 where
  pub indexes : ℕ → ℕ
  pub free : AreFree indexes script
  pub holds : ShowsMachine (run_of indexes script).state m
  pub events : (n : ℕ) → n < script.cpus → (soft : Soft) → CanBeDone n soft indexes script
  pub levels : LevelsAreSound m
