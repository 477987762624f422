-- How far the machine has come in an advance.
use Rattle.std.specs.Prelude.{◌≡◌, ℕ, ◌<◌, ◌≤◌, false, length}
use Rattle.cyc_types.specs.Series.{never}
use Rattle.cyc_types.specs.Tally.{TallyView, tally_count}
use Rattle.cyc_core.specs.Tables.{Tables}
use Rattle.cyc_script.specs.Limits.{most_steps}
use Rattle.cyc_model.specs.State.{State}
use Rattle.cyc_system.specs.System.{RunningSystem, running_system}
use Rattle.cyc_agreement.specs.Suspending.{is_suspended}
use Rattle.cyc_system_model.specs.Room.{HaveRoomFor}
use Rattle.cyc_system_model.specs.Shown.{IsSystem}
use Rattle.cyc_system_model.specs.SystemAdvancing.{at_clock, Expirations, HasFired}
use Rattle.cyc_replay.specs.declared.machine.Machine.{Machine}
use Rattle.cyc_replay.specs.Machine.{IsReached, IsWide, AllMost, Remembers, numbers_of}

-- The clock is set on a machine that is not suspended, and the online CPUs below this number have fired: these are the
-- expirations that they made together, and those that were lost. `first` is the system with its tally before the first fire,
-- which s shows.
pub record IsAdvancing (step n : ℕ) (all : Expirations) (s : State) (first : RunningSystem TallyView Tables)
    (m : Machine) : Type 0 where
  pub reached : IsReached step s
  pub few : step ≤ most_steps
  pub before : m.clock < never
  pub awake : s.suspended ≡ false
  pub suspended : s.suspended ≡ is_suspended m.system
  pub fired : HasFired tally_count n all (at_clock m.clock s) first (running_system m.tally m.system)
  pub called : (id : ℕ) → tally_count first.calls id ≡ s.called id
  pub system : IsSystem m.system
  pub names : s.names ≡ numbers_of m.names
  pub tally : IsWide (length s.names) m.tally
  pub remembers : Remembers s m
  pub most : AllMost m.system.cpus
  pub room : HaveRoomFor (length s.names) m.system.cpus
