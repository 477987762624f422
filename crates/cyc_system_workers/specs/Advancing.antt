-- What an advance of a system in threads does: each online CPU fires once, by itself.
use Rattle.std.specs.Prelude.{◌≡◌, ℕ, Bool, true, false, length, Option, Some, None, Result}
use Rattle.std.specs.List.{slice_get}
use Rattle.cyc_types.specs.declared.Calls.{Ghosts as Calls}
use Rattle.cyc_types.specs.declared.Raise.{Ghosts as Raise}
use Rattle.cyc_timers.specs.declared.fire.Fired.{Fired}
use Rattle.cyc_timers.specs.declared.fire.FireRefused.{FireRefused}
use Rattle.cyc_cpu.specs.Cpu.{CpuView, Running, running}
use Rattle.cyc_cpu.specs.Laws.{IsLawful}
use Rattle.cyc_cpu.specs.Calls.{CpuDoes, Fire, no_interrupts}
use Rattle.cyc_workers.specs.declared.settling.Lead.{Lead}
use Rattle.cyc_system_workers.specs.declared.side.SystemSide.{SystemSide}
use Rattle.cyc_system_workers.specs.declared.lanes.Lane.{Lane}
use Rattle.cyc_system_workers.specs.declared.lanes.LaneAfter.{LaneAfter}
use Rattle.cyc_system_workers.specs.declared.advancing.Advanced.{Advanced}

-- the moment at which a CPU is asked to fire, where it is online
abbrev pub moment_asked : Bool → ℕ → Option ℕ
moment_asked true now = Some now
moment_asked false now = None

-- what becomes of a CPU and its handlers: where it is asked to fire it does, with this answer, and else it is as it was
abbrev pub FiresIf : {C R : Type 0} → Calls C → Raise R
    → Option ℕ → Running C R → Option (Result Fired FireRefused) → Running C R → Type 0
FiresIf handler firing (Some now) s (Some answer) t = CpuDoes handler firing no_interrupts s (Fire now answer) t
FiresIf handler firing (Some now) s None t = ⊥
FiresIf handler firing None s (Some answer) t = ⊥
FiresIf handler firing None s None t = t ≡ s

-- a CPU that goes into a thread, and comes out of it
pub record LaneFires {C R : Type 0} (handler : Calls C)
    (firing : Raise R) (now : ℕ) (a : Lane R C) (b : LaneAfter R C) : Type 0 where
  pub before : IsLawful firing.view a.hard
  pub fires : FiresIf handler firing (moment_asked a.online now) (running a.lead.calls a.hard) b.answer
      (running b.lead.calls b.hard)
  pub after : IsLawful firing.view b.hard

-- Each online CPU has fired, with its own handlers, and each other CPU is as it was. So is all else of the system.
pub record AllFire {C R : Type 0} (handler : Calls C)
    (firing : Raise R) (now : ℕ) (a : SystemSide R C) (b : Advanced R C) : Type 0 where
  pub records : b.side.system.records ≡ a.system.records
  pub last : b.side.system.last ≡ a.system.last
  pub online : b.side.system.cpus.online ≡ a.system.cpus.online
  pub long : length b.side.system.cpus.cpus ≡ length a.system.cpus.cpus
  pub long_leads : length b.side.leads.items ≡ length a.leads.items
  pub long_answers : length b.answers.items ≡ length a.system.cpus.cpus
  pub each : (n : ℕ) (up : Bool) (x y : CpuView R) (l m : Lead C) (answer : Option (Result Fired FireRefused))
      → slice_get a.system.cpus.online n ≡ Some up
      → slice_get a.system.cpus.cpus n ≡ Some x → slice_get b.side.system.cpus.cpus n ≡ Some y
      → slice_get a.leads.items n ≡ Some l → slice_get b.side.leads.items n ≡ Some m → slice_get b.answers.items n ≡ Some answer
      → FiresIf handler firing (moment_asked up now) (running l.calls x) answer (running m.calls y)
