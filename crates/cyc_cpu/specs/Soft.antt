-- The soft interrupt of one level of a CPU whose levels no other thread uses.
use Rattle.std.specs.Prelude.{◌≡◌, ℕ, [], Option, Result}
use Rattle.cyc_types.specs.declared.Calls.{Ghosts as Calls}
use Rattle.cyc_types.specs.declared.Drain.{Ghosts as Drain}
use Rattle.cyc_types.specs.declared.Raise.{Ghosts as Raise}
use Rattle.cyc_types.specs.Draining.{DrainCall}
use Rattle.cyc_types.specs.Levels.{as_level, handler_at}
use Rattle.cyc_types.specs.declared.level.Soft.{Soft}
use Rattle.cyc_types.specs.declared.level.Soft.TheVariants.{Low, Lock}
use Rattle.cyc_core.specs.Tables.{Tables, level_of}
use Rattle.cyc_types.specs.Firing.{FiringView, FiringCall}
use Rattle.cyc_core.specs.FiringSide.{firing_view, FiringDoes}
use Rattle.cyc_core.specs.DrainingSide.{Drains, held_of, done_of}
use Rattle.cyc_soft.specs.declared.Ran.{Ran}
use Rattle.cyc_soft.specs.declared.SoftRefused.{SoftRefused}
use Rattle.cyc_soft.specs.Serving.{IsSoftint, soft_side}
use Rattle.cyc_cpu.specs.Cpu.{CpuView, Running, SameCpu}

-- the end of a soft level
abbrev pub end_at : {R : Type 0} → Soft → CpuView R → R
end_at Low v = v.low
end_at Lock v = v.lock

-- the end of the other soft level
abbrev pub end_beside : {R : Type 0} → Soft → CpuView R → R
end_beside Low v = v.lock
end_beside Lock v = v.low

-- a call of the firing side of a level that no other thread uses
abbrev pub fires : Tables → FiringCall → Tables → Type 0
fires a call b = FiringDoes (level_of a) call (level_of b)

-- a call of the soft side of a level that no other thread uses
abbrev pub drains : Tables → DrainCall → Tables → Type 0
drains a call b = Drains (level_of a) call (level_of b)

-- the cyclic in the hand of a level's soft side
abbrev pub held_at : Tables → Option ℕ
held_at a = held_of (level_of a)

-- the finished calls of each id in its present stay
abbrev pub done_at : Tables → ℕ → ℕ
done_at a id = done_of (level_of a) id

-- what the firing side of such a level knows
abbrev pub firing_at : Tables → FiringView
firing_at a = firing_view (level_of a)

-- both at once: what it knows, and its calls
abbrev pub raise_tables : Raise Tables
raise_tables = record { view = firing_at; step = fires }

-- the soft side of such a level: the cyclic in its hand, its finished calls, and its calls
abbrev pub drain_tables : Drain Tables
drain_tables = record { held = held_at; made = done_at; step = drains }

-- what a soft interrupt of one level leaves alone
pub record SoftKept {R : Type 0} (level : Soft) (v w : CpuView R) : Type 0 where
  pub beside : end_beside level w ≡ end_beside level v
  pub cyclics : w.cyclics ≡ v.cyclics
  pub kept : SameCpu v w

-- nothing waits in the lists of the level
abbrev pub HasEmptyLists : Tables → Type 0
HasEmptyLists a = (a.old_list ≡ []) × (a.new_list ≡ [])

-- what a soft interrupt does to a CPU: at its level what any soft interrupt does, and nothing else
abbrev pub Interrupts : {C : Type 0} → Calls C → Soft → ℕ → Result Ran SoftRefused → Running C Tables → Running C Tables → Type 0
Interrupts handler level budget answer s t =
    IsSoftint drain_tables (handler_at handler (as_level level)) budget answer
    (soft_side (end_at level s.cpu) s.calls) (soft_side (end_at level t.cpu) t.calls)
    × SoftKept level s.cpu t.cpu
