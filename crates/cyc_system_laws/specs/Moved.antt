-- What a move from one CPU to another keeps.
use Rattle.std.specs.Prelude.{◌≡◌, ◌≢◌, ℕ, insert, remove, None}
use Rattle.std.specs.List.{slice_get}
use Rattle.cyc_types.specs.declared.level.Level.{Level}
use Rattle.cyc_types.specs.declared.level.Level.TheVariants.{Low, Lock, High}
use Rattle.cyc_level.specs.Level.{count}
use Rattle.cyc_core.specs.Tables.{Tables, level_of}
use Rattle.cyc_cpu.specs.Rows.{Cyclic}
use Rattle.cyc_cpu.specs.Cpu.{CpuView, IsCyclic, SameCpu}
use Rattle.cyc_agreement.specs.Cpus.{CpusView, IsCpu}

-- a cyclic on its new CPU: it has the same level, interval, next expiration and counts, and has carried the counts in
abbrev pub carried_over : Cyclic → Cyclic
carried_over c = record c { carried = record { sent = c.timer.expired; lost = c.lost } }

-- One cyclic went from its CPU to another as it was, and no other cyclic was touched.
pub record Moved {R : Type 0} (id source target : ℕ) (v w : CpusView R) : Type 0 where
  pub cyclic : Cyclic
  pub named : cyclic.timer.id ≡ id
  -- the source before and after, and the target before and after
  pub from : CpuView R
  pub left : CpuView R
  pub to : CpuView R
  pub joined : CpuView R
  pub from_is : IsCpu source from v
  pub left_is : IsCpu source left w
  pub to_is : IsCpu target to v
  pub joined_is : IsCpu target joined w
  -- it left its position at the source, and has one at the target
  pub position : ℕ
  pub here : IsCyclic from.cyclics position cyclic
  pub gone : left.cyclics ≡ remove from.cyclics position
  pub new_position : ℕ
  pub there : joined.cyclics ≡ insert to.cyclics new_position (carried_over cyclic)
  -- no removal was open at the source, and none begins or ends
  pub still : (from.removal ≡ None) × (left.removal ≡ None)
  pub removal : joined.removal ≡ to.removal
  pub most : (left.most ≡ from.most) × (joined.most ≡ to.most)
  -- each other CPU is as it was
  pub others : (n : ℕ) → n ≢ source → n ≢ target → slice_get w.cpus n ≡ slice_get v.cpus n
  pub online : w.online ≡ v.online

-- each CPU has the cyclics, the removal, the size and the room that it had: at most its ends were asked
pub record OnlyAskedCpus {R : Type 0} (v w : CpusView R) : Type 0 where
  pub cyclics : (n : ℕ) (x y : CpuView R) → IsCpu n x v → IsCpu n y w → y.cyclics ≡ x.cyclics
  pub kept : (n : ℕ) (x y : CpuView R) → IsCpu n x v → IsCpu n y w → SameCpu x y
  pub online : w.online ≡ v.online

-- the calls of a cyclic that are outstanding at its level, where no other thread uses it
abbrev pub outstanding : Level → ℕ → CpuView Tables → ℕ
outstanding Low id v = count (level_of v.low) id
outstanding Lock id v = count (level_of v.lock) id
outstanding High id v = 0
