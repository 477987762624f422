-- The CPUs of a machine before its first step.
use Rattle.std.specs.Prelude.{◌≡◌, ℕ, ◌^◌, max, [], None}
use Rattle.cyc_core.specs.Tables.{Tables, level_of}
use Rattle.cyc_cpu.specs.Cpu.{CpuView, HasFollowed, bank_for}
use Rattle.cyc_cpu.specs.Soft.{firing_at}

-- a CPU with no cyclic
pub record IsEmptyCpu (v : CpuView Tables) : Type 0 where
  pub cyclics : v.cyclics ≡ []
  pub removal : v.removal ≡ None
  pub size : v.size ≡ 1
  pub followed : HasFollowed firing_at v

-- memory for so many cyclics was taken, that of the least bank which has a slot for each, and nothing else of it changed
pub record HasReserved (wanted : ℕ) (v w : CpuView Tables) : Type 0 where
  pub room : w.room ≡ max v.room (2 ^ bank_for wanted)
  pub cyclics : w.cyclics ≡ v.cyclics
  pub removal : w.removal ≡ v.removal
  pub size : w.size ≡ v.size
  pub most : w.most ≡ v.most
  pub suspended : w.suspended ≡ v.suspended
  pub lock : level_of w.lock ≡ level_of v.lock
  pub low : level_of w.low ≡ level_of v.low
