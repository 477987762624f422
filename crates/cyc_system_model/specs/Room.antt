-- Memory for so many cyclics on a CPU.
use Rattle.std.specs.Prelude.{ℕ, ◌≤◌, ◌^◌}
use Rattle.cyc_types.specs.Limits.{cyclics as most_cyclics}
use Rattle.cyc_cpu.specs.Cpu.{CpuView, bank_for}
use Rattle.cyc_system.specs.Cpus.{CpusView, IsCpu}

-- The CPU has memory for so many cyclics, or where it can't have so many for as many as it can have, and for the indexes that it
-- has: up to that number it takes none any more.
pub record HasRoomFor {R : Type 0} (wanted : ℕ) (cpu : CpuView R) : Type 0 where
  pub room : (n : ℕ) → n ≤ wanted → n ≤ most_cyclics → 2 ^ bank_for n ≤ cpu.room
  pub size : cpu.size ≤ cpu.room

-- so has each of these
abbrev pub HaveRoomFor : {R : Type 0} → ℕ → CpusView R → Type 0
HaveRoomFor {R} wanted v = (n : ℕ) (cpu : CpuView R) → IsCpu n cpu v → HasRoomFor wanted cpu
