-- What is true of every CPU.
use Rattle.std.specs.Prelude.{◌≡◌, ℕ, ◌<◌, ◌≤◌, ◌^◌, length, All, Some}
use Rattle.cyc_types.specs.Limits.{cyclics as most_cyclics}
use Rattle.cyc_types.specs.Series.{never}
use Rattle.cyc_types.specs.Firing.{FiringView, Sound}
use Rattle.cyc_types.specs.declared.level.Level.TheVariants.{Low, Lock}
use Rattle.cyc_types.specs.Expirations.{expirations, times_of}
use Rattle.cyc_types.specs.Timers.{HasDistinctIds}
use Rattle.cyc_timers.specs.Rows.{timers}
use Rattle.cyc_cpu.specs.Cpu.{CpuView, AreAdmitted, HasCounts, HasRisingCyclics, IsRemoved}
use Rattle.cyc_cpu.specs.Losses.{IsSpared}

-- what is true of every CPU
pub record IsLawful {R : Type 0} (view : R → FiringView) (v : CpuView R) : Type 0 where
  pub rising : HasRisingCyclics v.cyclics
  pub distinct : HasDistinctIds (timers v.cyclics)
  pub counted : All (HasCounts v.most) v.cyclics
  -- the cyclics of each soft level are those admitted at its end
  pub lock : AreAdmitted Lock (view v.lock) v.cyclics
  pub low : AreAdmitted Low (view v.low) v.cyclics
  pub sound_lock : Sound (view v.lock)
  pub sound_low : Sound (view v.low)
  -- nothing is lost below the ceiling
  pub spared : All (IsSpared (view v.lock).ceiling (view v.low).ceiling) v.cyclics
  -- the cyclic whose removal is open is one of a soft level, is marked there, and is due at no moment
  pub removed : (id : ℕ) → v.removal ≡ Some id → IsRemoved id v.cyclics
  pub never_due : (id now : ℕ) → v.removal ≡ Some id → now < never
      → times_of id (expirations now (timers v.cyclics)) ≡ 0
  pub marked_lock : (id : ℕ) → (view v.lock).marked ≡ Some id → v.removal ≡ Some id
  pub marked_low : (id : ℕ) → (view v.low).marked ≡ Some id → v.removal ≡ Some id
  -- the size is that of the bank that both ends fill
  pub lock_bank : v.size ≡ 2 ^ (view v.lock).bank
  pub low_bank : v.size ≡ 2 ^ (view v.low).bank
  pub few : length v.cyclics ≤ v.size
  pub size : v.size ≤ most_cyclics
  pub room : v.size ≤ v.room
