-- What follows where a cyclic has left its CPU: of any CPU, and of one whose levels no other thread uses.
use Rattle.std.specs.Prelude.{◌≡◌, ◌≢◌, ℕ, ◌⊎◌, None}
use Rattle.cyc_types.specs.declared.receipt.Receipt.{Receipt}
use Rattle.cyc_types.specs.declared.Raise.{Ghosts as Raise}
use Rattle.cyc_types.specs.Firing.{FiringView}
use Rattle.cyc_core.specs.Level.{SoftLevel, place_count}
use Rattle.cyc_core.specs.Tables.{Tables, level_of}
use Rattle.cyc_cpu.specs.declared.removing.Removal.TheVariants.{Done}
use Rattle.cyc_cpu.specs.Cpu.{CpuView, Running, HasNoCyclic}
use Rattle.cyc_cpu.specs.declared.moving.Taken.{Taken}
use Rattle.cyc_cpu.specs.Removal.{BeginsHere, Ends}
use Rattle.cyc_cpu.specs.Moving.{TakesNow}
use Rattle.cyc_cpu.specs.Calls.{CpuCall, Add, Place}

-- the id is not admitted at the level, and stands in no place of it
pub record IsAbsent (id : ℕ) (l : SoftLevel) : Type 0 where
  pub not_admitted : l.cyclics id ≡ None
  pub nowhere : place_count l id ≡ 0

-- no cyclic of the CPU has the id, and it is at neither of its levels
pub record IsGone (id : ℕ) (v : CpuView Tables) : Type 0 where
  pub no_cyclic : HasNoCyclic id v.cyclics
  pub lock : IsAbsent id (level_of v.lock)
  pub low : IsAbsent id (level_of v.low)

-- the cyclic of this id has left: its removal has answered, as it began or at a poll, or it was taken to another CPU
abbrev pub HasLeft : {R : Type 0} → Raise R
    → ℕ → CpuView R → CpuView R → Type 0
HasLeft firing id v w = ((receipt : Receipt) × BeginsHere firing id v (Done receipt) w)
    ⊎ ((receipt : Receipt) × (receipt.id ≡ id) × Ends firing receipt v w)
    ⊎ ((taken : Taken) × TakesNow firing id taken v w)

-- no cyclic of the CPU has the id, and it is a stay of neither end
pub record IsOff {R : Type 0} (view : R → FiringView) (id : ℕ) (v : CpuView R) : Type 0 where
  pub no_cyclic : HasNoCyclic id v.cyclics
  pub lock : (view v.lock).stays id ≡ None
  pub low : (view v.low).stays id ≡ None

-- the call puts in no cyclic of this id
abbrev pub PutsNot : ℕ → CpuCall → Type 0
PutsNot id (Place own level interval moment carried) = own ≢ id
PutsNot id (Add own level when now answer) = own ≢ id
PutsNot id call = Unit {0}

-- the id is gone, and no call of it was made
abbrev pub StaysGone : {C : Type 0} → (C → ℕ → ℕ) → ℕ → Running C Tables → Running C Tables → Type 0
StaysGone count id s t = IsGone id t.cpu × (count t.calls id ≡ count s.calls id)
