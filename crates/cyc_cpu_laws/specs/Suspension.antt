-- A CPU that is suspended, until it is resumed.
use Rattle.std.specs.Prelude.{◌≡◌, ℕ, true, List}
use Rattle.std.specs.List.{FoldsTo}
use Rattle.cyc_types.specs.declared.level.Level.{Level}
use Rattle.cyc_cpu.specs.Cpu.{Running}
use Rattle.cyc_cpu.specs.Calls.{CpuCall, Resume}
use Rattle.cyc_cpu_laws.specs.Accounts.{account_in}

-- the call doesn't resume the CPU
abbrev pub IsNoResume : CpuCall → Type 0
IsNoResume Resume = ⊥
IsNoResume call = Unit {0}

-- after this run the CPU is suspended, and in it no cyclic expired at any level: no end was raised, and no high handler called
pub record StandsStill {C R : Type 0} (D : Running C R → CpuCall → Running C R → Type 0) (s : Running C R) (way : List CpuCall)
    (t : Running C R) (run : FoldsTo D s way t) : Type 0 where
  pub suspended : t.cpu.suspended ≡ true
  pub unfired : (level : Level) (id : ℕ) → (account_in D s way t run).fired level id ≡ 0
