-- An id that has left its CPU, and what follows.
use Rattle.std.specs.Prelude.{◌≡◌, ℕ, List}
use Rattle.std.specs.List.{FoldsTo}
use Rattle.cyc_types.specs.Firing.{FiringView}
use Rattle.cyc_types.specs.declared.level.Level.{Level}
use Rattle.cyc_cpu.specs.Cpu.{Running}
use Rattle.cyc_cpu.specs.Calls.{CpuCall}
use Rattle.cyc_cpu.specs.Gone.{IsOff}
use Rattle.cyc_cpu_laws.specs.Accounts.{account_in}

-- these calls led from one CPU to another
pub record Run {C R : Type 0} (D : Running C R → CpuCall → Running C R → Type 0) : Type 0 where
  pub from : Running C R
  pub way : List CpuCall
  pub to : Running C R
  pub made : FoldsTo D from way to

abbrev pub run_from : {C R : Type 0} → (D : Running C R → CpuCall → Running C R → Type 0) → (s : Running C R)
    → (way : List CpuCall) → (t : Running C R) → FoldsTo D s way t → Run D
run_from D s way t run = record { from = s; way = way; to = t; made = run }

-- after this run the id is still off the CPU, and in it no handler of it was called, and no end was raised for it
pub record StaysOff {C R : Type 0} (count : C → ℕ → ℕ) (view : R → FiringView)
    (D : Running C R → CpuCall → Running C R → Type 0) (id : ℕ) (r : Run D) : Type 0 where
  pub off : IsOff view id r.to.cpu
  pub uncalled : count r.to.calls id ≡ count r.from.calls id
  pub unfired : (level : Level) → (account_in D r.from r.way r.to r.made).fired level id ≡ 0
