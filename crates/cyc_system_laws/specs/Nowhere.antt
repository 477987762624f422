-- An id that is on no CPU.
use Rattle.std.specs.Prelude.{◌≡◌, ℕ}
use Rattle.cyc_core.specs.Tables.{Tables}
use Rattle.cyc_cpu.specs.Gone.{IsGone}
use Rattle.cyc_agreement.specs.Cpus.{CpusView, OfCpu, RunningCpus}

-- no CPU has a cyclic of this id, and none of their levels has the id
abbrev pub IsNowhere : ℕ → CpusView Tables → Type 0
IsNowhere id v = (n : ℕ) → OfCpu n (IsGone id) v

-- the id is still nowhere, and no call of it was made
abbrev pub StaysNowhere : {C : Type 0} → (C → ℕ → ℕ) → ℕ → RunningCpus C Tables → RunningCpus C Tables → Type 0
StaysNowhere count id s t = IsNowhere id t.cpus × (count t.calls id ≡ count s.calls id)
