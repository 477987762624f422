-- What callers see of the CPUs of a system, and calls on them.
use Rattle.std.specs.Prelude.{◌≡◌, ℕ, ◌+◌, Bool, true, false, List, [], ◌∷◌, map, length, replicate, slice_set, Some, None}
use Rattle.std.specs.Prelude.{Result}
use Rattle.std.specs.List.{slice_get, FoldsTo}
use Rattle.cyc_types.specs.declared.Calls.{Ghosts as Calls}
use Rattle.cyc_types.specs.declared.Raise.{Ghosts as Raise}
use Rattle.cyc_types.specs.declared.level.Soft.{Soft}
use Rattle.cyc_cpu.specs.Ran.{Ran}
use Rattle.cyc_cpu.specs.SoftRefused.{SoftRefused}
use Rattle.cyc_cpu.specs.Cpu.{CpuView, Running, running}
use Rattle.cyc_cpu.specs.Calls.{CpuCall, CpuChanges, CpuDoes}

-- the firing sides by number, and beside them which are online
pub record CpusView (R : Type 0) : Type 0 where
  pub cpus : List (CpuView R)
  pub online : List Bool

-- the CPU of this number
abbrev pub IsCpu : {R : Type 0} → ℕ → CpuView R → CpusView R → Type 0
IsCpu n cpu v = slice_get v.cpus n ≡ Some cpu

-- this holds of the CPU of this number
abbrev pub OfCpu : {R : Type 0} → ℕ → (CpuView R → Type 0) → CpusView R → Type 0
OfCpu {R} n P v = (cpu : CpuView R) → IsCpu n cpu v → P cpu

-- these CPUs with another at this number
abbrev pub with_cpu : {R : Type 0} → CpusView R → ℕ → CpuView R → CpusView R
with_cpu v n cpu = record v { cpus = slice_set v.cpus n cpu }

abbrev pub IsOnline : {R : Type 0} → ℕ → CpusView R → Type 0
IsOnline n v = slice_get v.online n ≡ Some true

-- the numbers of those that are true, counted from this number on
abbrev pub numbers_from : ℕ → List Bool → List ℕ
numbers_from n [] = []
numbers_from n (true ∷ tests) = n ∷ numbers_from (n + 1) tests
numbers_from n (false ∷ tests) = numbers_from (n + 1) tests

-- the numbers of the online CPUs, rising
abbrev pub online_cpus : {R : Type 0} → CpusView R → List ℕ
online_cpus v = numbers_from 0 v.online

-- one CPU became another so; all else is as it was
pub record ChangesAt {R : Type 0} (n : ℕ) (D : CpuView R → CpuView R → Type 0) (v w : CpusView R) : Type 0 where
  pub before : CpuView R
  pub after : CpuView R
  pub here : IsCpu n before v
  pub change : D before after
  pub rest : w ≡ with_cpu v n after

-- a call on the CPU of a number
pub record CallOn : Type 0 where
  pub cpu : ℕ
  pub call : CpuCall

abbrev pub on : ℕ → CpuCall → CallOn
on n call = record { cpu = n; call = call }

-- the call was made on its CPU, and it reached no handler
abbrev pub DoesAt : {R : Type 0} → Raise R → CpusView R → CallOn → CpusView R → Type 0
DoesAt firing v c w = ChangesAt c.cpu (λ x y. CpuChanges firing x c.call y) v w

-- these calls were made, in order, and no other
abbrev pub Works : {R : Type 0} → Raise R → List CallOn → CpusView R → CpusView R
    → Type 0
Works firing way v w = FoldsTo (DoesAt firing) v way w

-- the CPUs and the handlers of their cyclics
pub record RunningCpus (C R : Type 0) : Type 0 where
  pub cpus : CpusView R
  pub calls : C

abbrev pub running_cpus : {C R : Type 0} → C → CpusView R → RunningCpus C R
running_cpus calls v = record { cpus = v; calls = calls }

-- the call was made on its CPU, which reached the handlers that it did
abbrev pub RunsAt : {C R : Type 0} → Calls C
    → Raise R → (Soft → ℕ → Result Ran SoftRefused → Running C R → Running C R → Type 0)
    → RunningCpus C R → CallOn → RunningCpus C R → Type 0
RunsAt handler firing interrupts s c t = ChangesAt c.cpu
    (λ x y. CpuDoes handler firing interrupts (running s.calls x) c.call (running t.calls y)) s.cpus t.cpus

-- a CPU with no cyclic and of size 1, over the ends of its lock and its low level
abbrev pub new_cpu : {R : Type 0} → ℕ → R → R → CpuView R
new_cpu most lock low = record {
  cyclics = [];
  removal = None;
  size = 1;
  room = 1;
  most = most;
  suspended = false;
  lock = lock;
  low = low;
}

-- CPUs over these ends, all of them online
abbrev pub new_cpus : {R : Type 0} → ℕ → List (R × R) → CpusView R
new_cpus most ends = record { cpus = map (λ e. new_cpu most e.0 e.1) ends; online = replicate (length ends) true }
