-- Several CPUs that were asked whether they have settled.
use Rattle.std.specs.Prelude.{◌≡◌, ℕ, ◌<◌, List, length, slice_set, Some}
use Rattle.std.specs.List.{slice_get}
use Rattle.cyc_types.specs.declared.Raise.{Ghosts as Raise}
use Rattle.cyc_types.specs.Firing.{FiringView}
use Rattle.cyc_cpu.specs.Cpu.{CpuView}
use Rattle.cyc_cpu.specs.Moving.{IsSettled}
use Rattle.cyc_workers.specs.Settling.{Settles}

-- nothing was done to any of the CPUs but to ask it whether it has settled
pub record AllAsked {R : Type 0} (firing : Raise R)
    (v w : List (CpuView R)) : Type 0 where
  pub long : length w ≡ length v
  pub each : (n : ℕ) (x y : CpuView R) → slice_get v n ≡ Some x → slice_get w n ≡ Some y → Settles firing x y

-- the CPUs before this number have settled
abbrev pub AreSettled : {R : Type 0} → (R → FiringView) → ℕ → List (CpuView R) → Type 0
AreSettled {R} view k w = (n : ℕ) (y : CpuView R) → n < k → slice_get w n ≡ Some y → IsSettled view y

-- all of them have
abbrev pub AllSettled : {R : Type 0} → (R → FiringView) → List (CpuView R) → Type 0
AllSettled {R} view w = (n : ℕ) (y : CpuView R) → slice_get w n ≡ Some y → IsSettled view y

-- the CPU of this number alone was asked
pub record AsksAt {R : Type 0} (firing : Raise R) (k : ℕ)
    (v w : List (CpuView R)) : Type 0 where
  pub before : CpuView R
  pub after : CpuView R
  pub here : slice_get v k ≡ Some before
  pub asked : Settles firing before after
  pub rest : w ≡ slice_set v k after
