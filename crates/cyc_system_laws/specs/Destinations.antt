-- What a destination is, whatever way it is found.
use Rattle.std.specs.Prelude.{◌≡◌, ◌≢◌, ℕ, ◌<◌, ◌≤◌, ◌⊎◌, Option, Some}
use Rattle.cyc_agreement.specs.Cpus.{CpusView, IsOnline}
use Rattle.cyc_agreement.specs.Destination.{len_of}

-- an online CPU other than the source
abbrev pub IsFitTarget : {R : Type 0} → Option ℕ → ℕ → CpusView R → Type 0
IsFitTarget source n v = IsOnline n v × (source ≢ Some n)

-- the one with the fewest cyclics, and of several the one with the smallest number
pub record IsDestination {R : Type 0} (source : Option ℕ) (d : ℕ) (v : CpusView R) : Type 0 where
  pub fit : IsFitTarget source d v
  pub least : (n : ℕ) → IsFitTarget source n v → (len_of d v < len_of n v) ⊎ ((len_of d v ≡ len_of n v) × (d ≤ n))
