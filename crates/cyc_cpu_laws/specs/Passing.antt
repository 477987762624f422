-- How one end came from one value to another, for one who doesn't ask by which calls.
use Rattle.std.specs.Prelude.{◌≡◌, ℕ, List}
use Rattle.cyc_types.specs.declared.Raise.{Ghosts as Raise}
use Rattle.cyc_types.specs.Firing.{FiringCall}
use Rattle.cyc_types.specs.Runs.{Goes, raised_by, lost_by}

-- calls of its firing side alone led an end from e to f, with so many raises of each id, of which so many were lost
pub record Passes {R : Type 0} (firing : Raise R) (raised lost : ℕ → ℕ)
    (e f : R) : Type 0 where
  pub way : List FiringCall
  pub goes : Goes firing e way f
  pub raises : (id : ℕ) → raised_by id way ≡ raised id
  pub losses : (id : ℕ) → lost_by id way ≡ lost id
