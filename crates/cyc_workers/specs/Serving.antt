-- What the handlers of a soft level were called for.
use Rattle.std.specs.Prelude.{◌≡◌, ℕ, ◌+◌, List}
use Rattle.std.specs.List.{FoldsTo}
use Rattle.cyc_types.specs.Counting.{times}

-- the handlers were called for these ids, in order, and for no other; each id as often as the soft side of the ring finished it
pub record HasServed {C : Type 0} (called : C → ℕ → C → Type 0) (count : C → ℕ → ℕ) (made : ℕ → ℕ)
    (calls calls' : C) : Type 0 where
  pub ids : List ℕ
  pub called_all : FoldsTo called calls ids calls'
  pub listed : (id : ℕ) → times id ids ≡ made id
  pub counted : (id : ℕ) → count calls' id ≡ count calls id + made id
