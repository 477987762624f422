-- What the holder of a level's soft side knows: the cyclic in hand, and the calls that it finished.
use Rattle.std.specs.Prelude.{ℕ, Option, Some, None}
use Rattle.cyc_types.specs.Counting.{one_at}
use Rattle.cyc_types.specs.declared.draining.Finished.{Finished}
use Rattle.cyc_types.specs.declared.draining.Finished.TheVariants.{More, Last, LastOfRemoval}

-- the calls of the soft side, each with its answer
pub data DrainCall : Type 0 where
  Takes : Option ℕ → DrainCall
  Finishes : ℕ → Finished → DrainCall

-- the hand after a finish: a cyclic with more calls outstanding stays in it
abbrev pub hand_after : Finished → Option ℕ → Option ℕ
hand_after More hand = hand
hand_after Last hand = None
hand_after LastOfRemoval hand = None

-- one where the id is in the hand
abbrev pub one_of : ℕ → Option ℕ → ℕ
one_of id None = 0
one_of id (Some x) = one_at id x
