-- What a closed ring says of each cyclic.
use Rattle.std.specs.Prelude.{◌≡◌, ◌≢◌, ℕ, ◌+◌, ◌↔◌, true, Some, List}
use Rattle.ring_rule.specs.declared.RaiseStep.{RaiseStep}
use Rattle.cyc_level.specs.Runs.{StayCounts}
use Rattle.ring_rule.specs.Trail.{open_stay, ended_calls, marked_of, made_calls}
use Rattle.cyc_ring.specs.Ends.{raise_trail, drain_trail}
use Rattle.cyc_ring.specs.declared.closed.Book.{Book}
use Rattle.cyc_ring.specs.declared.closed.Closed.{Closed}

-- the steps that the firing side made
abbrev pub closed_raises : Closed → List RaiseStep
closed_raises c = raise_trail c.raise_seat.value

-- the finishes of each id that the soft side made
abbrev pub closed_made : Closed → ℕ → ℕ
closed_made c id = made_calls id (drain_trail c.drain_seat.value)

-- no cyclic is admitted at the index
abbrev pub IsFree : ℕ → Closed → Type 0
IsFree index c = (id : ℕ) (s : StayCounts) → open_stay id (closed_raises c) ≡ Some s → s.index ≢ index

-- the book of the cyclic that is admitted at the index
pub record IsBook (index : ℕ) (b : Book) (c : Closed) : Type 0 where
  -- its expirations and losses are those that the firing side's calls made
  pub stay : open_stay b.id (closed_raises c) ≡ Some record { index = index; sent = b.sent; lost = b.lost }
  -- its expirations are the calls done, those outstanding and those lost
  pub conserved : b.sent ≡ b.done + b.count + b.lost
  -- the finishes of the id are its calls done and those of its ended stays
  pub finished : closed_made c b.id ≡ b.done + ended_calls b.id (closed_raises c)
  pub removal : (b.marked ≡ true) ↔ (marked_of (closed_raises c) ≡ Some b.id)
