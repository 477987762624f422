use Rattle.std.proofs.Common.{◌≡◌, ℕ, ◌<◌, length}
use Rattle.cyc_heap.specs.Tournament.{entry_at, IsPlayedAt}
use Rattle.cyc_heap.proofs.games.play_all.Given as goal

abbrev pub invariant-loop-game : goal.invariant-loop-game
invariant-loop-game l = record {
  long : length l.entries ≡ length l.fn.entries;
  kept : (i : ℕ) → i < l.leaves → entry_at l.entries i ≡ entry_at l.fn.entries i;
  played : (g : ℕ) → g < l.game → IsPlayedAt g l.leaves l.entries;
}
