use Rattle.std.proofs.Common.{◌≡◌, ℕ, ◌<◌, length}
use Rattle.cyc_heap.specs.Tournament.{entry_at, free_entry}
use Rattle.cyc_heap.proofs.between.clear.Given as goal

abbrev pub invariant-loop-position : goal.invariant-loop-position
invariant-loop-position l = record {
  long : length l.leaves ≡ length l.fn.leaves;
  free : (i : ℕ) → i < l.position → entry_at l.leaves i ≡ free_entry;
}
