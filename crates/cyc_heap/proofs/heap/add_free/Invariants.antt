use Rattle.std.proofs.Common.{◌≡◌, ℕ, ◌<◌, ◌≤◌, length, vec_capacity}
use Rattle.cyc_heap.specs.Tournament.{entry_at, free_entry}
use Rattle.cyc_heap.proofs.heap.add_free.Given as goal

abbrev pub invariant-loop-position : goal.invariant-loop-position
invariant-loop-position l = record {
  long : length l.entries.items ≡ l._position;
  least : length l.fn.entries.items ≤ l._position;
  most : l._position ≤ l.number;
  kept : (i : ℕ) → i < length l.fn.entries.items → entry_at l.entries.items i ≡ entry_at l.fn.entries.items i;
  unused : (i : ℕ) → length l.fn.entries.items ≤ i → i < l._position → entry_at l.entries.items i ≡ free_entry;
  room : vec_capacity l.entries ≡ vec_capacity l.fn.entries;
}
