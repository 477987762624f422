use Rattle.std.proofs.Common.{◌≡◌, ◌≢◌, ℕ, ◌<◌, length}
use Rattle.cyc_heap.specs.Tournament.{entry_at, cyclic_index}
use Rattle.cyc_heap.proofs.between.enter_few.Given as goal

abbrev pub invariant-loop-entry : goal.invariant-loop-entry
invariant-loop-entry l = record {
  long : length l.leaves ≡ length l.fn.leaves;
  here : (p : ℕ) → p < l.entry-index → entry_at l.leaves (cyclic_index (entry_at l.few p)) ≡ entry_at l.few p;
  others : (i : ℕ) → i < length l.fn.leaves → ((p : ℕ) → p < l.entry-index → cyclic_index (entry_at l.few p) ≢ i)
      → entry_at l.leaves i ≡ entry_at l.fn.leaves i;
}
