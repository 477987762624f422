use Rattle.std.proofs.Common.{◌≡◌, vec_capacity}
use Rattle.cyc_heap.proofs.Gathering.{IsGathered}
use Rattle.cyc_heap.proofs.between.gather.Given as goal

abbrev pub invariant-loop-position : goal.invariant-loop-position
invariant-loop-position l = record {
  gathered : IsGathered l.fn.entries.items l.position l.held l.entries.items;
  room : vec_capacity l.entries ≡ vec_capacity l.fn.entries;
}
