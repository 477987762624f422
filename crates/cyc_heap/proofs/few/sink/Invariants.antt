use Rattle.std.proofs.Common.{◌-◌, ◌<◌, length}
use Rattle.cyc_heap.specs.Few.{IsHeapBut, IsBelow, IsSame}
use Rattle.cyc_heap.proofs.few.sink.Given as goal

abbrev pub invariant-loop-hole : goal.invariant-loop-hole
invariant-loop-hole l = record {
  low : l.hole < length l.few;
  heap : IsHeapBut l.hole l.few;
  below : IsBelow l.entry l.hole l.few;
  same : IsSame l.fn.position l.fn.few l.hole l.few;
}

abbrev pub decreases-loop-hole : goal.decreases-loop-hole
decreases-loop-hole l = length l.few - l.hole
