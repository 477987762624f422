use Rattle.std.proofs.Common.{◌-◌, length}
use Rattle.cyc_heap.specs.Few.{HasWordFrom}
use Rattle.cyc_heap.proofs.few.find_word.Given as goal

abbrev pub invariant-loop-word : goal.invariant-loop-word
invariant-loop-word l = HasWordFrom l.position l.word l.few

abbrev pub decreases-loop-word : goal.decreases-loop-word
decreases-loop-word l = length l.few - l.position
