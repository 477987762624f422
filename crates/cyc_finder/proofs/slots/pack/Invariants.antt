use Rattle.std.proofs.lemmas.List.Filters.{FiltersInPlace}
use Rattle.cyc_finder.proofs.Here.{tests_here}
use Rattle.cyc_finder.proofs.slots.pack.Given as goal

abbrev pub invariant-loop-at : goal.invariant-loop-at
invariant-loop-at l = FiltersInPlace tests_here l.fn.slots.items l.slots.items l.kept l.at
