use Rattle.std.proofs.lemmas.List.{get_or-replicate}
use Rattle.cyc_types.specs.Limits.{cyclics}
use Rattle.cyc_ring_sides.proofs.firing_side.Known.new.Goals as goal

pub returns-clause-free : goal.returns-clause-free
returns-clause-free c = λ i low. get_or-replicate cyclics i 0 0 low
