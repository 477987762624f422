use Rattle.uses.proofs.Raising.{IsRaised}
use Rattle.uses.proofs.ring.raise_all.Given as goal

abbrev pub invariant-loop-raised : goal.invariant-loop-raised
invariant-loop-raised l = IsRaised l.ring l.id l.raised l.end.seat
