use Rattle.std.proofs.Common.{subst}
use Rattle.cyc_system_laws.specs.Moved.{Moved}
use Rattle.cyc_system_laws.proofs.Moves.{moves}
use Rattle.cyc_system_laws.proofs.Refusing.{not_shifted}
use Rattle.cyc_system_laws.proofs.shifting.shift_law.Goals as goal

pub returns-clause-moved : goal.returns-clause-moved
returns-clause-moved g c id source target v w apart (taken, (v1, d1, (v2, d2, (v3, d3, (v4, d4, (v5, d5, last)))))) =
    subst (λ u. Moved id source target v u) last
    (moves g.R.Raise id source target taken apart v v1 v2 v3 v4 v5 d1 d2 d3 d4 d5)

pub returns-clause-refused : goal.returns-clause-refused
returns-clause-refused g c id source target e v w apart why = not_shifted g.R.Raise id source target e v w why
