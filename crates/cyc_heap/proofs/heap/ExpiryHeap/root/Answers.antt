use Rattle.std.proofs.Common.{IsSome, subst, arith}
use Rattle.std.proofs.lemmas.Bool.{false≢true}
use Rattle.cyc_heap.proofs.Views.{count_none}
use Rattle.cyc_heap.proofs.heap.ExpiryHeap.root.Goals as goal

pub returns-in_err-moment-clause-some : goal.returns-in_err-moment-clause-some
returns-in_err-moment-clause-some c = (
  λ some. absurd (false≢true (subst IsSome c.from_residual.ensures some)),
  λ less. absurd (let (free, _) = c.first-first.ensures.free c.in_err-moment.ensures.none in
      let none = count_none c.args.self.now.slots free in omega (arith, less, none)),
)
