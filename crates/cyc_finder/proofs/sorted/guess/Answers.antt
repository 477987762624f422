use Rattle.std.proofs.Common.{arith, sym, subst}
use Rattle.cyc_finder.specs.Sorted.{IsAt}
use Rattle.cyc_finder.proofs.sorted.guess.Goals as goal
use Rattle.cyc_finder.proofs.sorted.guess.Goals.{else-guessed-things-via-then-guessed-things+else-stands_at}
use Rattle.cyc_finder.proofs.sorted.guess.Goals.{else-guessed-things-via-else-guessed-things}

pub returns-clause-none : goal.returns-clause-none
returns-clause-none g c first is most at =
    let far = c.distance-guessed.ensures first is most in
    elim c.else-guessed-things.branch [
      | else-guessed-things-via-then-guessed-things+else-stands_at w ↦
          (let elsewhere = rw w.if-stands_at.false at w.stands_at.ensures.elsewhere in
          elsewhere (subst (IsAt g.T.HasId.id_of c.args.things.now c.args.id) (sym far) at))
      | else-guessed-things-via-else-guessed-things w ↦
          (let low = at.in_range in let past = w.if-guessed-things.false in omega (arith, far, low, past))
    ]
