use Rattle.std.proofs.Common.{◌*◌, ◌+◌, ◌-◌, ◌/◌, ◌∙◌, subst₂, arith}
use Rattle.std.proofs.lemmas.List.{get_or_default}
use Rattle.cyc_heap.specs.Tournament.{nowhere, IsWinner}
use Rattle.cyc_heap.proofs.Playing.{played_again}
use Rattle.cyc_heap.proofs.games.play.Goals as goal

pub returns-clause-played : goal.returns-clause-played
returns-clause-played c =
    let xs = c.args.entries.now in
    let p = c.args.position in
    let r = c.requires in
    let long = r.long in
    let low = r.position in
    let x = c.index-entries-position in
    let y = c.index-entries-game in
    played_again c.args.leaves p xs c.winner.result r.long r.position
    (subst₂ (λ a b. IsWinner c.winner.result a b)
    (x.is ∙ get_or_default xs p x.result nowhere (omega (arith, long, low)))
    (y.is ∙ get_or_default xs (4 * (p / 2) + 1 - p) y.result nowhere (omega (arith, long, low)))
    c.winner.ensures)
    r.played
