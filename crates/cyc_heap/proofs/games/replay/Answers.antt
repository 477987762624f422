use Rattle.std.proofs.Common.{ℕ, ◌+◌, ◌*◌, ◌/◌, ◌<◌, ◌≤◌, arith, List, Option, None, Some}
use Rattle.std.specs.Prelude.{IfSome, IfNone}
use Rattle.cyc_heap.specs.declared.entry.Entry.{Entry}
use Rattle.cyc_heap.specs.Tournament.{IsPlayed, IsPlayedBut}
use Rattle.cyc_heap.proofs.games.replay.Goals as goal

-- four games lead from near the last winner to it
played_out : (leaves position : ℕ) (es : List Entry) (o : Option ℕ) → 2 * leaves ≤ position + 32
    → IfSome o (λ p. p + 1 < 2 * leaves)
    → IfSome o (λ p. (most : ℕ) → 2 * leaves ≤ position + 32 * most → 2 * leaves ≤ p + 2 * most)
    → IfNone o (IsPlayed leaves es) → IfSome o (λ p. IsPlayedBut (p / 2) leaves es) → IsPlayed leaves es
played_out leaves position es None near within nearer won played = won
played_out leaves position es (Some p) near within nearer won played =
    λ g low. let last = nearer 1 (omega (arith, near)) in played g low (λ e. omega (arith, e, low, last, within))

-- three times four games lead from any leaf to the last winner
pub returns-clause-played : goal.returns-clause-played
returns-clause-played c =
    let few = c.requires.few in
    let first = c.in-Some.ensures.nearer (16 * 16) (omega (arith, few)) in
    let second = c.in-Some-play_four.ensures.nearer 16 (omega (arith, first)) in
    let last = c.play_four-3 in
    played_out c.args.leaves c.in-Some-play_four.position last.new.entries last.result (omega (arith, second))
    last.ensures.position last.ensures.nearer last.ensures.won last.ensures.played
