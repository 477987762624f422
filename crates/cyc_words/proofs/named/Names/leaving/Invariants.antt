use Rattle.std.specs.Prelude.{◌≡◌, ℕ, ◌<◌, false}
use Rattle.cyc_words.specs.Names.{named_at, has_open_removal}
use Rattle.cyc_words.proofs.named.Names.leaving.Given as goal

abbrev pub invariant-loop-name : goal.invariant-loop-name
invariant-loop-name l = record {
  same : l.self-inside.list.items ≡ l.fn.self;
  none : (k : ℕ) → k < l.name → has_open_removal (named_at l.self-inside.list.items k) ≡ false;
}
