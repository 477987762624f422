use Rattle.std.proofs.Common.{rules, ℕ, List, [], sym, subst}
use Rattle.atomic_table.specs.Table.{opening}
use Rattle.ring_rule.specs.declared.Setting.{Setting}
use Rattle.ring_rule.specs.Rule.{MeetsRule, opening_view}
use Rattle.ring_steps.proofs.words.Words.open.Goals as goal

pub of_words-requires : goal.of_words-requires
of_words-requires c = let k : Setting = record { ceiling = c.calls.result; start = c.args.start } in
    subst (λ (ws : List ℕ). MeetsRule k (opening ws [] opening_view)) (sym c.as_slice.ensures.value)
    (c.opening_meets_the_rule.ensures k c.in_ok-words.words.items c.in_ok-words.ensures.0 c.in_ok-words.ensures.1
    (search rules) (search rules))
