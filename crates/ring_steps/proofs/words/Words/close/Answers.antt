use Rattle.std.proofs.Common.{rules, ℕ, List, get_or, sym, ap, ◌∙◌}
use Rattle.std.specs.Slots.{slots_items}
use Rattle.ring_rule.specs.Words.{pend_word}
use Rattle.ring_steps.proofs.Closing.{Ended, ended, or_elem}
use Rattle.ring_steps.proofs.words.Words.close.Goals as goal

pub returns : goal.returns
returns c = let k = c.args.self.setting in let ws : List ℕ = slots_items c.close_with-closed.result.words in
    let both = c.args.both in let v = both.seat.me.0 in
    let E : Ended k ws v = ended c.closing_stands.ensures c.args.self.table.shared.key k c.args.self.key both.seat.id v both.role
    ws _
    c.close_with-closed.ensures.values.2 in (
      E.0,
      E.2,
      E.3,
      λ i low. sym (ap (λ (w : List ℕ). get_or w (pend_word i) 0) (sym E.1)
          ∙ or_elem ws (pend_word i) _ (c.loop-i.invariant.1 i (search rules))),
    )
