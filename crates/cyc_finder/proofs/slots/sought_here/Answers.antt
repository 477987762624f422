use Rattle.std.proofs.Common.{sym, ap, ◌∙◌}
use Rattle.cyc_finder.specs.Slots.{SlotView}
use Rattle.cyc_finder.proofs.Here.{index_is, index_none, none_is}
use Rattle.cyc_finder.proofs.slots.sought_here.Goals as goal

pub returns-then-not-is_here-clause-none : goal.returns-then-not-is_here-clause-none
returns-then-not-is_here-clause-none c = let s = c.index-slots-position.result in
    index_is c.args.slots.now c.requires c.args.id c.in-Ok.position c.in-Ok.ensures.found s
    ∙ sym (ap (λ (s : SlotView). s.index) c.index-slots-position.is)
    ∙ none_is s.index (sym c.is_here.ensures ∙ c.if-not-is_here.true)

pub returns-in-Err-clause-none : goal.returns-in-Err-clause-none
returns-in-Err-clause-none c = index_none c.args.slots.now c.requires c.args.id c.in-Err.field-0 c.in-Err.ensures.absent
