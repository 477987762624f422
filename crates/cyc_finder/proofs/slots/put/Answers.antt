use Rattle.std.proofs.Common.{sym, ap, ◌∙◌, subst, length}
use Rattle.std.specs.List.{insert}
use Rattle.std.proofs.lemmas.List.Edits.{insert_end}
use Rattle.cyc_finder.specs.Sorted.{IsGap}
use Rattle.cyc_finder.specs.Slots.{slot_id, entries_of}
use Rattle.cyc_finder.proofs.Here.{rank, gap_is, come}
use Rattle.cyc_finder.proofs.slots.put.Goals as goal

pub returns-clause-entries : goal.returns-clause-entries
returns-clause-entries c = let xs = c.args.slots.now.items in let id = c.args.id in
    let gap = subst (λ ys. IsGap slot_id ys id (length ys)) c.deref.ensures.value c.if-not-is_above_all.ensures in
    let items = c.push_reserved.ensures.items in (
      rank xs (length xs),
      gap_is xs c.requires.rises id (length xs) gap,
      ap entries_of (items ∙ sym (insert_end xs c.here.result))
          ∙ ap (λ s. entries_of (insert xs (length xs) s)) c.here.ensures ∙ come xs (length xs) id c.args.index,
    )
