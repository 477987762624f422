use Rattle.std.proofs.Common.{◌≡◌, ◌<◌, length, set, sym, ap, ◌∙◌, subst, arith}
use Rattle.std.specs.List.{insert, remove, AllWithin, HoldsAt}
use Rattle.cyc_finder.specs.Slots.{SlotView}
use Rattle.cyc_finder.specs.Sorted.{Rises, IsAt, IsGap}
use Rattle.cyc_finder.specs.Slots.{slot_id, entries_of, IsGoneSlot, IsHereSlot}
use Rattle.cyc_finder.proofs.RisingIds.{rises_inserted}
use Rattle.cyc_finder.proofs.Here.{rank, some_slot, gap_gone, gap_is, gone_is, come, come_again}
use Rattle.cyc_finder.proofs.Coming.{IsWay, Comes, gap_whole, comes_rises, comes_in}
use Rattle.cyc_finder.proofs.slots.put_between.Goals as goal

pub returns-in-Ok-clause-entries : goal.returns-in-Ok-clause-entries
returns-in-Ok-clause-entries c = let xs = c.args.slots.now.items in let id = c.args.id in let p = c.in-Ok.position in
    let at = subst (λ ys. IsAt slot_id ys id p) c.deref.ensures.value c.in-Ok.ensures.found in
    let gone = gone_is xs c.requires.rises id p at c.requires.absent in (
      rank xs p,
      gap_gone xs c.requires.rises id p at (ap (λ (s : SlotView). s.index) (gone some_slot)),
      ap (λ s. entries_of (set xs p s)) c.here-slot.ensures ∙ come_again xs p id c.args.index at.in_range gone,
    )

-- over the slot of one that is gone
module _ (c : goal.After-set_few) where
  over : Comes c.args.slots.now.items c.args.id c.in-Err.gap c.way_in-position.result c.next_gone-gone.result
  over = record {
    rises = c.requires.rises;
    at = subst (λ ys. IsGap slot_id ys c.args.id c.in-Err.gap) c.deref.ensures.value c.in-Err.ensures.absent;
    way = subst (λ ys. IsWay ys c.in-Err.gap c.way_in-position.result) c.deref-in-Err.ensures.value c.way_in-position.ensures;
    up = c.next_gone-gone.ensures.after;
    here = subst (λ ys. AllWithin IsHereSlot ys c.way_in-position.result c.next_gone-gone.result) c.deref-in-Err-2.ensures.value
        c.next_gone-gone.ensures.here;
  }

  low : c.next_gone-gone.result < length c.args.slots.now.items
  low = (let t = c.if-gone-len.true in let long = ap length c.deref-in-Err-2.ensures.value in
      let len = c.deref-in-Err-2.ensures.len in omega (arith, t, long, len))

  gone : HoldsAt IsGoneSlot c.args.slots.now.items c.next_gone-gone.result
  gone = subst (λ ys. c.next_gone-gone.result < length ys → HoldsAt IsGoneSlot ys c.next_gone-gone.result)
      c.deref-in-Err-2.ensures.value
      c.next_gone-gone.ensures.gone low

pub returns-then-gone-len-clause-rises : goal.returns-then-gone-len-clause-rises
returns-then-gone-len-clause-rises c = subst (Rises slot_id) (sym c.move_up.ensures.items)
    (comes_rises (over c) (low c) (gone c) c.here-slot.result (ap slot_id c.here-slot.ensures))

pub returns-then-gone-len-clause-entries : goal.returns-then-gone-len-clause-entries
returns-then-gone-len-clause-entries c = let (k, none, is) = comes_in (over c) (low c) (gone c) c.args.index in (
  k,
  none,
  ap entries_of c.move_up.ensures.items
      ∙ ap (λ s. entries_of (insert (remove c.args.slots.now.items c.next_gone-gone.result) c.way_in-position.result s))
      c.here-slot.ensures
      ∙ is,
)

-- behind all that are here, none of which is gone from there on
module _ (c : goal.After-set_few-in-Err) where
  behind : Comes c.args.slots.now.items c.args.id c.in-Err.gap c.way_in-position.result c.next_gone-gone.result
  behind = record {
    rises = c.requires.rises;
    at = subst (λ ys. IsGap slot_id ys c.args.id c.in-Err.gap) c.deref.ensures.value c.in-Err.ensures.absent;
    way = subst (λ ys. IsWay ys c.in-Err.gap c.way_in-position.result) c.deref-in-Err.ensures.value c.way_in-position.ensures;
    up = c.next_gone-gone.ensures.after;
    here = subst (λ ys. AllWithin IsHereSlot ys c.way_in-position.result c.next_gone-gone.result) c.deref-in-Err-2.ensures.value
        c.next_gone-gone.ensures.here;
  }

  gap : IsGap slot_id c.args.slots.now.items c.args.id c.way_in-position.result
  gap = let t = c.if-gone-len.false in let w = c.next_gone-gone.ensures.within in let up = c.next_gone-gone.ensures.after in
      let long = ap length c.deref-in-Err-2.ensures.value in let len = c.deref-in-Err-2.ensures.len in
      gap_whole behind (omega (arith, up, w, long)) (omega (arith, t, long, len))

  items : c.insert.new.self.items
      ≡ insert c.args.slots.now.items c.way_in-position.result c.here-slot.result
  items = rw (c.insert.ensures.succeeds (let f = c.requires.fits in omega (arith, f))) at c.insert.ensures.items

pub returns-else-gone-len-clause-rises : goal.returns-else-gone-len-clause-rises
returns-else-gone-len-clause-rises c = let xs = c.args.slots.now.items in let p = c.way_in-position.result in
    subst (Rises slot_id) (sym (items c))
    (rises_inserted slot_id xs c.args.id p (gap c) c.requires.rises c.here-slot.result (ap slot_id c.here-slot.ensures))

pub returns-else-gone-len-clause-entries : goal.returns-else-gone-len-clause-entries
returns-else-gone-len-clause-entries c = let xs = c.args.slots.now.items in let p = c.way_in-position.result in (
  rank xs p,
  gap_is xs c.requires.rises c.args.id p (gap c),
  ap entries_of (items c)
      ∙ ap (λ s. entries_of (insert xs p s)) c.here-slot.ensures ∙ come xs p c.args.id c.args.index,
)
