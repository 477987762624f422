use Rattle.std.proofs.Common.{◌<◌, length, length-set, get_or, arith, ap, sym, ◌∙◌, subst, Some}
use Rattle.std.proofs.Math.ListN.{set}
use Rattle.std.proofs.lemmas.List.{length-map}
use Rattle.std.specs.Prelude.{insert}
use Rattle.cyc_types.specs.Expirations.{Expiration}
use Rattle.cyc_timers.specs.Rows.{Row, TableView, IsTable, HasNo, row_of, rows_of, with_record, vacant_row}
use Rattle.cyc_timers.proofs.Tables.{row_at}
use Rattle.cyc_timers.proofs.Finding.{absent_index, not_indexed}
use Rattle.cyc_timers.proofs.Widening.{fresh, new_table_is, new_rows}
use Rattle.cyc_timers.proofs.table.Table.insert.Goals as goal

pub insert-requires-clause-absent : goal.insert-requires-clause-absent
insert-requires-clause-absent c = let i = c.self.inside in
    absent_index i.heap.slots i.records.items i.finder.entries c.self.invariant.0 c.args.id
    (subst (λ (v : TableView). HasNo c.args.id v.rows) (sym c.self.view_is) c.requires.absent)

pub insert-requires-clause-free : goal.insert-requires-clause-free
insert-requires-clause-free c = let i = c.self.inside in
    not_indexed i.heap.slots i.records.items i.finder.entries c.self.invariant.0 c.insert-index.result c.insert-index.ensures.free

pub invariant_of-self : goal.invariant_of-self
invariant_of-self c =
    let slots = c.self.inside.heap.slots in let records = c.self.inside.records.items in
    let entries = c.self.inside.finder.entries in
    let t = c.self.invariant.0 in let caps = c.self.invariant in
    let (q, gap, items) = c.insert.ensures.entries in
    let index = c.insert-index.result in let free = c.insert-index.ensures.free in let low_i = c.insert-index.ensures.below in
    let grown = c.insert.ensures.room in let same_room = c.insert-index.ensures.room in
    let s = ap length c.insert-index.ensures.slots in let e : Expiration = record { moment = c.args.moment; id = c.args.id } in
    let l = length-set slots index (Some e) in (
      subst (λ ps. IsTable c.insert-index.new.self.slots (set records c.number.result c.args.kept) ps) (sym items)
          (subst (λ n. IsTable c.insert-index.new.self.slots (set records n c.args.kept)
          (insert entries q (record { id = c.args.id; index = index }))) (sym c.number.ensures.value)
          (subst (λ xs. IsTable xs (set records index c.args.kept) (insert entries q (record { id = c.args.id; index = index })))
          (sym c.insert-index.ensures.slots)
          (new_table_is slots records entries t c.args.id index c.args.moment q c.args.kept free low_i gap c.requires.moment
          c.requires.interval.0 c.requires.interval.1))),
      omega (arith, caps, same_room),
      omega (arith, caps, same_room, grown),
      omega (arith, caps, same_room, s, l),
    )

pub returns-clause-fresh : goal.returns-clause-fresh
returns-clause-fresh c k d low same =
    let slots = c.self.inside.heap.slots in let records = c.self.inside.records.items in
    let entries = c.self.inside.finder.entries in
    let rows = ap (λ (v : TableView). v.rows) c.self.view_is in
    let long = ap length rows in let mapped = length-map entries (row_of slots records) in
    let (q, gap, items) = c.insert.ensures.entries in
    let low' : k < length entries = omega (arith, low, long, mapped) in
    fresh slots records entries c.self.invariant.0 c.args.id c.insert-index.result c.args.moment q c.args.kept
    c.insert-index.ensures.free c.insert-index.ensures.below gap k low'
    (ap (λ (x : Row). x.index) (sym (ap (λ xs. get_or xs k d) (sym rows) ∙ row_at slots records entries k d low')) ∙ same)

pub returns-clause-rows : goal.returns-clause-rows
returns-clause-rows c =
    let slots = c.self.inside.heap.slots in let records = c.self.inside.records.items in
    let entries = c.self.inside.finder.entries in
    let rows = ap (λ (v : TableView). v.rows) c.self.view_is in
    let long = ap length rows in let mapped = length-map entries (row_of slots records) in
    let (q, gap, items) = c.insert.ensures.entries in
    let index = c.insert-index.result in (
      q,
      (let within = gap.in_range in omega (arith, within, long, mapped)),
      ap (λ ps. rows_of c.insert-index.new.self.slots (set records c.number.result c.args.kept) ps) items
          ∙ ap (λ n. rows_of c.insert-index.new.self.slots (set records n c.args.kept)
          (insert entries q (record { id = c.args.id; index = index }))) c.number.ensures.value
          ∙ ap (λ xs. rows_of xs (set records index c.args.kept) (insert entries q (record { id = c.args.id; index = index })))
          c.insert-index.ensures.slots
          ∙ new_rows slots records entries c.self.invariant.0 c.args.id index c.args.moment q c.args.kept
          c.insert-index.ensures.free c.insert-index.ensures.below gap
          ∙ ap (λ xs. insert xs q (with_record c.args.moment c.args.kept (vacant_row c.args.id index))) rows,
    )
