use Rattle.std.proofs.Common.{◌≡◌, ◌-◌, ◌++◌, max, length, arith, ap, sym, ◌∙◌, subst, None, Option, length-append}
use Rattle.std.proofs.lemmas.List.{length-replicate}
use Rattle.std.proofs.Math.ListN.{replicate}
use Rattle.cyc_types.specs.Expirations.{Expiration}
use Rattle.cyc_timers.specs.Rows.{TableView, IsTable, rows_of}
use Rattle.cyc_timers.proofs.Widening.{wide_rows, wide_table, resized}
use Rattle.cyc_timers.proofs.table.Table.widen.Goals as goal

pub invariant_of-self : goal.invariant_of-self
invariant_of-self c =
    let slots = c.self.inside.heap.slots in let records = c.self.inside.records.items in let entries =
    c.self.inside.finder.entries in
    let t = c.self.invariant.0 in let caps = c.self.invariant in let long = t.long in
    let room = ap (λ (v : TableView). v.room) c.self.view_is in let enough = c.requires.reserved in
    let n = c.max-length.ensures in let l = c.len.ensures in
    let ok = c.resize.ensures.succeeds (omega (arith, caps, long, room, enough, n, l)) in
    let items = rw ok at c.resize.ensures.items in
    let recs = items ∙ resized records c.vacant.result _ _ (c.args.size - length slots) (omega (arith, n, l))
    (omega (arith, n, l, long)) in
    let grown = c.resize.ensures.capacity in let same_room = c.widen.ensures.room in
    let s = ap length c.widen.ensures.slots in let a = length-append slots (replicate (c.args.size - length slots) None) in
    let b = length-replicate {A = Option Expiration} (c.args.size - length slots) None in (
      subst (λ xs. IsTable c.widen.new.self.slots xs entries) (sym recs)
          (subst (λ ys. IsTable ys (records ++ replicate (c.args.size - length slots) c.vacant.result) entries)
          (sym c.widen.ensures.slots)
          (wide_table slots records entries t (c.args.size - length slots) c.vacant.result c.vacant.ensures)),
      omega (arith, caps, grown, same_room),
      omega (arith, caps, same_room),
      omega (arith, caps, same_room, s, a, b, room, enough),
    )

pub returns : goal.returns
returns c =
    let slots = c.self.inside.heap.slots in let records = c.self.inside.records.items in let entries =
    c.self.inside.finder.entries in
    let t = c.self.invariant.0 in let caps = c.self.invariant in let long = t.long in
    let room = ap (λ (v : TableView). v.room) c.self.view_is in let enough = c.requires.reserved in
    let n = c.max-length.ensures in let l = c.len.ensures in
    let ok = c.resize.ensures.succeeds (omega (arith, caps, long, room, enough, n, l)) in
    let items = rw ok at c.resize.ensures.items in
    let recs = items ∙ resized records c.vacant.result _ _ (c.args.size - length slots) (omega (arith, n, l))
    (omega (arith, n, l, long)) in
    let s = ap length c.widen.ensures.slots in let a = length-append slots (replicate (c.args.size - length slots) None) in
    let b = length-replicate {A = Option Expiration} (c.args.size - length slots) None in
    let size = ap (λ (v : TableView). v.size) c.self.view_is in
    let sized : length c.widen.new.self.slots ≡ max c.args.self.now.size c.args.size = omega (arith, s, a, b, size) in
    λ j. record {
      rows = (ap (λ xs. rows_of c.widen.new.self.slots xs entries) recs
          ∙ ap (λ ys. rows_of ys (records
          ++ replicate (c.args.size - length slots) c.vacant.result) entries) c.widen.ensures.slots
          ∙ wide_rows slots records entries t (c.args.size - length slots) c.vacant.result c.vacant.ensures
          ∙ ap (λ (v : TableView). v.rows) c.self.view_is) j;
      root = (c.widen.ensures.root ∙ ap (λ (v : TableView). v.root) c.self.view_is) j;
      size = sized j;
      room = (c.widen.ensures.room ∙ room) j;
    }
