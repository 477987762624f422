use Rattle.std.proofs.Common.{◌≡◌, ◌<◌, ◌≤◌, ℕ, sym, ap, ◌∙◌, subst, arith, length, length-set, Some}
use Rattle.std.proofs.Math.ListN.{set}
use Rattle.cyc_types.specs.Series.{never}
use Rattle.cyc_timers.specs.declared.table.Record.{Record}
use Rattle.cyc_timers.specs.Rows.{Row, TableView, IsRow, IsTable, rows_of, with_record, with_counts}
use Rattle.cyc_timers.proofs.Tables.{standing, changed, table_changed, lowered, kept_at, counted}
use Rattle.cyc_timers.proofs.table.Table.expire_root.Goals as goal

pub index_mut-kept-requires : goal.index_mut-kept-requires
index_mut-kept-requires c =
    let (k, r, is, at) = c.requires.here in
    let t = c.self.invariant.0 in
    let s = standing c.self.inside.heap.slots c.self.inside.records.items c.self.inside.finder.entries k r t
    (subst (λ (v : TableView). IsRow v.rows k r) (sym c.self.view_is) is) in
    let same : s.p.index ≡ c.number.result = ap (λ (x : Row). x.index) (sym s.row) ∙ at ∙ sym c.number.ensures.value in
    let below = s.below in let long = t.long in
    omega (arith, same, below, long)

pub invariant_of-self : goal.invariant_of-self
invariant_of-self c =
    let (k, r, is, at) = c.requires.here in
    let t = c.self.invariant.0 in
    let slots = c.self.inside.heap.slots in let records = c.self.inside.records.items in let entries =
    c.self.inside.finder.entries in
    let s = standing slots records entries k r t (subst (λ (v : TableView). IsRow v.rows k r) (sym c.self.view_is) is) in
    let same : s.p.index ≡ c.number.result = ap (λ (x : Row). x.index) (sym s.row) ∙ at ∙ sym c.number.ensures.value in
    let root = ap (λ (v : TableView). v.root) c.self.view_is ∙ c.requires.root in
    let low = lowered c.self.inside.heap.root slots c.lower_root.new.self.slots c.args.index s.p.index s.m s.p.id c.args.moment
    root (ap (λ (x : Row). x.index) (sym s.row) ∙ at) s.holds c.lower_root.ensures.slots in
    let kept = c.index_mut-kept.result.now in
    let after : Record = record kept { expired = c.args.expired; lost = c.args.lost } in
    let below : c.number.result < length records = (let b = s.below in let l = t.long in omega (arith, same, b, l)) in
    let intervals = subst (λ (x : Record). (0 < x.interval) × (x.interval ≤ never)) (sym c.index_mut-kept.ensures.value)
    (t.intervals c.number.result kept below) in
    let room = c.lower_root.ensures.room in let caps = c.self.invariant in (
      subst (λ (n : ℕ). IsTable c.lower_root.new.self.slots (set records n after) entries) same
          (subst (λ xs. IsTable xs (set records s.p.index after) entries) (sym low)
          (table_changed slots records entries k r s c.args.moment after t c.requires.moment intervals.0 intervals.1)),
      omega (arith, room, caps),
      omega (arith, room, caps),
      (let l = ap length low in let m = length-set slots s.p.index (Some (record { moment = c.args.moment; id = s.p.id })) in
          omega (arith, room, caps, l, m)),
    )

pub returns-clause-rows : goal.returns-clause-rows
returns-clause-rows c k r is at =
    let t = c.self.invariant.0 in
    let slots = c.self.inside.heap.slots in let records = c.self.inside.records.items in let entries =
    c.self.inside.finder.entries in
    let s = standing slots records entries k r t (subst (λ (v : TableView). IsRow v.rows k r) (sym c.self.view_is) is) in
    let same : s.p.index ≡ c.number.result = ap (λ (x : Row). x.index) (sym s.row) ∙ at ∙ sym c.number.ensures.value in
    let root = ap (λ (v : TableView). v.root) c.self.view_is ∙ c.requires.root in
    let low = lowered c.self.inside.heap.root slots c.lower_root.new.self.slots c.args.index s.p.index s.m s.p.id c.args.moment
    root (ap (λ (x : Row). x.index) (sym s.row) ∙ at) s.holds c.lower_root.ensures.slots in
    let kept = c.index_mut-kept.result.now in
    let after : Record = record kept { expired = c.args.expired; lost = c.args.lost } in
    let of = kept_at slots records entries k r s t c.number.result kept same c.index_mut-kept.ensures.value in
    ap (λ n. rows_of c.lower_root.new.self.slots (set records n after) entries) (sym same)
    ∙ ap (λ xs. rows_of xs (set records s.p.index after) entries) low
    ∙ changed slots records entries k r s c.args.moment after t
    ∙ ap (λ (x : Row). set (rows_of slots records entries) k (with_record c.args.moment after x)) (sym s.row)
    ∙ ap (set (rows_of slots records entries) k) (counted r c.args.moment c.args.expired c.args.lost kept of)
    ∙ ap (λ (v : TableView). set v.rows k (with_counts c.args.moment c.args.expired c.args.lost r)) c.self.view_is
