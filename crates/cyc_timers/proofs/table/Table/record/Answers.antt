use Rattle.std.proofs.Common.{◌≡◌, sym, ap, ◌∙◌, subst, arith}
use Rattle.cyc_timers.specs.Rows.{Row, TableView, IsRow}
use Rattle.cyc_timers.proofs.Tables.{standing, kept_at}
use Rattle.cyc_timers.proofs.table.Table.record.Goals as goal

pub index-requires : goal.index-requires
index-requires c =
    let (k, r, is, at) = c.requires in
    let t = c.self.invariant.0 in
    let s = standing c.self.inside.heap.slots c.self.inside.records.items c.self.inside.finder.entries k r t
    (subst (λ (v : TableView). IsRow v.rows k r) (sym c.self.view_is) is) in
    let same : s.p.index ≡ c.number-number.result = ap (λ (x : Row). x.index) (sym s.row) ∙ at
    ∙ sym c.number-number.ensures.value in
    let below = s.below in let long = t.long in
    omega (arith, same, below, long)

pub returns : goal.returns
returns c k r is at =
    let t = c.self.invariant.0 in
    let s = standing c.self.inside.heap.slots c.self.inside.records.items c.self.inside.finder.entries k r t
    (subst (λ (v : TableView). IsRow v.rows k r) (sym c.self.view_is) is) in
    let same : s.p.index ≡ c.number-number.result = ap (λ (x : Row). x.index) (sym s.row) ∙ at
    ∙ sym c.number-number.ensures.value in
    kept_at _ _ _ k r s t _ _ same c.index.ensures
