use Rattle.std.proofs.Common.{◌≢◌, ◌-◌, ◌≤◌, subst}
use Rattle.std.specs.Prelude.{IfSome, IfNone}
use Rattle.cyc_timers.specs.Rows.{Row, TableView, IsRow}
use Rattle.cyc_timers.proofs.Finding.{IsFound, soon_some, soon_none}
use Rattle.cyc_timers.proofs.table.Table.soon.Goals as goal

pub returns-clause-none : goal.returns-clause-none
returns-clause-none c = let i = c.self.inside in let id = c.args.id in
    subst (λ (v : TableView). IfNone c.soon.result ((first r : Row) → IsRow v.rows 0 first → first.timer.id ≤ id
    → IsRow v.rows (id - first.timer.id) r → r.timer.id ≢ id)) c.self.view_is
    (soon_none i.heap.slots i.records.items i.finder.entries c.self.invariant.0 id c.soon.result c.soon.ensures.none)

pub returns-clause-some : goal.returns-clause-some
returns-clause-some c = let i = c.self.inside in
    subst (λ (v : TableView). IfSome c.soon.result (λ index. IsFound v.rows c.args.id index)) c.self.view_is
    (soon_some i.heap.slots i.records.items i.finder.entries c.self.invariant.0 c.args.id c.soon.result c.soon.ensures.some)
