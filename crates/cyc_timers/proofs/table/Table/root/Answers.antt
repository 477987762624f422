use Rattle.std.proofs.Common.{◌≡◌, ℕ, subst, IfSome}
use Rattle.cyc_timers.specs.Rows.{Row, TableView, IsRow, IsFirstAt}
use Rattle.cyc_timers.proofs.Tables.{root_is}
use Rattle.cyc_timers.proofs.table.Table.root.Goals as goal

pub returns-clause-first : goal.returns-clause-first
returns-clause-first c =
    subst (λ (v : TableView). IfSome c.root.result (λ found. (k : ℕ) × (r : Row) × IsRow v.rows k r × (r.index ≡ found.0)
    × (r.timer.moment ≡ found.1) × (r.timer.id ≡ found.2) × IsFirstAt v.rows k)) c.self.view_is
    (root_is c.self.inside.heap c.self.inside.records.items c.self.inside.finder.entries c.self.invariant.0 c.root.result
    c.root.ensures.least)
