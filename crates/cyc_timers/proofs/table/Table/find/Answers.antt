use Rattle.std.proofs.Common.{subst}
use Rattle.std.specs.Prelude.{IfSome, IfNone}
use Rattle.cyc_timers.specs.Rows.{TableView, HasNo}
use Rattle.cyc_timers.proofs.Finding.{IsFound, find_some, find_none}
use Rattle.cyc_timers.proofs.table.Table.find.Goals as goal

pub returns-clause-none : goal.returns-clause-none
returns-clause-none c = let i = c.self.inside in
    subst (λ (v : TableView). IfNone c.find.result (HasNo c.args.id v.rows)) c.self.view_is
    (find_none i.heap.slots i.records.items i.finder.entries c.self.invariant.0 c.args.id c.find.result c.find.ensures)

pub returns-clause-some : goal.returns-clause-some
returns-clause-some c = let i = c.self.inside in
    subst (λ (v : TableView). IfSome c.find.result (λ index. IsFound v.rows c.args.id index)) c.self.view_is
    (find_some i.heap.slots i.records.items i.finder.entries c.self.invariant.0 c.args.id c.find.result c.find.ensures)
