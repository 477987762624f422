use Rattle.std.proofs.Common.{subst, sym}
use Rattle.std.specs.Prelude.{IfSome, IfNone}
use Rattle.cyc_finder.specs.Indexes.{FinderView}
use Rattle.cyc_timers.specs.Rows.{HasNo, rows_of}
use Rattle.cyc_timers.proofs.Finding.{IsFound, find_some, find_none}
use Rattle.cyc_timers.proofs.table.Table.seek.Goals as goal

pub returns-clause-none : goal.returns-clause-none
returns-clause-none c = let i = c.self.inside in
    subst (λ (f : FinderView). IfNone c.seek.result (HasNo c.args.id (rows_of i.heap.slots i.records.items f.entries)))
    (sym c.seek.ensures.same)
    (find_none i.heap.slots i.records.items i.finder.entries c.self.invariant.0 c.args.id c.seek.result c.seek.ensures.value)

pub returns-clause-some : goal.returns-clause-some
returns-clause-some c = let i = c.self.inside in
    subst (λ (f : FinderView). IfSome c.seek.result
    (λ index. IsFound (rows_of i.heap.slots i.records.items f.entries) c.args.id index))
    (sym c.seek.ensures.same)
    (find_some i.heap.slots i.records.items i.finder.entries c.self.invariant.0 c.args.id c.seek.result c.seek.ensures.value)
