use Rattle.std.proofs.Common.{◌≡◌, ℕ, Bool, true, false, Option, Some, None, IsTrue, IsSome, List, refl, subst}
use Rattle.std.specs.Bool.{OnTrue, OnFalse}
use Rattle.cyc_types.specs.Expirations.{Expiration}
use Rattle.cyc_finder.specs.Indexes.{Entry, index_of}
use Rattle.cyc_timers.specs.declared.table.Record.{Record}
use Rattle.cyc_timers.specs.Rows.{Row, TableView, IsRow, IsTable, HasNo, rows_of}
use Rattle.cyc_timers.proofs.Finding.{found_row, missing_row}
use Rattle.cyc_timers.proofs.table.Table.has.Goals as goal

abbrev IsHere : List Row → ℕ → Type 0
IsHere rows id = (k : ℕ) × (r : Row) × IsRow rows k r × (r.timer.id ≡ id)

module _ (slots : List (Option Expiration)) (records : List Record) (entries : List Entry) (t : IsTable slots records entries)
    (id : ℕ) where
  here : (b : Bool) → (IsTrue b → IsSome (index_of id entries)) → OnTrue b (IsHere (rows_of slots records entries) id)
  here false is = tt
  here true is = by (index_of id entries) refl (is refl)
    where
      by : (o : Option ℕ) → index_of id entries ≡ o → IsSome o → IsHere (rows_of slots records entries) id
      by None e some = absurd (cc)
      by (Some i) e some = let (k, r, is_row, named, at) = found_row slots records entries t id i e in (k, r, is_row, named)

  nowhere : (b : Bool) → (IsSome (index_of id entries) → IsTrue b) → OnFalse b (HasNo id (rows_of slots records entries))
  nowhere true is = tt
  nowhere false is = by (index_of id entries) refl is
    where
      by : (o : Option ℕ) → index_of id entries ≡ o → (IsSome o → IsTrue false) → HasNo id (rows_of slots records entries)
      by None e to = missing_row slots records entries t id e
      by (Some i) e to = absurd (let no : false ≡ true = to refl in cc)

pub returns-clause-here : goal.returns-clause-here
returns-clause-here c = let i = c.self.inside in
    subst (λ (v : TableView). OnTrue c.has.result (IsHere v.rows c.args.id)) c.self.view_is
    (here i.heap.slots i.records.items i.finder.entries c.self.invariant.0 c.args.id c.has.result c.has.ensures.0)

pub returns-clause-none : goal.returns-clause-none
returns-clause-none c = let i = c.self.inside in
    subst (λ (v : TableView). OnFalse c.has.result (HasNo c.args.id v.rows)) c.self.view_is
    (nowhere i.heap.slots i.records.items i.finder.entries c.self.invariant.0 c.args.id c.has.result c.has.ensures.1)
