use Rattle.std.proofs.Common.{◌≡◌, ℕ, List, Option, Some, None, IfSome, IfNone, All, get_or, ap, subst}
use Rattle.std.specs.List.{HoldsAt}
use Rattle.cyc_types.specs.Expirations.{Expiration}
use Rattle.cyc_finder.specs.Sorted.{IsPassed, IsNextAfter}
use Rattle.cyc_finder.specs.Indexes.{Entry, id_in}
use Rattle.cyc_timers.specs.declared.table.Record.{Record}
use Rattle.cyc_timers.specs.Rows.{Row, TableView, IsRow, IsTable, row_of, rows_of}
use Rattle.cyc_timers.proofs.Tables.{no_entry, is_row}
use Rattle.cyc_timers.proofs.Finding.{all_passed, next_row}
use Rattle.cyc_timers.proofs.table.Table.next_after.Goals as goal

abbrev IsFoundAfter : List Row → Option ℕ → ℕ × ℕ → Type 0
IsFoundAfter rows passed found = (k : ℕ) × (r : Row) × IsRow rows k r × (r.timer.id ≡ found.0) × (r.index ≡ found.1)
    × IsNextAfter (λ x. x.timer.id) rows passed k

module _ (slots : List (Option Expiration)) (records : List Record) (entries : List Entry) (t : IsTable slots records entries)
    (passed : Option ℕ) where
  after_none : (o : Option (ℕ × ℕ)) → IfNone o (All (λ e. IsPassed passed e.id) entries)
      → IfNone o (All (λ r. IsPassed passed r.timer.id) (rows_of slots records entries))
  after_none None all = all_passed slots records entries t passed all
  after_none (Some found) all = tt

  after_some : (o : Option (ℕ × ℕ))
      → IfSome o (λ found. (k : ℕ) × IsNextAfter id_in entries passed k
      × HoldsAt (λ e. e ≡ record { id = found.0; index = found.1 }) entries k)
      → IfSome o (λ found. IsFoundAfter (rows_of slots records entries) passed found)
  after_some None some = tt
  after_some (Some found) (k, next, at) = (
    k,
    row_of slots records (get_or entries k no_entry),
    is_row slots records entries k next.in_range,
    ap id_in (at no_entry),
    ap (λ (p : Entry). p.index) (at no_entry),
    next_row slots records entries t passed k next,
  )

pub returns-clause-none : goal.returns-clause-none
returns-clause-none c = let i = c.self.inside in
    subst (λ (v : TableView). IfNone c.next_after.result (All (λ r. IsPassed c.args.passed r.timer.id) v.rows)) c.self.view_is
    (after_none i.heap.slots i.records.items i.finder.entries c.self.invariant.0 c.args.passed c.next_after.result
    c.next_after.ensures.none)

pub returns-clause-some : goal.returns-clause-some
returns-clause-some c = let i = c.self.inside in
    subst (λ (v : TableView). IfSome c.next_after.result (λ found. IsFoundAfter v.rows c.args.passed found)) c.self.view_is
    (after_some i.heap.slots i.records.items i.finder.entries c.self.invariant.0 c.args.passed c.next_after.result
    c.next_after.ensures.some)
