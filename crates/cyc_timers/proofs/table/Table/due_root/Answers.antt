use Rattle.std.proofs.Common.{◌≡◌, ℕ, ◌-◌, ◌<◌, ◌⊎◌, inl, inr, List, length, get_or, Option, Some, None}
use Rattle.std.proofs.Common.{All, IfNone, IfSome, sym, ◌∙◌}
use Rattle.std.proofs.Common.{subst, arith}
use Rattle.cyc_types.specs.Expirations.{Expiration}
use Rattle.cyc_types.specs.Timers.{Timer}
use Rattle.cyc_heap.specs.Heap.{HeapView, IsEmptyHeap, IsLeast}
use Rattle.cyc_finder.specs.Indexes.{Entry}
use Rattle.cyc_timers.specs.declared.table.Record.{Record}
use Rattle.cyc_timers.specs.Rows.{Row, TableView, IsRow, IsTable, IsFirstAt, rows_of, timers_of}
use Rattle.cyc_timers.proofs.Tables.{no_entry, rows_long, root_is}
use Rattle.cyc_timers.proofs.Stepping.{all_later}
use Rattle.cyc_timers.proofs.table.Table.due_root.Goals as goal

-- where the root of the heap isn't due, no row is
none_due : (h : HeapView) (records : List Record) (entries : List Entry) → IsTable h.slots records entries
    → (now : ℕ) (o : Option (ℕ × ℕ × ℕ))
    → IfNone o (IsEmptyHeap h ⊎ ((i : ℕ) × (e : Expiration) × IsLeast h i e × (now < e.moment)))
    → IfNone o (All (λ (t : Timer). now < t.moment) (timers_of (rows_of h.slots records entries)))
none_due h records entries t now (Some found) is = tt
none_due h records entries t now None (inl empty) = λ k d low. absurd (
    let l = rows_long h.slots records entries in
    let low' : k < length entries = omega (arith, l, low) in
    let (m, there) = t.named k no_entry low' in
    let no : Some (record { moment = m; id = (get_or entries k no_entry).id }) ≡ None
    = sym there ∙ empty (get_or entries k no_entry).index in
    cc)
none_due h records entries t now None (inr (i, e, least, later)) =
    let (k, r, row, _, moment, _, first) = root_is h records entries t (Some (i, e.moment, e.id)) least in
    all_later (rows_of h.slots records entries) now k e.moment r row first moment later

pub returns-clause-none : goal.returns-clause-none
returns-clause-none c =
    subst (λ (v : TableView). IfNone c.due_root.result (All (λ (t : Timer). c.args.now < t.moment) (timers_of v.rows)))
    c.self.view_is
    (none_due c.self.inside.heap c.self.inside.records.items c.self.inside.finder.entries c.self.invariant.0 c.args.now
    c.due_root.result c.due_root.ensures.none)

-- of the root of the heap the row
first_is : (h : HeapView) (records : List Record) (entries : List Entry) → IsTable h.slots records entries
    → (now : ℕ) (o : Option (ℕ × ℕ × ℕ))
    → IfSome o (λ found. IsLeast h found.0 (record { moment = now - found.1; id = found.2 }))
    → IfSome o (λ found. (k : ℕ) × (r : Row) × IsRow (rows_of h.slots records entries) k r × (r.index ≡ found.0)
    × (r.timer.moment ≡ now - found.1) × (r.timer.id ≡ found.2) × IsFirstAt (rows_of h.slots records entries) k)
first_is h records entries t now None is = tt
first_is h records entries t now (Some found) is = root_is h records entries t (Some (found.0, now - found.1, found.2)) is

pub returns-clause-first : goal.returns-clause-first
returns-clause-first c =
    subst (λ (v : TableView). IfSome c.due_root.result (λ found. (k : ℕ) × (r : Row) × IsRow v.rows k r × (r.index ≡ found.0)
    × (r.timer.moment ≡ c.args.now - found.1) × (r.timer.id ≡ found.2) × IsFirstAt v.rows k)) c.self.view_is
    (first_is c.self.inside.heap c.self.inside.records.items c.self.inside.finder.entries c.self.invariant.0 c.args.now
    c.due_root.result c.due_root.ensures.least)
