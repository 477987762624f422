-- What the look-up by id says of the rows.
use Rattle.std.proofs.Common.{◌≡◌, ◌≢◌, ℕ, ◌-◌, ◌<◌, ◌≤◌, inl, inr, List, Option, Some, None, IfSome, IfNone, refl, sym, ap, ◌∙◌}
use Rattle.std.proofs.Common.{subst, arith, length, get_or, All}
use Rattle.std.specs.List.{slice_get}
use Rattle.std.proofs.lemmas.Bool.{cases_lt}
use Rattle.std.proofs.lemmas.List.{length-map}
use Rattle.cyc_types.specs.Expirations.{Expiration}
use Rattle.cyc_finder.specs.Sorted.{Rises, IsAt, IsPassed, ComesAfter, IsNextAfter}
use Rattle.cyc_finder.specs.Indexes.{Entry, id_in, index_of, IsIndexed}
use Rattle.cyc_finder.proofs.Entries.{index_found, index_missing, index_read}
use Rattle.cyc_timers.specs.declared.table.Record.{Record}
use Rattle.cyc_timers.specs.Rows.{Row, IsRow, IsTable, HasNo, row_of, rows_of}
use Rattle.cyc_timers.proofs.Tables.{Standing, no_entry, is_row, row_at, entry_here, first_entry}

-- a row of this id with this index is here
abbrev pub IsFound : List Row → ℕ → ℕ → Type 0
IsFound rows id index = (k : ℕ) × (r : Row) × IsRow rows k r × (r.timer.id ≡ id) × (r.index ≡ index)

-- an id stands at one position
pub one_position : (entries : List Entry) → Rises id_in entries → (id i j : ℕ) → IsAt id_in entries id i → IsAt id_in entries id j
    → i ≡ j
one_position entries rises id i j a b =
    let x = a.has_id no_entry in let y = b.has_id no_entry in
    elim (cases_lt i j) [
      | inl less ↦ absurd (let up = rises i j no_entry less b.in_range in omega (arith, up, x, y))
      | inr most ↦ elim (cases_lt j i) [
        | inl less ↦ absurd (let up = rises j i no_entry less a.in_range in omega (arith, up, x, y))
        | inr none ↦ omega (arith, most, none)
      ]
    ]

module _ (slots : List (Option Expiration)) (records : List Record) (entries : List Entry)
    (t : IsTable slots records entries) where
  pub found_row : (id i : ℕ) → index_of id entries ≡ Some i → IsFound (rows_of slots records entries) id i
  found_row id i e = let (k, low, at) = index_found entries id i e in (
    k,
    row_of slots records (get_or entries k no_entry),
    is_row slots records entries k low,
    ap id_in (at no_entry),
    ap (λ (p : Entry). p.index) (at no_entry),
  )

  pub missing_row : (id : ℕ) → index_of id entries ≡ None → HasNo id (rows_of slots records entries)
  missing_row id none k d low same =
      let l = length-map entries (row_of slots records) in
      let low_k : k < length entries = omega (arith, l, low) in
      index_missing entries t.rising id none k no_entry low_k
      (sym (ap (λ (x : Row). x.timer.id) (row_at slots records entries k d low_k)) ∙ same)

  pub find_some : (id : ℕ) (o : Option ℕ) → o ≡ index_of id entries
      → IfSome o (λ i. IsFound (rows_of slots records entries) id i)
  find_some id None e = tt
  find_some id (Some i) e = found_row id i (sym e)

  pub find_none : (id : ℕ) (o : Option ℕ) → o ≡ index_of id entries → IfNone o (HasNo id (rows_of slots records entries))
  find_none id None e = missing_row id (sym e)
  find_none id (Some i) e = tt

  pub soon_some : (id : ℕ) (o : Option ℕ) → IfSome o (λ i. index_of id entries ≡ Some i)
      → IfSome o (λ i. IsFound (rows_of slots records entries) id i)
  soon_some id None e = tt
  soon_some id (Some i) e = found_row id i e

  -- an id of no row has no index
  pub absent_index : (id : ℕ) → HasNo id (rows_of slots records entries) → index_of id entries ≡ None
  absent_index id none = by (index_of id entries) refl
    where
      by : (o : Option ℕ) → index_of id entries ≡ o → index_of id entries ≡ None
      by None e = e
      by (Some i) e = let (k, r, is, named, at) = found_row id i e in
          absurd (none k r is.0 (ap (λ (x : Row). x.timer.id) is.1 ∙ named))

  -- a row's id has an index
  pub here_index : (id k : ℕ) (r : Row) → IsRow (rows_of slots records entries) k r → r.timer.id ≡ id
      → ¬ (index_of id entries ≡ None)
  here_index id k r is named none = missing_row id none k r is.0 (ap (λ (x : Row). x.timer.id) is.1 ∙ named)

  -- no id has the index of a free slot
  pub not_indexed : (index : ℕ) → get_or slots index None ≡ None → ¬ IsIndexed index entries
  not_indexed index free (id, e) =
      let (k, low, at) = index_found entries id index e in
      let (m, holds) = t.named k no_entry low in
      let x : Expiration = record { moment = m; id = (get_or entries k no_entry).id } in
      let no : Some x ≡ None = sym holds ∙ ap (λ (p : Entry). get_or slots p.index None) (at no_entry) ∙ free in
      absurd (cc)

  -- the index that the look-up gives is that of the position
  pub index_there : (id i k : ℕ) (r : Row) (s : Standing slots records entries k r) → IsAt id_in entries id k
      → index_of id entries ≡ Some i → s.p.index ≡ i
  index_there id i k r s at e =
      let read = index_read entries t.rising id k at s.p (sym (s.is s.p)) in
      let both : Some s.p.index ≡ Some i = sym read ∙ e in cc

  -- where two looks don't find an id
  pub soon_none : (id : ℕ) (o : Option ℕ)
      → IfNone o ((first : Entry) → slice_get entries 0 ≡ Some first → first.id ≤ id → ¬ IsAt id_in entries id (id - first.id))
      → IfNone o ((first r : Row) → IsRow (rows_of slots records entries) 0 first → first.timer.id ≤ id
      → IsRow (rows_of slots records entries) (id - first.timer.id) r → r.timer.id ≢ id)
  soon_none id (Some i) none = tt
  soon_none id None none = λ first r at_first low at_r named.
      let (p, is_first, same) = first_entry slots records entries first t at_first in
      let at = entry_here slots records entries id (id - first.timer.id) r t at_r named in
      none p is_first (omega (arith, same, low)) (subst (λ n. IsAt id_in entries id (id - n)) (sym same) at)

  -- to which row a walk comes next
  pub all_passed : (passed : Option ℕ) → All (λ e. IsPassed passed e.id) entries
      → All (λ r. IsPassed passed r.timer.id) (rows_of slots records entries)
  all_passed passed all k d low =
      let l = length-map entries (row_of slots records) in
      let low_k : k < length entries = omega (arith, l, low) in
      subst (IsPassed passed) (sym (ap (λ (x : Row). x.timer.id) (row_at slots records entries k d low_k))) (all k no_entry low_k)

  pub next_row : (passed : Option ℕ) (k : ℕ) → IsNextAfter id_in entries passed k
      → IsNextAfter (λ x. x.timer.id) (rows_of slots records entries) passed k
  next_row passed k next = let l = length-map entries (row_of slots records) in record {
    in_range = (let r = next.in_range in omega (arith, r, l));
    passed_before = λ j d less.
        subst (IsPassed passed)
        (sym (ap (λ (x : Row). x.timer.id)
        (row_at slots records entries j d (let r = next.in_range in omega (arith, r, less)))))
        (next.passed_before j no_entry less);
    after_from = λ j d past low.
        (let low_j : j < length entries = omega (arith, low, l) in
        subst (ComesAfter passed) (sym (ap (λ (x : Row). x.timer.id) (row_at slots records entries j d low_j)))
        (next.after_from j no_entry past low_j));
  }
