-- A table with one cyclic less.
use Rattle.std.proofs.Common.{◌≡◌, ◌≢◌, ℕ, suc, ◌+◌, ◌-◌, ◌<◌, inl, inr, List, ◌++◌, Option, Some, None, sym, ap, ◌∙◌, arith}
use Rattle.std.proofs.Common.{length, get_or, map, take, drop}
use Rattle.std.proofs.Math.ListN.{set}
use Rattle.std.specs.Prelude.{remove}
use Rattle.std.proofs.lemmas.Bool.{cases_lt}
use Rattle.std.proofs.lemmas.List.{get_or_default, length-set, get_or-set_other, take-map, drop-map, map-append}
use Rattle.std.proofs.lemmas.List.Edits.{length-remove, get_or-remove_below, get_or-remove_above}
use Rattle.std.proofs.lemmas.List.Sums.{sum_by-set}
use Rattle.cyc_types.specs.Expirations.{Expiration}
use Rattle.cyc_finder.proofs.RisingIds.{rises_removed}
use Rattle.cyc_finder.specs.Indexes.{Entry, id_in}
use Rattle.cyc_timers.specs.declared.table.Record.{Record}
use Rattle.cyc_timers.specs.Rows.{Row, joined, no_record, row_of, rows_of, IsTable}
use Rattle.cyc_timers.proofs.Tables.{Standing, no_entry, map_same, apart_index, slot_changed, tally}

-- where a position of the shorter list stood before
record Source (entries : List Entry) (k j : ℕ) : Type 0 where
  pub was : ℕ
  pub low : was < length entries
  pub other : was ≢ k
  pub is : (d : Entry) → get_or (remove entries k) j d ≡ get_or entries was d

source : (entries : List Entry) (k j : ℕ) → k < length entries → j < length (remove entries k) → Source entries k j
source entries k j low_k low = (let l = length-remove entries k low_k in
    elim (cases_lt j k) [
      | inl less ↦ record {
        was = j;
        low = omega (arith, less, low_k);
        other = λ q. absurd (omega (arith, q, less));
        is =
            λ d. get_or-remove_below entries k d j less low_k;
      }
      | inr more ↦ record {
        was = j + 1;
        low = omega (arith, l, low);
        other = λ q. absurd (omega (arith, q, more));
        is =
            λ d. get_or-remove_above entries k d j more low_k;
      }
    ])

module _ (slots : List (Option Expiration)) (records : List Record) (entries : List Entry) (k : ℕ) (r : Row)
    (s : Standing slots records entries k r) (t : IsTable slots records entries) where
  -- the other entries have other indexes
  far : (j : ℕ) → j < length entries → j ≢ k → (d : Entry) → (get_or entries j d).index ≢ s.p.index
  far j low ne d same = apart_index slots records entries j k t low s.low ne
      (ap (λ (x : Entry). x.index) (sym (get_or_default entries j d no_entry low)) ∙ same
      ∙ ap (λ (x : Entry). x.index) (sym (s.is no_entry)))

  from : (j : ℕ) → j < length (remove entries k) → Source entries k j
  from j low = source entries k j s.low low

  pub fewer_rows : rows_of (set slots s.p.index None) records (remove entries k) ≡ remove (rows_of slots records entries) k
  fewer_rows =
      let f' = row_of (set slots s.p.index None) records in
      let f = row_of slots records in
      let same : map f' (remove entries k) ≡ map f (remove entries k) = map_same f' f (remove entries k) no_entry (λ j low.
      let o = from j low in
      let x = get_or (remove entries k) j no_entry in
      let apart : x.index ≢ s.p.index = λ q. far o.was o.low o.other no_entry (ap (λ (y : Entry). y.index) (sym (o.is no_entry))
      ∙ q) in
      λ y. joined x.id x.index (get_or-set_other slots s.p.index x.index None None apart y) (get_or records x.index no_record)) in
      same ∙ map-append f (take k entries) (drop (suc k) entries)
      ∙ (λ y. sym (take-map f k entries) y ++ sym (drop-map f (suc k) entries) y)

  pub fewer_table : IsTable (set slots s.p.index None) records (remove entries k)
  fewer_table = record {
    rising = rises_removed id_in entries t.rising s.p.id k (record { in_range = s.low; has_id = λ d. ap id_in (s.is d) });
    named = λ j d low.
        (let o = from j low in let (m, holds) = t.named o.was d o.low in (
          m,
          ap (λ (z : Entry). get_or (set slots s.p.index None) z.index None) (o.is d)
              ∙ get_or-set_other slots s.p.index (get_or entries o.was d).index None None (far o.was o.low o.other d) ∙ holds
              ∙ ap (λ (z : Entry). Some (record { moment = m; id = z.id })) (sym (o.is d)),
        ));
    covered = λ i e h. elim (slot_changed slots s.p.index i None (Some e) s.below h) [
      | inl (same, is) ↦ absurd (let no : None ≡ Some e = is in cc)
      | inr (ne, is) ↦
          (let (j, low, at) = t.covered i e is in
          let other : j ≢ k = λ q. ne (sym (at no_entry) ∙ ap (λ n. (get_or entries n no_entry).index) q
          ∙ ap (λ (z : Entry). z.index) (s.is no_entry)) in
          let l = length-remove entries k s.low in let low_k = s.low in
          elim (cases_lt j k) [
            | inl less ↦ (
              j,
              omega (arith, l, less, low_k),
              λ d. ap (λ (z : Entry). z.index)
                  (get_or-remove_below entries k d j less low_k) ∙ at d,
            )
            | inr more ↦
                (let up : (j - 1) + 1 ≡ j = omega (arith, more, other) in (
                  j - 1,
                  omega (arith, l, low, more, other),
                  λ d. ap (λ (z : Entry). z.index)
                      (get_or-remove_above entries k d (j - 1) (omega (arith, more, other)) low_k)
                      ∙ ap (λ n. (get_or entries n d).index) up ∙ at d,
                ))
          ])
    ];
    long = (let a = length-set slots s.p.index None in let l = t.long in omega (arith, a, l));
    len = (let c = sum_by-set tally slots s.p.index None None s.below in let was : tally (get_or slots s.p.index None) ≡ 1 =
        ap tally s.holds in let l = t.len in let n = length-remove entries k s.low in omega (arith, c, was, l, n));
    moments = λ i e h. elim (slot_changed slots s.p.index i None (Some e) s.below h) [
      | inl (same, is) ↦ absurd (let no : None ≡ Some e = is in cc)
      | inr (ne, is) ↦ t.moments i e is
    ];
    intervals = t.intervals;
  }
