-- A table with more indexes, and with one cyclic more.
use Rattle.std.proofs.Common.{◌≡◌, ◌≢◌, ℕ, zero, suc, ◌+◌, ◌-◌, ◌<◌, ◌≤◌, inl, inr, List, [], ◌∷◌, ◌++◌, Option, Some, None, refl}
use Rattle.std.proofs.Common.{sym, ap, ◌∙◌, subst, arith, length, get_or, map, take, drop, count_by}
use Rattle.std.proofs.Math.ListN.{set, replicate}
use Rattle.std.specs.Prelude.{is_some, insert}
use Rattle.std.proofs.lemmas.Bool.{cases_lt, cases_eq}
use Rattle.std.proofs.lemmas.List.{get_or_past, get_or_default, take_all, length-set, get_or-set_same, get_or-set_other, take-map}
use Rattle.std.proofs.lemmas.List.{drop-map, get_or_append_left, get_or-append_right, get_or-replicate, length-append}
use Rattle.std.proofs.lemmas.List.{length-replicate, map-append}
use Rattle.std.proofs.lemmas.List.Edits.{length-insert, get_or-insert_below, get_or-insert_at, get_or-insert_above}
use Rattle.std.proofs.lemmas.List.Sums.{sum_by-set, sum_by-append}
use Rattle.cyc_types.specs.Series.{never}
use Rattle.cyc_types.specs.Expirations.{Expiration}
use Rattle.cyc_finder.specs.Sorted.{IsGap}
use Rattle.cyc_finder.proofs.RisingIds.{rises_inserted}
use Rattle.cyc_finder.specs.Indexes.{Entry, id_in}
use Rattle.cyc_timers.specs.declared.table.Record.{Record}
use Rattle.cyc_timers.specs.Rows.{no_record, joined, row_of, rows_of, IsTable}
use Rattle.cyc_timers.proofs.Tables.{no_entry, slot_low, map_same, slot_changed, tally}

-- what a wider table has at an index
pub wide_slot : (slots : List (Option Expiration)) (n i : ℕ) → get_or (slots ++ replicate n None) i None ≡ get_or slots i None
wide_slot slots n i = elim (cases_lt i (length slots)) [
  | inl low ↦ get_or_append_left slots (replicate n None) None i low
  | inr past ↦ get_or-append_right slots (replicate n None) (length slots) i None refl past ∙ none (i - length slots)
      ∙ sym (get_or_past slots i None past)
]
  where
    none : (j : ℕ) → get_or (replicate {A = Option Expiration} n None) j None ≡ None
    none j = elim (cases_lt j n) [
      | inl low ↦ get_or-replicate n j None None low
      | inr past ↦ get_or_past (replicate n None) j None (let l = length-replicate {A = Option Expiration} n None in
          omega (arith, l, past))
    ]

count_none : (n : ℕ) → count_by is_some (replicate {A = Option Expiration} n None) ≡ 0
count_none zero = refl
count_none (suc n) = (let r = count_none n in let c = sum_by-append tally (None ∷ []) (replicate n None) in omega (arith, r, c))

module _ (slots : List (Option Expiration)) (records : List Record) (entries : List Entry) (t : IsTable slots records entries)
    (n : ℕ) (fill : Record) (some : fill.interval ≡ 1) where
  wide_record : (i : ℕ) (d : Record) → i < length records → get_or (records ++ replicate n fill) i d ≡ get_or records i d
  wide_record i d low = get_or_append_left records (replicate n fill) d i low

  pub wide_rows : rows_of (slots ++ replicate n None) (records ++ replicate n fill) entries ≡ rows_of slots records entries
  wide_rows = map_same (row_of (slots ++ replicate n None) (records ++ replicate n fill)) (row_of slots records) entries no_entry
      (λ k low.
      let p = get_or entries k no_entry in
      let (m, holds) = t.named k no_entry low in
      let low_i : p.index < length records = (let b = slot_low slots p.index _ holds in let l = t.long in omega (arith, b, l)) in
      λ x. joined p.id p.index (wide_slot slots n p.index x) (wide_record p.index no_record low_i x))

  pub wide_table : IsTable (slots ++ replicate n None) (records ++ replicate n fill) entries
  wide_table = record {
    rising = t.rising;
    named = λ k d low. (let (m, holds) = t.named k d low in (m, wide_slot slots n (get_or entries k d).index ∙ holds));
    covered = λ i e h. t.covered i e (sym (wide_slot slots n i) ∙ h);
    long = (let a = length-append records (replicate n fill) in let b = length-append slots (replicate n None) in let c =
        length-replicate n fill in let d = length-replicate {A = Option Expiration} n None in let l = t.long in
        omega (arith, a, b, c, d, l));
    len = (let a = sum_by-append tally slots (replicate n None) in let b = count_none n in let l = t.len in
        omega (arith, a, b, l));
    moments = λ i e h. t.moments i e (sym (wide_slot slots n i) ∙ h);
    intervals = λ i d low. elim (cases_lt i (length records)) [
      | inl within ↦ subst (λ (x : Record). (0 < x.interval) × (x.interval ≤ never)) (sym (wide_record i d within))
          (t.intervals i d within)
      | inr past ↦
          (let a = length-append records (replicate n fill) in let c = length-replicate n fill in
          let at : get_or (records ++ replicate n fill) i d ≡ fill =
          get_or-append_right records (replicate n fill) (length records) i d refl past
          ∙ get_or-replicate n (i - length records) fill d (omega (arith, low, a, c, past)) in
          subst (λ (x : Record). (0 < x.interval) × (x.interval ≤ never)) (sym at) (omega (arith, some), omega (arith, some)))
    ];
  }

-- what the vector of records is after the resize
pub resized : (records : List Record) (fill : Record) (n k m : ℕ) → length records ≤ n → k ≡ m
    → take n records ++ replicate k fill ≡ records ++ replicate m fill
resized records fill n k m long is = ap (λ xs. xs ++ replicate k fill) (take_all n records long)
    ∙ ap (λ j. records ++ replicate j fill) is

module _ (slots : List (Option Expiration)) (records : List Record) (entries : List Entry) (t : IsTable slots records entries)
    (id index m q : ℕ) (kept : Record)
    (free : get_or slots index None ≡ None) (low_i : index < length slots) (gap : IsGap id_in entries id q) where
  low_q : q ≤ length entries
  low_q = gap.in_range

  abbrev e : Option Expiration
  e = Some (record { moment = m; id = id })

  abbrev p : Entry
  p = record { id = id; index = index }

  -- no position had the index
  pub fresh : (k : ℕ) → k < length entries → (get_or entries k no_entry).index ≢ index
  fresh k low same = (let (n, holds) = t.named k no_entry low in let x : Expiration =
      record { moment = n; id = (get_or entries k no_entry).id } in let no : Some x ≡ None = sym holds
      ∙ ap (λ i. get_or slots i None) same ∙ free in absurd (cc))

  data Spot (k : ℕ) : Type 0 where
    before : k < q → ((d : Entry) → get_or (insert entries q (record { id = id; index = index })) k d ≡ get_or entries k d)
        → Spot k
    here : k ≡ q → ((d : Entry) → get_or (insert entries q (record { id = id; index = index })) k d
        ≡ record { id = id; index = index }) → Spot k
    after : (j : ℕ) → k ≡ j + 1 → q ≤ j → ((d : Entry)
        → get_or (insert entries q (record { id = id; index = index })) k d ≡ get_or entries j d) → Spot k

  spot : (k : ℕ) → Spot k
  spot k = elim (cases_lt k q) [
    | inl less ↦ before less (λ d. get_or-insert_below entries q p d k less low_q)
    | inr more ↦ elim (cases_eq k q) [
      | inl same ↦ here same (λ d. ap (λ x. get_or (insert entries q p) x d) same ∙ get_or-insert_at entries q p d low_q)
      | inr ne ↦ (let s : k ≡ (k - 1) + 1 = omega (arith, more, ne) in let o : q ≤ k - 1 = omega (arith, more, ne) in
          after (k - 1) s o (λ d. ap (λ x. get_or (insert entries q p) x d) s
          ∙ get_or-insert_above entries q p d (k - 1) o low_q))
    ]
  ]

  long_positions : length (insert entries q (record { id = id; index = index })) ≡ length entries + 1
  long_positions = length-insert entries q p low_q

  some_is : (a b : Expiration) → Some a ≡ Some b → a ≡ b
  some_is a b h = cc

  pub new_table_is : m ≤ never → 0 < kept.interval → kept.interval ≤ never
      → IsTable (set slots index (Some (record { moment = m; id = id }))) (set records index kept)
      (insert entries q (record { id = id; index = index }))
  new_table_is low_m some most = record {
    rising = rises_inserted id_in entries id q gap t.rising p refl;
    named = λ k d low. named_at k d low (spot k);
    covered = λ i f h. elim (slot_changed slots index i e (Some f) low_i h) [
      | inl (same, is) ↦ (
        q,
        (let n = long_positions in omega (arith, n, low_q)),
        λ d. ap (λ (x : Entry). x.index)
            (get_or-insert_at entries q p d low_q) ∙ sym same,
      )
      | inr (ne, is) ↦
          (let (k, low, at) = t.covered i f is in let n = long_positions in
          elim (cases_lt k q) [
            | inl less ↦ (
              k,
              omega (arith, low, n),
              λ d. ap (λ (x : Entry). x.index)
                  (get_or-insert_below entries q p d k less low_q) ∙ at d,
            )
            | inr more ↦ (
              k + 1,
              omega (arith, low, n),
              λ d. ap (λ (x : Entry). x.index)
                  (get_or-insert_above entries q p d k more low_q) ∙ at d,
            )
          ])
    ];
    long = (let a = length-set records index kept in let b = length-set slots index e in let l = t.long in
        omega (arith, a, b, l));
    len = (let s = sum_by-set tally slots index e None low_i in let was : tally (get_or slots index None) ≡ 0 = ap tally free in
        let l = t.len in let n = long_positions in omega (arith, s, was, l, n));
    moments = λ i f h. elim (slot_changed slots index i e (Some f) low_i h) [
      | inl (same, is) ↦ subst (λ (x : Expiration). x.moment ≤ never) (some_is (record { moment = m; id = id }) f is) low_m
      | inr (ne, is) ↦ t.moments i f is
    ];
    intervals = λ j d low. elim (cases_eq j index) [
      | inl same ↦ (let at = ap (λ x. get_or (set records index kept) x d) same
          ∙ get_or-set_same records index kept d (let l = t.long in omega (arith, l, low_i)) in
          subst (λ (x : Record). (0 < x.interval) × (x.interval ≤ never)) (sym at) (some, most))
      | inr ne ↦ (let at = get_or-set_other records index j kept d ne in let l = length-set records index kept in
          subst (λ (x : Record). (0 < x.interval) × (x.interval ≤ never)) (sym at) (t.intervals j d (omega (arith, low, l))))
    ];
  }
    where
      other : (j : ℕ) (d : Entry) → j < length entries → (x : Entry) → x ≡ get_or entries j d → (n : ℕ)
          × (get_or (set slots index (Some (record { moment = m; id = id }))) x.index None
          ≡ Some (record { moment = n; id = x.id }))
      other j d low x is =
          (let (n, holds) = t.named j no_entry low in
          let at : x ≡ get_or entries j no_entry = is ∙ get_or_default entries j d no_entry low in
          let far : x.index ≢ index = λ h. fresh j low (ap (λ (z : Entry). z.index) (sym at) ∙ h) in (
            n,
            get_or-set_other slots index x.index e None far ∙ ap (λ (z : Entry). get_or slots z.index None) at ∙ holds
                ∙ ap (λ (z : Entry). Some (record { moment = n; id = z.id })) (sym at),
          ))

      named_at : (k : ℕ) (d : Entry) → k < length (insert entries q (record { id = id; index = index })) → Spot k →
          (n : ℕ) × (get_or (set slots index (Some (record { moment = m; id = id })))
          (get_or (insert entries q (record { id = id; index = index })) k d).index None
          ≡ Some (record { moment = n; id = (get_or (insert entries q (record { id = id; index = index })) k d).id }))
      named_at k d low (before a x) = other k d (omega (arith, a, low_q)) _ (x d)
      named_at k d low (here a x) = (
        m,
        ap (λ (z : Entry). get_or (set slots index e) z.index None) (x d)
            ∙ get_or-set_same slots index e None low_i ∙ ap (λ (z : Entry). Some (record { moment = m; id = z.id })) (sym (x d)),
      )
      named_at k d low (after j a c x) = other j d (let n = long_positions in omega (arith, low, a, n)) _ (x d)

  pub new_rows : rows_of (set slots index (Some (record { moment = m; id = id }))) (set records index kept)
      (insert entries q (record { id = id; index = index }))
      ≡ insert (rows_of slots records entries) q (joined id index (Some (record { moment = m; id = id })) kept)
  new_rows =
      let f' = row_of (set slots index e) (set records index kept) in
      let f = row_of slots records in
      let same : map f' entries ≡ map f entries = map_same f' f entries no_entry (λ k low.
      let x = get_or entries k no_entry in
      λ y. joined x.id x.index (get_or-set_other slots index x.index e None (fresh k low) y)
      (get_or-set_other records index x.index kept no_record (fresh k low) y)) in
      let new : f' p ≡ joined id index e kept =
      λ y. joined id index (get_or-set_same slots index e None low_i y)
      (get_or-set_same records index kept no_record (let l = t.long in omega (arith, l, low_i)) y) in
      map-append f' (take q entries) (p ∷ drop q entries)
      ∙ (λ y. sym (take-map f' q entries) y ++ (new y ∷ sym (drop-map f' q entries) y))
      ∙ ap (λ xs. take q xs ++ (joined id index e kept ∷ drop q xs)) same
