-- Lemmas on a table: what a position, an index and the root have, and what a change at one index leaves.
use Rattle.std.proofs.Common.{◌≡◌, ◌≢◌, ℕ, suc, ◌<◌, ◌≤◌, ◌⊎◌, inl, inr, cond, List, [], ◌∷◌, Option, Some, None, refl, sym, ap}
use Rattle.std.proofs.Common.{◌∙◌, subst, arith, length, get_or, map, All, count_by, option_map}
use Rattle.std.proofs.Math.ListN.{set}
use Rattle.std.specs.Prelude.{is_some, IfSome}
use Rattle.std.specs.List.{slice_get}
use Rattle.std.proofs.lemmas.Option.{slice_get_read}
use Rattle.cyc_heap.specs.Heap as heap
use Rattle.cyc_heap.specs.Heap.{HeapView, IsLeast, slots_moved}
use Rattle.std.proofs.lemmas.Bool.{cases_lt, cases_eq}
use Rattle.std.proofs.lemmas.List.{get_or_past, get_or-map, get_or_default, same_lists, length-map, length-set, get_or-set_same}
use Rattle.std.proofs.lemmas.List.{get_or-set_other, set-get_or}
use Rattle.std.proofs.lemmas.List.Sums.{sum_by-set}
use Rattle.cyc_types.specs.Series.{never}
use Rattle.cyc_types.specs.Expirations.{Expiration, is_before, next_of}
use Rattle.cyc_types.specs.Timers.{Timer, IsSoundTimer}
use Rattle.cyc_finder.specs.Sorted.{IsAt, IsGap}
use Rattle.cyc_finder.specs.Indexes.{Entry, id_in}
use Rattle.cyc_timers.specs.declared.table.Record.{Record}
use Rattle.cyc_timers.specs.Rows.{Row, no_record, moment_in, joined, row_of, rows_of, timers_of, IsTable, IsRow, IsRising}
use Rattle.cyc_timers.specs.Rows.{HasDistinctIndexes, IsFirstAt, IsRecordOf, at_moment, with_record, with_counts, TableView}
use Rattle.cyc_timers.specs.Rows.{Cyclic, cyclic_of, cyclics_of, HasNo}

abbrev pub no_entry : Entry
no_entry = record { id = 1; index = 0 }

-- an index that is in use is below the size
pub slot_low : (slots : List (Option Expiration)) (i : ℕ) (e : Expiration) → get_or slots i None ≡ Some e → i < length slots
slot_low slots i e h = elim (cases_lt i (length slots)) [
  | inl low ↦ low
  | inr past ↦ let none = get_or_past slots i None past in absurd (let no : Some e ≡ None = sym h ∙ none in cc)
]

-- what stands at a position: its row is what heap and record of its index are together
pub record Standing (slots : List (Option Expiration)) (records : List Record) (entries : List Entry) (k : ℕ)
    (r : Row) : Type 0 where
  pub p : Entry
  pub low : k < length entries
  pub is : (d : Entry) → get_or entries k d ≡ p
  pub row : r ≡ row_of slots records p
  pub m : ℕ
  pub holds : get_or slots p.index None ≡ Some (record { moment = m; id = p.id })
  pub below : p.index < length slots

pub standing : (slots : List (Option Expiration)) (records : List Record) (entries : List Entry) (k : ℕ) (r : Row)
    → IsTable slots records entries → IsRow (rows_of slots records entries) k r → Standing slots records entries k r
standing slots records entries k r t is =
    let low : k < length entries = (let l = length-map entries (row_of slots records) in let w = is.0 in omega (arith, l, w)) in
    let (m, holds) = t.named k no_entry low in
    record {
      p = get_or entries k no_entry;
      low = low;
      is = λ d. get_or_default entries k d no_entry low;
      row = sym is.1 ∙ get_or-map (row_of slots records) entries k no_entry r low;
      m = m;
      holds = holds;
      below = slot_low slots (get_or entries k no_entry).index _ holds;
    }

-- the row at a position
pub row_at : (slots : List (Option Expiration)) (records : List Record) (entries : List Entry) (k : ℕ) (d : Row)
    → k < length entries → get_or (rows_of slots records entries) k d ≡ row_of slots records (get_or entries k no_entry)
row_at slots records entries k d low = get_or-map (row_of slots records) entries k no_entry d low

-- different entries have different ids, and so different indexes
pub apart : (slots : List (Option Expiration)) (records : List Record) (entries : List Entry) (i j : ℕ)
    → IsTable slots records entries → i < length entries → j < length entries → i ≢ j →
    (get_or entries i no_entry).id ≢ (get_or entries j no_entry).id
apart slots records entries i j t low_i low_j ne same = elim (cases_lt i j) [
  | inl less ↦ let r = t.rising i j no_entry less low_j in absurd (omega (arith, r, same))
  | inr more ↦ let r = t.rising j i no_entry (omega (arith, more, ne)) low_i in absurd (omega (arith, r, same))
]

pub apart_index : (slots : List (Option Expiration)) (records : List Record) (entries : List Entry) (i j : ℕ)
    → IsTable slots records entries → i < length entries → j < length entries → i ≢ j →
    (get_or entries i no_entry).index ≢ (get_or entries j no_entry).index
apart_index slots records entries i j t low_i low_j ne same =
    let (m, holds) = t.named i no_entry low_i in
    let (n, holds') = t.named j no_entry low_j in
    let one : Some (record { moment = m; id = (get_or entries i no_entry).id })
    ≡ Some (record { moment = n; id = (get_or entries j no_entry).id }) = sym holds ∙ ap (λ x. get_or slots x None) same
    ∙ holds' in
    apart slots records entries i j t low_i low_j ne (id_of _ _ one)
  where
    id_of : (a b : Expiration) → Some a ≡ Some b → a.id ≡ b.id
    id_of a b h = ap (λ o. id_in o) h
      where
        id_in : Option Expiration → ℕ
        id_in None = 0
        id_in (Some e) = e.id

-- a list mapped two ways that agree at each element
pub map_same : {X Y : Type 0} (f g : X → Y) (xs : List X) (d : X)
    → ((k : ℕ) → k < length xs → f (get_or xs k d) ≡ g (get_or xs k d)) → map f xs ≡ map g xs
map_same f g [] d h = refl
map_same f g (x ∷ xs) d h = (let first = h 0 (omega arith) in let rest =
    map_same f g xs d (λ k low. h (suc k) (omega (arith, low))) in λ i. first i ∷ rest i)

-- the rows after a change of the heap and the record at one index
pub changed : (slots : List (Option Expiration)) (records : List Record) (entries : List Entry) (k : ℕ) (r : Row)
    (s : Standing slots records entries k r) (m : ℕ) (kept : Record) → IsTable slots records entries →
    rows_of (set slots s.p.index (Some (record { moment = m; id = s.p.id }))) (set records s.p.index kept) entries
    ≡ set (rows_of slots records entries) k (joined s.p.id s.p.index (Some (record { moment = m; id = s.p.id })) kept)
changed slots records entries k r s m kept t =
    let i = s.p.index in
    let e : Option Expiration = Some (record { moment = m; id = s.p.id }) in
    let f = row_of (set slots i e) (set records i kept) in
    let old = rows_of slots records entries in
    let long = length-map entries f in
    let long_old = length-map entries (row_of slots records) in
    let new = joined s.p.id i e kept in
    let set_long = length-set old k new in
    same_lists (map f entries) (set old k new) (omega (arith, long, long_old, set_long)) (λ j d h.
    let low : j < length entries = omega (arith, h, long) in
    let at = get_or-map f entries j no_entry d low in
    elim (cases_eq j k) [
      | inl same ↦
          let here : get_or entries j no_entry ≡ s.p = ap (λ x. get_or entries x no_entry) same ∙ s.is no_entry in
          let there = get_or-set_same slots i e None s.below in
          let kept_there = get_or-set_same records i kept no_record (let l = t.long in let b = s.below in omega (arith, l, b)) in
          at ∙ ap f here ∙ (λ x. joined s.p.id i (there x) (kept_there x))
          ∙ sym (get_or-set_same old k new d (let b = s.low in omega (arith, long_old, b)))
          ∙ ap (λ x. get_or (set old k new) x d) (sym same)
      | inr ne ↦
          let p = get_or entries j no_entry in
          let far : p.index ≢ i = λ q. apart_index slots records entries j k t low s.low ne
          (q ∙ ap (λ (x : Entry). x.index) (sym (s.is no_entry))) in
          at ∙ (λ x. joined p.id p.index (get_or-set_other slots i p.index e None far x)
          (get_or-set_other records i p.index kept no_record far x))
          ∙ sym (row_at slots records entries j d low) ∙ sym (get_or-set_other old k j new d ne)
    ])

-- a slot after a change of one index
pub slot_changed : (slots : List (Option Expiration)) (i j : ℕ) (o e : Option Expiration) → i < length slots
    → get_or (set slots i o) j None ≡ e → ((j ≡ i) × (o ≡ e)) ⊎ ((j ≢ i) × (get_or slots j None ≡ e))
slot_changed slots i j o e low h = elim (cases_eq j i) [
  | inl same ↦ inl (same, sym (get_or-set_same slots i o None low) ∙ ap (λ x. get_or (set slots i o) x None) (sym same) ∙ h)
  | inr ne ↦ inr (ne, sym (get_or-set_other slots i j o None ne) ∙ h)
]

abbrev pub tally : Option Expiration → ℕ
tally o = cond (is_some o) 1 0

count_same : (slots : List (Option Expiration)) (i : ℕ) (e f : Expiration) → get_or slots i None ≡ Some e
    → count_by is_some (set slots i (Some f)) ≡ count_by is_some slots
count_same slots i e f h =
    let s = sum_by-set tally slots i (Some f) None (slot_low slots i e h) in
    let was : tally (get_or slots i None) ≡ 1 = ap tally h in
    omega (arith, s, was)

-- a table stays one after such a change
pub table_changed : (slots : List (Option Expiration)) (records : List Record) (entries : List Entry) (k : ℕ) (r : Row)
    (s : Standing slots records entries k r) (m : ℕ) (kept : Record) → IsTable slots records entries →
    m ≤ never → 0 < kept.interval → kept.interval ≤ never →
    IsTable (set slots s.p.index (Some (record { moment = m; id = s.p.id }))) (set records s.p.index kept) entries
table_changed slots records entries k r s m kept t low_m some most =
    let i = s.p.index in
    let new : Expiration = record { moment = m; id = s.p.id } in
    record {
      rising = t.rising;
      named = λ j d low. elim (cases_eq j k) [
        | inl same ↦
            let here : get_or entries j d ≡ s.p = ap (λ x. get_or entries x d) same ∙ s.is d in (
              m,
              ap (λ (p : Entry). get_or (set slots i (Some new)) p.index None) here
                  ∙ get_or-set_same slots i (Some new) None s.below
                  ∙ ap (λ (p : Entry). Some (record { moment = m; id = p.id })) (sym here),
            )
        | inr ne ↦
            let (n, holds) = t.named j d low in
            let same_d = get_or_default entries j d no_entry low in
            let far : (get_or entries j d).index ≢ i =
            λ q. apart_index slots records entries j k t low s.low ne (ap (λ (x : Entry). x.index) (sym same_d) ∙ q
            ∙ ap (λ (x : Entry). x.index) (sym (s.is no_entry))) in
            (n, get_or-set_other slots i (get_or entries j d).index (Some new) None far ∙ holds)
      ];
      covered = λ j e h. elim (slot_changed slots i j (Some new) (Some e) s.below h) [
        | inl (same, is) ↦ (k, s.low, λ d. ap (λ (x : Entry). x.index) (s.is d) ∙ sym same)
        | inr (ne, is) ↦ t.covered j e is
      ];
      long = (let a = length-set records i kept in let b = length-set slots i (Some new) in let c = t.long in
          omega (arith, a, b, c));
      len = count_same slots i _ new s.holds ∙ t.len;
      moments = λ j e h. elim (slot_changed slots i j (Some new) (Some e) s.below h) [
        | inl (same, is) ↦ subst (λ (x : Expiration). x.moment ≤ never) (some_is new e is) low_m
        | inr (ne, is) ↦ t.moments j e is
      ];
      intervals = λ j d low. elim (cases_eq j i) [
        | inl same ↦ (let at = ap (λ x. get_or (set records i kept) x d) same
            ∙ get_or-set_same records i kept d (let l = t.long in let b = s.below in omega (arith, l, b)) in
            subst (λ (x : Record). (0 < x.interval) × (x.interval ≤ never)) (sym at) (some, most))
        | inr ne ↦ (let at = get_or-set_other records i j kept d ne in let l = length-set records i kept in
            subst (λ (x : Record). (0 < x.interval) × (x.interval ≤ never)) (sym at) (t.intervals j d (omega (arith, low, l))))
      ];
    }
  where
    some_is : (a b : Expiration) → Some a ≡ Some b → a ≡ b
    some_is a b h = cc

-- what is read at the index of a position is what is kept of its row
pub kept_at : (slots : List (Option Expiration)) (records : List Record) (entries : List Entry) (k : ℕ) (r : Row)
    (s : Standing slots records entries k r) → IsTable slots records entries →
    (i : ℕ) (kept : Record) → s.p.index ≡ i → kept ≡ get_or records i kept → IsRecordOf kept r
kept_at slots records entries k r s t i kept same is =
    let low : i < length records = (let l = t.long in let b = s.below in omega (arith, l, b, same)) in
    let at : kept ≡ get_or records s.p.index no_record = is ∙ get_or_default records i kept no_record low
    ∙ ap (λ n. get_or records n no_record) (sym same) in
    let row = sym s.row in (
      ap (λ (x : Record). x.level) at ∙ ap (λ (x : Row). x.timer.level) row,
      ap (λ (x : Record). x.interval) at ∙ ap (λ (x : Row). x.timer.interval) row,
      ap (λ (x : Record). x.expired) at ∙ ap (λ (x : Row). x.timer.expired) row,
      ap (λ (x : Record). x.lost) at ∙ ap (λ (x : Row). x.lost) row,
      ap (λ (x : Record). x.carried) at ∙ ap (λ (x : Row). x.carried) row,
    )

-- the row with other counts, where the rest of its record is kept
pub counted : (r : Row) (m e l : ℕ) (kept : Record) → IsRecordOf kept r
    → with_record m (record kept { expired = e; lost = l }) r ≡ with_counts m e l r
counted r m e l kept (level, interval, expired, lost, carried) =
    λ j. record {
      timer = record { id = r.timer.id; level = level j; interval = interval j; moment = m; expired = e };
      lost =
          l;
      carried = carried j;
      index = r.index;
    }

-- what is left of a slot that gets another moment
pub moved : (slots new : List (Option Expiration)) (i m id n : ℕ) → get_or slots i None ≡ Some (record { moment = m; id = id }) →
    new ≡ slots_moved slots i n → new ≡ set slots i (Some (record { moment = n; id = id }))
moved slots new i m id n h is = is ∙ ap (λ o. set slots i (option_map (heap.expiration_moved n) o)) h

-- what is left of the slots where the root gets another moment
pub lowered : (root : Option ℕ) (slots new : List (Option Expiration)) (found i m id n : ℕ) → root ≡ Some found → i ≡ found
    → get_or slots i None ≡ Some (record { moment = m; id = id }) →
    IfSome root (λ index. new ≡ slots_moved slots index n) → new ≡ set slots i (Some (record { moment = n; id = id }))
lowered root slots new found i m id n at same h is =
    let told : new ≡ slots_moved slots found n = subst (λ o. IfSome o (λ index. new ≡ slots_moved slots index n)) at is in
    moved slots new i m id n h (told ∙ ap (λ x. slots_moved slots x n) (sym same))

-- a slot has one expiration
pub one_slot : (a b : Expiration) (o : Option Expiration) → o ≡ Some a → o ≡ Some b → a ≡ b
one_slot a b o h k = cc

-- the row of an entry
pub is_row : (slots : List (Option Expiration)) (records : List Record) (entries : List Entry) (k : ℕ) → k < length entries
    → IsRow (rows_of slots records entries) k (row_of slots records (get_or entries k no_entry))
is_row slots records entries k low = (
  let l = length-map entries (row_of slots records) in
      omega (arith, l, low),
  row_at slots records entries k _ low,
)

-- the timer of a row
pub timer_of_row : (rows : List Row) (k : ℕ) (d : Timer) (e : Row) → k < length rows
    → get_or (timers_of rows) k d ≡ (get_or rows k e).timer
timer_of_row rows k d e low =
    let l = length-map rows cyclic_of in
    get_or-map (λ (c : Cyclic). c.timer) (cyclics_of rows) k (cyclic_of (get_or rows k e)) d (omega (arith, l, low))
    ∙ ap (λ (c : Cyclic). c.timer) (get_or-map cyclic_of rows k e (cyclic_of (get_or rows k e)) low)

pub timers_long : (rows : List Row) → length (timers_of rows) ≡ length rows
timers_long rows = length-map (cyclics_of rows) (λ (c : Cyclic). c.timer) ∙ length-map rows cyclic_of

-- the timer of a position
pub timer_at : (slots : List (Option Expiration)) (records : List Record) (entries : List Entry) (k : ℕ) (d : Timer)
    → k < length entries → get_or (timers_of (rows_of slots records entries)) k d
    ≡ (row_of slots records (get_or entries k no_entry)).timer
timer_at slots records entries k d low =
    let r = row_of slots records (get_or entries k no_entry) in
    let l = length-map entries (row_of slots records) in
    timer_of_row (rows_of slots records entries) k d r (omega (arith, l, low))
    ∙ ap (λ (x : Row). x.timer) (row_at slots records entries k r low)

pub rows_long : (slots : List (Option Expiration)) (records : List Record) (entries : List Entry)
    → length (timers_of (rows_of slots records entries)) ≡ length entries
rows_long slots records entries = timers_long (rows_of slots records entries) ∙ length-map entries (row_of slots records)

-- what the heap says of its root, said of the rows
pub root_is : (h : HeapView) (records : List Record) (entries : List Entry) → IsTable h.slots records entries
    → (o : Option (ℕ × ℕ × ℕ)) → IfSome o (λ found. IsLeast h found.0 (record { moment = found.1; id = found.2 })) →
    IfSome o (λ found. (k : ℕ) × (r : Row) × IsRow (rows_of h.slots records entries) k r × (r.index ≡ found.0)
    × (r.timer.moment ≡ found.1) × (r.timer.id ≡ found.2) × IsFirstAt (rows_of h.slots records entries) k)
root_is h records entries t None is = tt
root_is h records entries t (Some found) is =
    let slots = h.slots in
    let e : Expiration = record { moment = found.1; id = found.2 } in
    let (k, low, at) = t.covered found.0 e is.holds in
    let p = get_or entries k no_entry in
    let holds : get_or slots p.index None ≡ Some e = ap (λ i. get_or slots i None) (at no_entry) ∙ is.holds in
    let (m, named) = t.named k no_entry low in
    let same = one_slot (record { moment = m; id = p.id }) e _ named holds in
    let id : p.id ≡ found.2 = ap (λ (x : Expiration). x.id) same in
    let moment : moment_in (get_or slots p.index None) ≡ found.1 = ap moment_in holds in (
      k,
      row_of slots records p,
      is_row slots records entries k low,
      at no_entry,
      moment,
      id,
      λ j d low_j.
          let low' : j < length entries = (let l = rows_long slots records entries in omega (arith, l, low_j)) in
          let q = get_or entries j no_entry in
          let (n, there) = t.named j no_entry low' in
          let before = is.least q.index (record { moment = n; id = q.id }) there in
          let left : next_of (get_or (timers_of (rows_of slots records entries)) k d) ≡ e =
          ap next_of (timer_at slots records entries k d low) ∙ (λ i. record { moment = moment i; id = id i }) in
          let right : next_of (get_or (timers_of (rows_of slots records entries)) j d) ≡ record { moment = n; id = q.id } =
          ap next_of (timer_at slots records entries j d low') ∙ (λ i. record { moment = moment_in (there i); id = q.id }) in
          ap (λ (x : Expiration). is_before x (next_of (get_or (timers_of (rows_of slots records entries)) j d))) left
          ∙ ap (is_before e) right ∙ before,
    )

-- what is true of every table
pub rows_rise : (slots : List (Option Expiration)) (records : List Record) (entries : List Entry) → IsTable slots records entries
    → IsRising (rows_of slots records entries)
rows_rise slots records entries t i j d less low =
    let l = length-map entries (row_of slots records) in
    let low_j : j < length entries = omega (arith, l, low) in
    let a = ap (λ (x : Row). x.timer.id) (row_at slots records entries i d (omega (arith, less, low_j))) in
    let b = ap (λ (x : Row). x.timer.id) (row_at slots records entries j d low_j) in
    let r = t.rising i j no_entry less low_j in
    omega (arith, a, b, r)

pub indexes_apart : (slots : List (Option Expiration)) (records : List Record) (entries : List Entry)
    → IsTable slots records entries → HasDistinctIndexes (rows_of slots records entries)
indexes_apart slots records entries t i j d low_i low_j same =
    let l = length-map entries (row_of slots records) in
    let low_i' : i < length entries = omega (arith, l, low_i) in
    let low_j' : j < length entries = omega (arith, l, low_j) in
    let a = ap (λ (x : Row). x.index) (row_at slots records entries i d low_i') in
    let b = ap (λ (x : Row). x.index) (row_at slots records entries j d low_j') in
    elim (cases_eq i j) [
      | inl eq ↦ eq
      | inr ne ↦ absurd
          (apart_index slots records entries i j t low_i' low_j' ne (sym a ∙ same ∙ b))
    ]

pub indexes_low : (slots : List (Option Expiration)) (records : List Record) (entries : List Entry)
    → IsTable slots records entries
    → All (λ r. r.index < length slots) (rows_of slots records entries)
indexes_low slots records entries t k d low =
    let l = length-map entries (row_of slots records) in
    let low' : k < length entries = omega (arith, l, low) in
    let (m, holds) = t.named k no_entry low' in
    let b = slot_low slots (get_or entries k no_entry).index _ holds in
    let a = ap (λ (x : Row). x.index) (row_at slots records entries k d low') in
    omega (arith, a, b)

pub timers_sound : (slots : List (Option Expiration)) (records : List Record) (entries : List Entry)
    → IsTable slots records entries
    → All IsSoundTimer (timers_of (rows_of slots records entries))
timers_sound slots records entries t k d low =
    let low' : k < length entries = (let l = rows_long slots records entries in omega (arith, l, low)) in
    let p = get_or entries k no_entry in
    let (m, holds) = t.named k no_entry low' in
    let b = slot_low slots p.index _ holds in
    let i = t.intervals p.index no_record (let l = t.long in omega (arith, l, b)) in
    let m' = t.moments p.index _ holds in
    let moment : moment_in (get_or slots p.index None) ≤ never = (let e = ap moment_in holds in omega (arith, e, m')) in
    subst IsSoundTimer (sym (timer_at slots records entries k d low')) (record { moment = moment; some = i.0; most = i.1 })

-- the rows where one cyclic gets another moment
pub replaced : (slots new : List (Option Expiration)) (records : List Record) (entries : List Entry) (k : ℕ) (r : Row)
    (s : Standing slots records entries k r) (m : ℕ) → IsTable slots records entries →
    new ≡ slots_moved slots s.p.index m → rows_of new records entries ≡ set (rows_of slots records entries) k (at_moment m r)
replaced slots new records entries k r s m t is =
    let kept = get_or records s.p.index no_record in
    ap (λ xs. rows_of xs records entries) (moved slots new s.p.index s.m s.p.id m s.holds is)
    ∙ ap (λ xs. rows_of (set slots s.p.index (Some (record { moment = m; id = s.p.id }))) xs entries)
    (sym (set-get_or records s.p.index no_record))
    ∙ changed slots records entries k r s m kept t
    ∙ ap (λ x. set (rows_of slots records entries) k (at_moment m x)) (sym s.row)

pub table_replaced : (slots new : List (Option Expiration)) (records : List Record) (entries : List Entry) (k : ℕ) (r : Row)
    (s : Standing slots records entries k r) (m : ℕ) → IsTable slots records entries → m ≤ never →
    new ≡ slots_moved slots s.p.index m → IsTable new records entries
table_replaced slots new records entries k r s m t low is =
    let kept = get_or records s.p.index no_record in
    let i = t.intervals s.p.index no_record (let l = t.long in let b = s.below in omega (arith, l, b)) in
    subst (λ xs. IsTable xs records entries) (sym (moved slots new s.p.index s.m s.p.id m s.holds is))
    (subst (λ xs. IsTable (set slots s.p.index (Some (record { moment = m; id = s.p.id }))) xs entries)
    (set-get_or records s.p.index no_record)
    (table_changed slots records entries k r s m kept t low i.0 i.1))

-- what stands at a position
pub standing_at : (slots : List (Option Expiration)) (records : List Record) (entries : List Entry) (k : ℕ)
    → IsTable slots records entries → k < length entries →
    Standing slots records entries k (row_of slots records (get_or entries k no_entry))
standing_at slots records entries k t low = standing slots records entries k _ t (is_row slots records entries k low)

pub position_low : (v : TableView) (slots : List (Option Expiration)) (records : List Record) (entries : List Entry) (k : ℕ)
    → rows_of slots records entries ≡ v.rows → k < length v.rows → k < length entries
position_low v slots records entries k is low =
    (let l = length-map entries (row_of slots records) in let e = ap length is in omega (arith, l, e, low))

-- where the id stands its row is
pub row_here : (slots : List (Option Expiration)) (records : List Record) (entries : List Entry) (id q : ℕ)
    → IsAt id_in entries id q →
    (r : Row) × IsRow (rows_of slots records entries) q r × (r.timer.id ≡ id)
row_here slots records entries id q at =
    (row_of slots records (get_or entries q no_entry), is_row slots records entries q at.in_range, at.has_id no_entry)

-- where the row stands the entry of its id does
pub entry_here : (slots : List (Option Expiration)) (records : List Record) (entries : List Entry) (id k : ℕ) (r : Row)
    → IsTable slots records entries → IsRow (rows_of slots records entries) k r → r.timer.id ≡ id → IsAt id_in entries id k
entry_here slots records entries id k r t is named =
    let s = standing slots records entries k r t is in
    record { in_range = s.low; has_id = λ d. ap id_in (s.is d) ∙ sym (ap (λ (x : Row). x.timer.id) s.row) ∙ named }

-- the first entry, where the first row is known
pub first_entry : (slots : List (Option Expiration)) (records : List Record) (entries : List Entry) (r : Row)
    → IsTable slots records entries → IsRow (rows_of slots records entries) 0 r
    → (p : Entry) × (slice_get entries 0 ≡ Some p) × (p.id ≡ r.timer.id)
first_entry slots records entries r t is =
    let s = standing slots records entries 0 r t is in
    (s.p, slice_get_read entries (length entries) 0 s.p refl s.low (sym (s.is s.p)), sym (ap (λ (x : Row). x.timer.id) s.row))

-- where the id would stand no row has it
pub no_row : (slots : List (Option Expiration)) (records : List Record) (entries : List Entry) (id q : ℕ)
    → IsGap id_in entries id q
    → HasNo id (rows_of slots records entries)
no_row slots records entries id q gap k d low same =
    let l = length-map entries (row_of slots records) in
    let low_k : k < length entries = omega (arith, l, low) in
    let at = ap (λ (x : Row). x.timer.id) (row_at slots records entries k d low_k) in
    elim (cases_lt k q) [
      | inl less ↦ let b = gap.smaller_before k no_entry less in absurd (omega (arith, b, at, same))
      | inr more ↦ let a = gap.greater_after k no_entry more low_k in absurd (omega (arith, a, at, same))
    ]
