-- What a look-up by id finds of the cyclics that are kept at their positions, and what a change at one position leaves.
use Rattle.std.proofs.Common.{◌≡◌, ◌≢◌, ℕ, ◌+◌, ◌-◌, ◌<◌, eqb, cond, Bool, true, false, List, [], ◌∷◌, length, map, get_or}
use Rattle.std.proofs.Common.{set, Option}
use Rattle.std.proofs.Common.{Some, None, IsSome, inl, inr, refl, sym, ap, ◌∙◌, subst, arith, eq-eqb, ne_eqb}
use Rattle.std.specs.Bool.{then_some}
use Rattle.std.specs.Option.{option_map}
use Rattle.std.proofs.lemmas.Bool.{cases_lt, cases_eq}
use Rattle.std.proofs.lemmas.Bool.Decides.{nat_tests}
use Rattle.std.proofs.lemmas.List.{get_or_past, get_or_default, get_or-set_same, get_or-set_other}
use Rattle.cyc_finder.specs.Sorted.{look_up, Rises}
use Rattle.cyc_finder.specs.Indexes as finder
use Rattle.cyc_finder.specs.Indexes.{Entry, index_of, index_in}
use Rattle.cyc_core.specs.declared.admitted.Admitted.{Admitted}
use Rattle.cyc_core.specs.declared.admitted.Kept.{Kept}
use Rattle.cyc_core.specs.Tables.{lookup, cyclic_of_entry, cyclics_of_table}
use Rattle.cyc_core.specs.Shown.{nothing_kept, kept_id, read_as, table_of, AreKept}

-- what is kept at a position
abbrev pub there : List Kept → ℕ → Kept
there kept i = get_or kept i nothing_kept

-- the second list finds this of the id, and of all others what the first does
abbrev pub FindsElse : List Admitted → List Admitted → ℕ → Option Admitted → Type 0
FindsElse xs ys id o = (q : ℕ) → lookup q ys ≡ cond (eqb q id) o (lookup q xs)

pub some_same : {X : Type 0} (x y : X) → Some x ≡ Some y → x ≡ y
some_same x y e = cc

-- the table's look-up is the finder's, and then what is kept at the position
pub lookup_is : (kept : List Kept) (es : List Entry) (q : ℕ)
    → lookup q (table_of kept es) ≡ option_map (λ i. read_as q i (there kept i)) (index_of q es)
lookup_is kept [] q = refl
lookup_is kept (x ∷ xs) q = by (eqb x.id q) refl (lookup_is kept xs q)
  where
    by : (b : Bool) → eqb x.id q ≡ b
        → lookup q (table_of kept xs) ≡ option_map (λ i. read_as q i (there kept i)) (index_of q xs)
        → cond b (Some (read_as x.id x.index (there kept x.index))) (lookup q (table_of kept xs))
        ≡ option_map (λ i. read_as q i (there kept i)) (option_map index_in (cond b (Some x) (look_up finder.id_in q xs)))
    by true e rest = let same : x.id ≡ q = grind (arith, nat_tests) in λ z. Some (read_as (same z) x.index (there kept x.index))
    by false e rest = rest

-- an id that is found is the finder's, and found as it is kept
found_as : (kept : List Kept) (q : ℕ) (o : Option ℕ) (e : Admitted) → option_map (λ i. read_as q i (there kept i)) o ≡ Some e
    → (o ≡ Some e.position) × (e ≡ read_as q e.position (there kept e.position))
found_as kept q None e h = absurd (let no : ⊥ = cc in no)
found_as kept q (Some i) e h =
    let is : read_as q i (there kept i) ≡ e = some_same _ _ h in
    let at : i ≡ e.position = ap (λ (x : Admitted). x.position) is in
    (ap Some at, sym is ∙ ap (λ j. read_as q j (there kept j)) at)

pub found_entry : (kept : List Kept) (es : List Entry) (q : ℕ) (e : Admitted) → lookup q (table_of kept es) ≡ Some e
    → (index_of q es ≡ Some e.position) × (e ≡ read_as q e.position (there kept e.position))
found_entry kept es q e h = found_as kept q (index_of q es) e (sym (lookup_is kept es q) ∙ h)

-- what the finder names is found
pub named_entry : (kept : List Kept) (es : List Entry) (q i : ℕ) → index_of q es ≡ Some i
    → lookup q (table_of kept es) ≡ Some (read_as q i (there kept i))
named_entry kept es q i h = lookup_is kept es q ∙ ap (option_map (λ i. read_as q i (there kept i))) h

no_index : (kept : List Kept) (q : ℕ) (o : Option ℕ)
    → option_map cyclic_of_entry (option_map (λ i. read_as q i (there kept i)) o) ≡ None → o ≡ None
no_index kept q None h = refl
no_index kept q (Some i) h = absurd (let no : ⊥ = cc in no)

-- what is not admitted has no position
pub absent_index : (kept : List Kept) (es : List Entry) (q : ℕ) → cyclics_of_table (table_of kept es) q ≡ None
    → index_of q es ≡ None
absent_index kept es q h = no_index kept q (index_of q es) (sym (ap (option_map cyclic_of_entry) (lookup_is kept es q)) ∙ h)

-- the position of what is found
pub index_found : (kept : List Kept) (es : List Entry) (q : ℕ)
    → index_of q es ≡ option_map (λ (e : Admitted). e.position) (lookup q (table_of kept es))
index_found kept es q = by (index_of q es) ∙ ap (option_map (λ (e : Admitted). e.position)) (sym (lookup_is kept es q))
  where
    by : (o : Option ℕ) → o ≡ option_map (λ (e : Admitted). e.position) (option_map (λ i. read_as q i (there kept i)) o)
    by None = refl
    by (Some i) = refl

-- one that is kept is here
pub is_here : (k : Kept) (id : ℕ) → kept_id k ≡ Some id → k.here ≡ true
is_here k id h = by k.here h
  where
    by : (b : Bool) → then_some b k.id ≡ Some id → b ≡ true
    by true h = refl
    by false h = absurd (let no : ⊥ = cc in no)

-- where a cyclic is kept there is a position
pub kept_low : (kept : List Kept) (i id : ℕ) → kept_id (there kept i) ≡ Some id → i < length kept
kept_low kept i id h = elim (cases_lt i (length kept)) [
  | inl low ↦ low
  | inr past ↦
      absurd (let no : None ≡ Some id = sym (ap kept_id (get_or_past kept i nothing_kept past)) ∙ h in
      let wrong : ⊥ = cc in wrong)
]

-- positions at which the same is kept
module _ (kept more : List Kept) (es : List Entry) (same : (i : ℕ) → there more i ≡ there kept i) where
  pub same_table : table_of more es ≡ table_of kept es
  same_table = λ z. map (λ (e : Entry). read_as e.id e.index (same e.index z)) es

  pub same_kept : AreKept kept es → AreKept more es
  same_kept t = record {
    ordered = t.ordered;
    named = λ id i. (λ h. (t.named id i).0 (sym (ap kept_id (same i)) ∙ h), λ h. ap kept_id (same i) ∙ (t.named id i).1 h);
  }

chosen : (b : Bool) (x y : ℕ) → then_some b x ≡ Some y → (b ≡ true) × (x ≡ y)
chosen true x y h = (refl, some_same x y h)
chosen false x y h = absurd (let no : ⊥ = cc in no)

-- another cyclic at one position, or none: the finder names this for the one id where a cyclic is kept there, and else nothing
module _ (kept : List Kept) (es new : List Entry) (t : AreKept kept es) (id i : ℕ) (b : Bool) (k : Kept)
    (told : (q : ℕ) → index_of q new ≡ cond (eqb q id) (then_some b i) (index_of q es))
    (alone : (q : ℕ) → kept_id (there kept i) ≡ Some q → q ≡ id)
    (only : (j : ℕ) → index_of id es ≡ Some j → j ≡ i)
    (low : i < length kept) (is : kept_id k ≡ then_some b id) where
  at_index : there (set kept i k) i ≡ k
  at_index = get_or-set_same kept i k nothing_kept low

  elsewhere : (j : ℕ) → j ≢ i → there (set kept i k) j ≡ there kept j
  elsewhere j ne = get_or-set_other kept i j k nothing_kept ne

  told_id : index_of id new ≡ then_some b i
  told_id = told id ∙ ap (λ c. cond c (then_some b i) (index_of id es)) (eq-eqb id id refl)

  told_other : (q : ℕ) → q ≢ id → index_of q new ≡ index_of q es
  told_other q ne = told q ∙ ap (λ c. cond c (then_some b i) (index_of q es)) (ne_eqb q id ne)

  pub finds_else : FindsElse (table_of kept es) (table_of (set kept i k) new) id (then_some b (read_as id i k))
  finds_else q = elim (cases_eq q id) [
    | inl same ↦ ap (λ j. lookup j (table_of (set kept i k) new)) same ∙ lookup_is (set kept i k) new id
        ∙ ap (option_map (λ j. read_as id j (there (set kept i k) j))) told_id ∙ here b
        ∙ sym (ap (λ c. cond c (then_some b (read_as id i k)) (lookup q (table_of kept es))) (eq-eqb q id same))
    | inr ne ↦ lookup_is (set kept i k) new q ∙ ap (option_map (λ j. read_as q j (there (set kept i k) j))) (told_other q ne)
        ∙ others q ne (index_of q es) refl ∙ sym (lookup_is kept es q)
        ∙ sym (ap (λ c. cond c (then_some b (read_as id i k)) (lookup q (table_of kept es))) (ne_eqb q id ne))
  ]
    where
      here : (c : Bool) → option_map (λ j. read_as id j (there (set kept i k) j)) (then_some c i)
          ≡ then_some c (read_as id i k)
      here true = ap (λ x. Some (read_as id i x)) at_index
      here false = refl

      others : (q : ℕ) → q ≢ id → (o : Option ℕ) → index_of q es ≡ o
          → option_map (λ j. read_as q j (there (set kept i k) j)) o ≡ option_map (λ j. read_as q j (there kept j)) o
      others q ne None e = refl
      others q ne (Some j) e =
          let far : j ≢ i = λ s. ne (alone q ((t.named q i).1 (e ∙ ap Some s))) in
          ap (λ x. Some (read_as q j x)) (elsewhere j far)

  pub still_kept : Rises finder.id_in new → AreKept (set kept i k) new
  still_kept ordered = record {
    ordered = ordered;
    named = λ q j. elim (cases_eq j i) [
      | inl same ↦ (
        λ h.
            let (any, named) = chosen b id q (sym is ∙ sym (ap kept_id at_index)
            ∙ ap (λ n. kept_id (there (set kept i k) n)) (sym same) ∙ h) in
            ap (λ n. index_of n new) (sym named) ∙ told_id ∙ ap (λ c. then_some c i) any ∙ ap Some (sym same),
        λ h. elim (cases_eq q id) [
          | inl own ↦
              let (any, there_is) = chosen b i j (sym told_id ∙ ap (λ n. index_of n new) (sym own) ∙ h) in
              ap (λ n. kept_id (there (set kept i k) n)) same ∙ ap kept_id at_index ∙ is ∙ ap (λ c. then_some c id) any
              ∙ ap Some (sym own)
          | inr ne ↦ absurd (ne (alone q ((t.named q i).1 (sym (told_other q ne) ∙ h ∙ ap Some same))))
        ],
      )
      | inr far ↦ (
        λ h.
            let was : index_of q es ≡ Some j = (t.named q j).0 (sym (ap kept_id (elsewhere j far)) ∙ h) in
            told_other q (λ own. far (only j (ap (λ n. index_of n es) (sym own) ∙ was))) ∙ was,
        λ h. elim (cases_eq q id) [
          | inl own ↦
              absurd (let (any, there_is) = chosen b i j (sym told_id ∙ ap (λ n. index_of n new) (sym own) ∙ h) in
              far (sym there_is))
          | inr ne ↦ ap kept_id (elsewhere j far) ∙ (t.named q j).1 (sym (told_other q ne) ∙ h)
        ],
      )
    ];
  }

some_index : (kept : List Kept) (q : ℕ) (o : Option ℕ)
    → IsSome (option_map cyclic_of_entry (option_map (λ i. read_as q i (there kept i)) o)) → ¬ (o ≡ None)
some_index kept q None some none = let wrong : ⊥ = cc in wrong
some_index kept q (Some i) some none = let wrong : ⊥ = cc in wrong

-- an admitted id has a position
pub named_index : (kept : List Kept) (es : List Entry) (q : ℕ) → IsSome (cyclics_of_table (table_of kept es) q)
    → ¬ (index_of q es ≡ None)
named_index kept es q some = some_index kept q (index_of q es)
    (subst (λ (o : Option Admitted). IsSome (option_map cyclic_of_entry o)) (lookup_is kept es q) some)

-- a position has one id, and an id one position
pub one_id : (kept : List Kept) (es : List Entry) → AreKept kept es → (id i : ℕ) → index_of id es ≡ Some i → (q : ℕ)
    → kept_id (there kept i) ≡ Some q → q ≡ id
one_id kept es t id i e q h = some_same q id (sym h ∙ (t.named id i).1 e)

pub one_index : (es : List Entry) (id i : ℕ) → index_of id es ≡ Some i → (j : ℕ) → index_of id es ≡ Some j → j ≡ i
one_index es id i e j h = some_same j i (sym h ∙ e)

-- a cyclic that is admitted to a free position
module _ (kept more : List Kept) (es new : List Entry) (t : AreKept kept es) (same : (i : ℕ) → there more i ≡ there kept i)
    (id position number : ℕ) (at : number ≡ position) (k : Kept) (absent : index_of id es ≡ None)
    (free : kept_id (there kept position) ≡ None)
    (told : (q : ℕ) → index_of q new ≡ cond (eqb q id) (Some position) (index_of q es))
    (low : number < length more) (is : kept_id k ≡ Some id) where
  told_position : (q : ℕ) → index_of q new ≡ cond (eqb q id) (Some number) (index_of q es)
  told_position q = told q ∙ ap (λ n. cond (eqb q id) (Some n) (index_of q es)) (sym at)

  none_there : (q : ℕ) → kept_id (there more number) ≡ Some q → q ≡ id
  none_there q h =
      let no : None ≡ Some q = sym free ∙ ap (λ n. kept_id (there kept n)) (sym at) ∙ sym (ap kept_id (same number)) ∙ h in
      absurd (let wrong : ⊥ = cc in wrong)

  none_named : (j : ℕ) → index_of id es ≡ Some j → j ≡ number
  none_named j h = let no : None ≡ Some j = sym absent ∙ h in absurd (let wrong : ⊥ = cc in wrong)

  pub finds_admitted : FindsElse (table_of kept es) (table_of (set more number k) new) id (Some (read_as id position k))
  finds_admitted q =
      finds_else more es new (same_kept kept more es same t) id number true k told_position none_there none_named low is q
      ∙ (λ z. cond (eqb q id) (Some (read_as id (at z) k)) (lookup q (same_table kept more es same z)))

  pub admitted_kept : Rises finder.id_in new → AreKept (set more number k) new
  admitted_kept ordered =
      still_kept more es new (same_kept kept more es same t) id number true k told_position none_there none_named low is ordered

-- a cyclic that leaves its position
module _ (kept : List Kept) (es new : List Entry) (t : AreKept kept es) (id position number : ℕ) (at : number ≡ position)
    (k : Kept)
    (named : index_of id es ≡ Some position)
    (told : (q : ℕ) → index_of q new ≡ cond (eqb q id) None (index_of q es)) (is : kept_id k ≡ None) where
  named_position : index_of id es ≡ Some number
  named_position = named ∙ ap Some (sym at)

  pub left_low : number < length kept
  left_low = kept_low kept number id ((t.named id number).1 named_position)

  pub finds_left : FindsElse (table_of kept es) (table_of (set kept number k) new) id None
  finds_left = finds_else kept es new t id number false k told (one_id kept es t id number named_position)
      (one_index es id number named_position) left_low is

  pub left_kept : Rises finder.id_in new → AreKept (set kept number k) new
  left_kept = still_kept kept es new t id number false k told (one_id kept es t id number named_position)
      (one_index es id number named_position) left_low is

-- what was found is read at its position
module _ (kept : List Kept) (es : List Entry) (t : AreKept kept es) (id position number : ℕ) (at : number ≡ position)
    (found : Some position ≡ option_map (λ (e : Admitted). e.position) (lookup id (table_of kept es))) where
  found_named : index_of id es ≡ Some position
  found_named = index_found kept es id ∙ sym found

  pub found_low : number < length kept
  found_low = kept_low kept number id ((t.named id number).1 (found_named ∙ ap Some (sym at)))

  pub found_read : (k : Kept) (e : Admitted) → k ≡ get_or kept number k → e ≡ read_as id position k
      → lookup id (table_of kept es) ≡ Some e
  found_read k e read is = named_entry kept es id position found_named
      ∙ ap (λ x. Some (read_as id position x)) (ap (there kept) (sym at)
      ∙ sym (read ∙ get_or_default kept number k nothing_kept found_low)) ∙ ap Some (sym is)

-- the counts of one cyclic, that is read and written at its position
module _ (kept : List Kept) (es : List Entry) (t : AreKept kept es) (e : Admitted) (number : ℕ) (at : number ≡ e.position)
    (found : lookup e.id (table_of kept es) ≡ Some e) where
  entry_index : index_of e.id es ≡ Some number
  entry_index = (found_entry kept es e.id e found).0 ∙ ap Some (sym at)

  kept_here : kept_id (there kept number) ≡ Some e.id
  kept_here = (t.named e.id number).1 entry_index

  pub position_low : number < length kept
  position_low = kept_low kept number e.id kept_here

  module _ (k : Kept) (read : k ≡ get_or kept number k) where
    pub read_there : k ≡ there kept number
    read_there = read ∙ get_or_default kept number k nothing_kept position_low

    -- the entry has the counts that are read
    pub counts_read : e ≡ read_as e.id e.position k
    counts_read = (found_entry kept es e.id e found).1
        ∙ ap (read_as e.id e.position) (sym (read_there ∙ ap (there kept) at))

    module _ (new : Kept) (same_id : new.id ≡ k.id) (same_here : new.here ≡ k.here) where
      new_id : kept_id new ≡ Some e.id
      new_id = (λ z. then_some (same_here z) (same_id z)) ∙ ap kept_id read_there ∙ kept_here

      told_same : (q : ℕ) → index_of q es ≡ cond (eqb q e.id) (Some number) (index_of q es)
      told_same q = elim (cases_eq q e.id) [
        | inl same ↦ ap (λ n. index_of n es) same ∙ entry_index
            ∙ sym (ap (λ c. cond c (Some number) (index_of q es)) (eq-eqb q e.id same))
        | inr ne ↦ sym (ap (λ c. cond c (Some number) (index_of q es)) (ne_eqb q e.id ne))
      ]

      pub counted : FindsElse (table_of kept es) (table_of (set kept number new) es) e.id (Some (read_as e.id e.position new))
      counted = λ q. finds_else kept es es t e.id number true new told_same
          (one_id kept es t e.id number entry_index) (one_index es e.id number entry_index) position_low new_id q
          ∙ ap (λ n. cond (eqb q e.id) (Some (read_as e.id n new)) (lookup q (table_of kept es))) at

      pub counted_kept : AreKept (set kept number new) es
      counted_kept = still_kept kept es es t e.id number true new told_same
          (one_id kept es t e.id number entry_index) (one_index es e.id number entry_index) position_low new_id
          t.ordered

-- the counts of one cyclic after one more expiration, one more that was lost, and one more call that is done
module _ (e : Admitted) (k : Kept) (id position : ℕ) (same : e ≡ read_as id position k) where
  sent_read : e.sent ≡ k.sent
  sent_read = ap (λ (x : Admitted). x.sent) same

  done_read : e.done ≡ k.sent - k.count - k.lost
  done_read = ap (λ (x : Admitted). x.done) same

  index_read : e.index ≡ k.index
  index_read = ap (λ (x : Admitted). x.index) same

  lost_read : e.lost ≡ k.lost
  lost_read = ap (λ (x : Admitted). x.lost) same

  count_read : e.count ≡ k.count
  count_read = ap (λ (x : Admitted). x.count) same

  pub read_expired : cyclic_of_entry (read_as id position (record k { sent = e.sent + 1; count = e.count + 1 }))
      ≡ cyclic_of_entry (record e { sent = e.sent + 1; count = e.count + 1 })
  read_expired =
      let done : e.sent + 1 - (e.count + 1) - k.lost ≡ e.done = omega (arith, sent_read, count_read, done_read) in
      λ z. record (cyclic_of_entry e) {
        index = sym index_read z;
        sent = e.sent + 1;
        done = done z;
        lost = sym lost_read z;
        count =
            e.count + 1;
      }

  pub read_lost : cyclic_of_entry (read_as id position (record k { sent = e.sent + 1; lost = e.lost + 1 }))
      ≡ cyclic_of_entry (record e { sent = e.sent + 1; lost = e.lost + 1 })
  read_lost =
      let done : e.sent + 1 - k.count - (e.lost + 1) ≡ e.done = omega (arith, sent_read, lost_read, done_read) in
      λ z. record (cyclic_of_entry e) {
        index = sym index_read z;
        sent = e.sent + 1;
        done = done z;
        lost = e.lost + 1;
        count =
            sym count_read z;
      }

  pub read_finished : 0 < e.count → e.sent ≡ e.done + e.count + e.lost
      → cyclic_of_entry (read_as id position (record k { count = e.count - 1 }))
      ≡ cyclic_of_entry (record e { done = e.done + 1; count = e.count - 1 })
  read_finished some even =
      let done : k.sent - (e.count - 1) - k.lost ≡ e.done + 1 = omega (arith, sent_read, lost_read, some, even) in
      λ z. record (cyclic_of_entry e) {
        index = sym index_read z;
        sent = sym sent_read z;
        done = done z;
        lost = sym lost_read z;
        count =
            e.count - 1;
      }
