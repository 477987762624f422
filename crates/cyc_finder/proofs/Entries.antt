-- What a finder says of each id, after an entry came or went.
use Rattle.std.proofs.Common.{◌≡◌, ◌≢◌, ℕ, suc, ◌<◌, eqb, Bool, true, false, cond, List, [], ◌∷◌, ◌++◌, length, get_or}
use Rattle.std.proofs.Common.{map, take, drop, sym, refl, ap, ◌∙◌, arith, eq-eqb, ne_eqb}
use Rattle.std.specs.Prelude.{Option, Some, None}
use Rattle.std.specs.Option.{option_map}
use Rattle.std.specs.List.{insert, remove}
use Rattle.std.proofs.lemmas.List.{get_or-map, length-map, take-map, drop-map, map-append}
use mathlib.Core.Logic.{dite}
use native.Mathlib.Decide.{ℕ_discrete}
use Rattle.cyc_finder.specs.Sorted.{look_up, Rises, IsAt, IsGap}
use Rattle.cyc_finder.specs.Indexes.{Entry, id_in, index_in, index_of, IsIndexed, stands_in}
use Rattle.cyc_finder.proofs.RisingIds.{look_up_read, look_up_at, look_up_gap, look_up_inserted, look_up_removed, is_at_position}
use Rattle.cyc_finder.proofs.Few.{times_at}

-- the index beside a choice
index_cond : (b : Bool) (p q : Option Entry)
    → option_map index_in (cond b p q) ≡ cond b (option_map index_in p) (option_map index_in q)
index_cond true p q = refl
index_cond false p q = refl

pub index_read : (xs : List Entry) → Rises id_in xs → (id position : ℕ) → IsAt id_in xs id position → (e : Entry)
    → e ≡ get_or xs position e → index_of id xs ≡ Some e.index
index_read xs rises id position at e read = ap (option_map index_in) (look_up_read id_in xs rises id position at e read)

-- an id that stands somewhere has an index
pub index_at : (xs : List Entry) → Rises id_in xs → (id position : ℕ) → IsAt id_in xs id position → (i : ℕ)
    × (index_of id xs ≡ Some i)
index_at xs rises id position at =
    let d : Entry = record { id = 0; index = 0 } in
    ((get_or xs position d).index, ap (option_map index_in) (look_up_at id_in xs rises id position at d))

pub index_gap : (xs : List Entry) (id position : ℕ) → IsGap id_in xs id position → index_of id xs ≡ None
index_gap xs id position gap = ap (option_map index_in) (look_up_gap id_in xs id position gap)

pub index_inserted : (xs : List Entry) (id position index : ℕ) → IsGap id_in xs id position → (j : ℕ)
    → index_of j (insert xs position (record { id = id; index = index })) ≡ cond (eqb j id) (Some index) (index_of j xs)
index_inserted xs id position index gap j =
    ap (option_map index_in) (look_up_inserted id_in xs id position gap (record { id = id; index = index }) refl j)
    ∙ index_cond (eqb j id) (Some (record { id = id; index = index })) (look_up id_in j xs)

pub index_removed : (xs : List Entry) → Rises id_in xs → (id position : ℕ) → IsAt id_in xs id position → (j : ℕ)
    → index_of j (remove xs position) ≡ cond (eqb j id) None (index_of j xs)
index_removed xs rises id position at j =
    ap (option_map index_in) (look_up_removed id_in xs rises id position at j) ∙ index_cond (eqb j id) None (look_up id_in j xs)

-- an index that no id has stands nowhere
pub free_is : (xs : List Entry) (index : ℕ) → Rises id_in xs → ¬ IsIndexed index xs → stands_in index (map index_in xs) ≡ 0
free_is xs index rises none = dite (ℕ_discrete (stands_in index (map index_in xs)) 0)
    (λ e. e)
    (λ ne.
    let (k, in_range, is) = times_at index (map index_in xs) (omega (arith, ne)) in
    let long = length-map xs index_in in
    let low : k < length xs = omega (arith, in_range, long) in
    let d : Entry = record { id = 0; index = 0 } in
    let found = ap (option_map index_in) (look_up_at id_in xs rises (get_or xs k d).id k (is_at_position id_in xs k d low) d) in
    absurd (none ((get_or xs k d).id, found ∙ ap Some (sym (get_or-map index_in xs k d 0 low) ∙ is))))

pub indexes_insert : (xs : List Entry) (position : ℕ) (e : Entry)
    → map index_in (insert xs position e) ≡ insert (map index_in xs) position e.index
indexes_insert xs position e =
    map-append index_in (take position xs) (e ∷ drop position xs)
    ∙ (λ y. sym (take-map index_in position xs) y ++ e.index ∷ sym (drop-map index_in position xs) y)

pub indexes_remove : (xs : List Entry) (position : ℕ) → map index_in (remove xs position) ≡ remove (map index_in xs) position
indexes_remove xs position =
    map-append index_in (take position xs) (drop (suc position) xs)
    ∙ (λ y. sym (take-map index_in position xs) y ++ sym (drop-map index_in (suc position) xs) y)

-- an id that has an index stands somewhere
pub index_found : (xs : List Entry) (id i : ℕ) → index_of id xs ≡ Some i → (k : ℕ) × (k < length xs)
    × ((d : Entry) → get_or xs k d ≡ record { id = id; index = i })
index_found [] id i e = absurd (cc)
index_found (x ∷ xs) id i e = dite (ℕ_discrete x.id id)
    (λ same.
    let now : Some x.index ≡ Some i = ap (λ b. option_map index_in (cond b (Some x) (look_up id_in id xs)))
    (sym (eq-eqb x.id id same)) ∙ e in
    let is : x.index ≡ i = cc in (0, omega arith, λ d y. record { id = same y; index = is y }))
    (λ ne.
    let now : index_of id xs ≡ Some i = ap (λ b. option_map index_in (cond b (Some x) (look_up id_in id xs)))
    (sym (ne_eqb x.id id ne)) ∙ e in
    let (k, low, at) = index_found xs id i now in (suc k, omega (arith, low), at))

-- an id that has none stands nowhere
pub index_missing : (xs : List Entry) → Rises id_in xs → (id : ℕ) → index_of id xs ≡ None → (k : ℕ) (d : Entry) → k < length xs
    → (get_or xs k d).id ≢ id
index_missing xs rises id none k d low same =
    let (i, some) = index_at xs rises (get_or xs k d).id k (is_at_position id_in xs k d low) in
    let no : None ≡ Some i = sym none ∙ ap (λ n. index_of n xs) (sym same) ∙ some in absurd (cc)
