-- What one expiration adds to those that a fire has made.
use Rattle.std.proofs.Common.{◌≡◌, ◌≢◌, ℕ, zero, suc, ◌+◌, ◌<◌, ◌==◌, inl, inr, Bool, true, false, cond, eqb, Some, List, [], ◌∷◌}
use Rattle.std.proofs.Common.{◌++◌, refl, sym, ap, ◌∙◌, subst, arith, length, get_or, filter, map, eq-eqb}
use Rattle.std.proofs.Math.ListN.{set}
use Rattle.std.proofs.lemmas.Bool.{cases_lt, cases_eq}
use Rattle.std.proofs.lemmas.Bool.Decides.{nat_tests}
use Rattle.std.proofs.lemmas.List.{length-set, length-map, get_or-set_same, get_or-set_other, get_or-map, same_lists, map-append}
use Rattle.std.proofs.lemmas.List.Elements.{filter-append}
use Rattle.cyc_types.specs.declared.Raise.{Ghosts as Raise}
use Rattle.cyc_types.specs.Firing.{FiringCall, Admits, Loads, Raises, Marks, Polls, Expands, Looks}
use Rattle.cyc_types.specs.Runs.{Goes, lost_by}
use Rattle.cyc_types.proofs.Runs.{lost_on}
use Rattle.cyc_types.specs.declared.firing.Raised.TheVariants.{First, More, Lost}
use Rattle.cyc_types.specs.declared.level.Level.{Level}
use Rattle.cyc_types.specs.Expirations.{Expiration, after_expirations, all_after}
use Rattle.cyc_types.specs.Timers.{Timer, HasDistinctIds}
use Rattle.cyc_types.proofs.Firings.{Firing, after_id}
use Rattle.cyc_types.specs.Counting.{no_counts}
use Rattle.cyc_timers.specs.Rows.{Row, Cyclic, IsRow, IsRising, timers_of, cyclic_of, cyclics_of}
use Rattle.cyc_timers.specs.Acts.{
  AreRaises,
  loss_in,
  way_losses,
  id_at_level,
  ids_at,
  is_at,
  is_of_level,
  same_level,
  timer_of,
  lost_after,
}
use Rattle.cyc_timers.proofs.Readying.{Edits, edits}
use Rattle.cyc_timers.proofs.Tables.{timer_of_row, timers_long}

-- an end that was raised once for the id
pub raised_edits : {R : Type 0} (firing : Raise R) (id : ℕ) (e f : R)
    (way : List FiringCall) (n : ℕ) →
    AreRaises (id ∷ []) way → Goes firing e way f → n ≡ way_losses way → Edits (firing.view e) (firing.view f) id n
raised_edits firing id e f [] n a g is = absurd a
raised_edits firing id e f (Admits j x ∷ way) n a g is = absurd a.0
raised_edits firing id e f (Loads j x ∷ way) n a g is = absurd a.0
raised_edits firing id e f (Marks j x ∷ way) n a g is = absurd a.0
raised_edits firing id e f (Polls j x ∷ way) n a g is = absurd a.0
raised_edits firing id e f (Expands x ∷ way) n a g is = absurd a.0
raised_edits firing id e f (Looks x ∷ way) n a g is = absurd a.0
raised_edits firing id e f (Raises j x ∷ (c ∷ way)) n a g is = absurd a.1
raised_edits firing id e f (Raises j x ∷ []) n a (m, (stepped, learns), last) is =
    subst (λ k. Edits (firing.view e) (firing.view f) id k) (let z : loss_in (Raises j x) ≡ n = omega (arith, is) in z)
    (subst (λ k. Edits (firing.view e) (firing.view f) k (loss_in (Raises j x))) a.0
    (subst (λ q. Edits (firing.view e) (firing.view q) j (loss_in (Raises j x))) last
    (edits (firing.view e) (firing.view m) j x learns)))

-- an end that was not
pub same_end : {R : Type 0} (firing : Raise R) (e f : R) (way : List FiringCall)
    → AreRaises [] way → Goes firing e way f → (f ≡ e) × (way_losses way ≡ 0)
same_end firing e f [] a g = (sym g, refl)
same_end firing e f (c ∷ way) a g = absurd a

-- the losses of the id that was raised, and of any other
pub losses_same : (b : Bool) (id : ℕ) (way : List FiringCall) → AreRaises (cond b (id ∷ []) []) way
    → lost_by id way ≡ way_losses way
losses_same false id [] a = refl
losses_same false id (c ∷ way) a = absurd a
losses_same true id [] a = absurd a
losses_same true id (Admits j x ∷ way) a = absurd a.0
losses_same true id (Loads j x ∷ way) a = absurd a.0
losses_same true id (Marks j x ∷ way) a = absurd a.0
losses_same true id (Polls j x ∷ way) a = absurd a.0
losses_same true id (Expands x ∷ way) a = absurd a.0
losses_same true id (Looks x ∷ way) a = absurd a.0
losses_same true id (Raises j x ∷ (c ∷ way)) a = absurd a.1
losses_same true id (Raises j First ∷ []) a = refl
losses_same true id (Raises j More ∷ []) a = refl
losses_same true id (Raises j Lost ∷ []) a = (let yes : eqb id j ≡ true = eq-eqb id j (sym a.0) in ap (λ b. cond b 1 0 + 0) yes)

pub losses_other : (b : Bool) (id q : ℕ) (way : List FiringCall) → q ≢ id → AreRaises (cond b (id ∷ []) []) way
    → lost_by q way ≡ 0
losses_other false id q [] ne a = refl
losses_other false id q (c ∷ way) ne a = absurd a
losses_other true id q [] ne a = absurd a
losses_other true id q (Admits j x ∷ way) ne a = absurd a.0
losses_other true id q (Loads j x ∷ way) ne a = absurd a.0
losses_other true id q (Marks j x ∷ way) ne a = absurd a.0
losses_other true id q (Polls j x ∷ way) ne a = absurd a.0
losses_other true id q (Expands x ∷ way) ne a = absurd a.0
losses_other true id q (Looks x ∷ way) ne a = absurd a.0
losses_other true id q (Raises j x ∷ (c ∷ way)) ne a = absurd a.1
losses_other true id q (Raises j First ∷ []) ne a = refl
losses_other true id q (Raises j More ∷ []) ne a = refl
losses_other true id q (Raises j Lost ∷ []) ne a =
    (let same = a.0 in let no : eqb q j ≡ false = grind (arith, nat_tests) in ap (λ b. cond b 1 0 + 0) no)

-- different rows have different timers' ids
pub distinct : (rows : List Row) → IsRising rows → HasDistinctIds (timers_of rows)
distinct rows rising i j d low_i low_j same =
    let l = timers_long rows in
    let e : Row = record { timer = d; lost = 0; carried = no_counts; index = 0 } in
    let li : i < length rows = omega (arith, l, low_i) in
    let lj : j < length rows = omega (arith, l, low_j) in
    let a = ap (λ (t : Timer). t.id) (timer_of_row rows i d e li) in
    let b = ap (λ (t : Timer). t.id) (timer_of_row rows j d e lj) in
    elim (cases_eq i j) [
      | inl eq ↦ eq
      | inr ne ↦ elim (cases_lt i j) [
        | inl less ↦ let h = rising i j e less lj in absurd (omega (arith, h, a, b, same))
        | inr more ↦ let h = rising j i e (omega (arith, more, ne)) li in absurd (omega (arith, h, a, b, same))
      ]
    ]

pub length-all : (now : ℕ) (made : List Expiration) (ts : List Timer) → length (all_after now made ts) ≡ length ts
unfolding all_after
length-all now made ts = length-map ts (after_expirations now made)

after_level : (now : ℕ) (made : List Expiration) (o : Timer) → (after_expirations now made o).level ≡ o.level
unfolding after_expirations
after_level now made o = refl

-- the cyclic at a position is the one of its id
pub found_at : (ts : List Timer) (i : ℕ) (d : Timer) → HasDistinctIds ts → i < length ts
    → timer_of (get_or ts i d).id ts ≡ Some (get_or ts i d)
found_at [] i d distinct low = absurd (omega arith)
found_at (x ∷ xs) zero d distinct low = (let yes : (x.id == x.id) ≡ true = grind (arith, nat_tests) in
    ap (λ b. cond b (Some x) (timer_of x.id xs)) yes)
found_at (x ∷ xs) (suc i) d distinct low =
    let apart : x.id ≢ (get_or xs i d).id = λ q. (let no : 0 ≡ suc i = distinct 0 (suc i) d (omega arith) low q in
    absurd (omega (arith, no))) in
    let no : (x.id == (get_or xs i d).id) ≡ false = grind (arith, nat_tests) in
    ap (λ b. cond b (Some x) (timer_of (get_or xs i d).id xs)) no
    ∙ found_at xs i d (λ j k e low_j low_k q. (let same : suc j ≡ suc k = distinct (suc j) (suc k) e (omega arith) (omega arith) q
    in omega (arith, same))) (omega arith)

-- a cyclic that stands at a position now, as it was at the start
pub origin : (now : ℕ) (made : List Expiration) (ts cur : List Timer) (i : ℕ) (t : Timer) → Firing now made ts cur
    → HasDistinctIds ts → i < length cur → t ≡ get_or cur i t →
    (o : Timer) × (timer_of t.id ts ≡ Some o) × (o.level ≡ t.level)
unfolding all_after
origin now made ts cur i t f distinct low is =
    let long : length cur ≡ length ts = ap length f.is ∙ length-map ts (after_expirations now made) in
    let within : i < length ts = omega (arith, long) in
    let from : t ≡ after_expirations now made (get_or ts i t) = is ∙ ap (λ xs. get_or xs i t) f.is
    ∙ get_or-map (after_expirations now made) ts i t t within in (
      get_or ts i t,
      ap (λ id. timer_of id ts) (ap (λ (x : Timer). x.id) from ∙ after_id now made (get_or ts i t))
          ∙ found_at ts i t distinct within,
      sym (after_level now made (get_or ts i t)) ∙ sym (ap (λ (x : Timer). x.level) from),
    )

-- the id at a position never changes
pub same_id : (now : ℕ) (made : List Expiration) (ts cur : List Timer) (i : ℕ) (d : Timer) → cur ≡ all_after now made ts
    → i < length cur → (get_or cur i d).id ≡ (get_or ts i d).id
unfolding all_after
same_id now made ts cur i d is low =
    let long : length cur ≡ length ts = ap length is ∙ length-map ts (after_expirations now made) in
    ap (λ xs. (get_or xs i d).id) is ∙ ap (λ (x : Timer). x.id) (get_or-map (after_expirations now made) ts i d d (omega
    (arith, long, low)))
    ∙ after_id now made (get_or ts i d)

-- the ids of one level after one expiration more
pub ids_more : (l : Level) (ts : List Timer) (made : List Expiration) (p : Expiration) (o : Timer) (own : Level)
    → timer_of p.id ts ≡ Some o → o.level ≡ own →
    ids_at l ts (made ++ p ∷ []) ≡ ids_at l ts made ++ id_at_level l own p.id
ids_more l ts made p o own found level =
    ap (map (λ (q : Expiration). q.id)) (filter-append (is_at l ts) made (p ∷ []))
    ∙ map-append (λ (q : Expiration). q.id) (filter (is_at l ts) made) (filter (is_at l ts) (p ∷ []))
    ∙ ap (λ xs. ids_at l ts made ++ xs) (one (is_at l ts p)
    ∙ ap (λ b. cond b (p.id ∷ []) []) (ap (is_of_level l) found ∙ ap (same_level l) level))
  where
    one : (b : Bool) → map (λ (q : Expiration). q.id) (cond b (p ∷ []) []) ≡ cond b (p.id ∷ []) []
    one true = refl
    one false = refl

-- the losses of a row, and of the row that it was
lost_of_row : (rows : List Row) (k d : ℕ) (e : Row) → k < length rows
    → get_or (map (λ (c : Cyclic). c.lost) (cyclics_of rows)) k d ≡ (get_or rows k e).lost
lost_of_row rows k d e low =
    let l = length-map rows cyclic_of in
    get_or-map (λ (c : Cyclic). c.lost) (cyclics_of rows) k (cyclic_of (get_or rows k e)) d (omega (arith, l, low))
    ∙ ap (λ (c : Cyclic). c.lost) (get_or-map cyclic_of rows k e (cyclic_of (get_or rows k e)) low)

losts_long : (rows : List Row) → length (map (λ (c : Cyclic). c.lost) (cyclics_of rows)) ≡ length rows
losts_long rows = length-map (cyclics_of rows) (λ (c : Cyclic). c.lost) ∙ length-map rows cyclic_of

module _ (k w kk ww : List FiringCall) (cs : List Cyclic) (rows : List Row) (i : ℕ) (r u : Row) (id n : ℕ) where
  -- the losses after one expiration more
  pub losses_more : IsRow rows i r → r.timer.id ≡ id → u.lost ≡ r.lost + n →
      ((j : ℕ) (d : Cyclic) (e : Row) → j < length rows → (get_or cs j d).timer.id ≡ (get_or rows j e).timer.id) →
      ((j : ℕ) (e : Row) → j < length rows → j ≢ i → (get_or rows j e).timer.id ≢ id) →
      lost_by id kk + lost_by id ww ≡ n → ((q : ℕ) → q ≢ id → (lost_by q kk ≡ 0) × (lost_by q ww ≡ 0)) →
      map (λ c. c.lost) (cyclics_of rows) ≡ map (λ c. lost_after k w c.timer.id c.lost) cs →
      map (λ c. c.lost) (cyclics_of (set rows i u)) ≡ map (λ c. lost_after (k ++ kk) (w ++ ww) c.timer.id c.lost) cs
  losses_more is_r named lost same apart own other was =
      let rows' = set rows i u in
      let f = λ (c : Cyclic). lost_after k w c.timer.id c.lost in
      let f' = λ (c : Cyclic). lost_after (k ++ kk) (w ++ ww) c.timer.id c.lost in
      let long = length-set rows i u in
      let l0 = losts_long rows in
      let l1 = losts_long rows' in
      let l2 = length-map cs f in
      let l3 = length-map cs f' in
      let l4 = ap length was in
      let long_cs : length cs ≡ length rows = omega (arith, l0, l2, l4) in
      same_lists (map (λ c. c.lost) (cyclics_of rows')) (map f' cs) (omega (arith, l1, l3, long, long_cs)) (λ j d h.
      let low : j < length rows = omega (arith, h, l1, long) in
      let c0 : Cyclic = get_or cs j (cyclic_of r) in
      let left = lost_of_row rows' j d r (omega (arith, low, long)) in
      let right = get_or-map f' cs j (cyclic_of r) d (omega (arith, low, long_cs)) in
      let old : (get_or rows j r).lost ≡ f c0 = sym (lost_of_row rows j d r low) ∙ ap (λ xs. get_or xs j d) was
      ∙ get_or-map f cs j (cyclic_of r) d (omega (arith, low, long_cs)) in
      let id0 = same j (cyclic_of r) r low in
      let a = lost_on c0.timer.id k kk in
      let b = lost_on c0.timer.id w ww in
      elim (cases_eq j i) [
        | inl eq ↦
            (let at : get_or rows j r ≡ r = ap (λ m. get_or rows m r) eq ∙ is_r.1 in
            let is_id : c0.timer.id ≡ id = id0 ∙ ap (λ (x : Row). x.timer.id) at ∙ named in
            let new : (get_or rows' j r).lost ≡ u.lost =
            ap (λ (x : Row). x.lost) (ap (λ m. get_or rows' m r) eq ∙ get_or-set_same rows i u r is_r.0) in
            let own' : lost_by c0.timer.id kk + lost_by c0.timer.id ww ≡ n = ap (λ q. lost_by q kk + lost_by q ww) is_id ∙ own in
            let was_lost = ap (λ (x : Row). x.lost) at in
            omega (arith, left, right, old, new, own', was_lost, lost, a, b))
        | inr ne ↦
            (let new : (get_or rows' j r).lost ≡ (get_or rows j r).lost =
            ap (λ (x : Row). x.lost) (get_or-set_other rows i j u r ne) in
            let (x, y) = other c0.timer.id (λ q. apart j r low ne (sym id0 ∙ q)) in
            omega (arith, left, right, old, new, x, y, a, b))
      ])
