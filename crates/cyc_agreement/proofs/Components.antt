-- Which cyclics a CPU has after some came to it.
use Rattle.std.proofs.Common.{◌≡◌, ◌≢◌, ℕ, zero, suc, ◌+◌, ◌-◌, ◌<◌, ◌≤◌, ◌⊎◌, inl, inr, Bool, true, false, cond, Some, None}
use Rattle.std.proofs.Common.{List, [], ◌∷◌, length, get_or, find, refl, sym, ap, ◌∙◌, subst, arith}
use Rattle.std.specs.Prelude.{◌||◌, ◌==◌, insert}
use Rattle.std.specs.List.{slice_get}
use Rattle.std.specs.Option.{option_map_or}
use Rattle.std.proofs.lemmas.List.Edits.{length-insert, get_or-insert_below, get_or-insert_at, get_or-insert_above}
use mathlib.Core.Logic.{dite}
use native.Mathlib.Decide.{ℕ_discrete}
use Rattle.cyc_types.specs.declared.Raise.{Ghosts as Raise}
use Rattle.cyc_cpu.specs.Rows.{Cyclic}
use Rattle.cyc_cpu.specs.Cpu.{CpuView, HasRisingCyclics, Places}
use Rattle.cyc_agreement.specs.Cpus.{CpusView, ChangesAt}
use Rattle.cyc_agreement.proofs.CpuSpots.{get_set_other, cpu_there}
use Rattle.cyc_agreement.proofs.Lists.{among, true_eq, false_ne, false_true}
use Rattle.cyc_agreement.specs.OmniLaws.{IsOneOf, HasOne}

-- ---- one list

module _ (cs : List Cyclic) (q : ℕ) (c : Cyclic) (low : q ≤ length cs) where
  here_new : IsOneOf c (insert cs q c)
  here_new = (q, ((let n = length-insert cs q c low in omega (arith, n, low)), get_or-insert_at cs q c c low))

  here_old : (d : Cyclic) → IsOneOf d cs → IsOneOf d (insert cs q c)
  here_old d (k, is) = let n = length-insert cs q c low in let long = is.0 in dite (ℕ_discrete (q - k) 0)
      (λ z. (k + 1, ((omega (arith, long, n)), get_or-insert_above cs q c d k (omega (arith, z)) low ∙ is.1)))
      (λ p. (k, ((omega (arith, long, n)), get_or-insert_below cs q c d k (omega (arith, p)) low ∙ is.1)))

  here_either : (d : Cyclic) → IsOneOf d (insert cs q c) → (d ≡ c) ⊎ IsOneOf d cs
  here_either d (k, is) = let n = length-insert cs q c low in let long = is.0 in dite (ℕ_discrete (q - k) 0)
      (λ z. dite (ℕ_discrete k q)
      (λ e. inl (sym is.1 ∙ ap (λ m. get_or (insert cs q c) m d) e ∙ get_or-insert_at cs q c d low))
      (λ ne. let s : k ≡ (k - 1) + 1 = omega (arith, z, ne) in
      inr (
        k - 1,
        (
          (omega (arith, long, n, s)),
          sym (ap (λ m. get_or (insert cs q c) m d) s ∙ get_or-insert_above cs q c d (k - 1) (omega (arith, z, ne)) low)
              ∙ is.1,
        ),
      )))
      (λ p. inr (k, ((omega (arith, p, low)), sym (get_or-insert_below cs q c d k (omega (arith, p)) low) ∙ is.1)))

same_default : (cs : List Cyclic) (k : ℕ) (d e : Cyclic) → k < length cs → get_or cs k d ≡ get_or cs k e
same_default [] k d e low = absurd (omega (arith, low))
same_default (c ∷ cs) zero d e low = refl
same_default (c ∷ cs) (suc k) d e low = same_default cs k d e (omega (arith, low))

-- where the ids rise, a cyclic is the only one of its id
pub one_of : (c : Cyclic) (cs : List Cyclic) → HasRisingCyclics cs → IsOneOf c cs → HasOne c cs
one_of c cs rising (k, is) = (
  k,
  is,
  λ j d at same. (
      let there : (get_or cs j c).timer.id ≡ d.timer.id = ap (λ (x : Cyclic). x.timer.id) (same_default cs j c d at.0 ∙ at.1) in
      let here : (get_or cs k c).timer.id ≡ c.timer.id = ap (λ (x : Cyclic). x.timer.id) is.1 in
      dite (ℕ_discrete j k) (λ e. e) (λ ne. dite (ℕ_discrete (k - j) 0)
      (λ z. let l = rising k j c (omega (arith, z, ne)) at.0 in absurd (omega (arith, l, there, here, same)))
      (λ p. let l = rising j k c (omega (arith, p)) is.0 in absurd (omega (arith, l, there, here, same))))),
)

-- ---- cyclics that came

-- to those cyclics came some with these ids
pub record Came (ids : List ℕ) (cs ds : List Cyclic) : Type 0 where
  pub old : (d : Cyclic) → IsOneOf d cs → IsOneOf d ds
  pub only : (d : Cyclic) → IsOneOf d ds → IsOneOf d cs ⊎ (among d.timer.id ids ≡ true)
  pub rising : HasRisingCyclics cs → HasRisingCyclics ds

pub came_none : (cs ds : List Cyclic) → ds ≡ cs → Came [] cs ds
came_none cs ds e = subst (λ l. Came [] cs l) (sym e) (record { old = λ d h. h; only = λ d h. inl h; rising = λ h. h })

or_right : (a b : Bool) → b ≡ true → (a || b) ≡ true
or_right true b e = refl
or_right false b e = e

or_left : (a b : Bool) → (a || false) ≡ true → (a || b) ≡ true
or_left true b e = refl
or_left false b e = absurd (false_true e)

pub came_then : (i : ℕ) (is : List ℕ) (cs ds es : List Cyclic) → Came (i ∷ []) cs ds → Came is ds es → Came (i ∷ is) cs es
came_then i is cs ds es a b = record {
  old = λ d h. b.old d (a.old d h);
  only = λ d h. by d (b.only d h);
  rising = λ h. b.rising (a.rising h);
}
  where
    by_first : (d : Cyclic) → IsOneOf d cs ⊎ (among d.timer.id (i ∷ []) ≡ true)
        → IsOneOf d cs ⊎ (among d.timer.id (i ∷ is) ≡ true)
    by_first d (inl h) = inl h
    by_first d (inr e) = inr (or_left (i == d.timer.id) (among d.timer.id is) e)

    by : (d : Cyclic) → IsOneOf d ds ⊎ (among d.timer.id is ≡ true) → IsOneOf d cs ⊎ (among d.timer.id (i ∷ is) ≡ true)
    by d (inl h) = by_first d (a.only d h)
    by d (inr e) = inr (or_right (i == d.timer.id) (among d.timer.id is) e)

-- nothing came, and then some
pub came_more : (i : ℕ) (is : List ℕ) (cs ds : List Cyclic) → Came is cs ds → Came (i ∷ is) cs ds
came_more i is cs ds a = record {
  old = a.old;
  only = λ d h. by d (a.only d h);
  rising = a.rising;
}
  where
    by : (d : Cyclic) → IsOneOf d cs ⊎ (among d.timer.id is ≡ true) → IsOneOf d cs ⊎ (among d.timer.id (i ∷ is) ≡ true)
    by d (inl h) = inl h
    by d (inr e) = inr (or_right (i == d.timer.id) (among d.timer.id is) e)

module _ {R : Type 0} (firing : Raise R) (c : Cyclic) (x y : CpuView R)
    (p : Places firing c x y) where
  pub came_placed : Came (c.timer.id ∷ []) x.cyclics y.cyclics
  came_placed = record {
    old = λ d h. subst (λ l. IsOneOf d l) (sym p.cyclics) (here_old x.cyclics p.position c p.within d h);
    only = λ d h. by d (here_either x.cyclics p.position c p.within d (subst (λ l. IsOneOf d l) p.cyclics h));
    rising = λ h. p.rising;
  }
    where
      by : (d : Cyclic) → (d ≡ c) ⊎ IsOneOf d x.cyclics → IsOneOf d x.cyclics ⊎ (among d.timer.id (c.timer.id ∷ []) ≡ true)
      by d (inl e) = inr (ap (λ b. b || false) (true_eq c.timer.id d.timer.id (sym (ap (λ (z : Cyclic). z.timer.id) e))))
      by d (inr h) = inl h

  pub here_placed : IsOneOf c y.cyclics
  here_placed = subst (λ l. IsOneOf c l) (sym p.cyclics) (here_new x.cyclics p.position c p.within)

-- ---- the cyclics on a CPU

abbrev pub cyclics_on : {R : Type 0} → ℕ → CpusView R → List Cyclic
cyclics_on n v = option_map_or (λ cpu. cpu.cyclics) (slice_get v.cpus n) []

module _ {R : Type 0} (n : ℕ) (D : CpuView R → CpuView R → Type 0) (v w : CpusView R) (c : ChangesAt n D v w) where
  pub were_there : cyclics_on n v ≡ c.before.cyclics
  were_there = ap (λ o. option_map_or (λ cpu. cpu.cyclics) o []) c.here

  pub are_there : cyclics_on n w ≡ c.after.cyclics
  are_there = ap (λ u. cyclics_on n u) c.rest
      ∙ ap (λ o. option_map_or (λ cpu. cpu.cyclics) o []) (cpu_there n c.before c.after v c.here)

  pub are_beside : (m : ℕ) → m ≢ n → cyclics_on m w ≡ cyclics_on m v
  are_beside m ne = ap (λ u. cyclics_on m u) c.rest
      ∙ ap (λ o. option_map_or (λ cpu. cpu.cyclics) o []) (get_set_other v.cpus n m c.after ne)

  pub are_same : c.after.cyclics ≡ c.before.cyclics → (m : ℕ) → cyclics_on m w ≡ cyclics_on m v
  are_same e m = dite (ℕ_discrete m n)
      (λ same. ap (λ k. cyclics_on k w) same ∙ are_there ∙ e ∙ sym were_there ∙ ap (λ k. cyclics_on k v) (sym same))
      (λ ne. are_beside m ne)

-- ---- finding a cyclic by its id

pub find_one : (id : ℕ) (c : Cyclic) (cs : List Cyclic) → c.timer.id ≡ id → HasRisingCyclics cs → IsOneOf c cs
    → find (λ (e : Cyclic). e.timer.id == id) cs ≡ Some c
find_one id c [] named rising (k, is) = absurd (let low = is.0 in omega (arith, low))
find_one id c (d ∷ cs) named rising (zero, is) = ap (λ x. cond x (Some d) (find (λ (e : Cyclic). e.timer.id == id) cs))
    (true_eq d.timer.id id (ap (λ (x : Cyclic). x.timer.id) is.1 ∙ named)) ∙ ap Some is.1
find_one id c (d ∷ cs) named rising (suc k, is) =
    let low = is.0 in
    let less = rising 0 (suc k) c (omega arith) low in
    let at = ap (λ (x : Cyclic). x.timer.id) is.1 in
    ap (λ x. cond x (Some d) (find (λ (e : Cyclic). e.timer.id == id) cs))
    (false_ne d.timer.id id (λ e. omega (arith, less, at, named, e)))
    ∙ find_one id c cs named (λ i j e less low. rising (suc i) (suc j) e (omega (arith, less)) (omega (arith, low)))
    (k, (omega (arith, low), is.1))

pub find_none : (id : ℕ) (cs : List Cyclic) → ((d : Cyclic) → IsOneOf d cs → d.timer.id ≡ id → ⊥)
    → find (λ (e : Cyclic). e.timer.id == id) cs ≡ None
find_none id [] none = refl
find_none id (d ∷ cs) none = ap (λ x. cond x (Some d) (find (λ (e : Cyclic). e.timer.id == id) cs))
    (false_ne d.timer.id id (λ e. none d (0, (omega arith, refl)) e))
    ∙ find_none id cs (λ e (k, is) same. none e (suc k, ((let low = is.0 in omega (arith, low)), is.1)) same)
