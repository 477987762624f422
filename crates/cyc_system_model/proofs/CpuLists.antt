-- The cyclics of a CPU as the definition has them: one put in, one left out, one changed.
use Rattle.std.proofs.Common.{◌≡◌, ◌≢◌, ℕ, zero, suc, ◌<◌, ◌≤◌, List, [], ◌∷◌, length, map, find, get_or, true, false, not, cond}
use Rattle.std.proofs.Common.{eq-eqb, ne_eqb, Some, refl, ap, sym, ◌∙◌, subst, arith}
use Rattle.std.specs.Prelude.{insert, remove, slice_set, nat_lt}
use Rattle.std.proofs.lemmas.Bool.Decides.{nat_tests}
use Rattle.cyc_timers.specs.Rows.{Cyclic as Timed}
use Rattle.cyc_cpu.specs.Cpu.{IsCyclic, HasRisingCyclics, with_moment}
use Rattle.cyc_model.specs.Cpu.{is_of, others}
use Rattle.cyc_model.specs.Moving.{put_in, moment_at}
use Rattle.cyc_system_model.specs.ShownCpu.{shown_cyclic}

pub is_below : (m n : ℕ) → m < n → nat_lt m n ≡ true
is_below m n less = grind (arith, nat_tests)

pub is_not_below : (m n : ℕ) → n < m → nat_lt m n ≡ false
is_not_below m n less = grind (arith, nat_tests)

-- the ids of the later ones rise too
pub rising_rest : (c : Timed) (cs : List Timed) → HasRisingCyclics (c ∷ cs) → HasRisingCyclics cs
rising_rest c cs rising i j d less low = rising (suc i) (suc j) d (omega (arith, less)) (omega (arith, low))

-- the first has a smaller id than any later one
pub first_below : (c : Timed) (cs : List Timed) → HasRisingCyclics (c ∷ cs) → (k : ℕ) (d : Timed) → k < length cs
    → c.timer.id < (get_or cs k d).timer.id
first_below c cs rising k d low = rising 0 (suc k) d (omega arith) (omega (arith, low))

-- ---- one more

put_first : (x : Timed) (cs : List Timed) → HasRisingCyclics (x ∷ cs)
    → map shown_cyclic (x ∷ cs) ≡ put_in (shown_cyclic x) (map shown_cyclic cs)
put_first x [] rising = refl
put_first x (c ∷ cs) rising =
    ap (λ b. cond b (shown_cyclic x ∷ shown_cyclic c ∷ map shown_cyclic cs) (shown_cyclic c ∷ put_in (shown_cyclic x) (map
    shown_cyclic cs)))
    (sym (is_below x.timer.id c.timer.id (rising 0 1 c (omega arith) (omega arith))))

-- the position of one more, behind others
after_it : (cs : List Timed) (k : ℕ) (x d : Timed) → k ≤ length cs → get_or (insert cs k x) k d ≡ x
after_it cs zero x d low = refl
after_it [] (suc k) x d low = absurd (omega (arith, low))
after_it (c ∷ cs) (suc k) x d low = after_it cs k x d (omega (arith, low))

longer : (cs : List Timed) (k : ℕ) (x : Timed) → k ≤ length cs → k < length (insert cs k x)
longer cs zero x low = omega arith
longer [] (suc k) x low = absurd (omega (arith, low))
longer (c ∷ cs) (suc k) x low = let r = longer cs k x (omega (arith, low)) in omega (arith, r)

-- one more among cyclics by rising ids
pub put_shown : (cs : List Timed) (k : ℕ) (x : Timed) → k ≤ length cs → HasRisingCyclics (insert cs k x)
    → map shown_cyclic (insert cs k x) ≡ put_in (shown_cyclic x) (map shown_cyclic cs)
put_shown cs zero x low rising = put_first x cs rising
put_shown [] (suc k) x low rising = absurd (omega (arith, low))
put_shown (c ∷ cs) (suc k) x low rising =
    let more : k ≤ length cs = omega (arith, low) in
    let less = first_below c (insert cs k x) rising k x (longer cs k x more) in
    let at : c.timer.id < x.timer.id = subst (λ (y : Timed). c.timer.id < y.timer.id) (after_it cs k x x more) less in
    ap (λ ys. shown_cyclic c ∷ ys) (put_shown cs k x more (rising_rest c (insert cs k x) rising))
    ∙ ap (λ b. cond b (shown_cyclic x ∷ shown_cyclic c ∷ map shown_cyclic cs) (shown_cyclic c ∷ put_in (shown_cyclic x) (map
    shown_cyclic cs)))
    (sym (is_not_below x.timer.id c.timer.id at))

-- ---- the cyclic of an id

pub not_named : (id : ℕ) (c : Timed) → c.timer.id ≢ id → is_of id (shown_cyclic c) ≡ false
not_named id c ne = ne_eqb c.timer.id id ne

pub named : (id : ℕ) (c : Timed) → c.timer.id ≡ id → is_of id (shown_cyclic c) ≡ true
named id c is = eq-eqb c.timer.id id is

-- the first, where it is at the first position
first_is : (c x : Timed) (cs : List Timed) → IsCyclic (c ∷ cs) 0 x → c ≡ x
first_is c x cs is = is.1

rest_is : (c x : Timed) (cs : List Timed) (k : ℕ) → IsCyclic (c ∷ cs) (suc k) x → IsCyclic cs k x
rest_is c x cs k is = (let low = is.0 in omega (arith, low), is.1)

above_first : (c x : Timed) (cs : List Timed) (k : ℕ) → HasRisingCyclics (c ∷ cs) → IsCyclic cs k x → c.timer.id < x.timer.id
above_first c x cs k rising is =
    subst (λ (y : Timed). c.timer.id < y.timer.id) is.1 (first_below c cs rising k x is.0)

-- it is found by its id
pub find_shown : (cs : List Timed) (k : ℕ) (x : Timed) → HasRisingCyclics cs → IsCyclic cs k x
    → find (is_of x.timer.id) (map shown_cyclic cs) ≡ Some (shown_cyclic x)
find_shown [] k x rising is = absurd (let low = is.0 in omega (arith, low))
find_shown (c ∷ cs) zero x rising is =
    let same = first_is c x cs is in
    ap (λ b. cond b (Some (shown_cyclic c)) (find (is_of x.timer.id) (map shown_cyclic cs)))
    (named x.timer.id c (ap (λ (y : Timed). y.timer.id) same))
    ∙ ap (λ y. Some (shown_cyclic y)) same
find_shown (c ∷ cs) (suc k) x rising is =
    let less = above_first c x cs k rising (rest_is c x cs k is) in
    ap (λ b. cond b (Some (shown_cyclic c)) (find (is_of x.timer.id) (map shown_cyclic cs)))
    (not_named x.timer.id c (λ e. absurd (omega (arith, less, e))))
    ∙ find_shown cs k x (rising_rest c cs rising) (rest_is c x cs k is)

-- ---- one less

-- none of these has the id
all_others : (id : ℕ) (cs : List Timed) → ((k : ℕ) (d : Timed) → k < length cs → (get_or cs k d).timer.id ≢ id)
    → others id (map shown_cyclic cs) ≡ map shown_cyclic cs
all_others id [] none = refl
all_others id (c ∷ cs) none =
    ap (λ b. cond (not b) (shown_cyclic c ∷ others id (map shown_cyclic cs)) (others id (map shown_cyclic cs)))
    (not_named id c (none 0 c (omega arith)))
    ∙ ap (λ ys. shown_cyclic c ∷ ys) (all_others id cs (λ k d low. none (suc k) d (omega (arith, low))))

pub left_shown : (cs : List Timed) (k : ℕ) (x : Timed) → HasRisingCyclics cs → IsCyclic cs k x
    → map shown_cyclic (remove cs k) ≡ others x.timer.id (map shown_cyclic cs)
left_shown [] k x rising is = absurd (let low = is.0 in omega (arith, low))
left_shown (c ∷ cs) zero x rising is =
    let same = ap (λ (y : Timed). y.timer.id) (first_is c x cs is) in
    sym (ap (λ b. cond (not b) (shown_cyclic c ∷ others x.timer.id (map shown_cyclic cs)) (others x.timer.id (map shown_cyclic
    cs)))
    (named x.timer.id c same)
    ∙ all_others x.timer.id cs (λ k d low. let less = first_below c cs rising k d low in
    λ e. absurd (omega (arith, less, same, e))))
left_shown (c ∷ cs) (suc k) x rising is =
    let less = above_first c x cs k rising (rest_is c x cs k is) in
    ap (λ ys. shown_cyclic c ∷ ys) (left_shown cs k x (rising_rest c cs rising) (rest_is c x cs k is))
    ∙ sym (ap (λ b. cond (not b) (shown_cyclic c ∷ others x.timer.id (map shown_cyclic cs)) (others x.timer.id (map
    shown_cyclic cs)))
    (not_named x.timer.id c (λ e. absurd (omega (arith, less, e)))))

-- ---- one with another moment

all_kept : (id moment : ℕ) (cs : List Timed) → ((k : ℕ) (d : Timed) → k < length cs → (get_or cs k d).timer.id ≢ id)
    → map (moment_at id moment) (map shown_cyclic cs) ≡ map shown_cyclic cs
all_kept id moment [] none = refl
all_kept id moment (c ∷ cs) none =
    ap (λ b. cond b (shown_cyclic (with_moment moment c)) (shown_cyclic c) ∷ map (moment_at id moment) (map shown_cyclic cs))
    (not_named id c (none 0 c (omega arith)))
    ∙ ap (λ ys. shown_cyclic c ∷ ys) (all_kept id moment cs (λ k d low. none (suc k) d (omega (arith, low))))

pub moved_shown : (cs : List Timed) (k moment : ℕ) (x : Timed) → HasRisingCyclics cs → IsCyclic cs k x
    → map shown_cyclic (slice_set cs k (with_moment moment x)) ≡ map (moment_at x.timer.id moment) (map shown_cyclic cs)
moved_shown [] k moment x rising is = absurd (let low = is.0 in omega (arith, low))
moved_shown (c ∷ cs) zero moment x rising is =
    let same = first_is c x cs is in
    let id = ap (λ (y : Timed). y.timer.id) same in
    sym (ap (λ b. cond b (shown_cyclic (with_moment moment c)) (shown_cyclic c) ∷ map (moment_at x.timer.id moment) (map
    shown_cyclic cs))
    (named x.timer.id c id)
    ∙ ap (λ y. shown_cyclic (with_moment moment y) ∷ map (moment_at x.timer.id moment) (map shown_cyclic cs)) same
    ∙ ap (λ ys. shown_cyclic (with_moment moment x) ∷ ys)
    (all_kept x.timer.id moment cs (λ k d low. let less = first_below c cs rising k d low in
    λ e. absurd (omega (arith, less, id, e)))))
moved_shown (c ∷ cs) (suc k) moment x rising is =
    let less = above_first c x cs k rising (rest_is c x cs k is) in
    ap (λ ys. shown_cyclic c ∷ ys) (moved_shown cs k moment x (rising_rest c cs rising) (rest_is c x cs k is))
    ∙ sym (ap (λ b. cond b (shown_cyclic (with_moment moment c)) (shown_cyclic c) ∷ map (moment_at x.timer.id moment) (map
    shown_cyclic cs))
    (not_named x.timer.id c (λ e. absurd (omega (arith, less, e)))))
