-- How many expirations steps can bring.
use Rattle.std.proofs.Common.{◌≡◌, ℕ, zero, suc, ◌+◌, ◌-◌, ◌*◌, ◌/◌, ◌<◌, ◌≤◌, Bool, true, false, cond, List, [], ◌∷◌, length}
use Rattle.std.proofs.Common.{map, sum_by, Option, Some, None, refl, ap, sym, ◌∙◌, subst, inl, inr, arith}
use Rattle.std.specs.Prelude.{slice_set, slice_index_or, nat_lt}
use Rattle.std.proofs.lemmas.List.Sums.{sum_by-cons}
use Rattle.std.proofs.lemmas.Bool.{ltb-false}
use Rattle.std.proofs.Math.Nat.{div-zero, div-le_of_le-mul}
use Rattle.cyc_types.specs.Series.{never, late, due}
use Rattle.cyc_types.specs.Expirations.{times_of}
use Rattle.cyc_model.specs.Cpu.{CyclicState, Cpu, Here, is_of}
use Rattle.cyc_model.specs.Firing.{due_here, fire_here}
use Rattle.cyc_model.specs.Moving.{put_in, must_grow, bank_for, switch_here, widen_here, place_here, enter_here, moment_at}
use Rattle.cyc_model.specs.Moving.{reprogram_here}
use Rattle.cyc_model.specs.State.{State, absent, cpu_of, on_number, each}
use Rattle.cyc_model.specs.Report.{expired_here}
use Rattle.cyc_model.proofs.Whole.{same_happen}
use Rattle.cyc_model.proofs.Totals.{all_set, expired_in}
use Rattle.cyc_model.proofs.Rising.{found, times_found, due_of_found}
use Rattle.cyc_model.proofs.Base.{expired_on}
use Rattle.cyc_model.proofs.Fires.{done_fire}
use Rattle.cyc_model.proofs.Shifts.{shift_fire}
use Rattle.cyc_model.proofs.Numbers.{Has}
use Rattle.cyc_model.proofs.Spread.{Good}
use Rattle.cyc_model.proofs.Calm.{well_fire}

-- ---- what is done on one CPU

sum_set_most : (g : Cpu → ℕ) (cs : List Cpu) (n : ℕ) (d : Cpu) (k : ℕ) → g d ≤ g (slice_index_or cs n absent) + k
    → sum_by g (slice_set cs n d) ≤ sum_by g cs + k
sum_set_most g [] n d k most = omega arith
sum_set_most g (c ∷ cs) zero d k most = let a = sum_by-cons g d cs in let b = sum_by-cons g c cs in omega (arith, a, b, most)
sum_set_most g (c ∷ cs) (suc n) d k most =
    let a = sum_by-cons g c (slice_set cs n d) in let b = sum_by-cons g c cs in
    let r = sum_set_most g cs n d k most in omega (arith, a, b, r)

pub grows_on : (id n k : ℕ) (f : Cpu → Here) (s : State) → expired_here id (f (cpu_of n s)).cpu ≤ expired_here id (cpu_of n s) + k
    → expired_in id (on_number n f s).state ≤ expired_in id s + k
grows_on id n k f s most =
    let u = ap (λ ns. sum_by (λ m. (s.ended id m).expired) ns) (all_set 0 s.cpus n (f (cpu_of n s)).cpu) in
    let r = sum_set_most (expired_here id) s.cpus n (f (cpu_of n s)).cpu k most in omega (arith, u, r)

-- ---- a new cyclic

abbrev pub expired_by : ℕ → CyclicState → ℕ
expired_by id y = cond (is_of id y) y.timer.expired 0

expired_new : (id : ℕ) (x : CyclicState) → x.timer.expired ≡ 0 → expired_by id x ≡ 0
expired_new id x none = by (is_of id x)
  where
    by : (b : Bool) → cond b x.timer.expired 0 ≡ 0
    by true = none
    by false = refl

pub expired_put : (id : ℕ) (x : CyclicState) (cs : List CyclicState) → x.timer.expired ≡ 0
    → sum_by (expired_by id) (put_in x cs) ≡ sum_by (expired_by id) cs
expired_put id x [] none = let a = sum_by-cons (expired_by id) x [] in let o = expired_new id x none in omega (arith, a, o)
expired_put id x (y ∷ ys) none = by (nat_lt x.timer.id y.timer.id) (expired_put id x ys none)
  where
    by : (b : Bool) → sum_by (expired_by id) (put_in x ys) ≡ sum_by (expired_by id) ys
        → sum_by (expired_by id) (cond b (x ∷ y ∷ ys) (y ∷ put_in x ys)) ≡ sum_by (expired_by id) (y ∷ ys)
    by true r = let a = sum_by-cons (expired_by id) x (y ∷ ys) in let o = expired_new id x none in omega (arith, a, o)
    by false r =
        let a = sum_by-cons (expired_by id) y (put_in x ys) in
        let b = sum_by-cons (expired_by id) y ys in omega (arith, a, b, r)

pub widened_same : (n : ℕ) (c : Cpu) → (widen_here n 1 c).cpu.cyclics ≡ c.cyclics
widened_same n c = by (must_grow 1 c)
  where
    by : (b : Bool) → (cond b (switch_here n (bank_for (length c.cyclics + 1)) c) (record { acts = []; cpu = c })).cpu.cyclics
        ≡ c.cyclics
    by true = refl
    by false = refl

entered_cyclics : (n index : ℕ) (x : CyclicState) (c : Cpu) → (enter_here n index x c).cpu.cyclics ≡ put_in x c.cyclics
entered_cyclics n index x c =
    let d = (widen_here n 1 c).cpu in
    (same_happen (place_here n index x d).acts (record d { cyclics = put_in x d.cyclics })).cyclics
    ∙ ap (put_in x) (widened_same n c)

pub grows_enter : (id n index : ℕ) (x : CyclicState) (s : State) → x.timer.expired ≡ 0
    → expired_in id (on_number n (enter_here n index x) s).state ≤ expired_in id s + 0
grows_enter id n index x s none =
    let a = ap (sum_by (expired_by id)) (entered_cyclics n index x (cpu_of n s)) in
    let b = expired_put id x (cpu_of n s).cyclics none in
    grows_on id n 0 (enter_here n index x) s (omega (arith, a, b))

-- ---- another moment

pub expired_moment : (id j moment : ℕ) (cs : List CyclicState)
    → sum_by (λ y. cond (is_of id y) y.timer.expired 0) (map (moment_at j moment) cs)
    ≡ sum_by (λ y. cond (is_of id y) y.timer.expired 0) cs
expired_moment id j moment [] = refl
expired_moment id j moment (y ∷ ys) =
    let a = sum_by-cons (λ (z : CyclicState). cond (is_of id z) z.timer.expired 0) (moment_at j moment y) (map
    (moment_at j moment) ys) in
    let b = sum_by-cons (λ (z : CyclicState). cond (is_of id z) z.timer.expired 0) y ys in
    let r = expired_moment id j moment ys in let o = own (is_of j y) in omega (arith, a, b, r, o)
  where
    own : (t : Bool) → cond (is_of id (cond t (record y { timer = record y.timer { moment = moment } }) y))
        (cond t (record y { timer = record y.timer { moment = moment } }) y).timer.expired 0 ≡ cond (is_of id y) y.timer.expired 0
    own true = refl
    own false = refl

pub grows_reprogram : (id n j moment : ℕ) (s : State)
    → expired_in id (on_number n (reprogram_here j moment) s).state ≤ expired_in id s + 0
grows_reprogram id n j moment s =
    let a = expired_moment id j moment (cpu_of n s).cyclics in grows_on id n 0 (reprogram_here j moment) s (omega (arith, a))

-- ---- fires

-- at most so many of a cyclic: it is late by no more than a second and an interval, or expires once
pub few_due : (e t now : ℕ) → due e t now ≤ late + 2
few_due e t now = by (nat_lt now e) (nat_lt (e + t + late) now) refl
  where
    share : (m n : ℕ) → n ≤ m + late → n / m ≤ late + 1
    share zero n h = let z = div-zero n in omega (arith, z)
    share (suc m) n h = div-le_of_le-mul (suc m) {m = n} {n = late + 1} (omega (arith, h))

    by : (a b : Bool) → nat_lt (e + t + late) now ≡ b → cond a 0 (cond b 1 ((now - e) / t + 1)) ≤ late + 2
    by true b is = omega arith
    by false true is = omega arith
    by false false is =
        let le = ltb-false (e + t + late) now is in
        let h = share t (now - e) (omega (arith, le)) in omega (arith, h)

pub few_times : (id n now : ℕ) (s : State) → Good s → times_of id (due_here now (cpu_of n s)) ≤ late + 2
few_times id n now s g =
    let t = times_found now 0 id (cpu_of n s).cyclics (g.base.whole n).rising in
    let b = few_found (found id (cpu_of n s).cyclics) in omega (arith, t, b)
  where
    few_found : (o : Option CyclicState) → due_of_found now o ≤ late + 2
    few_found None = omega arith
    few_found (Some x) = few_due x.timer.moment x.timer.interval now

grows_fire : (id n now : ℕ) (s : State) → Good s → n < length s.cpus → now < never
    → expired_in id (on_number n (fire_here n now) s).state ≤ expired_in id s + (late + 2)
grows_fire id n now s g within before =
    let w = g.base.whole n in let done = done_fire n now (cpu_of n s) w before in
    let e = expired_on n (fire_here n now) (λ j. times_of j (due_here now (cpu_of n s))) s within done None None g.base
    (shift_fire n now (cpu_of n s) w before done) id in
    let t = few_times id n now s g in omega (arith, e, t)

-- these CPUs fired
pub grows_fires : (now : ℕ) (ns : List ℕ) (s : State) → Good s → now < never → ((m : ℕ) → Has m ns → m < length s.cpus)
    → Good (each (λ n. on_number n (fire_here n now)) ns s).state
    × ((id : ℕ) → expired_in id (each (λ n. on_number n (fire_here n now)) ns s).state ≤ expired_in id s + length ns * (late + 2))
grows_fires now [] s g before within = (g, λ id. omega arith)
grows_fires now (n ∷ ns) s g before within =
    let w = well_fire n now s g (within n (inl refl)) before in
    let r = grows_fires now ns (on_number n (fire_here n now) s).state w.1 before (λ m has. subst (λ k. m < k) (sym
    w.0.tells.as_many)
    (within m (inr has))) in
    (r.0, λ id. let a = grows_fire id n now s g (within n (inl refl)) before in let b = r.1 id in omega (arith, a, b))
