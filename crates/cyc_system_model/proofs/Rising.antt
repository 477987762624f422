-- From call to call the ids of a CPU rise.
use Rattle.std.proofs.Common.{◌≡◌, ℕ, zero, suc, ◌<◌, List, [], ◌∷◌, length, map, get_or, refl, ap, sym, ◌∙◌, arith}
use Rattle.std.specs.Prelude.{remove, slice_set}
use Rattle.std.proofs.lemmas.List.{length-map, get_or-map}
use Rattle.cyc_types.specs.Expirations.{Expiration, after_expirations, all_after}
use Rattle.cyc_types.specs.Timers.{Timer}
use Rattle.cyc_timers.specs.Rows.{Cyclic, timers}
use Rattle.cyc_cpu.specs.Cpu.{HasRisingCyclics, IsCyclic, with_moment}

abbrev ids : List Cyclic → List ℕ
ids cs = map (λ c. c.timer.id) cs

-- the same ids rise as well
same_ids : (cs ds : List Cyclic) → ids ds ≡ ids cs → HasRisingCyclics cs → HasRisingCyclics ds
same_ids cs ds same rising i j d less low =
    let long : length ds ≡ length cs = sym (length-map ds (λ (c : Cyclic). c.timer.id)) ∙ ap length same
    ∙ length-map cs (λ (c : Cyclic). c.timer.id) in
    let below : j < length cs = omega (arith, low, long) in
    let r = rising i j d less below in
    let a = at i (omega (arith, less, low)) (omega (arith, less, below)) in
    let b = at j low below in
    omega (arith, r, a, b)
  where
    at : (k : ℕ) → k < length ds → k < length cs → (get_or ds k d).timer.id ≡ (get_or cs k d).timer.id
    at k low_d low_c = sym (get_or-map (λ (c : Cyclic). c.timer.id) ds k d d.timer.id low_d)
        ∙ ap (λ xs. get_or xs k d.timer.id) same
        ∙ get_or-map (λ (c : Cyclic). c.timer.id) cs k d d.timer.id low_c

timer_ids : (cs : List Cyclic) → map (λ (t : Timer). t.id) (timers cs) ≡ ids cs
timer_ids [] = refl
timer_ids (c ∷ cs) = ap (λ xs. c.timer.id ∷ xs) (timer_ids cs)

after_ids : (now : ℕ) (made : List Expiration) (ts : List Timer)
    → map (λ (t : Timer). t.id) (all_after now made ts) ≡ map (λ (t : Timer). t.id) ts
unfolding all_after after_expirations
after_ids now made [] = refl
after_ids now made (t ∷ ts) = ap (λ xs. t.id ∷ xs) (after_ids now made ts)

pub rises_fired : (now : ℕ) (made : List Expiration) (cs ds : List Cyclic) → timers ds ≡ all_after now made (timers cs)
    → HasRisingCyclics cs → HasRisingCyclics ds
rises_fired now made cs ds is rising =
    same_ids cs ds (sym (timer_ids ds) ∙ ap (map (λ (t : Timer). t.id)) is ∙ after_ids now made (timers cs) ∙ timer_ids cs) rising

moved_ids : (cs : List Cyclic) (k moment : ℕ) (c : Cyclic) → IsCyclic cs k c
    → ids (slice_set cs k (with_moment moment c)) ≡ ids cs
moved_ids [] k moment c is = refl
moved_ids (x ∷ cs) zero moment c is = ap (λ (y : Cyclic). y.timer.id ∷ ids cs) (sym is.1)
moved_ids (x ∷ cs) (suc k) moment c is =
    ap (λ xs. x.timer.id ∷ xs) (moved_ids cs k moment c (let low = is.0 in omega (arith, low), is.1))

pub rises_moved : (cs : List Cyclic) (k moment : ℕ) (c : Cyclic) → IsCyclic cs k c → HasRisingCyclics cs
    → HasRisingCyclics (slice_set cs k (with_moment moment c))
rises_moved cs k moment c is rising = same_ids cs (slice_set cs k (with_moment moment c)) (moved_ids cs k moment c is) rising

-- ---- one less

abbrev AllAbove : ℕ → List Cyclic → Type 0
AllAbove m cs = (j : ℕ) (d : Cyclic) → j < length cs → m < (get_or cs j d).timer.id

above_less : (m : ℕ) (cs : List Cyclic) (k : ℕ) → AllAbove m cs → AllAbove m (remove cs k)
above_less m [] zero above j d low = above j d low
above_less m [] (suc k) above j d low = above j d low
above_less m (c ∷ cs) zero above j d low = above (suc j) d (omega (arith, low))
above_less m (c ∷ cs) (suc k) above zero d low = above 0 d (omega arith)
above_less m (c ∷ cs) (suc k) above (suc j) d low =
    above_less m cs k (λ i e less. above (suc i) e (omega (arith, less))) j d (omega (arith, low))

first_above : (c : Cyclic) (cs : List Cyclic) → HasRisingCyclics (c ∷ cs) → AllAbove c.timer.id cs
first_above c cs rising j d low = rising 0 (suc j) d (omega arith) (omega (arith, low))

rest_rising : (c : Cyclic) (cs : List Cyclic) → HasRisingCyclics (c ∷ cs) → HasRisingCyclics cs
rest_rising c cs rising i j d less low = rising (suc i) (suc j) d (omega (arith, less)) (omega (arith, low))

put_first : (c : Cyclic) (cs : List Cyclic) → AllAbove c.timer.id cs → HasRisingCyclics cs → HasRisingCyclics (c ∷ cs)
put_first c cs above rising i zero d less low = absurd (omega (arith, less))
put_first c cs above rising zero (suc j) d less low = above j d (omega (arith, low))
put_first c cs above rising (suc i) (suc j) d less low = rising i j d (omega (arith, less)) (omega (arith, low))

pub rises_left : (cs : List Cyclic) (k : ℕ) → HasRisingCyclics cs → HasRisingCyclics (remove cs k)
rises_left [] zero rising = rising
rises_left [] (suc k) rising = rising
rises_left (c ∷ cs) zero rising = rest_rising c cs rising
rises_left (c ∷ cs) (suc k) rising = put_first c (remove cs k) (above_less c.timer.id cs k (first_above c cs rising))
    (rises_left cs k (rest_rising c cs rising))
