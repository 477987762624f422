-- Rings that were closed over settled CPUs.
use Rattle.std.proofs.Common.{◌≡◌, ℕ, ◌+◌, List, [], ◌∷◌, Option, Some, None, refl, ap, ◌∙◌, arith}
use Rattle.std.specs.Prelude.{map, sum_by}
use Rattle.std.proofs.lemmas.List.Sums.{sum_by-cons}
use Rattle.cyc_types.specs.Firing.{seen_of, seen_in}
use Rattle.cyc_types.specs.declared.level.Soft.{Soft}
use Rattle.cyc_types.specs.declared.level.Soft.TheVariants.{Low, Lock}
use Rattle.cyc_level.specs.Runs.{StayCounts}
use Rattle.ring_rule.specs.Trail.{open_stay, seen_pend, raises_of, losses_on_trail}
use Rattle.ring_rule.specs.Conservation.{IsPending}
use Rattle.cyc_ring.specs.declared.ends.RaiseEnd.{RaiseEnd}
use Rattle.cyc_ring.specs.declared.closed.Closed.{Closed}
use Rattle.cyc_ring.specs.Views.{stay_with}
use Rattle.cyc_ring.specs.Ends.{raise_trail, end_view}
use Rattle.cyc_ring.specs.Books.{closed_raises, closed_made}
use Rattle.cyc_cpu.specs.Cpu.{CpuView}
use Rattle.cyc_system_rings.specs.Rings.{raised_at_ends, dropped_on, IsClosedOver, AreSettledAndClosed, all_made}
use Rattle.cyc_system_rings.specs.ByLevel.{end_of, rings_of, made_at, AreServed}
use Rattle.cyc_system_rings.proofs.Raising.{sum_both}

-- nothing is pending where nothing was seen outstanding
none_pending : (pend seen : ℕ) (o : Option StayCounts) → IsPending pend seen o → seen_in (stay_with seen o) ≡ 0 → pend ≡ 0
none_pending pend seen None p z = p
none_pending pend seen (Some s) p z = omega (arith, p, z)

one_ring : (id : ℕ) (e : RaiseEnd) (c : Closed) → IsClosedOver e c → seen_of id (end_view e) ≡ 0
    → closed_made c id + losses_on_trail id (raise_trail e.seat) ≡ raises_of id (raise_trail e.seat)
one_ring id e c (same, books) z =
    let trail = closed_raises c in
    let seen : seen_in (stay_with (seen_pend id trail) (open_stay id trail)) ≡ 0 =
    ap (λ l. seen_in (stay_with (seen_pend id l) (open_stay id l))) same ∙ z in
    let none = none_pending (books id).0 (seen_pend id trail) (open_stay id trail) (books id).1 seen in
    let a = (books id).2 in let b = ap (raises_of id) same in let d = ap (losses_on_trail id) same in
    omega (arith, none, a, b, d)

-- ---- at one soft level

abbrev pub raised_on_end : Soft → ℕ → CpuView RaiseEnd → ℕ
raised_on_end soft id cpu = raises_of id (raise_trail (end_of {R = RaiseEnd} soft cpu).seat)

abbrev pub dropped_on_end : Soft → ℕ → CpuView RaiseEnd → ℕ
dropped_on_end soft id cpu = losses_on_trail id (raise_trail (end_of {R = RaiseEnd} soft cpu).seat)

abbrev made_by : ℕ → Closed → ℕ
made_by id c = closed_made c id

pub level_closed : (soft : Soft) (id : ℕ) (xs : List (CpuView RaiseEnd)) (rings : List Closed) → AreSettledAndClosed xs rings
    → made_at soft id rings + sum_by (dropped_on_end soft id) xs ≡ sum_by (raised_on_end soft id) xs
level_closed Lock id [] [] c = refl
level_closed Low id [] [] c = refl
level_closed soft id [] (ring ∷ rings) c = absurd c
level_closed soft id (x ∷ xs) [] c = absurd c
level_closed soft id (x ∷ xs) (lock ∷ []) c = absurd c
level_closed Lock id (x ∷ xs) (lock ∷ low ∷ rings) (settled, a, b, rest) =
    let seen = settled.seen id in let p = one_ring id x.lock lock a (omega (arith, seen)) in
    let r = level_closed Lock id xs rings rest in let m = sum_by-cons (made_by id) lock (rings_of Lock rings) in
    let d = sum_by-cons (dropped_on_end Lock id) x xs in let e = sum_by-cons (raised_on_end Lock id) x xs in
    omega (arith, p, r, m, d, e)
level_closed Low id (x ∷ xs) (lock ∷ low ∷ rings) (settled, a, b, rest) =
    let seen = settled.seen id in let p = one_ring id x.low low b (omega (arith, seen)) in
    let r = level_closed Low id xs rings rest in let m = sum_by-cons (made_by id) low (rings_of Low rings) in
    let d = sum_by-cons (dropped_on_end Low id) x xs in let e = sum_by-cons (raised_on_end Low id) x xs in
    omega (arith, p, r, m, d, e)

-- ---- at both

made_both : (id : ℕ) (xs : List (CpuView RaiseEnd)) (rings : List Closed) → AreSettledAndClosed xs rings
    → all_made id rings ≡ made_at Lock id rings + made_at Low id rings
made_both id [] [] c = refl
made_both id [] (ring ∷ rings) c = absurd c
made_both id (x ∷ xs) [] c = absurd c
made_both id (x ∷ xs) (lock ∷ []) c = absurd c
made_both id (x ∷ xs) (lock ∷ low ∷ rings) (settled, a, b, rest) =
    let r = made_both id xs rings rest in let m = sum_by-cons (made_by id) lock (low ∷ rings) in
    let n = sum_by-cons (made_by id) low rings in let p = sum_by-cons (made_by id) lock (rings_of Lock rings) in
    let q = sum_by-cons (made_by id) low (rings_of Low rings) in omega (arith, r, m, n, p, q)

pub all_closed : (id : ℕ) (xs : List (CpuView RaiseEnd)) (rings : List Closed) → AreSettledAndClosed xs rings
    → all_made id rings + sum_by (dropped_on id) xs ≡ sum_by (raised_at_ends id) xs
all_closed id xs rings c =
    let a = level_closed Lock id xs rings c in let b = level_closed Low id xs rings c in let m = made_both id xs rings c in
    let d = sum_both (dropped_on_end Lock id) (dropped_on_end Low id) xs in
    let e = sum_both (raised_on_end Lock id) (raised_on_end Low id) xs in omega (arith, a, b, m, d, e)

-- ---- the handlers of a level

pub level_served : {C : Type 0} (called : C → ℕ → C → Type 0) (count : C → ℕ → ℕ) (id : ℕ) (rings : List Closed)
    (before after : List C) → AreServed called count rings before after
    → sum_by (λ c. count c id) after ≡ sum_by (λ c. count c id) before + all_made id rings
level_served called count id [] [] [] s = refl
level_served called count id [] [] (d ∷ after) s = absurd s
level_served called count id [] (c ∷ before) after s = absurd s
level_served called count id (ring ∷ rings) [] after s = absurd s
level_served called count id (ring ∷ rings) (c ∷ before) [] s = absurd s
level_served called count id (ring ∷ rings) (c ∷ before) (d ∷ after) (one, rest) =
    let a = one.counted id in let r = level_served called count id rings before after rest in
    let x = sum_by-cons (λ c. count c id) c before in let y = sum_by-cons (λ c. count c id) d after in
    let m = sum_by-cons (made_by id) ring rings in omega (arith, a, r, x, y, m)

-- where the rings made no call of the id, none of the handlers had one
pub none_served : {C : Type 0} (called : C → ℕ → C → Type 0) (count : C → ℕ → ℕ) (id : ℕ) (rings : List Closed)
    (before after : List C) → AreServed called count rings before after → all_made id rings ≡ 0
    → map (λ c. count c id) after ≡ map (λ c. count c id) before
none_served called count id [] [] [] s none = refl
none_served called count id [] [] (d ∷ after) s none = absurd s
none_served called count id [] (c ∷ before) after s none = absurd s
none_served called count id (ring ∷ rings) [] after s none = absurd s
none_served called count id (ring ∷ rings) (c ∷ before) [] s none = absurd s
none_served called count id (ring ∷ rings) (c ∷ before) (d ∷ after) (one, rest) none =
    let a = one.counted id in let m = sum_by-cons (made_by id) ring rings in
    let r = none_served called count id rings before after rest (omega (arith, m, none)) in
    let e : count d id ≡ count c id = omega (arith, a, m, none) in λ i. e i ∷ r i
