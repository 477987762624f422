-- An omnipresent cyclic in an advance, and in a question.
use Rattle.std.proofs.Common.{◌≡◌, ◌∙◌, ℕ, zero, suc, ◌+◌, ◌<◌, Option, Some, None, List, []}
use Rattle.std.proofs.Common.{◌∷◌, map, length, option_map, refl, sym, ap, arith}
use Rattle.std.specs.Prelude.{sum_by}
use Rattle.std.specs.List.{slice_get}
use Rattle.std.specs.Option.{option_map_or, option_and_then}
use Rattle.std.proofs.lemmas.List.Sums.{sum_by-cons}
use Rattle.std.proofs.lemmas.Option.{slice_get_within, get_or_from_slice_get}
use Rattle.cyc_types.specs.declared.Calls.{Ghosts as Calls}
use Rattle.cyc_types.specs.declared.Raise.{Ghosts as Raise}
use Rattle.cyc_types.specs.Series.{due, next}
use Rattle.cyc_types.specs.declared.moment.When.{When}
use Rattle.cyc_timers.specs.Rows.{Cyclic}
use Rattle.cyc_cpu.specs.Cpu.{CpuView, HasRisingCyclics}
use Rattle.cyc_system_laws.proofs.Recording.{found}
use Rattle.cyc_system_laws.proofs.Spots.{none_some, get_some}
use Rattle.cyc_system_laws.specs.Laws.{cyclic_in, cyclic_on}
use Rattle.cyc_system_laws.specs.Counts.{all_expired}
use Rattle.cyc_system_workers.specs.declared.side.SystemSide.{SystemSide}
use Rattle.cyc_system_workers.specs.declared.advancing.Advanced.{Advanced}
use Rattle.cyc_system_workers.specs.Advancing.{AllFire}
use Rattle.cyc_system_workers.specs.Settling.{OnlyAsked}
use Rattle.cyc_system_laws.specs.Keeping.{stay_on}
use Rattle.cyc_system_laws.specs.Sound.{IsSound}
use Rattle.cyc_system_laws.proofs.Flow.{on_cpu}
use Rattle.cyc_system_laws.proofs.Found.{sum_found}
use Rattle.cyc_system_rings.specs.Events.{AllAccepted}
use Rattle.cyc_system_rings.proofs.Fires.{later}
use Rattle.cyc_system_rings.proofs.Singles.{of_stay, only_at, only_there, only_here}
use Rattle.cyc_system_rings.proofs.Runs.{all_fired}
use Rattle.cyc_system_rings.proofs.Components.{blind, plus_on}
use Rattle.cyc_system_rings.proofs.Firing.{fired_at, fired_removal, asked_cyclic, asked_removals}
use Rattle.cyc_system_rings.proofs.Spread.{IsSpread, moment_on, seen, series_of}

-- a measure of what is seen of a cyclic
abbrev by_seen : (ℕ → ℕ → ℕ) → Option (ℕ × ℕ) → ℕ
by_seen k o = option_map_or (λ p. k p.0 p.1) o 0

-- what all measures take for the same is the same
same_measured : (o p : Option (ℕ × ℕ)) → ((k : ℕ → ℕ → ℕ) → by_seen k o ≡ by_seen k p) → o ≡ p
same_measured None None same = refl
same_measured None (Some q) same = absurd (let e = same (λ a b. 1) in omega (arith, e))
same_measured (Some p) None same = absurd (let e = same (λ a b. 1) in omega (arith, e))
same_measured (Some p) (Some q) same =
    let (a, b, c) = only_there q.0 q.1 0 p.0 p.1 0 (same (λ x y. only_at q.0 q.1 0 x y 0) ∙ only_here q.0 q.1 0) in
    (λ i. Some (a i, b i))

seen_measured : (k : ℕ → ℕ → ℕ) (o : Option Cyclic)
    → by_seen k (option_map seen o) ≡ option_map_or (λ (c : Cyclic). k c.timer.moment c.timer.interval) o 0
seen_measured k None = refl
seen_measured k (Some c) = refl

told_measured : (k : ℕ → ℕ → ℕ) (i : ℕ) (o : Option ℕ)
    → by_seen k (option_map (λ m. (m, i)) o) ≡ option_map_or (λ m. k m i) o 0
told_measured k i None = refl
told_measured k i (Some m) = refl

next_measured : (k : ℕ → ℕ → ℕ) (now i : ℕ) (o : Option ℕ)
    → option_map_or (λ m. k (next m i now) i) o 0 ≡ option_map_or (λ m. k m i) (option_map (λ x. next x i now) o) 0
next_measured k now i None = refl
next_measured k now i (Some m) = refl

next_on : (now i n : ℕ) (ms : List (Option ℕ))
    → moment_on n (map (λ m. option_map (λ x. next x i now) m) ms) ≡ option_map (λ x. next x i now) (moment_on n ms)
next_on now i n [] = refl
next_on now i zero (m ∷ ms) = refl
next_on now i (suc n) (m ∷ ms) = next_on now i n ms

-- sums over two lists whose elements are measured alike
sums_across : {A B : Type 0} (f : A → ℕ) (g : B → ℕ) (xs : List A) (ys : List B) → length ys ≡ length xs
    → ((n : ℕ) (x : A) (y : B) → slice_get xs n ≡ Some x → slice_get ys n ≡ Some y → f x ≡ g y) → sum_by f xs ≡ sum_by g ys
sums_across f g [] [] e each = refl
sums_across f g [] (y ∷ ys) e each = absurd (omega (arith, e))
sums_across f g (x ∷ xs) [] e each = absurd (omega (arith, e))
sums_across f g (x ∷ xs) (y ∷ ys) e each =
    let a = sum_by-cons f x xs in let b = sum_by-cons g y ys in let c = each 0 x y refl refl in
    let d = sums_across f g xs ys (omega (arith, e)) (λ n p q. each (suc n) p q) in omega (arith, a, b, c, d)

pub map_long : {A B : Type 0} (f : A → B) (xs : List A) → length (map f xs) ≡ length xs
map_long f [] = refl
map_long f (x ∷ xs) = let a = map_long f xs in omega (arith, a)

cyclics_rise : (cs : List Cyclic) → HasRisingCyclics cs → (i j : ℕ) (x y : Cyclic) → i < j → slice_get cs i ≡ Some x
    → slice_get cs j ≡ Some y → x.timer.id < y.timer.id
cyclics_rise cs rising i j x y less p q =
    let l = rising i j x less (slice_get_within cs j y q) in
    let a = ap (λ (c : Cyclic). c.timer.id) (get_or_from_slice_get cs i x x p) in
    let b = ap (λ (c : Cyclic). c.timer.id) (get_or_from_slice_get cs j y x q) in omega (arith, l, a, b)

module _ {C R : Type 0} (handler : Calls C) (firing : Raise R) (id : ℕ) where
  -- a measure of the id on a CPU is that of the cyclic that is found
  cpu_found : (k : ℕ → ℕ → ℕ → ℕ) (x : CpuView R) → HasRisingCyclics x.cyclics
      → on_cpu (of_stay k) id x
      ≡ option_map_or (λ (c : Cyclic). k c.timer.moment c.timer.interval c.timer.expired) (cyclic_in id x) 0
  cpu_found k x rising = sum_found (λ (c : Cyclic). c.timer.id) (λ c. of_stay k (stay_on c)) id x.cyclics
      (cyclics_rise x.cyclics rising)

  module _ (now : ℕ) (s : SystemSide R C) (b : Advanced R C) (sound : IsSound firing.view s.system)
      (after : IsSound firing.view b.side.system)
      (ready : length s.leads.items ≡ length s.system.cpus.cpus) (f : AllFire handler firing now s b)
      (accepted : AllAccepted b) (when : When) (skew : ℕ) (ms : List (Option ℕ))
      (h : IsSpread firing id when skew ms s.system) where
    at_cpu : (n : ℕ) (y : CpuView R) → slice_get b.side.system.cpus.cpus n ≡ Some y
        → option_map seen (cyclic_in id y)
        ≡ option_map (λ m. (m, when.interval)) (option_map (λ x. next x when.interval now) (moment_on n ms))
    at_cpu n y at =
        let was = fired_at handler firing id now s b sound ready f accepted n y at in
        let seen_was = sym (ap (option_map seen) (ap (λ o. option_and_then (cyclic_in id) o) was.here)) ∙ h.here n in
        same_measured (option_map seen (cyclic_in id y))
        (option_map (λ m. (m, when.interval)) (option_map (λ x. next x when.interval now) (moment_on n ms)))
        (λ k. (
        let a = seen_measured k (cyclic_in id y) in
        let c = cpu_found (blind k) y (after.lawful n y at).rising in let d = was.measured (blind k) in
        let e = cpu_found (later id now (blind k)) was.before (sound.lawful n was.before was.here).rising in
        let g = seen_measured (λ m i. k (next m i now) i) (cyclic_in id was.before) in
        let j = ap (by_seen (λ m i. k (next m i now) i)) seen_was in
        let l = told_measured (λ m i. k (next m i now) i) when.interval (moment_on n ms) in
        let o = next_measured k now when.interval (moment_on n ms) in
        let p = told_measured k when.interval (option_map (λ x. next x when.interval now) (moment_on n ms)) in
        omega (arith, a, c, d, e, g, j, l, o, p)))

    none_told : (i : ℕ) (o : Option ℕ) → option_map {U = ℕ × ℕ} (λ m. (m, i)) o ≡ None → o ≡ None
    none_told i None e = refl
    none_told i (Some m) e = absurd (none_some (sym e))

    here_after : (n : ℕ) → option_map seen (cyclic_on n id b.side.system.cpus) ≡ option_map (λ m. (m, when.interval))
        (moment_on n (map (λ m. option_map (λ x. next x when.interval now) m) ms))
    here_after n = by (slice_get b.side.system.cpus.cpus n) refl
        ∙ ap (option_map (λ m. (m, when.interval))) (sym (next_on now when.interval n ms))
      where
        before : slice_get b.side.system.cpus.cpus n ≡ None → (o : Option (CpuView R)) → slice_get s.system.cpus.cpus n ≡ o
            → slice_get s.system.cpus.cpus n ≡ None
        before e None at = at
        before e (Some x) at = absurd (let low = slice_get_within s.system.cpus.cpus n x at in let j = f.long in
            let (y, there) = get_some b.side.system.cpus.cpus n (omega (arith, low, j)) in none_some (sym e ∙ there))

        by : (o : Option (CpuView R)) → slice_get b.side.system.cpus.cpus n ≡ o
            → option_map seen (option_and_then (cyclic_in id) (slice_get b.side.system.cpus.cpus n))
            ≡ option_map (λ m. (m, when.interval)) (option_map (λ x. next x when.interval now) (moment_on n ms))
        by None e =
            (let none = before e (slice_get s.system.cpus.cpus n) refl in
            let m = none_told when.interval (moment_on n ms) (sym (h.here n)
            ∙ ap (λ o. option_map seen (option_and_then (cyclic_in id) o)) none) in
            ap (λ o. option_map seen (option_and_then (cyclic_in id) o)) e
            ∙ sym (ap (λ o. option_map (λ m. (m, when.interval)) (option_map (λ x. next x when.interval now) o)) m))
        by (Some y) e = ap (λ o. option_map seen (option_and_then (cyclic_in id) o)) e ∙ at_cpu n y e

    pub spread_fired : IsSpread firing id when skew (map (λ m. option_map (λ x. next x when.interval now) m) ms)
        b.side.system
    spread_fired = record {
      here = here_after;
      long = map_long (λ m. option_map (λ x. next x when.interval now) m) ms ∙ (h.long ∙ sym f.long);
      series = ap (λ rs. option_map_or series_of (found id rs) None) f.records ∙ h.series;
      still = λ n e. h.still n
          (sym (fired_removal handler firing id now s b sound ready f accepted n) ∙ e);
      given = (let g = h.given in let l = f.last in omega (arith, g, l));
    }

    dues : sum_by (λ cpu. option_map_or (λ (c : Cyclic). due c.timer.moment c.timer.interval now) (cyclic_in id cpu) 0)
        s.system.cpus.cpus
        ≡ sum_by (λ m. option_map_or (λ moment. due moment when.interval now) m 0) ms
    dues = sums_across
        (λ (cpu : CpuView R). option_map_or (λ (c : Cyclic). due c.timer.moment c.timer.interval now) (cyclic_in id cpu) 0)
        (λ m. option_map_or (λ moment. due moment when.interval now) m 0) s.system.cpus.cpus ms h.long
        (λ n x m q p. (let e = sym (ap (λ o. option_map seen (option_and_then (cyclic_in id) o)) q) ∙ (h.here n
        ∙ ap (λ o. option_map (λ m. (m, when.interval)) (option_map_or (λ m. m) o None)) p) in
        sym (seen_measured (λ a b. due a b now) (cyclic_in id x)) ∙ (ap (by_seen (λ a b. due a b now)) e
        ∙ told_measured (λ a b. due a b now) when.interval m)))

    pub spread_counts : all_expired id b.side.system
        ≡ all_expired id s.system + sum_by (λ m. option_map_or (λ moment. due moment when.interval now) m 0) ms
    spread_counts =
        let x = all_fired handler firing id now (λ a b c. c) s b sound after ready f accepted in
        let y = plus_on handler firing id (λ c. c.timer.expired)
        (λ c. due c.timer.moment c.timer.interval now) s.system.cpus.cpus in
        let z = dues in
        let r = ap (λ rs. option_map_or (λ r. sum_by (λ e. e.sent) r.ended) (found id rs) 0) f.records in
        omega (arith, x, y, z, r)

  pub spread_asked : (when : When) (skew : ℕ) (ms : List (Option ℕ)) (s t : SystemSide R C) → OnlyAsked firing s t
      → IsSpread firing id when skew ms s.system → IsSpread firing id when skew ms t.system
  spread_asked when skew ms s t a h = record {
    here = λ n. ap (option_map seen) (asked_cyclic handler firing id s t a n) ∙ h.here n;
    long = h.long ∙ sym a.cpus.long;
    series = ap (λ rs. option_map_or series_of (found id rs) None) a.records ∙ h.series;
    still = λ n e. h.still n (sym (asked_removals handler firing id s t a n) ∙ e);
    given = (let g = h.given in let l = a.last in omega (arith, g, l));
  }
