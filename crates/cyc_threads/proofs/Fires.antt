-- How many expirations an advance brings of an id, over all CPUs.
use Rattle.std.proofs.Common.{◌≡◌, ◌==◌, ℕ, zero, suc, ◌+◌, ◌-◌, ◌*◌, ◌/◌, ◌≤◌, Bool, true, false, cond, List, [], ◌∷◌}
use Rattle.std.proofs.Common.{length, get_or, Option, Some, None, Result, Ok, Err, refl, ap, arith}
use Rattle.std.specs.Prelude.{sum_by, nat_lt}
use Rattle.std.specs.List.{slice_get}
use Rattle.std.specs.Option.{option_map_or}
use Rattle.std.proofs.Math.Nat.{div-zero}
use Rattle.std.proofs.lemmas.List.{length-map, length-take}
use Rattle.std.proofs.lemmas.List.Sums.{sum_by-cons, sum_by-le, count_by-le-length}
use Rattle.std.proofs.lemmas.Option.{slice_get_within}
use Rattle.cyc_types.specs.declared.Calls.{Ghosts as Calls}
use Rattle.cyc_types.specs.declared.Raise.{Ghosts as Raise}
use Rattle.cyc_types.specs.declared.level.Level.{Level}
use Rattle.cyc_types.specs.declared.level.Level.TheVariants.{Low, Lock, High}
use Rattle.cyc_types.specs.Limits.{cyclics as most_cyclics}
use Rattle.cyc_types.specs.Series.{due, late}
use Rattle.cyc_types.specs.Timers.{Timer}
use Rattle.cyc_types.specs.Expirations.{Expiration, expirations, times_of}
use Rattle.cyc_types.proofs.Dues.{due_small}
use Rattle.cyc_types.proofs.Laws.{length_expirations}
use Rattle.cyc_timers.specs.declared.fire.Fired.{Fired}
use Rattle.cyc_timers.specs.declared.fire.FireRefused.{FireRefused}
use Rattle.cyc_timers.specs.Rows.{Cyclic, timers}
use Rattle.cyc_timers.specs.Acts.{timer_of, is_of_level}
use Rattle.cyc_timers.specs.Shares.{share}
use Rattle.cyc_cpu.specs.Cpu.{CpuView, Running, running}
use Rattle.cyc_cpu.specs.Laws.{IsLawful}
use Rattle.cyc_cpu.specs.Calls.{CpuDoes, Fire, no_interrupts}
use Rattle.cyc_system_laws.specs.Accounts.{made_by}
use Rattle.cyc_cpu.specs.Carried.{expired_of}
use Rattle.cyc_system_laws.proofs.Accounting.{proceeds_one}
use Rattle.cyc_system_laws.proofs.Flow.{on_cpu}
use Rattle.cyc_system_laws.proofs.Found.{stays_found}
use Rattle.cyc_system_laws.proofs.Recording.{found}
use Rattle.cyc_system_laws.proofs.Spots.{same_some, none_some, get_some}
use Rattle.cyc_system_laws.specs.Counts.{all_expired}
use Rattle.cyc_system_laws.specs.Sound.{IsSound}
use Rattle.cyc_system_workers.specs.declared.side.SystemSide.{SystemSide}
use Rattle.cyc_system_workers.specs.declared.advancing.Advanced.{Advanced}
use Rattle.cyc_system_workers.specs.Advancing.{AllFire, moment_asked, FiresIf}

-- ---- sums

-- where each grows by no more than it may, so does the sum
pub sums_grow : {A : Type 0} (h extra : A → ℕ) (xs ys : List A) → length ys ≡ length xs
    → ((n : ℕ) (x y : A) → slice_get xs n ≡ Some x → slice_get ys n ≡ Some y → h y ≤ h x + extra x)
    → sum_by h ys ≤ sum_by h xs + sum_by extra xs
sums_grow h extra [] [] long each = omega arith
sums_grow h extra [] (y ∷ ys) long each = absurd (omega (arith, long))
sums_grow h extra (x ∷ xs) [] long each = absurd (omega (arith, long))
sums_grow h extra (x ∷ xs) (y ∷ ys) long each =
    let a = sum_by-cons h x xs in let b = sum_by-cons h y ys in let c = sum_by-cons extra x xs in
    let d = each 0 x y refl refl in
    let e = sums_grow h extra xs ys (omega (arith, long)) (λ n p q at to. each (suc n) p q at to) in
    omega (arith, a, b, c, d, e)

-- ---- one fire

-- of one cyclic: it is late by no more than a second and an interval, or expires once
few_due : (e t now : ℕ) → due e t now ≤ 1000000002
few_due e zero now = by (nat_lt now e) (nat_lt (e + 0 + late) now) (div-zero (now - e))
  where
    by : (a b : Bool) → (now - e) / 0 ≡ 0 → cond a 0 (cond b 1 ((now - e) / 0 + 1)) ≤ 1000000002
    by true b none = omega arith
    by false true none = omega arith
    by false false none = omega (arith, none)
few_due e (suc t) now = due_small e (suc t) now (omega arith)

few_expirations : (now : ℕ) (ts : List Timer) → length (expirations now ts) ≤ length ts * 1000000002
few_expirations now ts =
    let a = length_expirations now ts in
    let b = sum_by-le (λ (t : Timer). due t.moment t.interval now) 1000000002 ts
    (λ k d low. few_due (get_or ts k d).moment (get_or ts k d).interval now) in
    omega (arith, a, b)

few_made : (now : ℕ) (answer : Result Fired FireRefused) (cs : List Cyclic)
    → length (made_by (Fire now answer) cs) ≤ length (expirations now (timers cs))
few_made now (Ok fired) cs = omega arith
few_made now (Err e) cs = let a = length-take e.expired (expirations now (timers cs)) in omega (arith, a)

few_share : (level : Level) (ts : List Timer) (made : List Expiration) (id : ℕ) → share level ts made id ≤ length made
few_share level ts made id = by (is_of_level level (timer_of id ts)) (count_by-le-length (λ (p : Expiration). p.id == id) made)
  where
    by : (b : Bool) → times_of id made ≤ length made → cond b (times_of id made) 0 ≤ length made
    by true few = few
    by false few = omega arith

-- what a fire makes at most: as many cyclics as a CPU can have, at each of three levels
abbrev pub most_made : ℕ
most_made = 3 * most_cyclics * (late + 2)

-- and an advance, over 16 CPUs. In a script of 65,536 steps this must stay below 2^64
abbrev pub most_of_all : ℕ
most_of_all = 16 * most_made

-- what a CPU has of the id grows by no more than a fire makes, and what a cyclic may expire at most is the same
pub record Grows {R : Type 0} (id : ℕ) (x y : CpuView R) : Type 0 where
  pub few : expired_of id y.cyclics ≤ expired_of id x.cyclics + most_made
  pub most : y.most ≡ x.most

module _ {C R : Type 0} (handler : Calls C) (firing : Raise R) (id now : ℕ) where
  fired_grows : (s t : Running C R) (answer : Result Fired FireRefused) → IsLawful firing.view s.cpu
      → CpuDoes handler firing no_interrupts s (Fire now answer) t → Grows id s.cpu t.cpu
  fired_grows s t answer law d =
      let p = proceeds_one handler firing s t (Fire now answer) law d in
      let cs = s.cpu.cyclics in let made = made_by (Fire now answer) cs in
      let own = p.expired id in
      let a = few_share Lock (timers cs) made id in let b = few_share Low (timers cs) made id in
      let c = few_share High (timers cs) made id in
      let e = few_made now answer cs in let f = few_expirations now (timers cs) in
      let g : length (timers cs) ≡ length cs = length-map cs (λ (c : Cyclic). c.timer) in
      let few = law.few in let size : s.cpu.size ≤ most_cyclics = law.size in
      record { few = omega (arith, own, a, b, c, e, f, g, few, size); most = p.limits.most }

  if_grows : (up : Bool) (s t : Running C R) (answer : Option (Result Fired FireRefused)) → IsLawful firing.view s.cpu
      → FiresIf handler firing (moment_asked up now) s answer t → Grows id s.cpu t.cpu
  if_grows true s t (Some answer) law d = fired_grows s t answer law d
  if_grows true s t None law d = absurd d
  if_grows false s t (Some answer) law d = absurd d
  if_grows false s t None law same =
      let a = ap (λ (r : Running C R). expired_of id r.cpu.cyclics) same in
      record { few = omega (arith, a); most = ap (λ (r : Running C R). r.cpu.most) same }

  -- ---- an advance

  module _ (a : SystemSide R C) (b : Advanced R C) (sound : IsSound firing.view a.system)
      (ready : length a.leads.items ≡ length a.system.cpus.cpus) (f : AllFire handler firing now a b) where
    pub each_grows : (n : ℕ) (x y : CpuView R) → slice_get a.system.cpus.cpus n ≡ Some x
        → slice_get b.side.system.cpus.cpus n ≡ Some y → Grows id x y
    each_grows n x y p q =
        let low = slice_get_within a.system.cpus.cpus n x p in
        let long = sound.agrees.long in let leads = f.long_leads in let answers = f.long_answers in
        let (up, at) = get_some a.system.cpus.online n (omega (arith, low, long)) in
        let (l, u) = get_some a.leads.items n (omega (arith, low, ready)) in
        let (m, v) = get_some b.side.leads.items n (omega (arith, low, ready, leads)) in
        let (answer, told) = get_some b.answers.items n (omega (arith, low, answers)) in
        if_grows up (running l.calls x) (running m.calls y) answer (sound.lawful n x p)
        (f.each n up x y l m answer at p q u v told)

    -- of 16 CPUs
    pub all_grow : IsSound firing.view b.side.system
        → all_expired id b.side.system ≤ all_expired id a.system + most_of_all
    all_grow after =
        let x = stays_found firing.view id (λ t. t.sent.sent) a.system sound.lawful in
        let y = stays_found firing.view id (λ t. t.sent.sent) b.side.system after.lawful in
        let r = ap (λ rs. option_map_or (λ r. sum_by (λ e. e.sent) r.ended) (found id rs) 0) f.records in
        let g = sums_grow (on_cpu (λ t. t.sent.sent) id) (λ (v : CpuView R). most_made) a.system.cpus.cpus
        b.side.system.cpus.cpus f.long (λ n v w p q. (each_grows n v w p q).few) in
        let s = sum_by-le (λ (v : CpuView R). most_made) most_made a.system.cpus.cpus (λ k d low. omega arith) in
        let few = sound.agrees.few in omega (arith, x, y, r, g, s, few)

-- ---- one cyclic

-- it has expired no more often than its CPU has of its id
pub timer_few : (id : ℕ) (cs : List Cyclic) (t : Timer) → timer_of id (timers cs) ≡ Some t → t.expired ≤ expired_of id cs
timer_few id [] t is = absurd (none_some is)
timer_few id (c ∷ cs) t is = by (c.timer.id == id) refl is (timer_few id cs t)
  where
    by : (b : Bool) → (c.timer.id == id) ≡ b → cond b (Some c.timer) (timer_of id (timers cs)) ≡ Some t
        → (timer_of id (timers cs) ≡ Some t → t.expired ≤ expired_of id cs) → t.expired ≤ expired_of id (c ∷ cs)
    by true own is rest =
        (let a = sum_by-cons (λ (d : Cyclic). cond (d.timer.id == id) d.timer.expired 0) c cs in
        let b = ap (λ (b : Bool). cond b c.timer.expired 0) own in
        let e = ap (λ (u : Timer). u.expired) (same_some is) in omega (arith, a, b, e))
    by false own is rest =
        (let a = sum_by-cons (λ (d : Cyclic). cond (d.timer.id == id) d.timer.expired 0) c cs in
        let r = rest is in omega (arith, a, r))
