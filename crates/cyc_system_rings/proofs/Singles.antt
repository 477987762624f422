-- A cyclic that is on one CPU, wherever that is.
use Rattle.std.proofs.Common.{◌≡◌, ◌∙◌, ◌==◌, ℕ, ◌<◌, ◌≤◌, inl, inr, Bool, true, false, cond, Some}
use Rattle.std.proofs.Common.{None, Ok, Err, List, [], ◌∷◌, ◌++◌, find, get_or, refl, sym, ap}
use Rattle.std.proofs.Common.{arith}
use Rattle.std.specs.Prelude.{sum_by}
use Rattle.std.specs.Option.{option_map_or}
use Rattle.std.proofs.lemmas.List.Sums.{sum_by-set, get_or-le-sum_by}
use Rattle.std.proofs.lemmas.Option.{slice_get_within, slice_get-get_or, get_or_from_slice_get}
use Rattle.cyc_types.specs.declared.Raise.{Ghosts as Raise}
use Rattle.cyc_types.specs.Series.{first}
use Rattle.cyc_types.specs.declared.firing.Sent.{Sent}
use Rattle.cyc_types.specs.declared.level.Level.{Level}
use Rattle.cyc_types.specs.declared.moment.When.{When}
use Rattle.cyc_timers.specs.Rows.{Cyclic}
use Rattle.cyc_cpu.specs.declared.moving.Taken.{Taken}
use Rattle.cyc_cpu.specs.Cpu.{CpuView, IsCyclic, with_moment}
use Rattle.cyc_cpu.specs.Calls.{CpuChanges as CpuChanges, Reserve, Reprogram as CpuReprogram}
use Rattle.cyc_places.specs.declared.record.Record.{Record}
use Rattle.cyc_places.specs.declared.record.Placement.TheVariants as stands
use Rattle.cyc_places.specs.Places.{is_everywhere, new_record}
use Rattle.cyc_agreement.specs.Cpus.{IsCpu, on}
use Rattle.cyc_system_laws.proofs.Lists.{among, eq_true, true_eq}
use Rattle.cyc_system_laws.proofs.Spots.{none_some}
use Rattle.cyc_system_laws.proofs.Recording.{found, record_none}
use Rattle.cyc_system_laws.proofs.Sums.{sum_none, none_found}
use Rattle.cyc_system_laws.specs.System.{SystemView, has, ids_of, is_omnipresent}
use Rattle.cyc_system_workers.specs.Adding.{entering}
use Rattle.cyc_system_laws.specs.Laws.{cyclic_in}
use Rattle.cyc_system_laws.specs.Counts.{all_expired}
use Rattle.cyc_system_laws.specs.SystemCalls.{SystemCall, Changes, Add, Reprogram}
use Rattle.cyc_system_laws.proofs.Pieces.{made_of}
use Rattle.cyc_system_laws.specs.Sound.{IsSound}
use Rattle.cyc_system_laws.specs.Keeping.{stay_on, over_stays, EndsRemoval, TouchesStays, TouchesRecord}
use Rattle.cyc_system_laws.proofs.Flow.{on_cpu, on_cpus, flows, sum_set}
use Rattle.cyc_system_laws.proofs.Found.{stays_found}
use Rattle.cyc_system_laws.proofs.Counts.{counts_same}
use Rattle.cyc_system_laws.proofs.Kept.{stays_kept}
use Rattle.cyc_system_laws.proofs.Looked.{look_kept}
use Rattle.cyc_system_laws.proofs.Given.{no_counts_yet}

-- an answer is no refusal
pub ok_err : {A E : Type 0} {x : A} {y : E} → Ok x ≡ Err y → ⊥
ok_err {A = A} {E = E} {x = x} {y = y} e = cc

-- a measure of a stay by its next expiration, its interval and its count
abbrev pub of_stay : (ℕ → ℕ → ℕ → ℕ) → Taken → ℕ
of_stay k a = k a.moment a.interval a.sent.sent

-- it is 0 at these numbers alone
abbrev pub only_at : ℕ → ℕ → ℕ → ℕ → ℕ → ℕ → ℕ
only_at a b c x y z = cond (x == a) (cond (y == b) (cond (z == c) 0 1) 1) 1

pub only_there : (a b c x y z : ℕ) → only_at a b c x y z ≡ 0 → (x ≡ a) × (y ≡ b) × (z ≡ c)
only_there a b c x y z e = by (x == a) (y == b) (z == c) refl refl refl e
  where
    by : (p q r : Bool) → (x == a) ≡ p → (y == b) ≡ q → (z == c) ≡ r → cond {A = ℕ} p (cond q (cond r 0 1) 1) 1 ≡ 0
        → (x ≡ a) × (y ≡ b) × (z ≡ c)
    by true true true p q r e = (eq_true x a p, eq_true y b q, eq_true z c r)
    by true true false p q r e = absurd (omega (arith, e))
    by true false r' p q r e = absurd (omega (arith, e))
    by false q' r' p q r e = absurd (omega (arith, e))

pub only_here : (a b c : ℕ) → only_at a b c a b c ≡ 0
only_here a b c = ap (λ (p : Bool). cond {A = ℕ} p (cond (b == b) (cond (c == c) 0 1) 1) 1) (true_eq a a refl)
    ∙ (ap (λ (p : Bool). cond {A = ℕ} p (cond (c == c) 0 1) 1) (true_eq b b refl)
    ∙ ap (λ (p : Bool). cond {A = ℕ} p 0 1) (true_eq c c refl))

-- the last of a list, where the others don't pass
pub find_end : {A : Type 0} (p : A → Bool) (xs : List A) (x : A) → find p xs ≡ None
    → find p (xs ++ x ∷ []) ≡ cond (p x) (Some x) None
find_end p [] x e = refl
find_end p (z ∷ xs) x e = by (p z) e (find_end p xs x)
  where
    by : (b : Bool) → cond b (Some z) (find p xs) ≡ None → (find p xs ≡ None → find p (xs ++ x ∷ []) ≡ cond (p x) (Some x) None)
        → cond b (Some z) (find p (xs ++ x ∷ [])) ≡ cond (p x) (Some x) None
    by true e rest = absurd (none_some (sym e))
    by false e rest = rest e

module _ {R : Type 0} (firing : Raise R) (id : ℕ) where
  -- the id is on one CPU, with this next expiration, this interval and so many expirations
  pub record IsSingle (moment interval expired : ℕ) (s : SystemView R) : Type 0 where
    pub stays : (k : ℕ → ℕ → ℕ → ℕ) → over_stays (of_stay k) id s ≡ k moment interval expired
    pub all : all_expired id s ≡ expired
    pub given : id ≤ s.last
    pub single : is_omnipresent id s ≡ false

  omni_kept : (s t : SystemView R) (call : SystemCall) → IsSound firing.view s → Changes firing s call t
      → (TouchesRecord id call → ⊥) → is_omnipresent id t ≡ is_omnipresent id s
  omni_kept s t call a d other = look_kept firing (λ (r : Record). is_everywhere r.placement) false (λ r n bound e. sym e)
      (λ r n c. refl) id s t call a.fit.rising d other

  -- a call that doesn't touch it
  pub single_kept : (m i e : ℕ) (s t : SystemView R) (call : SystemCall) → IsSound firing.view s → IsSound firing.view t
      → Changes firing s call t → (TouchesStays id call s → ⊥) → (TouchesRecord id call → ⊥) → (EndsRemoval id call → ⊥)
      → IsSingle m i e s → IsSingle m i e t
  single_kept m i e s t call a b d touch record' ends h = record {
    stays = λ k. stays_kept firing (of_stay k) id s t call a b d touch ∙ h.stays k;
    all = counts_same firing (λ (c : Sent). c.sent) refl (λ x y. refl) id s t call a b d ends ∙ h.all;
    given = (let l = (made_of firing s t call d).last in let g = h.given in omega (arith, l, g));
    single = omni_kept s t call a d record' ∙ h.single;
  }

  -- ---- it is added

  nowhere : (s : SystemView R) → IsSound firing.view s → s.last < id → (n : ℕ) (b : Bool) → has n id s.cpus ≡ b → b ≡ false
  nowhere s sound new n false e = refl
  nowhere s sound new n true e = (let (k, r, is, named, stands, on) = sound.agrees.known n id e in
      let low = sound.agrees.given k r is in absurd (omega (arith, low, named, new)))

  pub no_stays : (s : SystemView R) → IsSound firing.view s → s.last < id → (f : Taken → ℕ) → over_stays f id s ≡ 0
  no_stays s sound new f = sum_none (λ cpu. option_map_or (λ c. f (stay_on c)) (cyclic_in id cpu) 0) s.cpus.cpus
      (λ n cpu at. ap (λ o. option_map_or (λ c. f (stay_on c)) o 0) (none_found cpu.cyclics id
      (sym (ap (λ o. among id (option_map_or ids_of o [])) at) ∙ nowhere s sound new n (has n id s.cpus) refl)))

  pub single_added : (level : Level) (when : When) (now : ℕ) (s t : SystemView R) → IsSound firing.view s → IsSound firing.view t
      → Changes firing s (Add level when now (Ok id)) t
      → IsSingle (first when.start when.interval now) when.interval 0 t
  single_added level when now s t a b (inl (e, why, is, same)) = absurd (ok_err is)
  single_added level when now s t a b (inr (clear, (d, chosen, own, works, records, last))) =
      let new : s.last < id = omega (arith, own) in record {
        stays = λ k. (
            let x = flows (of_stay k) id firing (on d (Reserve 1 (Ok tt)) ∷ entering d id level when.interval
            (first when.start when.interval now)) s.cpus t.cpus (tt, (tt, (tt, tt))) works in
            let y = stays_found firing.view id (of_stay k) s a.lawful in let z =
            stays_found firing.view id (of_stay k) t b.lawful in
            let n = no_stays s a new (of_stay k) in
            let c = ap (λ (b : Bool). cond b (k (first when.start when.interval now) when.interval 0) 0) (true_eq id id refl) in
            omega (arith, x, y, z, n, c));
        all = counts_same firing (λ (c : Sent). c.sent) refl (λ x y. refl) id s t (Add level when now (Ok id)) a b
            (inr (clear, (d, chosen, own, works, records, last))) (λ x. x) ∙ no_counts_yet firing.view id s a new;
        given = omega (arith, last);
        single =
            let h = λ (r : Record). is_everywhere r.placement in let x = new_record id level (stands.On d false) in
            let none = record_none id s.records (λ k q low same. (let g = a.agrees.given k (get_or s.records k q)
            (slice_get-get_or s.records k q low) in omega (arith, g, same, new))) in
            ap (λ rs. option_map_or h (found id rs) false) records
            ∙ (ap (λ o. option_map_or h o false) (find_end (λ (r : Record). r.id == id) s.records x none)
            ∙ ap (λ (b : Bool). option_map_or h (cond b (Some x) None) false) (true_eq id id refl));
      }

  -- ---- it is given another next expiration

  -- a cyclic of the id on a CPU is the one
  the_one : (m i e : ℕ) (s : SystemView R) (n k : ℕ) (cpu : CpuView R) (c : Cyclic) → IsSound firing.view s → IsSingle m i e s
      → IsCpu n cpu s.cpus → IsCyclic cpu.cyclics k c → c.timer.id ≡ id
      → (c.timer.moment ≡ m) × (c.timer.interval ≡ i) × (c.timer.expired ≡ e)
  the_one m i e s n k cpu c a h at here named =
      let f = of_stay (only_at m i e) in
      let all : on_cpus f id s.cpus ≡ 0 = stays_found firing.view id f s a.lawful ∙ (h.stays (only_at m i e) ∙ only_here m i e) in
      let x = get_or-le-sum_by (on_cpu f id) s.cpus.cpus n cpu (slice_get_within s.cpus.cpus n cpu at) in
      let x2 = ap (on_cpu f id) (get_or_from_slice_get s.cpus.cpus n cpu cpu at) in
      let own = λ (d : Cyclic). cond (d.timer.id == id) (f (stay_on d)) 0 in
      let y = get_or-le-sum_by own cpu.cyclics k c here.0 in let y2 = ap own here.1 in
      let z = ap (λ (b : Bool). cond b (f (stay_on c)) 0) (true_eq c.timer.id id named) in
      only_there m i e c.timer.moment c.timer.interval c.timer.expired (omega (arith, all, x, x2, y, y2, z))

  pub single_set : (moment m i e : ℕ) (s t : SystemView R) → IsSound firing.view s → IsSound firing.view t
      → Changes firing s (Reprogram id moment (Ok tt)) t → IsSingle m i e s → IsSingle moment i e t
  single_set moment m i e s t a b (inl (why, whys, is, same)) h = absurd (ok_err is)
  single_set moment m i e s t a b (inr (clear, (n, home, (is, ((u, d, last), records, given))))) h = record {
    stays = λ k. by k d.change;
    all = counts_same firing (λ (c : Sent). c.sent) refl (λ x y. refl) id s t (Reprogram id moment (Ok tt)) a b
        (inr (clear, (n, home, (is, ((u, d, last), records, given))))) (λ x. x) ∙ h.all;
    given = (let g = h.given in omega (arith, g, given));
    single = ap (λ rs. option_map_or (λ (r : Record). is_everywhere r.placement) (found id rs) false) records ∙ h.single;
  }
    where
      by : (k : ℕ → ℕ → ℕ → ℕ) → CpuChanges firing d.before (CpuReprogram id moment (Ok tt)) d.after
          → over_stays (of_stay k) id t ≡ k moment i e
      by k (p, c, here, named, still, w) =
          let f = of_stay k in
          let (cm, ci, ce) = the_one m i e s n p d.before c a h d.here here named in
          let own = λ (d : Cyclic). cond (d.timer.id == id) (f (stay_on d)) 0 in
          let x = sum_by-set own d.before.cyclics p (with_moment moment c) c here.0 in let x2 = ap own here.1 in
          let y = ap (λ (v : CpuView R). sum_by own v.cyclics) w in
          let z = sum_set (on_cpu f id) s.cpus.cpus n d.before d.after d.here in
          let z2 = ap (on_cpus f id) d.rest in let z3 = ap (on_cpus f id) last in
          let p0 = ap (λ (b : Bool). cond b (f (stay_on c)) 0) (true_eq c.timer.id id named) in
          let p1 = ap (λ (b : Bool). cond b (f (stay_on (with_moment moment c))) 0) (true_eq c.timer.id id named) in
          let q0 : f (stay_on c) ≡ k m i e = (λ j. k (cm j) (ci j) (ce j)) in
          let q1 : f (stay_on (with_moment moment c)) ≡ k moment i e = (λ j. k moment (ci j) (ce j)) in
          let g0 = stays_found firing.view id f s a.lawful in let g1 = stays_found firing.view id f t b.lawful in let g =
          h.stays k in
          omega (arith, x, x2, y, z, z2, z3, p0, p1, q0, q1, g0, g1, g)
