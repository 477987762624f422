-- An omnipresent cyclic, while its CPUs stay online.
use Rattle.std.proofs.Common.{◌≡◌, ◌≢◌, ◌∙◌, ◌==◌, ℕ, suc, ◌+◌, ◌<◌, ◌≤◌, inl, inr, All, Bool, true, false, cond, Option, Some}
use Rattle.std.proofs.Common.{None, Ok, Err, List, [], ◌∷◌, map, length, get_or, refl, sym, ap, subst, arith}
use Rattle.std.specs.Prelude.{sum_by}
use Rattle.std.specs.List.{FoldsTo}
use Rattle.std.specs.Option.{option_map, option_map_or}
use Rattle.std.proofs.lemmas.List.Sums.{sum_by-cons}
use Rattle.std.proofs.lemmas.Option.{slice_get-get_or}
use Rattle.cyc_types.specs.declared.Calls.{Ghosts as Calls}
use Rattle.cyc_types.specs.declared.Raise.{Ghosts as Raise}
use Rattle.cyc_types.specs.Series.{due, next}
use Rattle.cyc_types.specs.declared.firing.Sent.{Sent}
use Rattle.cyc_types.specs.declared.level.Level.{Level}
use Rattle.cyc_types.specs.declared.moment.When.{When}
use Rattle.cyc_types.specs.declared.refusal.Refusal.{Refusal}
use Rattle.cyc_types.specs.declared.refusal.Refusal.TheVariants.{Omnipresent}
use Rattle.cyc_types.specs.Reasons.{first_refusal, when as if_so}
use Rattle.cyc_model.specs.State.{Everywhere}
use Rattle.cyc_timers.specs.Rows.{Cyclic}
use Rattle.cyc_cpu.specs.Cpu.{CpuView}
use Rattle.cyc_cpu.specs.Calls.{Reserve}
use Rattle.cyc_places.specs.declared.record.Record.{Record}
use Rattle.cyc_places.specs.declared.record.Placement.TheVariants as stands
use Rattle.cyc_places.specs.Places.{is_everywhere, new_record}
use Rattle.cyc_agreement.specs.Cpus.{on, online_cpus, numbers_from}
use Rattle.cyc_system_laws.proofs.Lists.{true_eq}
use Rattle.cyc_system_laws.proofs.Spots.{none_some}
use Rattle.cyc_system_laws.proofs.Recording.{found, record_none}
use Rattle.cyc_system_laws.specs.System.{SystemView, is_omnipresent}
use Rattle.cyc_system_laws.specs.SystemRemoval.TheVariants.{Done, Kept}
use Rattle.cyc_system_laws.specs.Laws.{cyclic_in}
use Rattle.cyc_system_laws.specs.Counts.{all_expired}
use Rattle.cyc_system_workers.specs.Refusals.{no_cyclic, omnipresent}
use Rattle.cyc_agreement.specs.Omni.{entering_each, component_first as cpu_first}
use Rattle.cyc_agreement.specs.Online.{staying}
use Rattle.cyc_system_laws.specs.SystemCalls.{SystemCall, Changes, Add, AddOmni, Bind, BeginRemove, PollRemove, AskTotals}
use Rattle.cyc_system_laws.specs.SystemCalls.{Suspend, Resume, Reprogram, ReprogramOn, Juggle, Offline, Online, FireOne}
use Rattle.cyc_system_laws.specs.SystemCalls.{SoftInterrupt}
use Rattle.cyc_system_workers.specs.declared.side.SystemSide.{SystemSide}
use Rattle.cyc_system_workers.specs.declared.advancing.Advanced.{Advanced}
use Rattle.cyc_system_workers.specs.Advancing.{AllFire}
use Rattle.cyc_system_workers.specs.Settling.{OnlyAsked}
use Rattle.cyc_system_laws.proofs.Pieces.{made_of}
use Rattle.cyc_expected.specs.Course.{
  component_begins_at,
  components_from,
  due_everywhere,
  course_after,
  Event,
  Begins,
  BeginsOnAll,
  IsSet,
}
use Rattle.cyc_expected.specs.Course.{IsSetOn, Ends, Fires, Course, OnEach, Told, told_after, told_by}
use Rattle.cyc_system_laws.specs.Sound.{IsSound}
use Rattle.cyc_system_laws.specs.Keeping.{over_stays, EndsRemoval, TouchesStays, TouchesRecord}
use Rattle.cyc_system_laws.proofs.Flow.{AllFixed, all_brought, all_taken, flows}
use Rattle.cyc_system_laws.proofs.Idle.{idle_same, reserved_same}
use Rattle.cyc_system_laws.proofs.Found.{stays_found}
use Rattle.cyc_system_laws.proofs.Counts.{counts_same}
use Rattle.cyc_system_laws.proofs.Kept.{stays_kept}
use Rattle.cyc_system_laws.proofs.Looked.{look_kept}
use Rattle.cyc_system_laws.proofs.Given.{no_counts_yet}
use Rattle.cyc_system_rings.specs.Leading.{LeadCall, Make, FireAll, AskAll}
use Rattle.cyc_system_rings.specs.Events.{given_everywhere, if_own, event_in, events_in, AllAccepted, AcceptedSteps}
use Rattle.cyc_system_rings.specs.Events.{KeepsComponents}
use Rattle.cyc_system_rings.proofs.Singles.{ok_err, of_stay, no_stays, find_end}
use Rattle.cyc_system_rings.proofs.Runs.{neither, all_fired, all_asked, others_pass, add_next, omni_next, refused_begin}
use Rattle.cyc_system_rings.proofs.Runs.{refused_poll, refused_set, refused_set_on, sound_after, step_ready}

-- a measure of components by their next expiration
abbrev pub of_moments : (ℕ → ℕ → ℕ) → ℕ → List (Option ℕ) → ℕ
of_moments k interval moments = sum_by (λ m. option_map_or (λ x. k x interval) m 0) moments

-- the measure that doesn't look at counts
abbrev pub blind : (ℕ → ℕ → ℕ) → ℕ → ℕ → ℕ → ℕ
blind k m i e = k m i

sum_next : (k : ℕ → ℕ → ℕ) (now i : ℕ) (ms : List (Option ℕ))
    → of_moments k i (map (λ m. option_map (λ x. next x i now) m) ms) ≡ of_moments (λ x y. k (next x y now) y) i ms
sum_next k now i [] = refl
sum_next k now i (None ∷ ms) =
    let a = sum_by-cons (λ m. option_map_or (λ x. k x i) m 0) None (map (λ m. option_map (λ x. next x i now) m) ms) in
    let b = sum_by-cons (λ m. option_map_or (λ x. k (next x i now) i) m 0) None ms in
    let c = sum_next k now i ms in omega (arith, a, b, c)
sum_next k now i (Some m ∷ ms) =
    let a = sum_by-cons (λ m. option_map_or (λ x. k x i) m 0) (Some (next m i now))
    (map (λ m. option_map (λ x. next x i now) m) ms) in
    let b = sum_by-cons (λ m. option_map_or (λ x. k (next x i now) i) m 0) (Some m) ms in
    let c = sum_next k now i ms in omega (arith, a, b, c)

-- the components of a new one are those on the online CPUs
each_online : (k : ℕ → ℕ → ℕ) (level : Level) (when : When) (skew now from : ℕ) (ups : List Bool)
    → of_moments k when.interval (components_from from (given_everywhere level when skew) now ups)
    ≡ sum_by (λ n. k (cpu_first n when skew now) when.interval) (numbers_from from ups)
each_online k level when skew now from [] = refl
each_online k level when skew now from (true ∷ ups) =
    let e = given_everywhere level when skew in
    let a = sum_by-cons (λ m. option_map_or (λ x. k x when.interval) m 0) (Some (component_begins_at from e now))
    (components_from (from + 1) e now ups) in
    let b = sum_by-cons (λ n. k (cpu_first n when skew now) when.interval) from (numbers_from (from + 1) ups) in
    let c = each_online k level when skew now (from + 1) ups in omega (arith, a, b, c)
each_online k level when skew now from (false ∷ ups) =
    let e = given_everywhere level when skew in
    let a = sum_by-cons (λ m. option_map_or (λ x. k x when.interval) m 0) None (components_from (from + 1) e now ups) in
    let c = each_online k level when skew now (from + 1) ups in omega (arith, a, c)

module _ {R : Type 0} (firing : Raise R) (id : ℕ) where
  -- the id is omnipresent, with components of these next expirations, and has expired so often on all CPUs together
  pub record IsOnEach (interval : ℕ) (moments : List (Option ℕ)) (expired : ℕ) (s : SystemView R) : Type 0 where
    pub stays : (k : ℕ → ℕ → ℕ) → over_stays (of_stay (blind k)) id s ≡ of_moments k interval moments
    pub all : all_expired id s ≡ expired
    pub given : id ≤ s.last
    pub omni : is_omnipresent id s ≡ true

  pub each_kept : (i : ℕ) (ms : List (Option ℕ)) (e : ℕ) (s t : SystemView R) (call : SystemCall) → IsSound firing.view s
      → IsSound firing.view t → Changes firing s call t → (TouchesStays id call s → ⊥) → (TouchesRecord id call → ⊥)
      → (EndsRemoval id call → ⊥) → IsOnEach i ms e s → IsOnEach i ms e t
  each_kept i ms e s t call a b d touch record' ends h = record {
    stays = λ k. stays_kept firing (of_stay (blind k)) id s t call a b d touch ∙ h.stays k;
    all = counts_same firing (λ (c : Sent). c.sent) refl (λ x y. refl) id s t call a b d ends ∙ h.all;
    given = (let l = (made_of firing s t call d).last in let g = h.given in omega (arith, l, g));
    omni = look_kept firing (λ (r : Record). is_everywhere r.placement) false (λ r n bound e. sym e) (λ r n c. refl) id s t call
        a.fit.rising d record' ∙ h.omni;
  }

  -- ---- it is added

  entering_brings : (k : ℕ → ℕ → ℕ) (ns : List ℕ) (level : Level) (when : When) (skew now : ℕ)
      → AllFixed (of_stay (blind k)) id (entering_each ns id level when skew now)
      × (all_brought (of_stay (blind k)) id (entering_each ns id level when skew now)
      ≡ sum_by (λ n. k (cpu_first n when skew now) when.interval) ns)
      × (all_taken (of_stay (blind k)) id (entering_each ns id level when skew now) ≡ 0)
  entering_brings k [] level when skew now = (tt, refl, refl)
  entering_brings k (n ∷ ns) level when skew now =
      let (fixed, a, b) = entering_brings k ns level when skew now in
      let c = sum_by-cons (λ n. k (cpu_first n when skew now) when.interval) n ns in
      let own = ap (λ (b : Bool). cond b (k (cpu_first n when skew now) when.interval) 0) (true_eq id id refl) in (
        (tt, (tt, fixed)),
        (let x : all_brought (of_stay (blind k)) id (entering_each (n ∷ ns) id level when skew now)
            ≡ 0 + (cond (id == id) (k (cpu_first n when skew now) when.interval) 0
            + all_brought (of_stay (blind k)) id (entering_each ns id level when skew now)) = refl in
            omega (arith, x, a, c, own)),
        omega (arith, b),
      )

  pub each_added : (level : Level) (when : When) (skew now : ℕ) (s t : SystemView R) → IsSound firing.view s
      → IsSound firing.view t
      → Changes firing s (AddOmni level when skew now (Ok id)) t
      → IsOnEach when.interval (components_from 0 (given_everywhere level when skew) now s.cpus.online) 0 t
  each_added level when skew now s t a b (inl (e, why, is, same)) = absurd (ok_err is)
  each_added level when skew now s t a b (inr (clear, (own, (u, reserved, works), records, last))) =
      let new : s.last < id = omega (arith, own) in record {
        stays = λ k. (
            let f = of_stay (blind k) in
            let (fixed, brings, takes) = entering_brings k (online_cpus s.cpus) level when skew now in
            let x = reserved_same f id firing 1 s.cpus u reserved in
            let y = flows f id firing (entering_each (online_cpus s.cpus) id level when skew now) u t.cpus fixed works in
            let z = stays_found firing.view id f s a.lawful in let w = stays_found firing.view id f t b.lawful in
            let n = no_stays firing id s a new f in
            let m = each_online k level when skew now 0 s.cpus.online in
            omega (arith, brings, takes, x, y, z, w, n, m));
        all = counts_same firing (λ (c : Sent). c.sent) refl (λ x y. refl) id s t (AddOmni level when skew now (Ok id)) a b
            (inr (clear, (own, (u, reserved, works), records, last))) (λ x. x) ∙ no_counts_yet firing.view id s a new;
        given = omega (arith, last);
        omni =
            let h = λ (r : Record). is_everywhere r.placement in let x = new_record id level (stands.Everywhere when skew) in
            let none = record_none id s.records (λ k q low same. (let g = a.agrees.given k (get_or s.records k q)
            (slice_get-get_or s.records k q low) in omega (arith, g, same, new))) in
            ap (λ rs. option_map_or h (found id rs) false) records
            ∙ (ap (λ o. option_map_or h o false) (find_end (λ (r : Record). r.id == id) s.records x none)
            ∙ ap (λ (b : Bool). option_map_or h (cond b (Some x) None) false) (true_eq id id refl));
      }

-- a measure of both
plus_of : {A : Type 0} (f g : A → ℕ) (o : Option A)
    → option_map_or (λ c. f c + g c) o 0 ≡ option_map_or f o 0 + option_map_or g o 0
plus_of f g None = refl
plus_of f g (Some c) = refl

module _ {C R : Type 0} (handler : Calls C) (firing : Raise R) (id : ℕ) where
  -- what is told of it is so
  record IsToldEach (t : Told) (s : SystemView R) : Type 0 where
    pub everywhere : Everywhere
    pub moments : List (Option ℕ)
    pub course : t.course ≡ OnEach everywhere moments
    pub so : IsOnEach firing id everywhere.interval moments t.expired s

  pub plus_on : (f g : Cyclic → ℕ) (cpus : List (CpuView R))
      → sum_by (λ cpu. option_map_or (λ c. f c + g c) (cyclic_in id cpu) 0) cpus
      ≡ sum_by (λ cpu. option_map_or f (cyclic_in id cpu) 0) cpus + sum_by (λ cpu. option_map_or g (cyclic_in id cpu) 0) cpus
  plus_on f g [] = refl
  plus_on f g (x ∷ xs) =
      let a = sum_by-cons (λ cpu. option_map_or (λ c. f c + g c) (cyclic_in id cpu) 0) x xs in
      let b = sum_by-cons (λ cpu. option_map_or f (cyclic_in id cpu) 0) x xs in
      let c = sum_by-cons (λ cpu. option_map_or g (cyclic_in id cpu) 0) x xs in
      let d = plus_of f g (cyclic_in id x) in let e = plus_on f g xs in omega (arith, a, b, c, d, e)

  fires_each : (now i : ℕ) (ms : List (Option ℕ)) (e : ℕ) (s : SystemSide R C) (b : Advanced R C) → IsSound firing.view s.system
      → IsSound firing.view b.side.system → length s.leads.items ≡ length s.system.cpus.cpus
      → AllFire handler firing now s b → AllAccepted b → IsOnEach firing id i ms e s.system
      → IsOnEach firing id i (map (λ m. option_map (λ x. next x i now) m) ms)
      (e + of_moments (λ x y. due x y now) i ms) b.side.system
  fires_each now i ms e s b sound after ready f accepted h = record {
    stays = λ k. all_fired handler firing id now (blind k) s b sound after ready f accepted
        ∙ (h.stays (λ x y. k (next x y now) y) ∙ sym (sum_next k now i ms));
    all = (
        let x = all_fired handler firing id now (λ a b c. c) s b sound after ready f accepted in
        let y = plus_on (λ c. c.timer.expired) (λ c. due c.timer.moment c.timer.interval now) s.system.cpus.cpus in
        let z = h.stays (λ x y. due x y now) in let w = h.all in
        let r = ap (λ rs. option_map_or (λ r. sum_by (λ e. e.sent) r.ended) (found id rs) 0) f.records in
        omega (arith, x, y, z, w, r));
    given = (let g = h.given in let l = f.last in omega (arith, g, l));
    omni = ap (λ rs. option_map_or (λ (r : Record). is_everywhere r.placement) (found id rs) false) f.records ∙ h.omni;
  }

  asks_each : (i : ℕ) (ms : List (Option ℕ)) (e : ℕ) (s t : SystemSide R C) → IsSound firing.view s.system
      → IsSound firing.view t.system
      → OnlyAsked firing s t → IsOnEach firing id i ms e s.system → IsOnEach firing id i ms e t.system
  asks_each i ms e s t sound after a h = record {
    stays = λ k. all_asked handler firing id (blind k) s t sound after a ∙ h.stays k;
    all = (
        let x = all_asked handler firing id (λ a b c. c) s t sound after a in let z = h.all in
        let r = ap (λ rs. option_map_or (λ r. sum_by (λ e. e.sent) r.ended) (found id rs) 0) a.records in
        omega (arith, x, z, r));
    given = (let g = h.given in let l = a.last in omega (arith, g, l));
    omni = ap (λ rs. option_map_or (λ (r : Record). is_everywhere r.placement) (found id rs) false) a.records ∙ h.omni;
  }

  as_told : (t u : Told) (s s' : SystemView R) → u ≡ t
      → ((i : ℕ) (ms : List (Option ℕ)) (e : ℕ) → IsOnEach firing id i ms e s → IsOnEach firing id i ms e s')
      → IsToldEach t s → IsToldEach u s'
  as_told t u s s' is keeps h = subst (λ (x : Told). IsToldEach x s') (sym is) (record {
    everywhere = h.everywhere;
    moments = h.moments;
    course = h.course;
    so = keeps h.everywhere.interval h.moments t.expired h.so;
  })

  new_one : (own : ℕ) (t : Told) (s : SystemView R) → IsToldEach t s → own ≡ s.last + 1 → own ≢ id
  new_one own t s h next same = (let g = h.so.given in absurd (omega (arith, g, next, same)))

  as_before : (s t : SystemView R) → t ≡ s → (i : ℕ) (ms : List (Option ℕ)) (e : ℕ) → IsOnEach firing id i ms e s
      → IsOnEach firing id i ms e t
  as_before s t same i ms e h = subst (λ (x : SystemView R). IsOnEach firing id i ms e x) (sym same) h

  pass : (own : ℕ) (event : Event) (t : Told) → own ≢ id → told_after (if_own own id event) t ≡ t
  pass own event t ne = others_pass handler firing id own event t ne

  -- one that is omnipresent has no single next expiration
  pub set_single : (own moment : ℕ) (s t : SystemView R) → Changes firing s (Reprogram own moment (Ok tt)) t
      → is_omnipresent own s ≡ true → ⊥
  set_single own moment s t (inl (why, whys, is, same)) omni = ok_err is
  set_single own moment s t (inr (clear, rest)) omni =
      let a = (neither (no_cyclic own s) (first_refusal (omnipresent own s ∷ [])) clear).1 in
      let b = (neither (omnipresent own s) None a).0 in
      none_some (sym b ∙ ap (λ (x : Bool). if_so x Omnipresent) omni)

  -- a CPU that doesn't come back
  not_back : (n now : ℕ) (why : Refusal) (s t : SystemView R) → IsSound firing.view s → IsSound firing.view t
      → Changes firing s (Online n now (Err why)) t → (i : ℕ) (ms : List (Option ℕ)) (e : ℕ)
      → IsOnEach firing id i ms e s → IsOnEach firing id i ms e t
  not_back n now why s t a b (inl (e', whys, is, same)) i ms e h = as_before s t same i ms e h
  not_back n now why s t a b (inr (clear, (reason, (works, records, last)))) i ms e h = record {
    stays = λ k. (
        let x = idle_same (of_stay (blind k)) id firing (on n (Reserve (length (staying s)) (Err why)) ∷ []) s.cpus t.cpus
        (tt, tt) works in
        let y = stays_found firing.view id (of_stay (blind k)) s a.lawful in
        let z = stays_found firing.view id (of_stay (blind k)) t b.lawful in let g = h.stays k in omega (arith, x, y, z, g));
    all = counts_same firing (λ (c : Sent). c.sent) refl (λ x y. refl) id s t (Online n now (Err why)) a b
        (inr (clear, (reason, (works, records, last)))) (λ x. x) ∙ h.all;
    given = (let g = h.given in omega (arith, g, last));
    omni = ap (λ rs. option_map_or (λ (r : Record). is_everywhere r.placement) (found id rs) false) records ∙ h.omni;
  }

  make_each : (s t : SystemView R) (call : SystemCall) (told : Told) → IsSound firing.view s → IsSound firing.view t
      → Changes firing s call t → KeepsComponents id (Make call) → IsToldEach told s
      → IsToldEach (told_after (event_in id (Make call)) told) t
  make_each s t (Add level when now (Ok own)) told a b d keeps h =
      let ne = new_one own told s h (add_next handler firing id level when now own s t d) in
      as_told told _ s t (pass own (Begins when.start when.interval now) told ne)
      (λ i ms e. each_kept firing id i ms e s t (Add level when now (Ok own)) a b d ne ne (λ x. x)) h
  make_each s t (Add level when now (Err why)) told a b d keeps h = as_told told told s t refl
      (λ i ms e. each_kept firing id i ms e s t (Add level when now (Err why)) a b d (λ x. x) (λ x. x) (λ x. x)) h
  make_each s t (AddOmni level when skew now (Ok own)) told a b d keeps h =
      let ne = new_one own told s h (omni_next handler firing id level when skew now own s t d) in
      as_told told _ s t (pass own (BeginsOnAll (given_everywhere level when skew) now) told ne)
      (λ i ms e. each_kept firing id i ms e s t (AddOmni level when skew now (Ok own)) a b d ne ne (λ x. x)) h
  make_each s t (AddOmni level when skew now (Err why)) told a b d keeps h = as_told told told s t refl
      (λ i ms e. each_kept firing id i ms e s t (AddOmni level when skew now (Err why)) a b d (λ x. x) (λ x. x) (λ x. x)) h
  make_each s t (Bind own cpu answer) told a b d keeps h = as_told told told s t refl
      (λ i ms e. each_kept firing id i ms e s t (Bind own cpu answer) a b d (λ x. x) (λ x. x) (λ x. x)) h
  make_each s t (BeginRemove own (Ok (Done r))) told a b d keeps h = as_told told _ s t (pass own Ends told keeps)
      (λ i ms e. each_kept firing id i ms e s t (BeginRemove own (Ok (Done r))) a b d keeps keeps keeps) h
  make_each s t (BeginRemove own (Ok (Kept kept))) told a b d keeps h = as_told told _ s t (pass own Ends told keeps)
      (λ i ms e. each_kept firing id i ms e s t (BeginRemove own (Ok (Kept kept))) a b d keeps (λ x. x) (λ x. x)) h
  make_each s t (BeginRemove own (Err why)) told a b d keeps h = as_told told told s t refl
      (as_before s t (refused_begin handler firing id own why s t d)) h
  make_each s t (PollRemove own (Ok (Some r))) told a b d keeps h = as_told told told s t refl
      (λ i ms e. each_kept firing id i ms e s t (PollRemove own (Ok (Some r))) a b d keeps keeps keeps) h
  make_each s t (PollRemove own (Ok None)) told a b d keeps h = as_told told told s t refl
      (λ i ms e. each_kept firing id i ms e s t (PollRemove own (Ok None)) a b d keeps (λ x. x) (λ x. x)) h
  make_each s t (PollRemove own (Err why)) told a b d keeps h = as_told told told s t refl
      (as_before s t (refused_poll handler firing id own why s t d)) h
  make_each s t (AskTotals own answer) told a b d keeps h = as_told told told s t refl
      (λ i ms e. each_kept firing id i ms e s t (AskTotals own answer) a b d (λ x. x) (λ x. x) (λ x. x)) h
  make_each s t (Suspend answer) told a b d keeps h = as_told told told s t refl
      (λ i ms e. each_kept firing id i ms e s t (Suspend answer) a b d (λ x. x) (λ x. x) (λ x. x)) h
  make_each s t (Resume answer) told a b d keeps h = as_told told told s t refl
      (λ i ms e. each_kept firing id i ms e s t (Resume answer) a b d (λ x. x) (λ x. x) (λ x. x)) h
  make_each s t (Reprogram own moment (Ok done)) told a b d keeps h =
      let ne : own ≢ id = λ same. set_single own moment s t d
      (subst (λ (j : ℕ). is_omnipresent j s ≡ true) (sym same) h.so.omni) in
      as_told told _ s t (pass own (IsSet moment) told ne)
      (λ i ms e. each_kept firing id i ms e s t (Reprogram own moment (Ok done)) a b d ne (λ x. x) (λ x. x)) h
  make_each s t (Reprogram own moment (Err why)) told a b d keeps h = as_told told told s t refl
      (as_before s t (refused_set handler firing id own moment why s t d)) h
  make_each s t (ReprogramOn own n moment (Ok done)) told a b d keeps h =
      as_told told _ s t (pass own (IsSetOn n moment) told keeps)
      (λ i ms e. each_kept firing id i ms e s t (ReprogramOn own n moment (Ok done)) a b d keeps (λ x. x) (λ x. x)) h
  make_each s t (ReprogramOn own n moment (Err why)) told a b d keeps h = as_told told told s t refl
      (as_before s t (refused_set_on handler firing id own n moment why s t d)) h
  make_each s t (Juggle n answer) told a b d keeps h = as_told told told s t refl
      (λ i ms e. each_kept firing id i ms e s t (Juggle n answer) a b d (λ x. x) (λ x. x) (λ x. x)) h
  make_each s t (Offline n (Ok done)) told a b d keeps h = absurd keeps
  make_each s t (Offline n (Err why)) told a b d keeps h = absurd keeps
  make_each s t (Online n now (Ok done)) told a b d keeps h = absurd keeps
  make_each s t (Online n now (Err why)) told a b d keeps h = as_told told told s t refl (not_back n now why s t a b d) h
  make_each s t (FireOne n now answer) told a b d keeps h = absurd d
  make_each s t (SoftInterrupt n level budget answer) told a b d keeps h = absurd d

  abbrev D : SystemSide R C → LeadCall → SystemSide R C → Type 0
  D = AcceptedSteps handler firing

  step_each : (s t : SystemSide R C) (call : LeadCall) (told : Told) → IsSound firing.view s.system
      → length s.leads.items ≡ length s.system.cpus.cpus → D s call t → KeepsComponents id call → IsToldEach told s.system
      → IsToldEach (told_after (event_in id call) told) t.system
  step_each s t (Make call) told a ready ((d, e), b) keeps h = make_each s.system t.system call told a b d keeps h
  step_each s t (FireAll now) told a ready (after, fires, accepted, same, b) keeps h =
      subst (λ (x : SystemSide R C). IsToldEach (told_after (Fires now) told) x.system) (sym same) (record {
        everywhere = h.everywhere;
        moments = map (λ m. option_map (λ x. next x h.everywhere.interval now) m) h.moments;
        course = ap (course_after now) h.course;
        so = subst (λ (e : ℕ). IsOnEach firing id h.everywhere.interval
            (map (λ m. option_map (λ x. next x h.everywhere.interval now) m) h.moments) e after.side.system)
            (ap (λ (c : Course). told.expired + due_everywhere now c) (sym h.course))
            (fires_each now h.everywhere.interval h.moments told.expired s after a
            (subst (λ (x : SystemSide R C). IsSound firing.view x.system) same b) ready fires accepted h.so);
      })
  step_each s t AskAll told a ready (d, b) keeps h = as_told told told s.system t.system refl
      (λ i ms e. asks_each i ms e s t a b d) h

  run_each : (s t : SystemSide R C) (way : List LeadCall) (told : Told) → IsSound firing.view s.system
      → length s.leads.items ≡ length s.system.cpus.cpus → FoldsTo D s way t → All (KeepsComponents id) way
      → IsToldEach told s.system → IsToldEach (told_by (events_in id way) told) t.system
  run_each s t [] told a ready run keeps h = subst (λ (x : SystemSide R C). IsToldEach told x.system) run h
  run_each s t (call ∷ way) told a ready (u, d, rest) keeps h =
      run_each u t way (told_after (event_in id call) told)
      (sound_after handler firing id s u call d)
      (step_ready handler firing id s u call d ready) rest
      (λ k e low. keeps (suc k) e (omega (arith, low)))
      (step_each s u call told a ready d (keeps 0 call (omega arith)) h)

  pub each_from : (level : Level) (when : When) (skew now : ℕ) (before : SystemView R) (s t : SystemSide R C)
      (way : List LeadCall) (told : Told) → told.online ≡ before.cpus.online → IsSound firing.view before
      → Changes firing before (AddOmni level when skew now (Ok id)) s.system → IsSound firing.view s.system
      → length s.leads.items ≡ length s.system.cpus.cpus → FoldsTo D s way t → All (KeepsComponents id) way
      → all_expired id t.system
      ≡ (told_by (BeginsOnAll (given_everywhere level when skew) now ∷ events_in id way) told).expired
  each_from level when skew now before s t way told online a d b ready run keeps =
      (run_each s t way (told_after (BeginsOnAll (given_everywhere level when skew) now) told) b ready run keeps (record {
        everywhere = given_everywhere level when skew;
        moments = components_from 0 (given_everywhere level when skew) now before.cpus.online;
        course = ap (λ (ups : List Bool). OnEach (given_everywhere level when skew)
            (components_from 0 (given_everywhere level when skew) now ups)) online;
        so = each_added firing id level when skew now before s.system a b d;
      })).so.all
