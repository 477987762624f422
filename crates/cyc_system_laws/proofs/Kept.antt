-- The stays of an id are the same after any call that doesn't touch them.
use Rattle.cyc_agreement.specs.Suspending.{on_each}
use Rattle.cyc_cpu.specs.Calls.{Suspend as CpuSuspend, Resume as CpuResume}
use Rattle.cyc_system_laws.proofs.Idle.{idle_each}
use Rattle.std.proofs.Common.{◌≡◌, ◌≢◌, ◌∙◌, ◌==◌, ℕ, suc, ◌+◌, ◌⊎◌, inl, inr, Bool, true, false, cond, Option, Some, None}
use Rattle.std.proofs.Common.{Result, Ok, Err, List, [], ◌∷◌, ◌++◌, length, filter, refl, sym, ap, subst, arith}
use Rattle.std.specs.Prelude.{not}
use Rattle.std.specs.List.{slice_get, FoldsTo}
use Rattle.std.specs.Option.{option_map_or}
use Rattle.std.proofs.lemmas.Bool.{and_parts}
use Rattle.cyc_types.specs.declared.Raise.{Ghosts as Raise}
use Rattle.cyc_types.specs.Series.{first}
use Rattle.cyc_types.specs.declared.firing.Sent.{Sent}
use Rattle.cyc_types.specs.declared.level.Level.{Level}
use Rattle.cyc_types.specs.declared.moment.When.{When}
use Rattle.cyc_types.specs.declared.refusal.JuggleReport.{JuggleReport}
use Rattle.cyc_types.specs.declared.refusal.Refusal.{Refusal}
use Rattle.cyc_cpu.specs.declared.moving.Taken.{Taken}
use Rattle.cyc_cpu.specs.Calls.{TakeNow, Reserve, Widen, AskPending, Reprogram as CpuReprogram}
use Rattle.cyc_places.specs.declared.record.Placement.{Placement}
use Rattle.cyc_places.specs.declared.record.Placement.TheVariants as stands
use Rattle.cyc_places.specs.declared.record.Record.{Record}
use Rattle.cyc_places.specs.Places.{IsRecord, HasRisingIds, is_everywhere, ended_on}
use Rattle.cyc_system.proofs.Retired.{filtered_none}
use Rattle.cyc_system.specs.Cpus.{CpusView, CallOn, on, Works, online_cpus}
use Rattle.cyc_system.specs.Shifting.{moving}
use Rattle.cyc_system.specs.System.{SystemView, ids_on, is_omnipresent}
use Rattle.cyc_system.specs.Adding.{OnlyWorks, add_request, Adds, entering}
use Rattle.cyc_system.specs.Binding.{Binds}
use Rattle.cyc_system.proofs.Lists.{false_ne}
use Rattle.cyc_system.proofs.Recording.{record_here}
use Rattle.cyc_system.proofs.Others.{begins_others, polls_others, asks_others}
use Rattle.cyc_system.specs.declared.turning.Turn.{Turn}
use Rattle.cyc_system.specs.declared.turning.Turn.TheVariants.{StaysBound, StaysPending, StaysRefused, Moves}
use Rattle.cyc_system.specs.Juggling.{TakesTurn, Turns, single_ids}
use Rattle.cyc_system.specs.GoingOffline.{quiet, Retires, EndsOffline}
use Rattle.cyc_system.specs.Omni.{AddsOmni, entering_each}
use Rattle.cyc_system.specs.Online.{GoesOnline, staying, is_staying, returns, return_at}
use Rattle.cyc_system.specs.Calls.{SystemCall, Changes, Add, AddOmni, Bind, BeginRemove, PollRemove, AskTotals, Reprogram}
use Rattle.cyc_system.specs.Calls.{ReprogramOn, Juggle, Offline, Online, FireOne, SoftInterrupt, Suspend, Resume}
use Rattle.cyc_system_laws.specs.Sound.{IsSound}
use Rattle.cyc_system_laws.specs.Keeping.{over_stays, TouchesStays}
use Rattle.cyc_system_laws.proofs.Flow.{AllFixed, all_brought, all_taken, on_cpus, flows, flow_at}
use Rattle.cyc_system_laws.proofs.Idle.{idle_on, idle_quiet, idle_same, reserved_same, unreserved_same, unshifted_same}
use Rattle.cyc_system_laws.proofs.Counted.{moved_even}
use Rattle.cyc_system_laws.proofs.Found.{stays_found, untouched_stays}
use Rattle.cyc_system_laws.proofs.Looked.{turns_look}

not_true : (b : Bool) → not b ≡ false → b ≡ true
not_true true e = refl
not_true false e = absurd (let odd : true ≡ false = e in cc)

module _ {R : Type 0} (firing : Raise R) (f : Taken → ℕ) (id : ℕ) where
  -- the measure over all CPUs
  abbrev all_on : SystemView R → ℕ
  all_on s = on_cpus f id s.cpus

  other : (own n : ℕ) → own ≢ id → cond (own == id) n 0 ≡ 0
  other own n ne = ap (λ b. cond b n 0) (false_ne own id ne)

  moved_stays : (own source target : ℕ) (taken : Taken) (s t : SystemView R)
      → Works firing (moving own source target taken) s.cpus t.cpus → all_on t ≡ all_on s
  moved_stays own source target taken s t works =
      let a = flows f id firing (moving own source target taken) s.cpus t.cpus (tt, (tt, (tt, (tt, (tt, tt))))) works in
      let b = moved_even f id own source target taken in omega (arith, a, b)

  binds_stay : (own n : ℕ) (answer : Result (Unit {0}) Refusal) (s t : SystemView R) → Binds firing own n answer s t
      → all_on t ≡ all_on s
  binds_stay own n (Ok done) s t (home, has, inl (at, is, same), records) = ap (on_cpus f id) same
  binds_stay own n (Ok done) s t (home, has, inr (ne, (taken, works)), records) = moved_stays own home n taken s t works
  binds_stay own n (Err e) s t (home, has, inl (at, is, same), records, last) = ap (on_cpus f id) same
  binds_stay own n (Err e) s t (home, has, inr (ne, why), records, last) = unshifted_same f id firing own home n e s.cpus
      t.cpus why

  reprograms_stay : (own n moment : ℕ) (s t : SystemView R) → (own ≡ id → (a : Taken) (m : ℕ) → f (record a { moment = m }) ≡ f a)
      → OnlyWorks firing (on n (CpuReprogram own moment (Ok tt)) ∷ []) s t → all_on t ≡ all_on s
  reprograms_stay own n moment s t blind (works, records, last) =
      let a = flows f id firing (on n (CpuReprogram own moment (Ok tt)) ∷ []) s.cpus t.cpus (blind, tt) works in
      omega (arith, a)

  adds_stay : (level : Level) (when : When) (now : ℕ) (answer : Result ℕ Refusal) (s t : SystemView R)
      → (TouchesStays id (Add level when now answer) s → ⊥) → Adds firing (add_request level when now) answer s t
      → all_on t ≡ all_on s
  adds_stay level when now (Ok own) s t ne (d, chosen, next, works, records, last) =
      let a = flows f id firing (on d (Reserve 1 (Ok tt)) ∷ entering d own level when.interval
      (first when.start when.interval now)) s.cpus t.cpus (tt, (tt, (tt, tt))) works in
      let z = other own (f (record {
        level = level;
        interval = when.interval;
        moment = first when.start when.interval now;
        sent = record { sent = 0; lost = 0 };
      })) ne in omega (arith, a, z)
  adds_stay level when now (Err e) s t ne (d, chosen, inl only) = idle_same f id firing
      (on d (Reserve 1 (Err e)) ∷ []) s.cpus t.cpus (tt, tt) only.0
  adds_stay level when now (Err e) s t ne (d, chosen, inr (is, only)) = idle_same f id firing
      (on d (Reserve 1 (Ok tt)) ∷ []) s.cpus t.cpus (tt, tt) only.0

  entering_stays : (ns : List ℕ) (own : ℕ) (level : Level) (when : When) (skew now : ℕ) → own ≢ id
      → AllFixed f id (entering_each ns own level when skew now)
      × (all_brought f id (entering_each ns own level when skew now) ≡ 0)
      × (all_taken f id (entering_each ns own level when skew now) ≡ 0)
  entering_stays [] own level when skew now ne = (tt, refl, refl)
  entering_stays (n ∷ ns) own level when skew now ne =
      let (fixed, a, b) = entering_stays ns own level when skew now ne in let z = λ (m : ℕ). other own m ne in (
        (tt, (tt, fixed)),
        ap (λ (m : ℕ). 0 + (m + all_brought f id (entering_each ns own level when skew now))) (z _)
            ∙ omega (arith, a),
        omega (arith, b),
      )

  omni_stays : (level : Level) (when : When) (skew now : ℕ) (answer : Result ℕ Refusal) (s t : SystemView R)
      → (TouchesStays id (AddOmni level when skew now answer) s → ⊥)
      → AddsOmni firing (add_request level when now) skew answer s t → all_on t ≡ all_on s
  omni_stays level when skew now (Ok own) s t ne (next, (u, reserved, works), records, last) =
      let (fixed, z, y) = entering_stays (online_cpus s.cpus) own level when skew now ne in
      let a = reserved_same f id firing 1 s.cpus u reserved in
      let b = flows f id firing (entering_each (online_cpus s.cpus) own level when skew now) u t.cpus fixed works in
      omega (arith, a, b, z, y)
  omni_stays level when skew now (Err e) s t ne (inl why, records, last) = unreserved_same f id firing 1 e s.cpus t.cpus why
  omni_stays level when skew now (Err e) s t ne
      (inr (is, reserved), records, last) = reserved_same f id firing 1 s.cpus t.cpus reserved

  turn_stays : (n own : ℕ) (turn : Turn) (s t : SystemView R) → TakesTurn firing n own turn s t → all_on t ≡ all_on s
  turn_stays n own StaysBound s t (placement, same) = ap all_on same
  turn_stays n own StaysPending s t (placement, found, some, only) = idle_same f id firing
      (on n (AskPending own (Some found)) ∷ []) s.cpus t.cpus (tt, tt) only.0
  turn_stays n own StaysRefused s t (placement, d, chosen, e, only) = idle_same f id firing
      (on n (AskPending own (Some 0)) ∷ on d (Reserve 1 (Err e)) ∷ []) s.cpus t.cpus (tt, (tt, tt)) only.0
  turn_stays n own Moves s t (placement, d, chosen, (taken, works), records) = moved_stays own n d taken s t works

  turns_stay : (n : ℕ) (ids : List ℕ) (report : JuggleReport) (s t : SystemView R) → Turns firing n ids report s t
      → all_on t ≡ all_on s
  turns_stay n [] report s t (none, same) = ap all_on same
  turns_stay n (own ∷ ids) report s t (turn, u, rest, first, counted, more) = turns_stay n ids rest u t more
      ∙ turn_stays n own turn s u first

  retires_stay : (n : ℕ) (ids : List ℕ) (s t : SystemView R) → ((p own : ℕ) → slice_get ids p ≡ Some own → own ≢ id)
      → FoldsTo (Retires firing n) s ids t → all_on t ≡ all_on s
  retires_stay n [] s t ne e = ap all_on (sym e)
  retires_stay n (own ∷ ids) s t ne (u, (taken, does, k, r, here, named, records, last), rest) =
      let a = flow_at f id firing s.cpus u.cpus (on n (TakeNow own (Ok taken))) tt does in
      let z = other own (f taken) (ne 0 own refl) in
      let one : all_on u ≡ all_on s = omega (arith, a, z) in retires_stay n ids u t (λ p q at. ne (suc p) q at) rest ∙ one

  leaves_stay : (n : ℕ) (report : JuggleReport) (answer : Result (Unit {0}) Refusal) (s t : SystemView R)
      → (is_omnipresent id s ≡ true → ⊥) → EndsOffline firing n report answer s t → all_on t ≡ all_on s
  leaves_stay n report answer s t single (inl (left, is, same)) = ap all_on same
  leaves_stay n report answer s t single (inr (inl (none, is, (before, own, after, found, some, only)))) =
      idle_same f id firing (quiet n before ++ on n (AskPending own (Some found)) ∷ []) s.cpus t.cpus
      (idle_on (quiet n before) (on n (AskPending own (Some found)) ∷ []) (idle_quiet n before) (tt, tt)) only.0
  leaves_stay n report answer s t single (inr (inr (none, is, (u, only, empty, each, off)))) =
      ap all_on off
      ∙ (retires_stay n (ids_on n s.cpus) u empty (λ p own at e. single (subst (λ (j : ℕ). is_omnipresent j s ≡ true) e
      (not_true (is_omnipresent own s) (filtered_none (λ (j : ℕ). not (is_omnipresent j s))
      (ids_on n s.cpus) p own none at)))) each
      ∙ idle_same f id firing (quiet n (ids_on n s.cpus)) s.cpus u.cpus (idle_quiet n (ids_on n s.cpus)) only.0)

  -- an id whose record is read
  omni_read : (s : SystemView R) (k : ℕ) (r : Record) → HasRisingIds s.records → IsRecord s.records k r → r.id ≡ id
      → is_omnipresent id s ≡ is_everywhere r.placement
  omni_read s k r rising is named = ap (λ o. option_map_or (λ (x : Record). is_everywhere x.placement) o false)
      (record_here id k r s.records rising is named)

  return_stays : (n now own : ℕ) (level : Level) (counts : Sent) (placement : Placement) (way : List CallOn) → own ≢ id
      → AllFixed f id way → all_brought f id way ≡ 0 → all_taken f id way ≡ 0
      → AllFixed f id (return_at n now own level counts placement ++ way)
      × (all_brought f id (return_at n now own level counts placement ++ way) ≡ 0)
      × (all_taken f id (return_at n now own level counts placement ++ way) ≡ 0)
  return_stays n now own level counts (stands.On m bound) way ne fixed a b = (fixed, a, b)
  return_stays n now own level counts (stands.Everywhere when skew) way ne fixed a b =
      ((tt, fixed), ap (λ (m : ℕ). m + all_brought f id way) (other own _ ne) ∙ omega (arith, a), omega (arith, b))

  returns_stay : (n now : ℕ) (v : CpusView R) (rs : List Record)
      → ((k : ℕ) (r : Record) → slice_get rs k ≡ Some r → is_staying v r ≡ true → r.id ≢ id)
      → AllFixed f id (returns n now (filter (is_staying v) rs))
      × (all_brought f id (returns n now (filter (is_staying v) rs)) ≡ 0)
      × (all_taken f id (returns n now (filter (is_staying v) rs)) ≡ 0)
  returns_stay n now v [] ne = (tt, refl, refl)
  returns_stay n now v (r ∷ rs) ne = let (fixed, a, b) = returns_stay n now v rs (λ k q at. ne (suc k) q at) in
      by (is_staying v r) refl fixed a b
    where
      by : (b : Bool) → is_staying v r ≡ b → AllFixed f id (returns n now (filter (is_staying v) rs))
          → all_brought f id (returns n now (filter (is_staying v) rs)) ≡ 0
          → all_taken f id (returns n now (filter (is_staying v) rs)) ≡ 0
          → AllFixed f id (returns n now (cond b (r ∷ filter (is_staying v) rs) (filter (is_staying v) rs)))
          × (all_brought f id (returns n now (cond b (r ∷ filter (is_staying v) rs) (filter (is_staying v) rs))) ≡ 0)
          × (all_taken f id (returns n now (cond b (r ∷ filter (is_staying v) rs) (filter (is_staying v) rs))) ≡ 0)
      by true is fixed a b = return_stays n now r.id r.level (ended_on n r) r.placement
          (returns n now (filter (is_staying v) rs)) (ne 0 r refl is) fixed a b
      by false is fixed a b = (fixed, a, b)

  online_stays : (n now : ℕ) (answer : Result (Unit {0}) Refusal) (s t : SystemView R) → HasRisingIds s.records
      → (is_omnipresent id s ≡ true → ⊥) → GoesOnline firing n now answer s t → all_on t ≡ all_on s
  online_stays n now (Ok done) s t rising single ((w, works, switched), records, last) =
      let (fixed, z, y) = returns_stay n now s.cpus s.records
      (λ k r at is named. single (omni_read s k r rising at named ∙ (and_parts (is_everywhere r.placement) _ is).0)) in
      let a = flows f id firing (on n (Reserve (length (staying s)) (Ok tt)) ∷ on n
      (Widen (length (staying s))) ∷ returns n now (staying s)) s.cpus w (tt, (tt, fixed)) works in
      let d = ap (on_cpus f id) switched in omega (arith, a, z, y, d)
  online_stays n now (Err e) s t rising single (why, only) = idle_same f id firing
      (on n (Reserve (length (staying s)) (Err e)) ∷ []) s.cpus t.cpus (tt, tt) only.0

  refused_or : {A : Type 0} (o : Option Refusal) (refused : Refusal → A) (answer : A) (s t : SystemView R) (G : Type 0)
      → ((e : Refusal) × (o ≡ Some e) × (answer ≡ refused e) × (t ≡ s)) ⊎ ((o ≡ None) × G) → (G → all_on t ≡ all_on s)
      → all_on t ≡ all_on s
  refused_or o refused answer s t G (inl (e, why, is, same)) goes = ap all_on same
  refused_or o refused answer s t G (inr (clear, g)) goes = goes g

  -- the sums are what the look-ups give
  by_sums : (s t : SystemView R) → IsSound firing.view s → IsSound firing.view t → all_on t ≡ all_on s → over_stays f id t
      ≡ over_stays f id s
  by_sums s t a b e = sym (stays_found firing.view id f t b.lawful) ∙ (e ∙ stays_found firing.view id f s a.lawful)

  still_single : (n : ℕ) (report : JuggleReport) (s t : SystemView R) → HasRisingIds s.records
      → Turns firing n (single_ids n s) report s t → (is_omnipresent id s ≡ true → ⊥) → is_omnipresent id t ≡ true → ⊥
  still_single n report s t rising turns single now =
      single (sym (turns_look firing (λ (r : Record). is_everywhere r.placement) false (λ r n bound e. sym e)
      (λ r n c. refl) id n (single_ids n s) report s t rising turns) ∙ now)

  pub moments_kept : (s t : SystemView R) (own n moment : ℕ) → IsSound firing.view s → IsSound firing.view t
      → ((a : Taken) (m : ℕ) → f (record a { moment = m }) ≡ f a)
      → OnlyWorks firing (on n (CpuReprogram own moment (Ok tt)) ∷ []) s t → over_stays f id t ≡ over_stays f id s
  moments_kept s t own n moment a b blind only = by_sums s t a b (reprograms_stay own n moment s t (λ e. blind) only)

  pub stays_kept : (s t : SystemView R) (call : SystemCall) → IsSound firing.view s → IsSound firing.view t
      → Changes firing s call t
      → (TouchesStays id call s → ⊥) → over_stays f id t ≡ over_stays f id s
  stays_kept s t (Add level when now answer) a b d ne = by_sums s t a b
      (refused_or _ _ answer s t _ d (λ k. adds_stay level when now answer s t ne k))
  stays_kept s t (AddOmni level when skew now answer) a b d ne = by_sums s t a b
      (refused_or _ _ answer s t _ d (λ k. omni_stays level when skew now answer s t ne k))
  stays_kept s t (Bind own None answer) a b d ne = by_sums s t a b
      (refused_or _ _ answer s t _ d (λ k. (let (is, n, home, cpus, records) = k in ap (on_cpus f id) cpus)))
  stays_kept s t (Bind own (Some n) answer) a b d ne = by_sums s t a b
      (refused_or _ _ answer s t _ d (λ k. binds_stay own n answer s t k))
  stays_kept s t (BeginRemove own answer) a b d ne = untouched_stays id f s t
      (begins_others firing own id answer s t (λ e. ne (sym e)) d)
  stays_kept s t (PollRemove own answer) a b d ne = untouched_stays id f s t
      (polls_others firing own id answer s t (λ e. ne (sym e)) d)
  stays_kept s t (AskTotals own answer) a b d ne = untouched_stays id f s t (asks_others firing own id answer s t d)
  stays_kept s t (Reprogram own moment answer) a b d ne = by_sums s t a b
      (refused_or _ _ answer s t _ d (λ k. reprograms_stay own k.0 moment s t (λ e. absurd (ne e)) k.2.1))
  stays_kept s t (ReprogramOn own n moment answer) a b d ne = by_sums s t a b
      (refused_or _ _ answer s t _ d (λ k. reprograms_stay own n moment s t (λ e. absurd (ne e)) k.1))
  stays_kept s t (Juggle n answer) a b d ne = by_sums s t a b
      (refused_or _ _ answer s t _ d (λ k. (let (report, is, moves) = k in turns_stay n (single_ids n s) report s t moves)))
  stays_kept s t (Offline n answer) a b d ne = by_sums s t a b (refused_or _ _ answer s t _ d
      (λ k. (let (report, moved, moves, rest) = k in
      leaves_stay n report answer moved t (still_single n report s moved a.fit.rising moves ne) rest
      ∙ turns_stay n (single_ids n s) report s moved moves)))
  stays_kept s t (Online n now answer) a b d ne = by_sums s t a b
      (refused_or _ _ answer s t _ d (λ k. online_stays n now answer s t a.fit.rising ne k))
  stays_kept s t (Suspend answer) a b d ne = by_sums s t a b (refused_or _ _ answer s t _ d
      (λ k. idle_same f id firing (on_each CpuSuspend (length s.cpus.cpus)) s.cpus t.cpus
      (idle_each CpuSuspend (length s.cpus.cpus) tt) k.1.0))
  stays_kept s t (Resume answer) a b d ne = by_sums s t a b (refused_or _ _ answer s t _ d
      (λ k. idle_same f id firing (on_each CpuResume (length s.cpus.cpus)) s.cpus t.cpus
      (idle_each CpuResume (length s.cpus.cpus) tt) k.1.0))
  stays_kept s t (FireOne n now answer) a b d ne = absurd d
  stays_kept s t (SoftInterrupt n level budget answer) a b d ne = absurd d
