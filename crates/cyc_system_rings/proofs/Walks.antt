-- What the calls of a system keep of its CPUs, call on a CPU after call on a CPU.
use Rattle.cyc_agreement.specs.Suspending.{on_each}
use Rattle.cyc_cpu.specs.Calls.{Suspend as CpuSuspend, Resume as CpuResume}
use Rattle.std.proofs.Common.{◌≡◌, ℕ, suc, ◌⊎◌, inl, inr, false, Option, Some, None, Result, Ok, Err}
use Rattle.std.proofs.Common.{List, [], ◌∷◌, ◌++◌, length, map, slice_set, refl, sym, ap, subst}
use Rattle.std.specs.List.{slice_get, FoldsTo}
use Rattle.cyc_types.specs.declared.Raise.{Ghosts as Raise}
use Rattle.cyc_types.specs.Series.{first}
use Rattle.cyc_types.specs.declared.firing.Sent.{Sent}
use Rattle.cyc_types.specs.declared.level.Level.{Level}
use Rattle.cyc_types.specs.declared.moment.When.{When}
use Rattle.cyc_types.specs.declared.refusal.JuggleReport.{JuggleReport}
use Rattle.cyc_types.specs.declared.refusal.Refusal.{Refusal}
use Rattle.cyc_types.specs.Reasons.{first_refusal, busy}
use Rattle.cyc_types.specs.Counting.{no_counts}
use Rattle.cyc_cpu.specs.declared.moving.Taken.{Taken}
use Rattle.cyc_cpu.specs.Calls.{TakeNow, Place as PlaceCall, Reserve, Widen, AskPending, Reprogram as CpuReprogram}
use Rattle.cyc_places.specs.declared.record.Placement.{Placement}
use Rattle.cyc_places.specs.declared.record.Placement.TheVariants as stands
use Rattle.cyc_places.specs.declared.record.Record.{Record}
use Rattle.cyc_places.specs.Places.{ended_on}
use Rattle.cyc_agreement.specs.Cpus.{CpusView, CallOn, on, DoesAt, Works, online_cpus}
use Rattle.cyc_agreement.specs.Reserving.{rooms, reserves, ReservesEach}
use Rattle.cyc_agreement.specs.Shifting.{move_of, WhyNotShifted, moving}
use Rattle.cyc_system_laws.proofs.Spots.{none_some}
use Rattle.cyc_system_laws.specs.System.{SystemView, ids_on, removal_on}
use Rattle.cyc_system_workers.specs.Adding.{add_request, Adds, entering}
use Rattle.cyc_system_workers.specs.Binding.{Binds}
use Rattle.cyc_system_workers.specs.Refusals.{no_cyclic, omnipresent, no_cpu, offline_cpu, no_component}
use Rattle.cyc_system.specs.declared.turning.Turn.{Turn}
use Rattle.cyc_system.specs.declared.turning.Turn.TheVariants.{StaysBound, StaysPending, StaysRefused, Moves}
use Rattle.cyc_system.specs.Juggling.{TakesTurn, Turns, single_ids, last_cpu}
use Rattle.cyc_system.specs.GoingOffline.{quiet, Retires}
use Rattle.cyc_agreement.specs.Omni.{AddsOmni, entering_each, component_first}
use Rattle.cyc_agreement.specs.Online.{staying, returns, return_at, switched_on}
use Rattle.cyc_system_laws.specs.Counting.{asked}
use Rattle.cyc_system_laws.specs.SystemCalls.{SystemCall, Changes, Add, AddOmni, Bind, BeginRemove, PollRemove, AskTotals}
use Rattle.cyc_system_laws.specs.SystemCalls.{Suspend, Resume, Reprogram, ReprogramOn, Juggle, Offline, Online, FireOne}
use Rattle.cyc_system_laws.specs.SystemCalls.{SoftInterrupt}
use Rattle.cyc_system_laws.proofs.Idle.{IsIdle, AreIdle, idle_on, idle_rooms, idle_reserves, idle_quiet, idle_each, idle_asked}
use Rattle.cyc_system_rings.proofs.Runs.{neither}

-- no removal is open where none is the reason of a refusal
not_busy : (o : Option ℕ) → busy o ≡ None → o ≡ None
not_busy None e = refl
not_busy (Some id) e = absurd (none_some (sym e))

-- the CPUs with one that is not online
abbrev pub switched_off : {R : Type 0} → ℕ → CpusView R → CpusView R
switched_off n v = record v { online = slice_set v.online n false }

-- a relation of the CPUs before and after, that calls of a kind keep
module _ {R : Type 0} (firing : Raise R) (K : CpusView R → CpusView R → Type 0)
    (none : (v : CpusView R) → K v v) (then : (u v w : CpusView R) → K u v → K v w → K u w) (G : CallOn → Type 0)
    (one : (v w : CpusView R) (c : CallOn) → G c → DoesAt firing v c w → K v w)
    (idle : (c : CallOn) → IsIdle c.call → G c) where
  abbrev AreGood : List CallOn → Type 0
  AreGood [] = Unit {0}
  AreGood (c ∷ way) = G c × AreGood way

  good_on : (xs ys : List CallOn) → AreGood xs → AreGood ys → AreGood (xs ++ ys)
  good_on [] ys a b = b
  good_on (x ∷ xs) ys a b = (a.0, good_on xs ys a.1 b)

  good_idle : (way : List CallOn) → AreIdle way → AreGood way
  good_idle [] a = tt
  good_idle (c ∷ way) a = (idle c a.0, good_idle way a.1)

  same : (v w : CpusView R) → w ≡ v → K v w
  same v w e = subst (λ u. K v u) (sym e) (none v)

  walk : (way : List CallOn) (v w : CpusView R) → AreGood way → Works firing way v w → K v w
  walk [] v w g run = subst (λ u. K v u) run (none v)
  walk (c ∷ way) v w g (u, does, rest) = then v u w (one v u c g.0 does) (walk way u w g.1 rest)

  idles : (way : List CallOn) (v w : CpusView R) → AreIdle way → Works firing way v w → K v w
  idles way v w a works = walk way v w (good_idle way a) works

  -- a cyclic of this id may come to the CPU
  abbrev pub Puts : ℕ → ℕ → Type 0
  Puts n own = (level : Level) (interval moment : ℕ) (carried : Sent) → G (on n (PlaceCall own level interval moment carried))

  -- and be moved, and have its moment set
  pub record May (own : ℕ) : Type 0 where
    pub takes : (n : ℕ) (taken : Taken) → G (on n (TakeNow own (Ok taken)))
    pub puts : (n : ℕ) → Puts n own
    pub sets : (n moment : ℕ) → G (on n (CpuReprogram own moment (Ok tt)))

  moved : (own source target : ℕ) (taken : Taken) (v w : CpusView R) → May own
      → Works firing (moving own source target taken) v w → K v w
  moved own source target taken v w may works = walk (moving own source target taken) v w (
    idle (on source (AskPending own (Some 0))) tt,
    (
      idle (on target (Reserve 1 (Ok tt))) tt,
      (
        may.takes source taken,
        (
          idle (on target (Widen 1)) tt,
          (may.puts target taken.level taken.interval taken.moment taken.sent, tt),
        ),
      ),
    ),
  ) works

  unmoved : (own source target : ℕ) (e : Refusal) (v w : CpusView R)
      → WhyNotShifted firing (move_of own source target) e v w → K v w
  unmoved own source target e v w (inl (removed, is_open, is, e')) = same v w e'
  unmoved own source target e v w (inr (inl (still, n, some, is, works))) =
      idles (on source (AskPending own (Some n)) ∷ []) v w (tt, tt) works
  unmoved own source target e v w (inr (inr (still, works))) =
      idles (on source (AskPending own (Some 0)) ∷ on target (Reserve 1 (Err e)) ∷ []) v w (tt, (tt, tt)) works

  binds : (own n : ℕ) (answer : Result (Unit {0}) Refusal) (s t : SystemView R) → May own → Binds firing own n answer s t
      → K s.cpus t.cpus
  binds own n (Ok done) s t may (home, has, inl (at, is, e), records) = same s.cpus t.cpus e
  binds own n (Ok done) s t may (home, has, inr (ne, (taken, works)), records) = moved own home n taken s.cpus t.cpus may works
  binds own n (Err e) s t may (home, has, inl (at, is, e'), records, last) = same s.cpus t.cpus e'
  binds own n (Err e) s t may (home, has, inr (ne, why), records, last) = unmoved own home n e s.cpus t.cpus why

  reserved : (more : ℕ) (v w : CpusView R) → ReservesEach firing more (Ok tt) v w → K v w
  reserved more v w (u, first, last) =
      then v u w (idles _ v u (idle_rooms more _) first) (idles _ u w (idle_reserves more _) last)

  unreserved : (more : ℕ) (e : Refusal) (v w : CpusView R) → ReservesEach firing more (Err e) v w → K v w
  unreserved more e v w (inl (before, n, after, works)) = idles _ v w
      (idle_on (rooms more before) _ (idle_rooms more before) (tt, tt)) works
  unreserved more e v w (inr (u, first, (is, before, n, after, works))) = then v u w (idles _ v u (idle_rooms more _) first)
      (idles _ u w (idle_on (reserves more before) _ (idle_reserves more before) (tt, tt)) works)

  adds : (level : Level) (when : When) (now : ℕ) (answer : Result ℕ Refusal) (s t : SystemView R)
      → ((own : ℕ) → answer ≡ Ok own → May own) → Adds firing (add_request level when now) answer s t → K s.cpus t.cpus
  adds level when now (Ok own) s t may (d, chosen, next, works, records, last) =
      walk (on d (Reserve 1 (Ok tt)) ∷ entering d own level when.interval (first when.start when.interval now)) s.cpus t.cpus (
        idle (on d (Reserve 1 (Ok tt))) tt,
        (
          idle (on d (Widen 1)) tt,
          ((may own refl).puts d level when.interval (first when.start when.interval now) no_counts, tt),
        ),
      ) works
  adds level when now (Err e) s t may (d, chosen, inl only) =
      idles (on d (Reserve 1 (Err e)) ∷ []) s.cpus t.cpus (tt, tt) only.0
  adds level when now (Err e) s t may (d, chosen, inr (is, only)) =
      idles (on d (Reserve 1 (Ok tt)) ∷ []) s.cpus t.cpus (tt, tt) only.0

  enter_good : (ns : List ℕ) (own : ℕ) (level : Level) (when : When) (skew now : ℕ) → May own
      → AreGood (entering_each ns own level when skew now)
  enter_good [] own level when skew now may = tt
  enter_good (n ∷ ns) own level when skew now may = (
    idle (on n (Widen 1)) tt,
    (
      may.puts n level when.interval (component_first n when skew now) no_counts,
      enter_good ns own level when skew now may,
    ),
  )

  omnis : (level : Level) (when : When) (skew now : ℕ) (answer : Result ℕ Refusal) (s t : SystemView R)
      → ((own : ℕ) → answer ≡ Ok own → May own) → AddsOmni firing (add_request level when now) skew answer s t → K s.cpus t.cpus
  omnis level when skew now (Ok own) s t may (next, (u, first, works), records, last) = then s.cpus u t.cpus
      (reserved 1 s.cpus u first)
      (walk _ u t.cpus (enter_good (online_cpus s.cpus) own level when skew now (may own refl)) works)
  omnis level when skew now (Err e) s t may (inl why, records, last) = unreserved 1 e s.cpus t.cpus why
  omnis level when skew now (Err e) s t may (inr (is, first), records, last) = reserved 1 s.cpus t.cpus first

  turn : (n own : ℕ) (turned : Turn) (s t : SystemView R) → May own → TakesTurn firing n own turned s t → K s.cpus t.cpus
  turn n own StaysBound s t may (placement, e) = same s.cpus t.cpus (ap (λ (u : SystemView R). u.cpus) e)
  turn n own StaysPending s t may (placement, found, some, only) =
      idles (on n (AskPending own (Some found)) ∷ []) s.cpus t.cpus (tt, tt) only.0
  turn n own StaysRefused s t may (placement, d, chosen, e, only) =
      idles (on n (AskPending own (Some 0)) ∷ on d (Reserve 1 (Err e)) ∷ []) s.cpus t.cpus (tt, (tt, tt)) only.0
  turn n own Moves s t may (placement, d, chosen, (taken, works), records) = moved own n d taken s.cpus t.cpus may works

  turns : (n : ℕ) (ids : List ℕ) (report : JuggleReport) (s t : SystemView R)
      → ((p own : ℕ) → slice_get ids p ≡ Some own → May own) → Turns firing n ids report s t → K s.cpus t.cpus
  turns n [] report s t may (is, e) = same s.cpus t.cpus (ap (λ (u : SystemView R). u.cpus) e)
  turns n (own ∷ ids) report s t may (turned, u, rest, first, counted, more) = then s.cpus u.cpus t.cpus
      (turn n own turned s u (may 0 own refl) first) (turns n ids rest u t (λ p q at. may (suc p) q at) more)

  -- these may leave the CPU
  abbrev pub Retire : ℕ → List ℕ → Type 0
  Retire n ids = (p own : ℕ) (taken : Taken) → slice_get ids p ≡ Some own → G (on n (TakeNow own (Ok taken)))

  retires : (n : ℕ) (ids : List ℕ) (s t : SystemView R) → Retire n ids → FoldsTo (Retires firing n) s ids t
      → K s.cpus t.cpus
  retires n [] s t may e = same s.cpus t.cpus (ap (λ (u : SystemView R). u.cpus) (sym e))
  retires n (own ∷ ids) s t may (u, (taken, does, k, r, here, named, records, last), rest) = then s.cpus u.cpus t.cpus
      (one s.cpus u.cpus (on n (TakeNow own (Ok taken))) (may 0 own taken refl) does)
      (retires n ids u t (λ p q taken at. may (suc p) q taken at) rest)

  return_good : (n now own : ℕ) (level : Level) (counts : Sent) (placement : Placement) → Puts n own
      → AreGood (return_at n now own level counts placement)
  return_good n now own level counts (stands.On m bound) may = tt
  return_good n now own level counts (stands.Everywhere when skew) may =
      (may level when.interval (component_first n when skew now) counts, tt)

  returns_good : (n now : ℕ) (rs : List Record) → ((k : ℕ) (r : Record) → slice_get rs k ≡ Some r → Puts n r.id)
      → AreGood (returns n now rs)
  returns_good n now [] may = tt
  returns_good n now (r ∷ rs) may = good_on (return_at n now r.id r.level (ended_on n r) r.placement) (returns n now rs)
      (return_good n now r.id r.level (ended_on n r) r.placement (may 0 r refl))
      (returns_good n now rs (λ k q at. may (suc k) q at))

  -- ---- a call of the system

  -- what it needs of the ids that it touches, where it isn't refused for one of the first reasons
  abbrev pub Needs : SystemCall → SystemView R → Type 0
  Needs (Add level when now (Ok own)) s = May own
  Needs (AddOmni level when skew now (Ok own)) s = May own
  Needs (Bind own cpu answer) s = no_cyclic own s ≡ None → omnipresent own s ≡ None → May own
  Needs (Reprogram own moment (Ok done)) s =
      no_cyclic own s ≡ None → omnipresent own s ≡ None → (n : ℕ) → G (on n (CpuReprogram own moment (Ok tt)))
  Needs (ReprogramOn own n moment (Ok done)) s =
      no_cyclic own s ≡ None → no_component own n s ≡ None → G (on n (CpuReprogram own moment (Ok tt)))
  Needs (Juggle n answer) s =
      removal_on n s.cpus ≡ None → (p own : ℕ) → slice_get (single_ids n s) p ≡ Some own → May own
  Needs (Offline n (Ok done)) s =
      (removal_on n s.cpus ≡ None → (p own : ℕ) → slice_get (single_ids n s) p ≡ Some own → May own)
      × (removal_on n s.cpus ≡ None → (v : CpusView R) → K s.cpus v → Retire n (ids_on n v))
  Needs (Offline n (Err e)) s =
      removal_on n s.cpus ≡ None → (p own : ℕ) → slice_get (single_ids n s) p ≡ Some own → May own
  Needs (Online n now (Ok done)) s = (k : ℕ) (r : Record) → slice_get (staying s) k ≡ Some r → Puts n r.id
  Needs (BeginRemove own answer) s = ⊥
  Needs (PollRemove own answer) s = ⊥
  Needs call s = Unit {0}

  -- what is so after it
  abbrev pub Keeps : SystemCall → SystemView R → SystemView R → Type 0
  Keeps (Offline n (Ok done)) s t = (w : CpusView R) × K s.cpus w × (t.cpus ≡ switched_off n w)
  Keeps (Online n now (Ok done)) s t = (w : CpusView R) × K s.cpus w × (t.cpus ≡ switched_on n w)
  Keeps call s t = K s.cpus t.cpus

  same_system : (s t : SystemView R) → t ≡ s → K s.cpus t.cpus
  same_system s t e = same s.cpus t.cpus (ap (λ (u : SystemView R). u.cpus) e)

  refused_or : {A : Type 0} (o : Option Refusal) (refused : Refusal → A) (answer : A) (s t : SystemView R) (H : Type 0)
      → ((e : Refusal) × (o ≡ Some e) × (answer ≡ refused e) × (t ≡ s)) ⊎ ((o ≡ None) × H)
      → (o ≡ None → H → K s.cpus t.cpus) → K s.cpus t.cpus
  refused_or o refused answer s t H (inl (e, why, is, e')) goes = same_system s t e'
  refused_or o refused answer s t H (inr (clear, h)) goes = goes clear h

  -- no removal is open on a CPU that is juggled
  none_open : (n : ℕ) (s : SystemView R)
      → first_refusal (no_cpu n s ∷ offline_cpu n s ∷ last_cpu s ∷ busy (removal_on n s.cpus) ∷ []) ≡ None
      → removal_on n s.cpus ≡ None
  none_open n s clear =
      let a = (neither (no_cpu n s) (first_refusal (offline_cpu n s ∷ last_cpu s ∷ busy (removal_on n s.cpus) ∷ [])) clear).1 in
      let b = (neither (offline_cpu n s) (first_refusal (last_cpu s ∷ busy (removal_on n s.cpus) ∷ [])) a).1 in
      let c = (neither (last_cpu s) (first_refusal (busy (removal_on n s.cpus) ∷ [])) b).1 in
      not_busy (removal_on n s.cpus) (neither (busy (removal_on n s.cpus)) None c).0

  ok_not : {A E : Type 0} {x : A} {y : E} → Ok x ≡ Err y → ⊥
  ok_not {A = A} {E = E} {x = x} {y = y} e = cc

  same_ok : {E : Type 0} {x y : ℕ} → (let a : Result ℕ E = Ok x in let b : Result ℕ E = Ok y in a ≡ b) → x ≡ y
  same_ok {E = E} {x = x} {y = y} e = cc

  err_not : {A E : Type 0} {x : A} {y : E} → Err y ≡ Ok x → ⊥
  err_not {A = A} {E = E} {x = x} {y = y} e = cc

  offline_ok : (n : ℕ) (s t : SystemView R) → Changes firing s (Offline n (Ok tt)) t → Needs (Offline n (Ok tt)) s
      → Keeps (Offline n (Ok tt)) s t
  offline_ok n s t (inl (e, why, is, e')) needs = absurd (ok_not is)
  offline_ok n s t (inr (clear, (report, u, moves, inl (left, is, e')))) needs = absurd (ok_not is)
  offline_ok n s t (inr (clear, (report, u, moves, inr (inl (left, is, found))))) needs = absurd (ok_not is)
  offline_ok n s t (inr (clear, (report, u, moves, inr (inr (left, is, (asked', only, empty, each, off)))))) needs =
      let still = none_open n s clear in
      let a = turns n (single_ids n s) report s u (needs.0 still) moves in
      let b = idles (quiet n (ids_on n u.cpus)) u.cpus asked'.cpus (idle_quiet n (ids_on n u.cpus)) only.0 in
      let c = retires n (ids_on n u.cpus) asked' empty (needs.1 still u.cpus a) each in (
        empty.cpus,
        then s.cpus u.cpus empty.cpus a (then u.cpus asked'.cpus empty.cpus b c),
        ap (λ (x : SystemView R). x.cpus) off,
      )

  offline_err : (n : ℕ) (e : Refusal) (s t : SystemView R) → Changes firing s (Offline n (Err e)) t
      → Needs (Offline n (Err e)) s → K s.cpus t.cpus
  offline_err n e s t (inl (why, whys, is, e')) needs = same_system s t e'
  offline_err n e s t (inr (clear, (report, u, moves, inl (left, is, e')))) needs = then s.cpus u.cpus t.cpus
      (turns n (single_ids n s) report s u (needs (none_open n s clear)) moves) (same_system u t e')
  offline_err n e s t (inr (clear, (report, u, moves, inr (inl (left, is, (before, own, after, found, some, only)))))) needs =
      then s.cpus u.cpus t.cpus (turns n (single_ids n s) report s u (needs (none_open n s clear)) moves)
      (idles (quiet n before ++ on n (AskPending own (Some found)) ∷ []) u.cpus t.cpus
      (idle_on (quiet n before) (on n (AskPending own (Some found)) ∷ []) (idle_quiet n before) (tt, tt)) only.0)
  offline_err n e s t (inr (clear, (report, u, moves, inr (inr (left, is, rest))))) needs = absurd (err_not is)

  online_ok : (n now : ℕ) (s t : SystemView R) → Changes firing s (Online n now (Ok tt)) t → Needs (Online n now (Ok tt)) s
      → Keeps (Online n now (Ok tt)) s t
  online_ok n now s t (inl (e, why, is, e')) needs = absurd (ok_not is)
  online_ok n now s t (inr (clear, ((w, works, switched), records, last))) needs = (
    w,
    walk (on n (Reserve (length (staying s)) (Ok tt)) ∷ on n (Widen (length (staying s))) ∷ returns n now (staying s)) s.cpus w (
      idle (on n (Reserve (length (staying s)) (Ok tt))) tt,
      (idle (on n (Widen (length (staying s)))) tt, returns_good n now (staying s) needs),
    ) works,
    switched,
  )

  sets_one : (n own moment : ℕ) (s t : SystemView R) → G (on n (CpuReprogram own moment (Ok tt)))
      → Works firing (on n (CpuReprogram own moment (Ok tt)) ∷ []) s.cpus t.cpus → K s.cpus t.cpus
  sets_one n own moment s t good works = walk (on n (CpuReprogram own moment (Ok tt)) ∷ []) s.cpus t.cpus (good, tt) works

  pub kept : (s t : SystemView R) (call : SystemCall) → Changes firing s call t → Needs call s → Keeps call s t
  kept s t (Add level when now (Ok own)) d needs = refused_or _ _ _ s t _ d (λ clear k. adds level when now (Ok own) s t
      (λ o e. subst (λ j. May j) (same_ok e) needs) k)
  kept s t (Add level when now (Err e)) d needs = refused_or _ _ _ s t _ d (λ clear k. adds level when now (Err e) s t
      (λ o e'. absurd (err_not e')) k)
  kept s t (AddOmni level when skew now (Ok own)) d needs = refused_or _ _ _ s t _ d
      (λ clear k. omnis level when skew now (Ok own) s t (λ o e. subst (λ j. May j) (same_ok e) needs) k)
  kept s t (AddOmni level when skew now (Err e)) d needs = refused_or _ _ _ s t _ d
      (λ clear k. omnis level when skew now (Err e) s t (λ o e'. absurd (err_not e')) k)
  kept s t (Bind own None answer) d needs = refused_or _ _ _ s t _ d
      (λ clear k. (let (is, n, home, cpus, records) = k in same s.cpus t.cpus cpus))
  kept s t (Bind own (Some n) answer) d needs = refused_or _ _ _ s t _ d
      (λ clear k. (let a = neither (no_cyclic own s) _ clear in let b = neither (omnipresent own s) _ a.1 in
      binds own n answer s t (needs a.0 b.0) k))
  kept s t (BeginRemove own answer) d needs = absurd needs
  kept s t (PollRemove own answer) d needs = absurd needs
  kept s t (AskTotals own (Some totals)) (way, r, is, cpus, only, sums) needs =
      idles (map (asked own) way) s.cpus t.cpus (idle_asked own way) only.0
  kept s t (AskTotals own None) (none', e) needs = same_system s t e
  kept s t (Reprogram own moment (Ok done)) d needs = refused_or _ _ _ s t _ d
      (λ clear k. (let a = neither (no_cyclic own s) _ clear in let b = neither (omnipresent own s) _ a.1 in
      sets_one k.0 own moment s t (needs a.0 b.0 k.0) k.2.1.0))
  kept s t (Reprogram own moment (Err e)) d needs = refused_or _ _ _ s t _ d (λ clear k. absurd (err_not k.2.0))
  kept s t (ReprogramOn own n moment (Ok done)) d needs = refused_or _ _ _ s t _ d
      (λ clear k. (let a = neither (no_cyclic own s) _ clear in let b = neither (no_cpu n s) _ a.1 in
      let c = neither (offline_cpu n s) _ b.1 in let e = neither (no_component own n s) _ c.1 in
      sets_one n own moment s t (needs a.0 e.0) k.1.0))
  kept s t (ReprogramOn own n moment (Err e)) d needs = refused_or _ _ _ s t _ d (λ clear k. absurd (err_not k.0))
  kept s t (Juggle n answer) d needs = refused_or _ _ _ s t _ d
      (λ clear k. (let (report, is, moves) = k in turns n (single_ids n s) report s t (needs (none_open n s clear)) moves))
  kept s t (Offline n (Ok done)) d needs = offline_ok n s t d needs
  kept s t (Offline n (Err e)) d needs = offline_err n e s t d needs
  kept s t (Online n now (Ok done)) d needs = online_ok n now s t d needs
  kept s t (Online n now (Err e)) d needs = refused_or _ _ _ s t _ d (λ clear k.
      idles (on n (Reserve (length (staying s)) (Err e)) ∷ []) s.cpus t.cpus (tt, tt) k.1.0)
  kept s t (Suspend answer) d needs = refused_or _ _ _ s t _ d (λ clear k. idles (on_each CpuSuspend (length s.cpus.cpus)) s.cpus
      t.cpus
      (idle_each CpuSuspend (length s.cpus.cpus) tt) k.1.0)
  kept s t (Resume answer) d needs = refused_or _ _ _ s t _ d (λ clear k. idles (on_each CpuResume (length s.cpus.cpus)) s.cpus
      t.cpus
      (idle_each CpuResume (length s.cpus.cpus) tt) k.1.0)
  kept s t (FireOne n now answer) d needs = absurd d
  kept s t (SoftInterrupt n level budget answer) d needs = absurd d
