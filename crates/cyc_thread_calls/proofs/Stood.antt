-- What stands on each ring of a run, between any two of its atomic steps.
use Rattle.std.proofs.Common.{◌≡◌, ◌∙◌, ℕ, zero, suc, ◌+◌, ◌<◌, List, [], ◌∷◌, ◌++◌, Option, Some, None, map, length, refl}
use Rattle.std.proofs.Common.{sym, ap, subst, arith}
use Rattle.std.specs.Prelude.{flat_map}
use Rattle.std.specs.List.{slice_get}
use Rattle.std.proofs.lemmas.Option.{slice_get_within}
use Rattle.cyc_types.specs.declared.Calls.{Ghosts as Calls}
use Rattle.cyc_types.specs.declared.level.Soft.{Soft}
use Rattle.cyc_types.specs.declared.level.Soft.TheVariants.{Low, Lock}
use Rattle.cyc_types.specs.Pairs.{EachTwo}
use Rattle.cyc_level.specs.declared.Event.{Event}
use Rattle.cyc_level.specs.Level.{AdmittedCyclic, count_in}
use Rattle.cyc_level.specs.Runs.{StayCounts, firing_events, expirations_of_id, losses, past_calls, finishes}
use Rattle.cyc_level.proofs.Stays.{IsSplit, split_finishes, over_stays, expirations_firing, losses_firing, past_calls_firing}
use Rattle.ring_rule.specs.declared.RaiseStep.{RaiseStep}
use Rattle.ring_rule.specs.declared.Setting.{Setting}
use Rattle.ring_rule.specs.Trail.{raise_events, open_stay, ended_calls, raises_of, losses_on_trail, made_calls}
use Rattle.ring_rule.specs.Log.{RingStep, raise_side, raise_positions, drain_side, drain_positions, events_of, level_after_steps}
use Rattle.ring_rule.specs.Log.{replay}
use Rattle.ring_rule.specs.Shown.{IsSameStay}
use Rattle.ring_rule.specs.Conservation.{LevelStands, AllStood}
use Rattle.ring_rule.specs.Laws.{placed}
use Rattle.ring_rule.proofs.Log.{firing_side, same_log}
use Rattle.ring_rule.proofs.Truths.{stood_at, stands_now}
use Rattle.cyc_ring.specs.declared.closed.Closed.{Closed}
use Rattle.cyc_ring.specs.declared.seats.RaiseSeat.{RaiseSeat}
use Rattle.cyc_ring.specs.declared.seats.DrainSeat.{DrainSeat}
use Rattle.cyc_ring.specs.Ends.{IsOrderOf}
use Rattle.cyc_script.specs.declared.script.Script.{Script}
use Rattle.cyc_system_rings.specs.ByLevel.{rings_of}
use Rattle.cyc_threads.specs.Seats.{Seats}
use Rattle.cyc_threads.specs.Levels.{Levels}
use Rattle.cyc_threads.specs.Seated.{Seated}
use Rattle.cyc_threads.specs.Laid.{two}
use Rattle.cyc_threads.specs.Rings.{IsClosed, AreClosed as AreLeft, firing_seats, seats_on}
use Rattle.cyc_threads.specs.declared.running.Ended.{Ended}
use Rattle.cyc_threads.specs.Running.{HasRun, HaveServed}
use Rattle.cyc_threads.proofs.Spots.{same_some, none_some}
use Rattle.cyc_thread_calls.specs.Standing.{seats_of, IsRingOf, setting_of, IsLogOf, still_counted, IsConservedAfter}
use Rattle.cyc_thread_calls.proofs.Starting.{beside}
use Rattle.cyc_thread_calls.proofs.Spared.{spare_last}

-- ---- a moment

module _ (k : Setting) (log : List RingStep) (L : LevelStands k log) (id : ℕ) where
  abbrev raises : List RaiseStep
  raises = raise_side log

  abbrev made : ℕ
  made = made_calls id (drain_side log)

  abbrev events : List Event
  events = events_of log

  -- what the firing side's trail says, the events say
  of_events : {A : Type 0} (f : List Event → A) → ((xs : List Event) → f (firing_events xs) ≡ f xs)
      → f (raise_events raises) ≡ f events
  of_events f same = ap f (sym (firing_side log)) ∙ same events

  -- an id with no open stay is not admitted, and the pend word of an open stay counts what is outstanding
  counted : (o : Option StayCounts) (p : Option AdmittedCyclic) → open_stay id raises ≡ o
      → (level_after_steps k.ceiling log).cyclics id ≡ p → IsSameStay made (ended_calls id raises) o p
      → still_counted (replay k.start log) o ≡ count_in p
  counted None None stay here same = refl
  counted None (Some c) stay here same = absurd same
  counted (Some s) None stay here same = absurd same
  counted (Some s) (Some c) stay here same = let b = L.booked id s stay in let owed = b.1 in let all = b.2 in
      let sums = L.lawful.conserved id c here in let sent = same.1 in let lost = same.2 in let done = same.3 in
      omega (arith, owed, all, sums, sent, lost, done)

  -- the finishes of the run are those in the soft side's trail
  finished : (o : Option StayCounts) (p : Option AdmittedCyclic) → IsSameStay made (ended_calls id raises) o p
      → IsSplit (finishes k.ceiling id events) (past_calls id events) p → finishes k.ceiling id events ≡ made
  finished None None same split = let past = of_events (past_calls id) (past_calls_firing id) in omega (arith, past, same, split)
  finished None (Some c) same split = absurd same
  finished (Some s) None same split = absurd same
  finished (Some s) (Some c) same split = let past = of_events (past_calls id) (past_calls_firing id) in let done = same.3 in
      omega (arith, past, done, split)

  raises_counted : raises_of id raises
      ≡ made + still_counted (replay k.start log) (open_stay id raises) + losses_on_trail id raises
  raises_counted =
      let p : Option AdmittedCyclic = (level_after_steps k.ceiling log).cyclics id in let same = L.shows.stays id in
      let total = (over_stays k.ceiling id events L.enabled).total in
      let sent = of_events (expirations_of_id id) (expirations_firing id) in
      let lost = of_events (losses id) (losses_firing id) in
      let count = counted (open_stay id raises) p refl refl same in
      let done = finished (open_stay id raises) p same (split_finishes k.ceiling id events L.enabled) in
      omega (arith, total, sent, lost, count, done)

conserved_after : (k : Setting) (log : List RingStep) → LevelStands k log → IsConservedAfter k log
conserved_after k log L id = raises_counted k log L id

-- ---- a ring

-- no two logs have the same trails with the same positions
one_log : (ring : Closed) (l m : List RingStep) → IsLogOf ring l → IsLogOf ring m → l ≡ m
one_log ring l m (a, b) (c, d) =
    let raises : raise_side l ≡ raise_side m = sym a.0 ∙ c.0 in let drains : drain_side l ≡ drain_side m = sym b.0 ∙ d.0 in
    let raises_at : raise_positions l ≡ raise_positions m = sym a.1 ∙ c.1 in
    let drains_at : drain_positions l ≡ drain_positions m = sym b.1 ∙ d.1 in
    same_log l m (λ z. placed (raises_at z) (raises z)) (λ z. placed (drains_at z) (drains z))

ring_stood : (s : Seats) (ring : Closed) → IsClosed s ring
    → (log : List RingStep) × IsLogOf ring log × AllStood (setting_of ring) log
ring_stood s ring is = subst
    (λ (p : RaiseSeat × DrainSeat). (log : List RingStep) × IsOrderOf log p.0 p.1 × AllStood p.0.setting log)
    (λ z. (sym is.raise_seat z, sym is.drain_seat z)) is.stood

stands_at : (s : Seats) (ring : Closed) (later earlier : List RingStep) → IsClosed s ring → IsLogOf ring (later ++ earlier)
    → LevelStands (setting_of ring) earlier
stands_at s ring later earlier is whole = let (log, order, stood) = ring_stood s ring is in
    stands_now (setting_of ring) earlier (stood_at (setting_of ring) later earlier
    (subst (λ (l : List RingStep). AllStood (setting_of ring) l) (one_log ring log (later ++ earlier) order whole) stood))

-- ---- the rings of a run

module _ {A B : Type 0} (P : A → B → Type 0) where
  -- an element of the second list stands beside one of the first
  each_beside : (xs : List A) (ys : List B) → EachTwo P xs ys → (n : ℕ) (y : B) → slice_get ys n ≡ Some y
      → (x : A) × (slice_get xs n ≡ Some x) × P x y
  each_beside [] [] each n y at = absurd (none_some at)
  each_beside [] (w ∷ ys) each n y at = absurd each
  each_beside (x ∷ xs) [] each n y at = absurd each
  each_beside (x ∷ xs) (w ∷ ys) each zero y at = (x, refl, subst (P x) (same_some at) each.0)
  each_beside (x ∷ xs) (w ∷ ys) each (suc n) y at = each_beside xs ys each.1 n y at

  -- two stand at each position
  each_there : (xs : List A) (ys : List B) → EachTwo P xs ys → (n : ℕ) → n < length xs
      → (x : A) × (y : B) × (slice_get xs n ≡ Some x) × (slice_get ys n ≡ Some y) × P x y
  each_there [] [] each n low = absurd (omega (arith, low))
  each_there [] (w ∷ ys) each n low = absurd each
  each_there (x ∷ xs) [] each n low = absurd each
  each_there (x ∷ xs) (w ∷ ys) each zero low = (x, w, refl, refl, each.0)
  each_there (x ∷ xs) (w ∷ ys) each (suc n) low = each_there xs ys each.1 n (omega (arith, low))

module _ {C : Type 0} where
  -- the ring was closed with the seats that the CPU has at this level
  abbrev IsOwn : Soft → Seated C → Closed → Type 0
  IsOwn soft s ring = IsClosed (seats_of soft s) ring

  at_level : (soft : Soft) (all : List (Seated C)) (rings : List (Levels Closed))
      → EachTwo AreLeft (map (λ (s : Seated C). s.seats) all) rings
      → EachTwo (IsOwn soft) all (rings_of soft (flat_map two rings))
  at_level Lock [] [] left = tt
  at_level Lock [] (c ∷ rings) left = absurd left
  at_level Lock (s ∷ all) [] left = absurd left
  at_level Lock (s ∷ all) (c ∷ rings) ((lock, low), left) = (lock, at_level Lock all rings left)
  at_level Low [] [] left = tt
  at_level Low [] (c ∷ rings) left = absurd left
  at_level Low (s ∷ all) [] left = absurd left
  at_level Low (s ∷ all) (c ∷ rings) ((lock, low), left) = (low, at_level Low all rings left)

-- its firing seat is that of the CPU's end
same_seat : {C : Type 0} (soft : Soft) (s : Seated C) (ring : Closed) (k : ℕ) → IsOwn soft s ring
    → (s.seats.lock.raise.setting.ceiling ≡ k) × (s.seats.low.raise.setting.ceiling ≡ k) → (setting_of ring).ceiling ≡ k
same_seat Lock s ring k is (lock, low) = ap (λ (r : RaiseSeat). r.setting.ceiling) is.raise_seat ∙ lock
same_seat Low s ring k is (lock, low) = ap (λ (r : RaiseSeat). r.setting.ceiling) is.raise_seat ∙ low

module _ {C : Type 0} (handler : Calls C) (script : Script) (calls : List C) (e : Ended C) (text : List ℕ)
    (r : HasRun handler script calls e text) where
  own_rings : (soft : Soft) → EachTwo (IsOwn soft) r.after (rings_of soft e.rings.items)
  own_rings soft = subst (λ (l : List Closed). EachTwo (IsOwn soft) r.after (rings_of soft l)) (sym r.closed.laid)
      (at_level soft r.after r.closed.by_cpu r.closed.closed)

  own_seats : (soft : Soft) (cpu : ℕ) (ring : Closed) → IsRingOf cpu soft e.rings.items ring
      → (own : Seated C) × (slice_get r.after cpu ≡ Some own) × IsOwn soft own ring
  own_seats soft cpu ring at = each_beside (IsOwn soft) r.after (rings_of soft e.rings.items) (own_rings soft) cpu ring at

  pub cpu_ring : (soft : Soft) (cpu : ℕ) → cpu < script.cpus
      → (own : Seated C) × (ring : Closed) × (slice_get r.after cpu ≡ Some own) × IsRingOf cpu soft e.rings.items ring
      × IsClosed (seats_of soft own) ring
  cpu_ring soft cpu low = let many = r.many in
      let (was, own, before, here, served) = each_there (HaveServed handler.called handler.count) r.before r.after r.played.served
      cpu (omega (arith, low, many)) in
      each_there (IsOwn soft) r.after (rings_of soft e.rings.items) (own_rings soft) cpu (slice_get_within r.after cpu own here)

  -- a CPU's ends have the ceiling of the script at last, as at first
  ceilings : (cpu : ℕ) (own : Seated C) → slice_get r.after cpu ≡ Some own
      → (own.seats.lock.raise.setting.ceiling ≡ script.ceiling) × (own.seats.low.raise.setting.ceiling ≡ script.ceiling)
  ceilings cpu own at =
      let (x, here, same) = beside firing_seats seats_on r.after r.played.told.side.system.cpus.cpus r.played.ends.firing cpu own
      at in let (lock, low) = spare_last handler script calls e text r cpu x here in
      (ap (λ p. p.0.setting.ceiling) same ∙ lock.same, ap (λ p. p.1.setting.ceiling) same ∙ low.same)

  pub ring_ceiling : (soft : Soft) (cpu : ℕ) (ring : Closed) → IsRingOf cpu soft e.rings.items ring
      → (setting_of ring).ceiling ≡ script.ceiling
  ring_ceiling soft cpu ring at = let (own, here, is) = own_seats soft cpu ring at in
      same_seat soft own ring script.ceiling is (ceilings cpu own here)

  pub ring_log : (soft : Soft) (cpu : ℕ) (ring : Closed) → IsRingOf cpu soft e.rings.items ring
      → (log : List RingStep) × IsLogOf ring log × ((other : List RingStep) → IsLogOf ring other → other ≡ log)
  ring_log soft cpu ring at = let (own, here, is) = own_seats soft cpu ring at in
      let (log, order, stood) = ring_stood (seats_of soft own) ring is in
      (log, order, λ other also. one_log ring other log also order)

  pub ring_stands : (soft : Soft) (cpu : ℕ) (ring : Closed) (later earlier : List RingStep)
      → IsRingOf cpu soft e.rings.items ring → IsLogOf ring (later ++ earlier) → LevelStands (setting_of ring) earlier
  ring_stands soft cpu ring later earlier at whole = let (own, here, is) = own_seats soft cpu ring at in
      stands_at (seats_of soft own) ring later earlier is whole

  pub ring_conserved : (soft : Soft) (cpu : ℕ) (ring : Closed) (later earlier : List RingStep)
      → IsRingOf cpu soft e.rings.items ring → IsLogOf ring (later ++ earlier) → IsConservedAfter (setting_of ring) earlier
  ring_conserved soft cpu ring later earlier at whole =
      conserved_after (setting_of ring) earlier (ring_stands soft cpu ring later earlier at whole)
