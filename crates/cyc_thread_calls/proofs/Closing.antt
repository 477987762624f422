-- A run in threads from its opening to its closing, as what the laws of a system over rings speak of.
use Rattle.std.proofs.Common.{◌≡◌, ◌∙◌, ℕ, suc, ◌+◌, List, [], ◌∷◌, Some, map, refl, sym}
use Rattle.std.proofs.Common.{ap, subst, arith}
use Rattle.std.specs.Prelude.{sum_by, flat_map}
use Rattle.std.specs.List.{slice_get, FoldsTo}
use Rattle.std.proofs.lemmas.List.Sums.{sum_by-cons}
use Rattle.cyc_types.specs.declared.Calls.{Ghosts as Calls}
use Rattle.cyc_types.specs.Levels.{at_level, as_level}
use Rattle.cyc_types.specs.declared.level.Level.{Level}
use Rattle.cyc_types.specs.declared.level.Level.TheVariants.{Low, Lock, High}
use Rattle.cyc_types.specs.declared.level.Soft.{Soft}
use Rattle.cyc_types.specs.declared.level.Soft.TheVariants as soft
use Rattle.cyc_types.specs.Pairs.{EachTwo}
use Rattle.ring_rule.specs.Conservation.{IsAccounted}
use Rattle.cyc_ring.specs.declared.closed.Closed.{Closed}
use Rattle.cyc_ring.specs.declared.ends.RaiseEnd.{RaiseEnd}
use Rattle.cyc_ring.specs.declared.seats.RaiseSeat.{RaiseSeat}
use Rattle.cyc_ring.specs.Ends.{raise_end, end_view, raise_trail, drain_trail, seat_made}
use Rattle.cyc_cpu.specs.Cpu.{CpuView}
use Rattle.cyc_cpu.specs.Moving.{IsSettled}
use Rattle.cyc_script.specs.declared.script.Script.{Script}
use Rattle.cyc_threads.specs.Serving.{HasServed}
use Rattle.cyc_threads.specs.Seats.{Seats}
use Rattle.cyc_threads.specs.SystemSide.{SystemSide}
use Rattle.cyc_threads.specs.Sound.{IsSound}
use Rattle.cyc_system_rings.specs.Leading.{LeadCall, Make, FireAll, AskAll, LeadSteps}
use Rattle.cyc_system_rings.specs.Rings.{AreSettledAndClosed, IsClosedOver, counted_by}
use Rattle.cyc_system_rings.specs.ByLevel.{counts_at, made_at, rings_of, AreServed, LeadsFromNew, HasNewEnds}
use Rattle.cyc_system_rings.proofs.AtRings.{at_level as each_level, high_keeps, made_of, served_of}
use Rattle.cyc_system_rings.specs.Events.{AcceptedSteps}
use Rattle.cyc_threads.specs.Levels.{Levels}
use Rattle.cyc_threads.specs.Seated.{Seated}
use Rattle.cyc_threads.specs.Laid.{two}
use Rattle.cyc_threads.specs.Rings.{IsClosed, AreClosed as AreLeft, firing_seats, seats_on}
use Rattle.cyc_threads.proofs.Quiet.{lines_quiet}
use Rattle.cyc_threads.specs.declared.running.Ended.{Ended}
use Rattle.cyc_threads.specs.Running.{HasRun, HaveServed}
use Rattle.cyc_threads.proofs.Playing.{each_same}
use Rattle.cyc_thread_calls.specs.Calling.{calls_at_level, lead_calls}
use Rattle.cyc_thread_calls.proofs.Going.{all_go}
use Rattle.cyc_thread_calls.proofs.Lining.{run_rests}
use Rattle.cyc_thread_calls.proofs.Starting.{new_trails, is_new, first_ready, first_sound}

-- ---- lists by the numbers of the CPUs

closed_one : (x : RaiseEnd) (s : Seats) (c : Closed) → s.raise ≡ x.seat → IsClosed s c → IsClosedOver x c
closed_one x s c same is = (
  ap raise_trail is.raise_seat ∙ ap raise_trail same,
  subst (λ (r : RaiseSeat). IsAccounted (raise_trail r) (drain_trail c.drain_seat.value)) (sym is.raise_seat)
      (subst (λ d. IsAccounted (raise_trail s.raise) (drain_trail d)) (sym is.drain_seat) is.accounted),
)

module _ {C : Type 0} where
  closed_all : (xs : List (CpuView RaiseEnd)) (all : List (Seated C)) (rings : List (Levels Closed))
      → EachTwo (λ (s : Seated C) y. firing_seats s ≡ seats_on y) all xs
      → ((n : ℕ) (y : CpuView RaiseEnd) → slice_get xs n ≡ Some y → IsSettled end_view y)
      → EachTwo AreLeft (map (λ (s : Seated C). s.seats) all) rings → AreSettledAndClosed xs (flat_map two rings)
  closed_all [] [] [] same settled left = tt
  closed_all [] [] (c ∷ rings) same settled left = absurd left
  closed_all [] (s ∷ all) rings same settled left = absurd same
  closed_all (x ∷ xs) [] rings same settled left = absurd same
  closed_all (x ∷ xs) (s ∷ all) [] same settled left = absurd left
  closed_all (x ∷ xs) (s ∷ all) (c ∷ rings) (own, same) settled ((lock, low), left) = (
    settled 0 x refl,
    closed_one x.lock s.seats.lock c.lock (ap (λ p. p.0) own) lock,
    closed_one x.low s.seats.low c.low (ap (λ p. p.1) own) low,
    closed_all xs all rings same (λ n y at. settled (suc n) y at) left,
  )

  module _ (called : C → ℕ → Level → C → Type 0) (count : C → ℕ → ℕ) where
    served_lock : (before after : List (Seated C)) (rings : List (Levels Closed)) → EachTwo (HaveServed called count) before after
        → EachTwo AreLeft (map (λ (s : Seated C). s.seats) after) rings
        → AreServed (at_level called Lock) count (rings_of soft.Lock (flat_map two rings))
        (map (λ s. s.calls.lock) before) (map (λ s. s.calls.lock) after)
    served_lock [] [] [] served left = tt
    served_lock [] [] (c ∷ rings) served left = absurd left
    served_lock [] (t ∷ after) rings served left = absurd served
    served_lock (s ∷ before) [] rings served left = absurd served
    served_lock (s ∷ before) (t ∷ after) [] served left = absurd left
    served_lock (s ∷ before) (t ∷ after) (c ∷ rings) (one, served) ((lock, low), left) = (
      subst (λ d. HasServed (at_level called Lock) count (seat_made d) s.calls.lock t.calls.lock) (sym lock.drain_seat) one.lock,
      served_lock before after rings served left,
    )

    served_low : (before after : List (Seated C)) (rings : List (Levels Closed)) → EachTwo (HaveServed called count) before after
        → EachTwo AreLeft (map (λ (s : Seated C). s.seats) after) rings
        → AreServed (at_level called Low) count (rings_of soft.Low (flat_map two rings))
        (map (λ s. s.calls.low) before) (map (λ s. s.calls.low) after)
    served_low [] [] [] served left = tt
    served_low [] [] (c ∷ rings) served left = absurd left
    served_low [] (t ∷ after) rings served left = absurd served
    served_low (s ∷ before) [] rings served left = absurd served
    served_low (s ∷ before) (t ∷ after) [] served left = absurd left
    served_low (s ∷ before) (t ∷ after) (c ∷ rings) (one, served) ((lock, low), left) = (
      subst (λ d. HasServed (at_level called Low) count (seat_made d) s.calls.low t.calls.low) (sym low.drain_seat) one.low,
      served_low before after rings served left,
    )

-- the sum over what a list is mapped to
sum_mapped : {A B : Type 0} (f : A → B) (h : B → ℕ) (xs : List A) → sum_by (λ x. h (f x)) xs ≡ sum_by h (map f xs)
sum_mapped f h [] = refl
sum_mapped f h (x ∷ xs) = let a = sum_by-cons (λ y. h (f y)) x xs in let b = sum_by-cons h (f x) (map f xs) in
    let c = sum_mapped f h xs in omega (arith, a, b, c)

-- ---- a run

module _ {C : Type 0} (handler : Calls C) where
  -- one in which no fire is refused is one of a run
  one_leads : (s t : SystemSide RaiseEnd C) (call : LeadCall)
      → AcceptedSteps handler raise_end s call t
      → LeadSteps handler raise_end s call t
  one_leads s t (Make call) d = d
  one_leads s t (FireAll now) (after, fired, accepted, same, sound) = ((after, fired, same), sound)
  one_leads s t AskAll d = d

  pub all_lead : (way : List LeadCall) (s t : SystemSide RaiseEnd C)
      → FoldsTo (AcceptedSteps handler raise_end) s way t
      → FoldsTo (LeadSteps handler raise_end) s way t
  all_lead [] s t e = e
  all_lead (call ∷ way) s t (u, d, rest) = (u, one_leads s u call d, all_lead way u t rest)

  module _ (script : Script) (calls : List C) (e : Ended C) (text : List ℕ)
      (r : HasRun handler script calls e text)
    where
      abbrev way : List LeadCall
      way = lead_calls handler script calls e text r

      pub run_sound : IsSound end_view r.played.first.side.system
      run_sound = let (some, few) = script.cpus_in_range in let many = r.many in
          first_sound _ script.ceiling r.before r.played.first r.played.begins r.new (omega (arith, many, some))
          (omega (arith, many, few))

      pub run_accepted : FoldsTo (AcceptedSteps handler raise_end) r.played.first.side way r.played.told.side
      run_accepted = all_go handler raise_end script.steps.items r.lines r.played.first r.played.last
          r.played.told r.played.runs r.played.reports

      pub from_new : LeadsFromNew handler r.played.first.side way r.played.told.side
      from_new = record {
        begins = record {
          empty = λ n cpu at. (let (e, is, here) = is_new _ script.ceiling r.before r.played.first r.played.begins r.new n cpu at
              in
              ap (λ (x : CpuView RaiseEnd). x.cyclics) is);
          records = r.played.begins.records;
          last = r.played.begins.last;
        };
        sound = run_sound;
        ready = first_ready _ script.ceiling r.before r.played.first r.played.begins r.new;
        run = all_lead way r.played.first.side r.played.told.side run_accepted;
      }

      pub new_ends : HasNewEnds r.played.first.side.system
      new_ends n cpu at =
          let (e, is, here) = is_new _ script.ceiling r.before r.played.first r.played.begins r.new n cpu at in
          let (a, b) = new_trails _ script.ceiling r.before r.played.first r.played.begins r.new n e here in (
            ap (λ (x : CpuView RaiseEnd). raise_trail x.lock.seat) is ∙ a,
            ap (λ
                (x : CpuView RaiseEnd). raise_trail x.low.seat) is ∙ b,
          )

      pub run_closed : AreSettledAndClosed r.played.told.side.system.cpus.cpus e.rings.items
      run_closed = subst (λ (l : List Closed). AreSettledAndClosed r.played.told.side.system.cpus.cpus l) (sym r.closed.laid)
          (closed_all r.played.told.side.system.cpus.cpus r.after r.closed.by_cpu
          (each_same firing_seats seats_on r.after r.played.told.side.system.cpus.cpus r.played.ends.firing)
          (lines_quiet raise_end r.played.reports.all r.played.last r.played.told r.played.reports.tells
          (run_rests handler raise_end r.played.first script.steps.items r.played.last
          r.played.runs)).0
          r.closed.closed)

      -- as often as a level's rings made calls of an id
      pub rings_made : (own : Soft) (id : ℕ) → made_at own id e.rings.items
          + (counts_at (as_level own) id way r.played.told.side.system).lost
          ≡ (counts_at (as_level own) id way r.played.told.side.system).sent
      rings_made own id = made_of handler id r.played.first.side r.played.told.side way from_new new_ends e.rings.items
          run_closed own

      high_led : (id : ℕ) (all : List (Seated C)) (s : SystemSide RaiseEnd C)
          → map (λ l. l.calls) s.leads.items ≡ map (λ (x : Seated C). x.calls.high) all
          → counted_by handler.count id s.leads.items ≡ calls_at_level handler.count High id all
      high_led id all s same = sum_mapped (λ l. l.calls) (λ c. handler.count c id) s.leads.items
          ∙ ap (λ l. sum_by (λ c. handler.count c id) l) same

      -- the calls of an id that the handlers of a level had
      pub handlers_called : (level : Level) (id : ℕ) → calls_at_level handler.count level id r.after
          + (counts_at level id way r.played.told.side.system).lost
          ≡ calls_at_level handler.count level id r.before + (counts_at level id way r.played.told.side.system).sent
      handlers_called High id =
          let a = (each_level handler id r.played.first.side r.played.told.side way from_new High).0 in
          let b = high_keeps handler id r.played.first.side r.played.told.side way from_new in
          let c = high_led id r.before r.played.first.side r.played.begins.high in
          let d = high_led id r.after r.played.told.side (sym r.played.ends.high) in omega (arith, a, b, c, d)
      handlers_called Lock id = served_of handler id r.played.first.side r.played.told.side way from_new new_ends
          e.rings.items run_closed soft.Lock (map (λ s. s.calls.lock) r.before) (map (λ s. s.calls.lock) r.after)
          (subst (λ l. AreServed (at_level handler.called Lock) handler.count (rings_of soft.Lock l)
          (map (λ s. s.calls.lock) r.before)
          (map (λ s. s.calls.lock) r.after)) (sym r.closed.laid)
          (served_lock handler.called handler.count r.before r.after r.closed.by_cpu r.played.served r.closed.closed))
      handlers_called Low id = served_of handler id r.played.first.side r.played.told.side way from_new new_ends
          e.rings.items run_closed soft.Low (map (λ s. s.calls.low) r.before) (map (λ s. s.calls.low) r.after)
          (subst (λ l. AreServed (at_level handler.called Low) handler.count (rings_of soft.Low l)
          (map (λ s. s.calls.low) r.before)
          (map (λ s. s.calls.low) r.after)) (sym r.closed.laid)
          (served_low handler.called handler.count r.before r.after r.closed.by_cpu r.played.served r.closed.closed))
