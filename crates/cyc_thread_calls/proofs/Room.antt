-- Each CPU has room: it has at most as many cyclics as ids were given, so no new cyclic is refused for want of room.
use Rattle.std.proofs.Common.{◌≡◌, ◌≢◌, ◌∙◌, ℕ, zero, suc, ◌+◌, ◌<◌, ◌≤◌, inl, inr, Some, None}
use Rattle.std.proofs.Common.{Ok, Err, List, [], ◌∷◌, ◌++◌, length, get_or, refl, sym, ap, subst, arith}
use Rattle.std.proofs.lemmas.List.{get_or_default}
use Rattle.std.proofs.lemmas.Option.{slice_get_within, get_or_from_slice_get}
use mathlib.Core.Logic.{dite}
use native.Mathlib.Decide.{ℕ_discrete}
use Rattle.cyc_types.specs.declared.Calls.{Ghosts as Calls}
use Rattle.cyc_types.specs.declared.Raise.{Ghosts as Raise}
use Rattle.cyc_types.specs.Limits.{cyclics as most_cyclics, last_id}
use Rattle.cyc_types.specs.Series.{never}
use Rattle.cyc_types.specs.declared.level.Level.{Level}
use Rattle.cyc_types.specs.declared.moment.When.{When}
use Rattle.cyc_types.specs.declared.refusal.Refusal.{Refusal}
use Rattle.cyc_types.specs.declared.refusal.Refusal.TheVariants as why
use Rattle.cyc_timers.specs.Rows.{Cyclic}
use Rattle.cyc_types.specs.Reasons.{first_refusal, bad_now}
use Rattle.cyc_cpu.specs.Cpu.{CpuView, HasRisingCyclics, running}
use Rattle.cyc_cpu.specs.Moving.{IsSettled}
use Rattle.cyc_cpu.specs.Calls.{CpuChanges as CpuChanges, AskRoom, Reserve, no_interrupts}
use Rattle.cyc_threads.specs.CpuLawsSettled.{IsUntil}
use Rattle.cyc_threads.proofs.Staying.{none_settled, settled_one, never_put_off}
use Rattle.cyc_places.specs.declared.record.Record.{Record}
use Rattle.cyc_places.specs.Places.{HasNoRecord}
use Rattle.cyc_agreement.specs.Cpus.{CpusView, IsCpu, on, ChangesAt, Works}
use Rattle.cyc_agreement.specs.Reserving.{rooms}
use Rattle.cyc_agreement.proofs.CpuSpots.{one_cpu, cpu_there, cpu_beside}
use Rattle.cyc_threads.proofs.Presence.{has_here}
use Rattle.cyc_threads.proofs.FirstReason.{passes, not_never, not_spent}
use Rattle.cyc_threads.proofs.Spots.{none_some}
use Rattle.cyc_threads.specs.System.{SystemView}
use Rattle.cyc_threads.specs.Refusals.{ids_spent}
use Rattle.cyc_threads.specs.Calls.{Changes, Add, AddOmni}
use Rattle.cyc_threads.proofs.Settles.{refused_here}
use Rattle.cyc_threads.specs.Sound.{IsSound}

-- ids that rise from above 0 are above their positions
ids_high : (cs : List Cyclic) → HasRisingCyclics cs → ((j : ℕ) (d : Cyclic) → j < length cs → 0 < (get_or cs j d).timer.id)
    → (j : ℕ) (d : Cyclic) → j < length cs → j < (get_or cs j d).timer.id
ids_high cs rising some zero d low = some zero d low
ids_high cs rising some (suc j) d low = let before = ids_high cs rising some j d (omega (arith, low)) in
    let less = rising j (suc j) d (omega arith) low in omega (arith, before, less)

-- so there are at most as many as the last of them says
few_ids : (cs : List Cyclic) (last : ℕ) → HasRisingCyclics cs
    → ((j : ℕ) (d : Cyclic) → j < length cs → (0 < (get_or cs j d).timer.id) × ((get_or cs j d).timer.id ≤ last))
    → length cs ≤ last
few_ids [] last rising some = omega arith
few_ids (c ∷ cs) last rising some = let high = ids_high (c ∷ cs) rising (λ j d low. (some j d low).0) (length cs) c
    (omega arith) in
    let low = (some (length cs) c (omega arith)).1 in omega (arith, high, low)

-- a run that reaches no handler
abbrev no_calls : Calls (Unit {0})
no_calls = record { count = λ a n. 0; called = λ a n level b. ⊥; may_refuse = λ a n. ⊥ }

module _ {R : Type 0} (firing : Raise R) where
  -- every id that has a record is above 0, so a CPU has at most as many cyclics as ids were given
  pub few_cyclics : (s : SystemView R) → IsSound firing.view s → HasNoRecord 0 s.records → (n : ℕ) (x : CpuView R)
      → IsCpu n x s.cpus
      → length x.cyclics ≤ s.last
  few_cyclics s sound low n x at = few_ids x.cyclics s.last (sound.lawful n x at).rising each
    where
      each : (j : ℕ) (d : Cyclic) → j < length x.cyclics
          → (0 < (get_or x.cyclics j d).timer.id) × ((get_or x.cyclics j d).timer.id ≤ s.last)
      each j d there =
          let c = get_or x.cyclics j d in
          let has = has_here s.cpus n c.timer.id x at (j, c, (there, get_or_default x.cyclics j c d there), refl) in
          let (k, r, here, named, stands, up) = sound.agrees.known n c.timer.id has in
          let given = sound.agrees.given k r here in
          let not : r.id ≢ 0 = λ e. low k r (slice_get_within s.records k r here)
          (ap (λ (q : Record). q.id) (get_or_from_slice_get s.records k r r here) ∙ e) in
          (omega (arith, named, not), omega (arith, named, given))

  -- a CPU that has settled and has room for one more
  pub record HasRoomHere (x : CpuView R) : Type 0 where
    pub settled : IsSettled firing.view x
    pub few : length x.cyclics + 1 ≤ most_cyclics

  abbrev pub AllHaveRoom : CpusView R → Type 0
  AllHaveRoom v = (n : ℕ) (x : CpuView R) → IsCpu n x v → HasRoomHere x

  reserve_done : (e : Refusal) (x y : CpuView R) → CpuChanges firing x (Reserve 1 (Err e)) y → HasRoomHere x
      → e ≢ why.Memory → ⊥
  reserve_done why.Memory x y d h not = not refl
  reserve_done why.Full x y d h not = let same : length y.cyclics ≡ length x.cyclics = ap length d.0.cyclics in
      let full = d.1 in let few = h.few in omega (arith, same, full, few)
  reserve_done why.Expanding x y d h not = refused_here firing 0 1 why.Expanding x y d tt h.settled
  reserve_done (why.Busy id) x y d h not = refused_here firing 0 1 (why.Busy id) x y d tt h.settled
  reserve_done e x y d h not = absurd d.1

  no_room_here : (more : ℕ) (e : Refusal) (x y : CpuView R) → CpuChanges firing x (AskRoom more (Err e)) y → IsUntil e
      → IsSettled firing.view x → ⊥
  no_room_here more e x y d until settled =
      never_put_off firing no_calls no_interrupts (none_settled firing)
      (running tt x) (running tt y) (AskRoom more (Err e)) settled (d, refl) until

  room_done : (e : Refusal) (x y : CpuView R) → CpuChanges firing x (AskRoom 1 (Err e)) y → HasRoomHere x → ⊥
  room_done why.Full x y d h = let same : length y.cyclics ≡ length x.cyclics = ap length d.0.cyclics in
      let full = d.1 in let few = h.few in omega (arith, same, full, few)
  room_done why.Expanding x y d h = no_room_here 1 why.Expanding x y d tt h.settled
  room_done (why.Busy id) x y d h = no_room_here 1 (why.Busy id) x y d tt h.settled
  room_done e x y d h = absurd d.1

  asked_room : (x y : CpuView R) → CpuChanges firing x (AskRoom 1 (Ok tt)) y → HasRoomHere x → HasRoomHere y
  asked_room x y d h = record {
    settled = settled_one firing no_calls no_interrupts (none_settled firing)
        (running tt x) (running tt y) (AskRoom 1 (Ok tt)) h.settled tt d.0.kept.size (d, refl);
    few = (let same : length y.cyclics ≡ length x.cyclics = ap length d.0.cyclics in let few = h.few in
        omega (arith, same, few));
  }

  room_at : (m : ℕ) (D : CpuView R → CpuView R → Type 0) (v w : CpusView R) (c : ChangesAt m D v w)
      → (HasRoomHere c.before → HasRoomHere c.after) → AllHaveRoom v → AllHaveRoom w
  room_at m D v w c keeps h n y at = dite (ℕ_discrete n m)
      (λ e. (let there = subst (λ u. IsCpu m c.after u) (sym c.rest) (cpu_there m c.before c.after v c.here) in
      subst HasRoomHere (sym (one_cpu m y c.after w (subst (λ k. IsCpu k y w) e at) there)) (keeps (h m c.before c.here))))
      (λ ne. h n y (cpu_beside m n y c.after v ne (subst (λ u. IsCpu n y u) c.rest at)))

  -- the CPUs are asked in turn, and none is the first that has none
  rooms_done : (before : List ℕ) (n : ℕ) (e : Refusal) (v w : CpusView R) → AllHaveRoom v
      → Works firing (rooms 1 before ++ on n (AskRoom 1 (Err e)) ∷ []) v w → ⊥
  rooms_done [] n e v w h (u, d, rest) = room_done e d.before d.after d.change (h n d.before d.here)
  rooms_done (m ∷ before) n e v w h (u, d, rest) =
      rooms_done before n e u w (room_at m _ v u d (asked_room d.before d.after d.change) h) rest

  not_first : (now : ℕ) (s : SystemView R) (e : Refusal) → now < never → s.last + 1 ≤ last_id
      → first_refusal (bad_now now ∷ ids_spent s ∷ []) ≡ Some e → ⊥
  not_first now s e early low is =
      none_some (sym (passes (bad_now now) (ids_spent s ∷ []) None
      (not_never now (omega (arith, early)) (λ same. omega (arith, early, same)))
      (passes (ids_spent s) [] None (not_spent s low) refl)) ∙ is)

  -- a new cyclic is refused for want of memory alone
  pub add_done : (level : Level) (when : When) (now : ℕ) (e : Refusal) (s t : SystemView R) → now < never
      → s.last + 1 ≤ last_id → AllHaveRoom s.cpus → e ≢ why.Memory → Changes firing s (Add level when now (Err e)) t → ⊥
  add_done level when now e s t early low h not (inl (x, first, is, same)) = not_first now s x early low first
  add_done level when now e s t early low h not (inr (clear, (d, chosen, inl ((u, c, last), records, given)))) =
      reserve_done e c.before c.after c.change (h d c.before c.here) not
  add_done level when now e s t early low h not (inr (clear, (d, chosen, inr (is, only)))) = not is

  pub omni_done : (level : Level) (when : When) (skew now : ℕ) (e : Refusal) (s t : SystemView R) → now < never
      → s.last + 1 ≤ last_id → AllHaveRoom s.cpus → e ≢ why.Memory → Changes firing s (AddOmni level when skew now (Err e)) t
      → ⊥
  omni_done level when skew now e s t early low h not (inl (x, first, is, same)) = not_first now s x early low first
  omni_done level when skew now e s t early low h not (inr (clear, (inl (inl (before, n, after, works)), records, last))) =
      rooms_done before n e s.cpus t.cpus h works
  omni_done level when skew now e s t early low h not (inr (clear, (inl (inr (u, asks, stops)), records, last))) = not stops.0
  omni_done level when skew now e s t early low h not (inr (clear, (inr (is, reserved), records, last))) = not is
