-- The turns with which a CPU goes offline: why a cyclic is left on it.
use Rattle.std.proofs.Common.{◌≡◌, ◌≢◌, ◌∙◌, ℕ, suc, ◌<◌, ◌≤◌, ◌⊎◌, inl, inr, Bool, true, false, Some, Ok, Err, List, [], ◌∷◌}
use Rattle.std.proofs.Common.{length, refl, sym, ap, subst, arith}
use Rattle.std.specs.Prelude.{◌||◌, slice_set}
use Rattle.std.specs.List.{slice_get}
use Rattle.std.proofs.lemmas.List.{length-set}
use Rattle.std.proofs.lemmas.List.Edits.{length-insert}
use Rattle.std.proofs.lemmas.Option.{slice_get_within}
use mathlib.Core.Logic.{dite}
use native.Mathlib.Decide.{ℕ_discrete}
use Rattle.cyc_types.specs.declared.Raise.{Ghosts as Raise}
use Rattle.cyc_types.specs.declared.refusal.JuggleReport.{JuggleReport}
use Rattle.cyc_cpu.specs.Cpu.{CpuView, cyclic_with}
use Rattle.cyc_cpu.specs.Calls.{CpuCall, CpuChanges as CpuChanges, AskPending, Reserve, Widen, Place}
use Rattle.cyc_places.specs.declared.record.Placement.{Placement}
use Rattle.cyc_places.specs.declared.record.Placement.TheVariants.{On, Everywhere}
use Rattle.cyc_places.specs.declared.record.Record.{Record}
use Rattle.cyc_places.specs.Places.{IsRecord, HasRisingIds, with_placement}
use Rattle.cyc_agreement.specs.Cpus.{CpusView, IsCpu, ChangesAt}
use Rattle.cyc_agreement.specs.Binding.{HasPlacement}
use Rattle.cyc_agreement.proofs.CpuSpots.{one_cpu, cpu_there, cpu_after, get_set_same, get_set_other}
use Rattle.cyc_agreement.proofs.Destinations.{destination_fits}
use Rattle.cyc_agreement.proofs.Lists.{among, false_ne}
use Rattle.cyc_agreement.proofs.Recording.{one_record}
use Rattle.cyc_system_laws.specs.Settling.{RefusedTurn, refused_turns}
use Rattle.cyc_thread_calls.proofs.Spots.{same_some}
use Rattle.cyc_thread_calls.specs.System.{SystemView}
use Rattle.cyc_thread_calls.specs.Turn.{Turn}
use Rattle.cyc_thread_calls.specs.Turn.TheVariants.{StaysBound, StaysPending, StaysRefused, Moves}
use Rattle.cyc_thread_calls.specs.Juggling.{TakesTurn, Turns}
use Rattle.cyc_thread_reasons.proofs.Whereabouts.{turn_stands}

on_same : {n m : ℕ} {a b : Bool} → On n a ≡ On m b → n ≡ m
on_same {n} {m} {a} {b} e = ap (λ (p : Placement). elim p [ On k bound ↦ k | Everywhere first skew ↦ n ]) e

bound_same : {n m : ℕ} {a b : Bool} → On n a ≡ On m b → a ≡ b
bound_same {n} {m} {a} {b} e = ap (λ (p : Placement). elim p [ On k bound ↦ bound | Everywhere first skew ↦ a ]) e

-- one that is among several, and is not the first
others : {id : ℕ} (own : ℕ) (ids : List ℕ) → own ≢ id → among id (own ∷ ids) ≡ true → among id ids ≡ true
others {id = id} own ids ne h = sym (ap (λ b. b || among id ids) (false_ne own id ne)) ∙ h

module _ {R : Type 0} (firing : Raise R) (n : ℕ) where
  -- ---- CPUs beside the source get cyclics, and lose none

  abbrev IsPut : CpuCall → Type 0
  IsPut (AskPending own (Some found)) = Unit {0}
  IsPut (Reserve more answer) = Unit {0}
  IsPut (Widen more) = Unit {0}
  IsPut (Place own level interval moment carried) = Unit {0}
  IsPut call = ⊥

  grows : (x y : CpuView R) (call : CpuCall) → CpuChanges firing x call y → IsPut call → length x.cyclics ≤ length y.cyclics
  grows x y (AskPending own (Some found)) d put = let e = ap length d.0.cyclics in omega (arith, e)
  grows x y (Reserve more (Ok done)) d put = let e = ap length d.0.cyclics in omega (arith, e)
  grows x y (Reserve more (Err e)) d put = let q = ap length d.0.cyclics in omega (arith, q)
  grows x y (Widen more) d put = let e = ap length d.1.cyclics in omega (arith, e)
  grows x y (Place own level interval moment carried) d put =
      let e = ap length d.1.cyclics in let more = length-insert x.cyclics d.1.position
      (cyclic_with own level interval moment carried.sent carried.lost) d.1.within in omega (arith, e, more)
  grows x y call d put = absurd put

  -- the same CPUs are online, and each beside the source has as many cyclics, or more
  pub record Later (v w : CpusView R) : Type 0 where
    pub online : w.online ≡ v.online
    pub long : length w.cpus ≡ length v.cpus
    pub grown : (m : ℕ) (x : CpuView R) → m ≢ n → IsCpu m x v
        → (y : CpuView R) × IsCpu m y w × (length x.cyclics ≤ length y.cyclics)

  later_none : (v : CpusView R) → Later v v
  later_none v = record { online = refl; long = refl; grown = λ m x ne at. (x, at, omega arith) }

  later_same : (v w : CpusView R) → w ≡ v → Later v w
  later_same v w e = subst (λ u. Later v u) (sym e) (later_none v)

  later_then : (u v w : CpusView R) → Later u v → Later v w → Later u w
  later_then u v w a b = record {
    online = b.online ∙ a.online;
    long = b.long ∙ a.long;
    grown = λ m x ne at. (let (y, there, low) = a.grown m x ne at in let (z, last, more) = b.grown m y ne there in
        (z, last, omega (arith, low, more)));
  }

  later_at : (k : ℕ) (D : CpuView R → CpuView R → Type 0) (v w : CpusView R) (c : ChangesAt k D v w)
      → (k ≢ n → length c.before.cyclics ≤ length c.after.cyclics) → Later v w
  later_at k D v w c more = record {
    online = ap (λ (z : CpusView R). z.online) c.rest;
    long = ap (λ (z : CpusView R). length z.cpus) c.rest ∙ length-set v.cpus k c.after;
    grown = λ m x ne at. dite (ℕ_discrete m k)
        (λ e. (
          c.after,
          subst (λ j. IsCpu j c.after w) (sym e)
              (subst (λ u. IsCpu k c.after u) (sym c.rest) (cpu_there k c.before c.after v c.here)),
          (let low = more (λ q. ne (e ∙ q)) in
              let same : length x.cyclics ≡ length c.before.cyclics = ap (λ (z : CpuView R). length z.cyclics)
              (one_cpu k x c.before v (subst (λ j. IsCpu j x v) e at) c.here) in omega (arith, low, same)),
        ))
        (λ apart. (x, cpu_after k m D x v w apart c at, omega arith));
  }

  later_turn : (own : ℕ) (turn : Turn) (s t : SystemView R) → TakesTurn firing n own turn s t → Later s.cpus t.cpus
  later_turn own StaysBound s t (placement, same) = later_same s.cpus t.cpus (ap (λ (u : SystemView R). u.cpus) same)
  later_turn own StaysPending s t (placement, found, some, ((u, d, last), records, l)) = later_then s.cpus u t.cpus
      (later_at n _ s.cpus u d (λ ne. absurd (ne refl))) (later_same u t.cpus (sym last))
  later_turn own StaysRefused s t (placement, d, chosen, e, ((u, a, (v, b, last)), records, l)) =
      later_then s.cpus u t.cpus (later_at n _ s.cpus u a (λ ne. absurd (ne refl)))
      (later_then u v t.cpus (later_at d _ u v b (λ ne. grows b.before b.after (Reserve 1 (Err e)) b.change tt))
      (later_same v t.cpus (sym last)))
  later_turn own Moves s t (placement, d, chosen, (taken, (u1, a, (u2, b, (u3, c, (u4, p, (u5, q, last)))))), records) =
      later_then s.cpus u1 t.cpus (later_at n _ s.cpus u1 a (λ ne. absurd (ne refl)))
      (later_then u1 u2 t.cpus (later_at d _ u1 u2 b (λ ne. grows b.before b.after (Reserve 1 (Ok tt)) b.change tt))
      (later_then u2 u3 t.cpus (later_at n _ u2 u3 c (λ ne. absurd (ne refl)))
      (later_then u3 u4 t.cpus (later_at d _ u3 u4 p (λ ne. grows p.before p.after (Widen 1) p.change tt))
      (later_then u4 u5 t.cpus (later_at d _ u4 u5 q (λ ne. grows q.before q.after
      (Place own taken.level taken.interval taken.moment taken.sent) q.change tt)) (later_same u5 t.cpus (sym last))))))

  later_turns : (ids : List ℕ) (report : JuggleReport) (s t : SystemView R) → Turns firing n ids report s t
      → Later s.cpus t.cpus
  later_turns [] report s t (none, same) = later_same s.cpus t.cpus (ap (λ (u : SystemView R). u.cpus) same)
  later_turns (own ∷ ids) report s t (turn, u, rest, first, counted, more) =
      later_then s.cpus u.cpus t.cpus (later_turn own turn s u first) (later_turns ids rest u t more)

  -- ---- a cyclic that is at the source after a turn was there before it

  module _ (id : ℕ) (bound : Bool) where
    abbrev Home : SystemView R → Type 0
    Home s = HasPlacement id n bound s

    home_records : (s t : SystemView R) → t.records ≡ s.records → Home t → Home s
    home_records s t e (k, r, is, named, placement) = (k, r, subst (λ rs. IsRecord rs k r) e is, named, placement)

    -- it has not moved itself
    home_moved : (own d : ℕ) (s t : SystemView R) (k : ℕ) (r : Record) → n ≢ d → IsRecord s.records k r
        → t.records ≡ slice_set s.records k (with_placement (On d false) r) → Home t
        → (j : ℕ) × (q : Record) × (j ≢ k) × IsRecord s.records j q × (q.id ≡ id) × (q.placement ≡ On n bound)
    home_moved own d s t k r apart here e (j, q, is, named, placement) =
        let at : IsRecord (slice_set s.records k (with_placement (On d false) r)) j q = subst (λ rs. IsRecord rs j q) e is in
        let other : j ≢ k = (λ same. apart (sym (on_same (sym (ap (λ (x : Record). x.placement) (now same at)) ∙ placement)))) in
        (j, q, other, sym (get_set_other s.records k j (with_placement (On d false) r) other) ∙ at, named, placement)
      where
        now : j ≡ k → IsRecord (slice_set s.records k (with_placement (On d false) r)) j q → q ≡ with_placement (On d false) r
        now same at = same_some (sym at
            ∙ ap (λ i. slice_get (slice_set s.records k (with_placement (On d false) r)) i) same
            ∙ get_set_same s.records k (with_placement (On d false) r) (slice_get_within s.records k r here))

    home_turn : (own : ℕ) (turn : Turn) (s t : SystemView R) → TakesTurn firing n own turn s t → Home t → Home s
    home_turn own StaysBound s t (placement, same) h = subst Home same h
    home_turn own StaysPending s t (placement, found, some, only) h = home_records s t only.1 h
    home_turn own StaysRefused s t (placement, d, chosen, e, only) h = home_records s t only.1 h
    home_turn own Moves s t (placement, d, chosen, moves, (k, r, here, named, records, last)) h =
        let (j, q, ne, at, same, there) = home_moved own d s t k r
        (λ e. (destination_fits (Some n) s.cpus d chosen).1 (ap Some e)) here records h in (j, q, at, same, there)

    pub home_turns : (ids : List ℕ) (report : JuggleReport) (s t : SystemView R) → Turns firing n ids report s t → Home t → Home s
    home_turns [] report s t (none, same) h = subst Home same h
    home_turns (own ∷ ids) report s t (turn, u, rest, first, counted, more) h =
        home_turn own turn s u first (home_turns ids rest u t more h)

  -- ---- why it is left

  -- its turn found calls outstanding, or was refused; since then no CPU beside the source has lost a cyclic
  abbrev pub Stopped : (ids : List ℕ) (report : JuggleReport) (s t : SystemView R) → Turns firing n ids report s t → Type 0
  Stopped ids report s t turns = (0 < report.pending) ⊎ ((position : ℕ) × (turn : RefusedTurn R)
      × (slice_get (refused_turns firing n ids report s t turns) position ≡ Some turn) × Later turn.before.cpus t.cpus)

  one_place : (s : SystemView R) (id : ℕ) (a b : Bool) → HasRisingIds s.records → HasPlacement id n a s
      → HasPlacement id n b s → a ≡ b
  one_place s id a b rising (k, r, is, named, placement) (j, q, at, same, there) =
      let e = one_record s.records k j r q rising is at (same ∙ sym named) in
      bound_same (sym placement ∙ ap (λ (x : Record). x.placement)
      (same_some (sym is ∙ ap (λ i. slice_get s.records i) (sym e) ∙ at)) ∙ there)

  pub left_turn : (id : ℕ) (ids : List ℕ) (report : JuggleReport) (s t : SystemView R) (turns : Turns firing n ids report s t)
      → among id ids ≡ true → HasRisingIds s.records → HasPlacement id n false t → Stopped ids report s t turns
  left_turn id [] report s t turns among_them rising home = absurd (let odd : false ≡ true = among_them in cc)
  left_turn id (own ∷ ids) report s t (StaysBound, u, rest, takes, counted, more) among_them rising home =
      dite (ℕ_discrete own id)
      (λ e. absurd (let odd : true ≡ false = one_place s id true false rising
      (subst (λ k. HasPlacement k n true s) e takes.0)
      (home_turn id false own StaysBound s u takes (home_turns id false ids rest u t more home)) in cc))
      (λ ne. by (left_turn id ids rest u t more (others own ids ne among_them)
      (turn_stands firing n own StaysBound s u rising takes).1 home))
    where
      by : Stopped ids rest u t more → Stopped (own ∷ ids) report s t (StaysBound, u, rest, takes, counted, more)
      by (inl some) = inl (let e = ap (λ (r : JuggleReport). r.pending) counted in omega (arith, e, some))
      by (inr found) = inr found
  left_turn id (own ∷ ids) report s t (StaysPending, u, rest, takes, counted, more) among_them rising home =
      inl (let e = ap (λ (r : JuggleReport). r.pending) counted in omega (arith, e))
  left_turn id (own ∷ ids) report s t (
    StaysRefused,
    u,
    rest,
    (placement, d, chosen, x, only),
    counted,
    more,
  ) among_them rising home =
      dite (ℕ_discrete own id)
      (λ e. inr (
        0,
        record { id = own; target = d; why = x; before = s; after = u },
        refl,
        later_turns (own ∷ ids) report s t (StaysRefused, u, rest, (placement, d, chosen, x, only), counted, more),
      ))
      (λ ne. by (left_turn id ids rest u t more (others own ids ne among_them)
      (turn_stands firing n own StaysRefused s u rising (placement, d, chosen, x, only)).1 home))
    where
      by : Stopped ids rest u t more
          → Stopped (own ∷ ids) report s t (StaysRefused, u, rest, (placement, d, chosen, x, only), counted, more)
      by (inl some) = inl (let e = ap (λ (r : JuggleReport). r.pending) counted in omega (arith, e, some))
      by (inr (k, turn, at, later)) = inr (suc k, turn, at, later)
  left_turn id (own ∷ ids) report s t
      (Moves, u, rest, (placement, d, chosen, moves, (k, r, here, named, records, last)), counted, more) among_them rising home =
      dite (ℕ_discrete own id)
      (λ e. absurd (let (j, q, ne, at, same, there) = home_moved id false own d s u k r
      (λ e2. (destination_fits (Some n) s.cpus d chosen).1 (ap Some e2)) here records
      (home_turns id false ids rest u t more home) in
      ne (one_record s.records k j r q rising here at (same ∙ sym e ∙ sym named))))
      (λ ne. by (left_turn id ids rest u t more (others own ids ne among_them)
      (turn_stands firing n own Moves s u rising (placement, d, chosen, moves, (k, r, here, named, records, last))).1 home))
    where
      by : Stopped ids rest u t more → Stopped (own ∷ ids) report s t
          (Moves, u, rest, (placement, d, chosen, moves, (k, r, here, named, records, last)), counted, more)
      by (inl some) = inl (let e = ap (λ (r : JuggleReport). r.pending) counted in omega (arith, e, some))
      by (inr found) = inr found
