-- Why a CPU can't go offline: a cyclic is left on it.
use Rattle.std.proofs.Common.{◌≡◌, ◌≢◌, ◌∙◌, ◌==◌, ℕ, suc, ◌-◌, ◌<◌, ◌≤◌, ◌⊎◌, inl, inr, Bool, true, false, cond, not, All}
use Rattle.std.proofs.Common.{Some, None, List, [], ◌∷◌, filter, length, get_or, refl, sym, ap, subst, arith}
use Rattle.std.specs.Prelude.{◌||◌}
use Rattle.std.specs.List.{slice_get, list_any}
use Rattle.std.specs.Option.{option_map_or}
use Rattle.std.proofs.lemmas.Option.{slice_get_within, get_or_from_slice_get}
use Rattle.cyc_types.specs.declared.Raise.{Ghosts as Raise}
use Rattle.cyc_types.specs.Limits.{cyclics as most_cyclics}
use Rattle.cyc_types.specs.declared.refusal.JuggleReport.{JuggleReport}
use Rattle.cyc_types.specs.declared.refusal.Refusal.TheVariants as why
use Rattle.cyc_types.specs.Reasons.{first_refusal}
use Rattle.cyc_places.specs.declared.record.Placement.{Placement}
use Rattle.cyc_places.specs.declared.record.Placement.TheVariants.{On, Everywhere}
use Rattle.cyc_places.specs.declared.record.Record.{Record}
use Rattle.cyc_places.specs.Places.{IsRecord, HasRisingIds, is_everywhere as is_placed_everywhere}
use Rattle.cyc_agreement.specs.Cpus.{IsCpu, IsOnline, online_cpus}
use Rattle.cyc_agreement.specs.Agreement.{Stands}
use Rattle.cyc_agreement.specs.Binding.{HasPlacement}
use Rattle.cyc_agreement.specs.Destination.{destination}
use Rattle.cyc_system.specs.Juggling.{juggle_refusals}
use Rattle.cyc_agreement.specs.System.{ids_on, has}
use Rattle.cyc_agreement.proofs.CpuSpots.{cpu_beside}
use Rattle.cyc_agreement.proofs.Destinations.{destination_fits}
use Rattle.cyc_agreement.proofs.Lists.{among, any_at, true_eq, eq_true}
use Rattle.cyc_agreement.proofs.Recording.{record_here}
use Rattle.cyc_system_laws.specs.Settling.{RefusedTurn, refused_turns, IsRefusedTurn, IsUnsettledOrGrown}
use Rattle.cyc_system_laws.proofs.Turning.{left_none, counted, stopped}
use Rattle.cyc_thread_calls.specs.CpuLawsSettled.{IsUntil}
use Rattle.cyc_thread_calls.proofs.Spots.{same_some}
use Rattle.cyc_thread_calls.specs.System.{SystemView, is_omnipresent, is_online as is_up}
use Rattle.cyc_thread_calls.specs.Juggling.{MovesAway, single_ids}
use Rattle.cyc_thread_calls.specs.Sound.{IsSound}
use Rattle.cyc_thread_calls.specs.Settled.{AllSettled}
use Rattle.cyc_thread_calls.specs.Named.{Named}
use Rattle.cyc_thread_calls.specs.Named.TheVariants.{Cyclic}
use Rattle.cyc_thread_calls.specs.Progress.{Progress}
use Rattle.cyc_thread_calls.specs.Names.{named_at, cyclic_id, NoneLeaves}
use Rattle.cyc_thread_reasons.specs.Known.{Absent, Known}
use Rattle.cyc_thread_reasons.specs.Reasons.{is_single, is_bound_to, how_many, many_online, are_too_many}
use Rattle.cyc_thread_reasons.specs.Explained.{IsTurnPutOff, IsLeft}
use Rattle.cyc_thread_reasons.proofs.Counting.{numbers_differ, all_but_one}
use Rattle.cyc_thread_reasons.proofs.Whereabouts.{stands_at, whereabouts_of}
use Rattle.cyc_thread_reasons.proofs.Fitting.{given_of, Fits, name_low}
use Rattle.cyc_thread_reasons.proofs.Reasoning.{read_up, many}
use Rattle.cyc_thread_reasons.proofs.Full.{IsFull, reserve_why}
use Rattle.cyc_thread_reasons.proofs.Crowding.{filter_at, filter_differs, number_online, all_full}
use Rattle.cyc_thread_reasons.proofs.Room.{named_on, all_too_many}
use Rattle.cyc_thread_reasons.proofs.Moving.{Later, Stopped, home_turns, left_turn}

-- one of them passes
some_passes : (p : ℕ → Bool) (xs : List ℕ) → filter p xs ≢ [] → (k : ℕ) × (x : ℕ) × (slice_get xs k ≡ Some x) × (p x ≡ true)
some_passes p [] ne = absurd (ne refl)
some_passes p (y ∷ ys) ne = by (p y) refl ne (some_passes p ys)
  where
    by : (b : Bool) → p y ≡ b → cond b (y ∷ filter p ys) (filter p ys) ≢ []
        → (filter p ys ≢ [] → (k : ℕ) × (x : ℕ) × (slice_get ys k ≡ Some x) × (p x ≡ true))
        → (k : ℕ) × (x : ℕ) × (slice_get (y ∷ ys) k ≡ Some x) × (p x ≡ true)
    by true is ne rest = (0, y, refl, is)
    by false is ne rest = let (k, x, at, passes) = rest ne in (suc k, x, at, passes)

among_filter : (p : ℕ → Bool) (id : ℕ) (xs : List ℕ) → p id ≡ true → among id xs ≡ true → among id (filter p xs) ≡ true
among_filter p id [] passes h = h
among_filter p id (x ∷ xs) passes h = by (p x) (x == id) refl refl h (among_filter p id xs passes)
  where
    by : (b c : Bool) → p x ≡ b → (x == id) ≡ c → (c || among id xs) ≡ true
        → (among id xs ≡ true → among id (filter p xs) ≡ true) → among id (cond b (x ∷ filter p xs) (filter p xs)) ≡ true
    by true true is same h rest = ap (λ z. z || among id (filter p xs)) same
    by true false is same h rest = ap (λ z. z || among id (filter p xs)) same ∙ rest h
    by false true is same h rest =
        absurd (let odd : true ≡ false = sym passes ∙ ap p (sym (eq_true x id same)) ∙ is in cc)
    by false false is same h rest = rest h

not_so : (b : Bool) → not b ≡ true → b ≡ false
not_so true e = sym e
not_so false e = refl

single_on : (n : ℕ) (p : Placement) → Stands n p → is_placed_everywhere p ≡ false → (b : Bool) × (p ≡ On n b)
single_on n (On m b) same all = (b, ap (λ j. On j b) same)
single_on n (Everywhere first skew) same all = absurd (let odd : true ≡ false = all in cc)

-- what holds of all holds of one
all_at : {A : Type 0} (P : A → Type 0) (xs : List A) (k : ℕ) (x : A) → All P xs → slice_get xs k ≡ Some x → P x
all_at P xs k x all at = subst P (get_or_from_slice_get xs k x x at) (all k x (slice_get_within xs k x at))

omni_is : {R : Type 0} (s : SystemView R) (k id : ℕ) (r : Record) → HasRisingIds s.records → IsRecord s.records k r → r.id ≡ id
    → is_omnipresent id s ≡ is_placed_everywhere r.placement
omni_is s k id r rising is named =
    ap (λ o. option_map_or (λ (q : Record). is_placed_everywhere q.placement) o false) (record_here id k r s.records rising is
    named)

module _ {C R : Type 0} (firing : Raise R) (names given : ℕ) (told : Known) (s : SystemView R) (p : Progress R C)
    (rising : HasRisingIds s.records) (settled : AllSettled firing.view s.cpus.cpus)
    (before : IsSound firing.view s) (h : Fits firing names given told p) (none : NoneLeaves p.names)
    (sound : IsSound firing.view p.side.system) (n : ℕ) (report : JuggleReport) (moved : SystemView R)
    (clear : first_refusal (juggle_refusals n s) ≡ None) (moves : MovesAway firing n report s moved)
    (some : single_ids n moved ≢ []) (same : p.side.system ≡ moved) where
  abbrev t : SystemView R
  t = p.side.system

  abbrev pub WhyLeft : Type 0
  WhyLeft = ((list_any (is_bound_to n) told.names ≡ true)
      ⊎ (are_too_many (how_many is_single told) (many_online told - 1) told ≡ true)) ⊎ IsLeft firing n s t

  -- the other CPUs that are online
  abbrev others : List ℕ
  others = filter (λ m. not (m == n)) (online_cpus t.cpus)

  others_beside : (i : ℕ) → i < length others → get_or others i 0 ≢ n
  others_beside i low = apart (get_or others i 0) (filter_at (λ m. not (m == n)) (online_cpus t.cpus) i low).0
    where
      apart : (m : ℕ) → not (m == n) ≡ true → m ≢ n
      apart m passes e = (let odd : false ≡ true = sym (ap not (true_eq m n e)) ∙ passes in cc)

  others_count : is_up n t.cpus ≡ true → length others ≡ many_online told - 1
  others_count on = let e = all_but_one t.cpus.online n (sym (read_up t.cpus.online n) ∙ on) in
      let m = many firing names given told p h in omega (arith, e, m)

  -- the destination had as many as it can, and so has each other CPU since then
  module _ (turn : RefusedTurn R) (chosen : destination (Some n) turn.before.cpus ≡ Some turn.target)
      (full : IsFull turn.target turn.before.cpus) (later : Later firing n turn.before.cpus t.cpus) where
    turn_long : length turn.before.cpus.online ≡ length turn.before.cpus.cpus
    turn_long = let a = ap length later.online in let b = later.long in let c = sound.agrees.long in omega (arith, a, b, c)

    one_full : (m : ℕ) → m ≢ n → IsOnline m t.cpus → IsFull m t.cpus
    one_full m ne on =
        let (x, at, high) = all_full turn.before.cpus (Some n) turn.target turn_long chosen full m
        (subst (λ os. slice_get os m ≡ Some true) later.online on) (λ e. ne (sym (same_some e))) in
        let (y, there, more) = later.grown m x ne at in (y, there, omega (arith, high, more))

    others_full : (i : ℕ) → i < length others → IsFull (get_or others i 0) t.cpus
    others_full i low = let (passes, (j, less, is)) = filter_at (λ m. not (m == n)) (online_cpus t.cpus) i low in
        one_full (get_or others i 0) (others_beside i low)
        (subst (λ m. IsOnline m t.cpus) is (number_online t.cpus j less))

    crowded : (a own k : ℕ) (r : Record) → named_at p.names a ≡ Cyclic own → IsRecord t.records k r → r.id ≡ own
        → r.placement ≡ On n false → is_up n t.cpus ≡ true
        → are_too_many (how_many is_single told) (many_online told - 1) told ≡ true
    crowded a own k r is at named placement on =
        subst (λ c. are_too_many (how_many is_single told) c told ≡ true) (others_count on)
        (all_too_many firing names given told p h none sound others a own k n false r
        (filter_differs (λ m. not (m == n)) (online_cpus t.cpus)
        (numbers_differ 0 t.cpus.online)) others_full is at named placement
        others_beside)

  abbrev turns : List (RefusedTurn R)
  turns = refused_turns firing n (single_ids n s) report s moved moves

  -- a turn that was refused
  turn_why : (a own k : ℕ) (r : Record) → named_at p.names a ≡ Cyclic own → IsRecord t.records k r → r.id ≡ own
      → r.placement ≡ On n false → is_up n t.cpus ≡ true → (position : ℕ) (turn : RefusedTurn R)
      → slice_get (refused_turns firing n (single_ids n s) report s moved moves) position ≡ Some turn
      → Later firing n turn.before.cpus moved.cpus → WhyLeft
  turn_why a own k r is at named home on position turn there later =
      by (all_at (IsRefusedTurn firing n) turns position turn (counted firing n report s moved moves).1 there)
    where
      put_off : IsTurnPutOff s turn → WhyLeft
      put_off off = inr (subst (λ x. IsLeft firing n s x) (sym same) (report, moves, position, turn, there, off))

      until : IsUnsettledOrGrown firing.view s turn → WhyLeft
      until (x, y, here, now, inl unsettled) = absurd (unsettled (settled turn.target x here))
      until (x, y, here, now, inr (expands, less)) = put_off (inr (expands, x, y, here, now, less))

      late : destination (Some n) turn.before.cpus ≡ Some turn.target
          → IsUntil turn.why ⊎ (turn.why ≡ why.Memory) ⊎ IsFull turn.target turn.before.cpus → WhyLeft
      late chosen (inl waits) = until (all_at (λ z. IsUntil z.why → IsUnsettledOrGrown firing.view s z) turns position turn
          (stopped firing n report s moved moves) there waits)
      late chosen (inr (inl memory)) = put_off (inl memory)
      late chosen (inr (inr full)) = inl (inr (crowded turn chosen full
          (subst (λ x. Later firing n turn.before.cpus x.cpus) (sym same) later) a own k r is at named home on))

      by : IsRefusedTurn firing n turn → WhyLeft
      by (chosen, ((u, x, (v, b, last)), records, given_last)) =
          late chosen (kinds (reserve_why firing turn.why b.before b.after b.change))
        where
          kinds : IsUntil turn.why ⊎ (turn.why ≡ why.Memory) ⊎ (most_cyclics ≤ length b.before.cyclics)
              → IsUntil turn.why ⊎ (turn.why ≡ why.Memory) ⊎ IsFull turn.target turn.before.cpus
          kinds (inl waits) = inl waits
          kinds (inr (inl memory)) = inr (inl memory)
          kinds (inr (inr full)) = inr (inr (
            b.before,
            cpu_beside n turn.target b.before x.after turn.before.cpus
                (λ e. (destination_fits (Some n) turn.before.cpus turn.target chosen).1 (ap Some (sym e)))
                (subst (λ z. IsCpu turn.target b.before z) x.rest b.here),
            full,
          ))

  stopped_why : (a own k : ℕ) (r : Record) → named_at p.names a ≡ Cyclic own → IsRecord t.records k r → r.id ≡ own
      → r.placement ≡ On n false → is_up n t.cpus ≡ true
      → Stopped firing n (single_ids n s) report s moved moves → WhyLeft
  stopped_why a own k r is at named home on (inl pending) = absurd (
      let zero = left_none firing n report s t (inr (clear, (report, moved, moves, inl (some, refl, same))))
      (λ x here. settled n x here) in omega (arith, pending, zero))
  stopped_why a own k r is at named home on (inr (position, turn, there, later)) =
      turn_why a own k r is at named home on position turn there later

  -- a cyclic that is left was among those that had turns
  was_among : (own : ℕ) → HasPlacement own n false moved → among own (single_ids n s) ≡ true
  was_among own home = by (home_turns firing n own false (single_ids n s) report s moved moves home)
    where
      by : HasPlacement own n false s → among own (single_ids n s) ≡ true
      by (k, r, is, named, placement) = among_filter (λ id. not (is_omnipresent id s)) own (ids_on n s.cpus)
          (ap not (omni_is s k own r rising is named ∙ ap is_placed_everywhere placement))
          (subst (λ i. has n i s.cpus ≡ true) named (before.agrees.home k n false r is placement))

  bound_why : (b : Bool) (a own k : ℕ) (r : Record) → named_at p.names a ≡ Cyclic own → IsRecord t.records k r → r.id ≡ own
      → r.placement ≡ On n b → is_up n t.cpus ≡ true → WhyLeft
  bound_why true a own k r is at named placement on = inl (inl (any_at (is_bound_to n) told.names a Absent
      (let low = name_low p.names a own (ap cyclic_id is) in let x = h.long in let y = h.told_long in omega (arith, low, x, y))
      (ap (is_bound_to n) (h.each a ∙ ap (λ (z : Named). given_of z t) is ∙ stands_at t.records k r own h.rising at named
      ∙ ap whereabouts_of placement) ∙ true_eq n n refl)))
  bound_why false a own k r is at named placement on =
      let home = subst (λ x. HasPlacement own n false x) same (k, r, at, named, placement) in
      stopped_why a own k r is at named placement on
      (left_turn firing n own (single_ids n s) report s moved moves (was_among own home) rising home)

  pub left_why : WhyLeft
  left_why = by (some_passes (λ id. not (is_omnipresent id t)) (ids_on n t.cpus)
      (subst (λ x. single_ids n x ≢ []) (sym same) some))
    where
      by : (k : ℕ) × (own : ℕ) × (slice_get (ids_on n t.cpus) k ≡ Some own) × (not (is_omnipresent own t) ≡ true) → WhyLeft
      by (k, own, at, single) =
          let here : has n own t.cpus ≡ true = any_at (λ o. o == own) (ids_on n t.cpus) k own
          (slice_get_within (ids_on n t.cpus) k own at)
          (true_eq _ own (get_or_from_slice_get (ids_on n t.cpus) k own own at)) in
          let (i, q, there, same_id, stood, on) = sound.agrees.known n own here in
          let (a, is, j, r, at_record, named, stands_there) = named_on firing names given told p h none sound n own here in
          let (b, placement) = single_on n r.placement stands_there
          (sym (omni_is t j own r h.rising at_record named) ∙ not_so (is_omnipresent own t) single) in
          bound_why b a own j r is at_record named placement on
