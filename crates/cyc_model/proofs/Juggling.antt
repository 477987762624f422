-- bind and juggle keep a machine good, and lose nothing.
use Rattle.std.proofs.Common.{◌≡◌, ◌≢◌, ℕ, ◌+◌, ◌<◌, ◌≤◌, ◌==◌, eq-eqb, ne_eqb, eqb-true, Bool, true, false, cond, List, [], ◌∷◌}
use Rattle.std.proofs.Common.{map, length, Option, Some, None, refl, ap, sym, ◌∙◌, subst, inl, inr, ⊎_elim, ◌⊎◌, arith}
use Rattle.std.specs.Prelude.{IsSome, is_some, not, nat_lt, nat_le, filter}
use Rattle.std.proofs.lemmas.Bool.{ltb-false, leb-false, not-true}
use mathlib.Core.Logic.{dite}
use native.Mathlib.Decide.{ℕ_discrete}
use Rattle.cyc_types.specs.declared.refusal.Refusal.{Refusal}
use Rattle.cyc_types.specs.declared.refusal.Refusal.TheVariants.{LastCpu, Pending}
use Rattle.cyc_script.specs.declared.step.Bind.{Bind as BindStep}
use Rattle.cyc_model.specs.Cpu.{CyclicState, Cpu}
use Rattle.cyc_model.specs.Questions.{plain, outstanding_here}
use Rattle.cyc_model.specs.State.{State, Outcome, Placement, On, OnAll, cpu_of, nothing, followed_by, cpus_online}
use Rattle.cyc_model.specs.Places.{id_of, placement_of, put_at, home_of, home_at, is_bound, is_omni, is_placed_everywhere}
use Rattle.cyc_model.specs.Places.{destination_of}
use Rattle.cyc_types.specs.Reasons.{first_refusal, busy}
use Rattle.cyc_model.specs.Refusals.{is_no_cpu, cpu_is_offline, is_last_online, no_room}
use Rattle.cyc_model.specs.Bind.{cyclic_is_absent, cyclic_is_omni, pending, move, move_refusals, unless_there, bind_refusal}
use Rattle.cyc_model.specs.Bind.{move_unless_there, bind, unbind_refusal, unbind}
use Rattle.cyc_model.specs.Juggle.{
  Turn,
  IsBound,
  IsPending,
  IsRefused,
  Moves,
  turn,
  take_turn,
  juggle_each,
  single_ids_of,
  juggled,
}
use Rattle.cyc_model.specs.Juggle.{juggle_refusal, juggle}
use Rattle.cyc_model.specs.Kept.{Kept}
use Rattle.cyc_model.proofs.Rising.{Rising, found, first_is, first_not}
use Rattle.cyc_model.proofs.Base.{IsAt, Goes, goes_append, goes_nothing}
use Rattle.cyc_model.proofs.Numbers.{Has, RiseFrom, has_above, pass_numbers, numbers_pass, numbers_rise, destination_online}
use Rattle.cyc_model.proofs.Refusing.{none_first, not_when, not_busy, is_cpu, is_online, is_cyclic, is_single, not_omnipresent}
use Rattle.cyc_model.proofs.Refusing.{nothing_pending, room_grows}
use Rattle.cyc_model.proofs.Spread.{Good}
use Rattle.cyc_model.proofs.Calm.{well_put, well_unbind}
use Rattle.cyc_model.proofs.Travels.{kept_refl, kept_then, kept_put, Moved, moved}

-- the outcome goes on well and loses nothing
abbrev pub Safe : Outcome → State → Type 0
Safe o s = Goes o.acts s o.state × Good o.state × Kept s o.state

-- ---- bind

put_down : (id n : ℕ) (s : State) (was : Bool) → Good s → placement_of id s ≡ Some (On n was)
    → Safe (nothing (put_at id (On n true) s)) s
put_down id n s was g at = let w = well_put id n true was s g at in (w.0, w.1, kept_put id n true was s at)

moved_down : (id n : ℕ) (s : State) (o : Outcome) → Moved id n s o
    → Safe (followed_by o (λ t. nothing (put_at id (On n true) t))) s
moved_down id n s o m =
    let d = put_down id n o.state m.placement.0 m.good m.placement.1 in (
      goes_append o.acts [] s o.state (put_at id (On n true) o.state) m.goes d.0,
      d.1,
      kept_then s o.state
          (put_at id (On n true) o.state) m.kept d.2,
    )

pub safe_bind : (indexes : ℕ → ℕ) (step : ℕ) (b : BindStep) (s : State) → Good s → bind_refusal plain b s ≡ None
    → Safe (bind indexes step b s) s
safe_bind indexes step b s g why =
    let id = id_of b.name s in let n = b.cpu in
    let rest = unless_there (home_of id s == n) (move_refusals plain id (home_of id s) n s) in
    let one = none_first (cyclic_is_absent id s) (cyclic_is_omni id s ∷ is_no_cpu n s ∷ cpu_is_offline n s ∷ rest) why in
    let two = none_first (cyclic_is_omni id s) (is_no_cpu n s ∷ cpu_is_offline n s ∷ rest) one.1 in
    let three = none_first (is_no_cpu n s) (cpu_is_offline n s ∷ rest) two.1 in
    let four = none_first (cpu_is_offline n s) rest three.1 in
    let at = is_single (placement_of id s) (is_cyclic id s one.0).0 (not_omnipresent id s two.0) in
    let home : home_of id s ≡ at.0 = ap home_at at.2 in
    let r = by id n (home_of id s == n) refl at.1 (at.2 ∙ ap (λ k. Some (On k at.1)) (sym home)) (is_cpu n s three.0)
    (is_online n s four.0) four.1 in
    (r.0, r.1, r.2)
  where
    by : (id n : ℕ) (there : Bool) → (home_of id s == n) ≡ there → (bound : Bool)
        → placement_of id s ≡ Some (On (home_of id s) bound)
        → n < length s.cpus → (cpu_of n s).online ≡ true
        → first_refusal (unless_there there (move_refusals plain id (home_of id s) n s)) ≡ None
        → Safe (followed_by (move_unless_there there indexes id n s) (λ t. nothing (put_at id (On n true) t))) s
    by id n true is bound at within online why2 =
        put_down id n s bound g (at ∙ ap (λ k. Some (On k bound)) (eqb-true (home_of id s) n is))
    by id n false is bound at within online why2 =
        let source = home_of id s in
        let u = none_first (busy (cpu_of source s).removal) (pending plain source id s ∷ no_room plain n id 1 (cpu_of n s) ∷ [])
        why2 in
        let v = none_first (pending plain source id s) (no_room plain n id 1 (cpu_of n s) ∷ []) u.1 in
        let w = none_first (no_room plain n id 1 (cpu_of n s)) [] v.1 in
        moved_down id n s (move indexes id source n s)
        (moved indexes id source n s g bound at
        (λ e. let no : true ≡ false = sym (eq-eqb source n (sym e)) ∙ is in absurd (cc))
        within online (not_busy (cpu_of source s).removal u.0)
        (nothing_pending (outstanding_here id (cpu_of source s)) Pending v.0)
        (room_grows n id 1 (cpu_of n s) w.0))

pub safe_unbind : (step name : ℕ) (s : State) → Good s → unbind_refusal name s ≡ None → Safe (unbind step name s) s
safe_unbind step name s g why =
    let id = id_of name s in
    let one = none_first (cyclic_is_absent id s) (cyclic_is_omni id s ∷ []) why in
    let at = is_single (placement_of id s) (is_cyclic id s one.0).0
    (not_omnipresent id s (none_first (cyclic_is_omni id s) [] one.1).0) in
    let home : home_of id s ≡ at.0 = ap home_at at.2 in
    let w = well_unbind step name s g why in
    (w.0, w.1, subst (λ n. Kept s (put_at id (On n false) s)) (sym home) (kept_put id at.0 false at.1 s at.2))

-- ---- one turn of a juggle

record Turned (id : ℕ) (s : State) (o : Outcome) : Type 0 where
  goes : Goes o.acts s o.state
  good : Good o.state
  kept : Kept s o.state
  removal : (m : ℕ) → (cpu_of m o.state).removal ≡ (cpu_of m s).removal
  online : (m : ℕ) → (cpu_of m o.state).online ≡ (cpu_of m s).online
  places : (j : ℕ) → j ≢ id → placement_of j o.state ≡ placement_of j s

stays : (id : ℕ) (s : State) → Good s → Turned id s (nothing s)
stays id s g = record {
  goes = goes_nothing s s refl refl (λ j h. h);
  good = g;
  kept = kept_refl s;
  removal = λ m. refl;
  online = λ m. refl;
  places = λ j ne. refl;
}

-- where a turn moves the cyclic
moves_where : (bound waits : Bool) (full : Option Refusal) (d target : ℕ)
    → cond bound IsBound (cond waits IsPending (cond (is_some full) IsRefused (Moves d))) ≡ Moves target
    → (waits ≡ false) × (full ≡ None) × (d ≡ target)
moves_where true waits full d target e = absurd (cc)
moves_where false true full d target e = absurd (cc)
moves_where false false (Some why) d target e = absurd (cc)
moves_where false false None d target e = (refl, refl, ap (λ t. number_of_turn t) e)
  where
    number_of_turn : Turn → ℕ
    number_of_turn IsBound = 0
    number_of_turn IsPending = 0
    number_of_turn IsRefused = 0
    number_of_turn (Moves k) = k

module _ (indexes : ℕ → ℕ) (source other : ℕ) (apart : other ≢ source) where
  -- the machine can be juggled: no removal is open on the CPU, and another one is online
  abbrev pub CanJuggle : State → Type 0
  CanJuggle s = ((cpu_of source s).removal ≡ None) × (other < length s.cpus) × ((cpu_of other s).online ≡ true)

  one_turn : (id : ℕ) (s : State) → Good s → CanJuggle s → (bound : Bool) → placement_of id s ≡ Some (On source bound)
      → (t : Turn)
      → turn plain source id s ≡ t → Turned id s (take_turn indexes source id t s)
  one_turn id s g can bound at IsBound is = stays id s g
  one_turn id s g can bound at IsPending is = stays id s g
  one_turn id s g can bound at IsRefused is = stays id s g
  one_turn id s g can bound at (Moves target) is =
      let d = destination_of (Some source) s in
      let w = moves_where (is_bound id s) (nat_lt 0 (outstanding_here id (cpu_of source s))) (no_room plain d id 1 (cpu_of d s))
      d target is in
      let le = ltb-false 0 (outstanding_here id (cpu_of source s)) w.0 in
      let dest = destination_online (Some source) s other (pass_numbers (λ (c : Cpu). c.online) other s can.1 can.2)
      (ap not (ne_eqb other source apart)) in
      let online = numbers_pass (λ (c : Cpu). c.online) d s dest.0 in
      let far : d ≢ source = λ e. let no : not (d == source) ≡ false = ap not (eq-eqb d source e) in
      let no2 : true ≡ false = sym dest.1 ∙ no in absurd (cc) in
      let m : Moved id d s (move indexes id source d s) = moved indexes id source d s g bound at far online.0 online.1 can.0
      (omega (arith, le))
      (room_grows d id 1 (cpu_of d s) w.1) in
      subst (λ k. Turned id s (move indexes id source k s)) w.2
      (record { goes = m.goes; good = m.good; kept = m.kept; removal = m.removal; online = m.online; places = m.places })

  pub record Shuffled (s : State) (o : Outcome) : Type 0 where
    pub goes : Goes o.acts s o.state
    pub good : Good o.state
    pub kept : Kept s o.state
    pub removal : (m : ℕ) → (cpu_of m o.state).removal ≡ (cpu_of m s).removal
    pub online : (m : ℕ) → (cpu_of m o.state).online ≡ (cpu_of m s).online

  shuffled : (low : ℕ) (ids : List ℕ) (s : State) → RiseFrom low ids → Good s → CanJuggle s
      → ((j : ℕ) → Has j ids → (bound : Bool) × (placement_of j s ≡ Some (On source bound)))
      → Shuffled s (juggle_each plain indexes source ids s).outcome
  shuffled low [] s rise g can ready = record {
    goes = goes_nothing s s refl refl (λ j h. h);
    good = g;
    kept = kept_refl s;
    removal = λ m. refl;
    online = λ m. refl;
  }
  shuffled low (id ∷ ids) s rise g can ready =
      let at = ready id (inl refl) in
      let o = take_turn indexes source id (turn plain source id s) s in
      let one = one_turn id s g can at.0 at.1 (turn plain source id s) refl in
      let rest = shuffled (id + 1) ids o.state rise.1 one.good
      (one.removal source ∙ can.0, subst (λ k. other < k) (sym one.goes.tells.as_many) can.1, one.online other ∙ can.2)
      (λ j has. let r = ready j (inr has) in let a = has_above (id + 1) j ids rise.1 has in
      (r.0, one.places j (λ (e : j ≡ id). omega (arith, a, e)) ∙ r.1)) in
      let u = (juggle_each plain indexes source ids o.state).outcome in record {
        goes = goes_append o.acts u.acts s o.state u.state one.goes rest.goes;
        good = rest.good;
        kept = kept_then s o.state u.state one.kept rest.kept;
        removal = λ m. rest.removal m ∙ one.removal m;
        online = λ m. rest.online m ∙ one.online m;
      }

-- ---- the ids of a CPU's cyclics

abbrev pub ids_in : List CyclicState → List ℕ
ids_in cs = map (λ x. x.timer.id) cs

pub ids_rise : (low : ℕ) (cs : List CyclicState) → Rising low cs → RiseFrom (low + 1) (ids_in cs)
ids_rise low [] h = tt
ids_rise low (x ∷ xs) h = (let a = h.0 in omega (arith, a), ids_rise x.timer.id xs h.1)

pub has_ids : (j : ℕ) (cs : List CyclicState) → Has j (ids_in cs) → IsSome (found j cs)
has_ids j [] has = absurd has
has_ids j (x ∷ xs) has = dite (ℕ_discrete x.timer.id j)
    (λ e. ap is_some (first_is j x xs e))
    (λ ne. ⊎_elim (λ e. absurd (ne (sym e))) (λ h. ap is_some (first_not j x xs ne) ∙ has_ids j xs h) has)

pub ids_have : (j : ℕ) (cs : List CyclicState) → IsSome (found j cs) → Has j (ids_in cs)
ids_have j [] some = absurd (cc)
ids_have j (x ∷ xs) some = dite (ℕ_discrete x.timer.id j)
    (λ e. inl (sym e))
    (λ ne. inr (ids_have j xs (sym (ap is_some (first_not j x xs ne)) ∙ some)))

abbrev kept_id : Bool → ℕ → List ℕ → List ℕ
kept_id b n ns = cond b (n ∷ ns) ns

rise_more : (low more : ℕ) (ns : List ℕ) → low ≤ more → RiseFrom more ns → RiseFrom low ns
rise_more low more [] le h = tt
rise_more low more (n ∷ ns) le h = (let a = h.0 in omega (arith, a, le), h.1)

pub filter_rise : (test : ℕ → Bool) (low : ℕ) (ns : List ℕ) → RiseFrom low ns → RiseFrom low (filter test ns)
filter_rise test low [] h = tt
filter_rise test low (n ∷ ns) h = by (test n) (filter_rise test (n + 1) ns h.1)
  where
    by : (b : Bool) → RiseFrom (n + 1) (filter test ns) → RiseFrom low (kept_id b n (filter test ns))
    by true rest = (h.0, rest)
    by false rest = rise_more low (n + 1) (filter test ns) (let a = h.0 in omega (arith, a)) rest

pub filtered : (test : ℕ → Bool) (j : ℕ) (ns : List ℕ) → Has j (filter test ns) → Has j ns × (test j ≡ true)
filtered test j [] has = absurd has
filtered test j (n ∷ ns) has = by (test n) refl has (filtered test j ns)
  where
    by : (b : Bool) → test n ≡ b → Has j (kept_id b n (filter test ns)) → (Has j (filter test ns) → Has j ns × (test j ≡ true))
        → ((j ≡ n) ⊎ Has j ns) × (test j ≡ true)
    by true is h more = ⊎_elim (λ e. (inl e, ap test e ∙ is)) (λ r. let q = more r in (inr q.0, q.1)) h
    by false is h more = let q = more h in (inr q.0, q.1)

pub filtering : (test : ℕ → Bool) (j : ℕ) (ns : List ℕ) → Has j ns → test j ≡ true → Has j (filter test ns)
filtering test j [] has is = absurd has
filtering test j (n ∷ ns) has is = ⊎_elim
    (λ e. subst (λ b. Has j (kept_id b n (filter test ns))) (sym (ap test (sym e) ∙ is)) (inl e))
    (λ h. by (test n) (filtering test j ns h is)) has
  where
    by : (b : Bool) → Has j (filter test ns) → Has j (kept_id b n (filter test ns))
    by true h = inr h
    by false h = h

-- ---- another CPU is online

others_online : (n : ℕ) (low : ℕ) (ns : List ℕ) → RiseFrom low ns → 2 ≤ length ns → (m : ℕ) × Has m ns × (m ≢ n)
others_online n low [] rise many = absurd (omega (arith, many))
others_online n low (a ∷ []) rise many = absurd (omega (arith, many))
others_online n low (a ∷ b ∷ ns) rise many = dite (ℕ_discrete a n)
    (λ e. (b, inr (inl refl), λ (q : b ≡ n). let r = rise.1.0 in omega (arith, e, q, r)))
    (λ ne. (a, inl refl, ne))

pub another : (n : ℕ) (s : State) → is_last_online n s ≡ None → (m : ℕ) × (m < length s.cpus) × ((cpu_of m s).online ≡ true)
    × (m ≢ n)
another n s h =
    let many = leb-false (length (cpus_online s)) 1 (not_when (nat_le (length (cpus_online s)) 1) LastCpu h) in
    let o = others_online n 0 (cpus_online s) (numbers_rise (λ (c : Cpu). c.online) 0 s.cpus) (omega (arith, many)) in
    let p = numbers_pass (λ (c : Cpu). c.online) o.0 s o.1 in (o.0, p.0, p.1, o.2)

-- ---- juggle

-- the single cyclics of a CPU are there
single_there : (n : ℕ) (s : State) → Good s → (j : ℕ) → Has j (single_ids_of n s)
    → (bound : Bool) × (placement_of j s ≡ Some (On n bound))
single_there n s g j has =
    let f = filtered (λ id. not (is_omni id s)) j (ids_in (cpu_of n s).cyclics) has in
    by (placement_of j s) (not-true (is_omni j s) f.1) (g.base.homes n j (has_ids j (cpu_of n s).cyclics f.0))
  where
    by : (o : Option Placement) → is_placed_everywhere o ≡ false → IsAt n o → (bound : Bool) × (o ≡ Some (On n bound))
    by None single at = absurd at
    by (Some (On m bound)) single at = (bound, ap (λ k. Some (On k bound)) at)
    by (Some (OnAll e)) single at = absurd (cc)

pub juggling : (indexes : ℕ → ℕ) (n : ℕ) (s : State) → Good s → juggle_refusal plain n s ≡ None
    → (m : ℕ) × (m < length s.cpus) × ((cpu_of m s).online ≡ true) × (m ≢ n) × ((cpu_of n s).removal ≡ None) × (n < length s.cpus)
    × Good (juggled plain indexes n s).outcome.state × Goes (juggled plain indexes n s).outcome.acts s
    (juggled plain indexes n s).outcome.state
    × Kept s (juggled plain indexes n s).outcome.state
    × ((k : ℕ) → (cpu_of k (juggled plain indexes n s).outcome.state).removal ≡ (cpu_of k s).removal)
    × ((k : ℕ) → (cpu_of k (juggled plain indexes n s).outcome.state).online ≡ (cpu_of k s).online)
juggling indexes n s g why =
    let one = none_first (is_no_cpu n s) (cpu_is_offline n s ∷ is_last_online n s ∷ busy (cpu_of n s).removal ∷ []) why in
    let two = none_first (cpu_is_offline n s) (is_last_online n s ∷ busy (cpu_of n s).removal ∷ []) one.1 in
    let three = none_first (is_last_online n s) (busy (cpu_of n s).removal ∷ []) two.1 in
    let free = not_busy (cpu_of n s).removal (none_first (busy (cpu_of n s).removal) [] three.1).0 in
    let m = another n s three.0 in
    let all = shuffled indexes n m.0 m.3 1 (single_ids_of n s) s
    (filter_rise (λ id. not (is_omni id s)) 1 (ids_in (cpu_of n s).cyclics)
    (ids_rise 0 (cpu_of n s).cyclics (g.base.whole n).rising))
    g (free, m.1, m.2) (single_there n s g) in
    (m.0, m.1, m.2, m.3, free, is_cpu n s one.0, all.good, all.goes, all.kept, all.removal, all.online)

pub safe_juggle : (indexes : ℕ → ℕ) (step n : ℕ) (s : State) → Good s → juggle_refusal plain n s ≡ None
    → Safe (juggle plain indexes step n s) s
safe_juggle indexes step n s g why = let j = juggling indexes n s g why in (j.7, j.6, j.8)
