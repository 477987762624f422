-- The words that begin, set and end the components of an omnipresent cyclic.
use Rattle.std.proofs.Common.{◌≡◌, ◌≢◌, ℕ, ◌+◌, ◌<◌, Bool, true, false, cond, List, [], ◌∷◌, length}
use Rattle.std.proofs.Common.{refl, ap, sym, ◌∙◌, subst, eq-eqb, arith, Option, Some, None, inl, inr, ⊎_elim}
use Rattle.std.specs.Prelude.{IsSome, is_some, not, slice_set, slice_index_or}
use Rattle.std.specs.Option.{option_map}
use Rattle.std.proofs.lemmas.List.{get_or-set_same, get_or-set_other, length-set}
use mathlib.Core.Logic.{dite}
use native.Mathlib.Decide.{ℕ_discrete}
use Rattle.cyc_level.proofs.Maps.{some_same, some_of}
use Rattle.cyc_model.specs.Cpu.{CyclicState, Cpu, Here, nothing_here, cyclic_with_id}
use Rattle.cyc_model.specs.Moving.{must_grow, bank_for, switch_here, widen_here, put_in, place_here, enter_here, moment_at}
use Rattle.cyc_model.specs.Moving.{reprogram_here, take_here}
use Rattle.cyc_model.specs.State.{State, Everywhere, Placement, Placed, On, OnAll, absent, cpu_of, on_number, each}
use Rattle.cyc_model.specs.Places.{placement_of, is_being_removed, without_ended, keep_counts}
use Rattle.cyc_model.specs.Offline.{ids_of_cpu, retire, retire_all, go_offline, any_pending, last_part, leaving, offline}
use Rattle.cyc_model.specs.Questions.{plain}
use Rattle.cyc_model.specs.Juggle.{juggled, single_ids_of}
use Rattle.std.specs.Prelude.{filter}
use Rattle.cyc_model.specs.Add.{enter}
use Rattle.cyc_model.specs.Omni.{component}
use Rattle.cyc_model.specs.Online.{is_on_all, staying_omni, again, return_here, return_of, go_online, online}
use Rattle.cyc_model.specs.Laws.{RiseTo}
use Rattle.cyc_model.proofs.Agreement.{moment_same}
use Rattle.cyc_model.proofs.Rising.{found, found_map, found_id, put_same, put_other}
use Rattle.cyc_model.proofs.Placing.{entry, entry_id}
use Rattle.cyc_model.proofs.Whole.{same_happen}
use Rattle.cyc_model.proofs.Numbers.{Has, RiseFrom, has_above}
use Rattle.cyc_model.proofs.Spread.{Good, has_number}
use Rattle.cyc_model.proofs.Staying.{Each, each_above, entry_filter, staying_rise, entry_here, entry_past}
use Rattle.cyc_expected.specs.Course.{component_begins_at}
use Rattle.cyc_expected.proofs.Seen.{seen, seen_at, on_same, removal_of, same_leaving, cpu_counts}
use Rattle.cyc_expected.proofs.Counts.{cyclics_entered}
use Rattle.cyc_expected.proofs.Running.{found_in}
use Rattle.cyc_expected.proofs.Spread.{series_of, series_on, with_interval, Spread, spread_one}

-- ---- what is done on one CPU

pub on_there : (n : ℕ) (f : Cpu → Here) (s : State) → n < length s.cpus → cpu_of n (on_number n f s).state ≡ (f (cpu_of n s)).cpu
on_there n f s within = get_or-set_same s.cpus n (f (cpu_of n s)).cpu absent within

pub on_elsewhere : (n m : ℕ) (f : Cpu → Here) (s : State) → m ≢ n → cpu_of m (on_number n f s).state ≡ cpu_of m s
on_elsewhere n m f s far = get_or-set_other s.cpus n m (f (cpu_of n s)).cpu absent far

pub on_long : (n : ℕ) (f : Cpu → Here) (s : State) → length (on_number n f s).state.cpus ≡ length s.cpus
on_long n f s = length-set s.cpus n (f (cpu_of n s)).cpu

-- ---- omni: each online CPU in turn

module _ (indexes : ℕ → ℕ) (id : ℕ) (e : Everywhere) where
  abbrev enters : List ℕ → State → State
  enters ns s = (each (λ n u. enter indexes n (component id n e u.clock) u) ns s).state

  pub enters_elsewhere : (m : ℕ) (ns : List ℕ) (s : State) → (Has m ns → ⊥) → cpu_of m (enters ns s) ≡ cpu_of m s
  enters_elsewhere m [] s away = refl
  enters_elsewhere m (n ∷ ns) s away =
      enters_elsewhere m ns (enter indexes n (component id n e s.clock) s).state (λ has. away (inr has))
      ∙ on_elsewhere n m (enter_here n (indexes s.admissions) (component id n e s.clock)) s (λ is. away (inl is))

  pub enters_there : (low m : ℕ) (ns : List ℕ) (s : State) → RiseFrom low ns → Has m ns → m < length s.cpus
      → found id (cpu_of m s).cyclics ≡ None
      → series_on id (cpu_of m (enters ns s)) ≡ Some (component_begins_at m e s.clock, e.interval)
  enters_there low m [] s rise has within none = absurd has
  enters_there low m (n ∷ ns) s rise has within none =
      let k = indexes s.admissions in
      let t = (enter indexes n (component id n e s.clock) s).state in ⊎_elim
      (λ (is : m ≡ n). let x = component id m e s.clock in
      let t2 = (enter indexes m x s).state in
      let here : cpu_of m t2 ≡ (enter_here m k x (cpu_of m s)).cpu = on_there m (enter_here m k x) s within in
      let mine : (Has m ns → ⊥) = λ later. let a = has_above (n + 1) m ns rise.1 later in absurd (omega (arith, a, is)) in
      ap (series_on id) (enters_elsewhere m ns t mine
      ∙ ap (λ (j : ℕ). cpu_of m (enter indexes j (component id j e s.clock) s).state) (sym is) ∙ here)
      ∙ ap (option_map series_of) (ap (found id) (cyclics_entered m k x (cpu_of m s))
      ∙ put_same id x (cpu_of m s).cyclics refl none))
      (λ later. let far : m ≢ n = λ is. let a = has_above (n + 1) m ns rise.1 later in absurd (omega (arith, a, is)) in
      let same = on_elsewhere n m (enter_here n k (component id n e s.clock)) s far in
      enters_there (n + 1) m ns t rise.1 later
      (subst (λ (l : ℕ). m < l) (sym (on_long n (enter_here n k (component id n e s.clock)) s)) within)
      (ap (λ (c : Cpu). found id c.cyclics) same ∙ none)) has

-- ---- reprogram: one component is set

pub set_there : (id n moment : ℕ) (s : State) (x : CyclicState) → found id (cpu_of n s).cyclics ≡ Some x
    → series_on id (cpu_of n (on_number n (reprogram_here id moment) s).state) ≡ Some (moment, x.timer.interval)
set_there id n moment s x is =
    let c = cpu_of n s in
    ap (series_on id) (on_there n (reprogram_here id moment) s (has_number s n id (ap is_some is)))
    ∙ ap (option_map series_of) (found_map (moment_at id moment) (λ y. (moment_same id moment y).0) id c.cyclics
    ∙ (ap (option_map (moment_at id moment)) is
    ∙ ap (λ (b : Bool). Some (cond b (record x { timer = record x.timer { moment = moment } }) x))
    (eq-eqb x.timer.id id (found_id id x c.cyclics is))))

pub spread_set : (id : ℕ) (e : Everywhere) (moments : List (Option ℕ)) (n moment : ℕ) (s : State) → Spread id e moments s
    → IsSome (found id (cpu_of n s).cyclics)
    → Spread id e (slice_set moments n (Some moment)) (on_number n (reprogram_here id moment) s).state
spread_set id e moments n moment s h some =
    let t = (on_number n (reprogram_here id moment) s).state in
    let it = some_of (found id (cpu_of n s).cyclics) some in
    spread_one id e moments s h n (Some moment) t (has_number s n id some) (on_long n (reprogram_here id moment) s)
    (same_leaving id s t (on_same removal_of n (reprogram_here id moment) s refl) ∙ h.stays) refl
    (λ m far. ap (λ (c : Cpu). found id c.cyclics) (on_elsewhere n m (reprogram_here id moment) s far))
    (set_there id n moment s it.0 it.1
    ∙ ap (λ k. Some (moment, k)) (by (slice_index_or moments n None) (sym (ap (option_map series_of) it.1) ∙ h.here n)))
  where
    by : {k j : ℕ} (o : Option ℕ) → Some (k, j) ≡ with_interval e.interval o → j ≡ e.interval
    by None is = absurd (cc)
    by {k} {j} (Some m) is = ap (λ p. p.1) (some_same (k, j) (m, e.interval) is)

-- ---- online: the components of one CPU come back

widened_same : (n more : ℕ) (c : Cpu) → (widen_here n more c).cpu.cyclics ≡ c.cyclics
widened_same n more c = by (must_grow more c)
  where
    by : (b : Bool) → (cond b (switch_here n (bank_for (length c.cyclics + more)) c) (record { acts = []; cpu = c })).cpu.cyclics
        ≡ c.cyclics
    by true = refl
    by false = refl

module _ (indexes : ℕ → ℕ) (n : ℕ) where
  abbrev pub returns : List Placed → State → State
  returns ps s = (each (return_of indexes n) ps s).state

  placed_cyclics : (index : ℕ) (x : CyclicState) (c : Cpu) → (place_here n index x c).cpu.cyclics ≡ put_in x c.cyclics
  placed_cyclics index x c = (same_happen (place_here n index x c).acts (record c { cyclics = put_in x c.cyclics })).cyclics

  return_elsewhere : (j m : ℕ) (p : Placement) (s : State) → m ≢ n → cpu_of m (return_here indexes n j p s).state ≡ cpu_of m s
  return_elsewhere j m (On k bound) s far = refl
  return_elsewhere j m (OnAll e) s far = on_elsewhere n m
      (place_here n (indexes s.admissions) (again j n e (s.ended j n) s.clock)) (without_ended n j s) far

  pub returns_elsewhere : (m : ℕ) (ps : List Placed) (s : State) → m ≢ n → cpu_of m (returns ps s) ≡ cpu_of m s
  returns_elsewhere m [] s far = refl
  returns_elsewhere m (p ∷ ps) s far = returns_elsewhere m ps (return_of indexes n p s).state far
      ∙ return_elsewhere p.id m p.placement s far

  return_clock : (j : ℕ) (p : Placement) (s : State)
      → ((return_here indexes n j p s).state.clock ≡ s.clock) × (length (return_here indexes n j p s).state.cpus ≡ length s.cpus)
  return_clock j (On k bound) s = (refl, refl)
  return_clock j (OnAll e) s = (
    refl,
    on_long n (place_here n (indexes s.admissions) (again j n e (s.ended j n) s.clock)) (without_ended n j s),
  )

module _ (indexes : ℕ → ℕ) (n id : ℕ) where
  return_other : (j : ℕ) (p : Placement) (s : State) → j ≢ id
      → seen (found_in id) (return_here indexes n j p s).state ≡ seen (found_in id) s
  return_other j (On k bound) s ne = refl
  return_other j (OnAll e) s ne =
      let x = again j n e (s.ended j n) s.clock in
      on_same (found_in id) n (place_here n (indexes s.admissions) x) (without_ended n j s)
      (ap (found id) (placed_cyclics indexes n (indexes s.admissions) x (cpu_of n s)) ∙ put_other id x (cpu_of n s).cyclics ne)

  returns_others : (ps : List Placed) (s : State) → Each (λ p. id < p.id) ps
      → seen (found_in id) (returns indexes n ps s) ≡ seen (found_in id) s
  returns_others [] s above = refl
  returns_others (p ∷ ps) s above = returns_others ps (return_of indexes n p s).state above.1
      ∙ return_other p.id p.placement s (λ same. let a = above.0 in absurd (omega (arith, a, same)))

  returns_there : (e : Everywhere) (p : Placed) (low high : ℕ) (ps : List Placed) (s : State) → RiseTo low ps high
      → n < length s.cpus → found id (cpu_of n s).cyclics ≡ None → entry id ps ≡ Some p → p.placement ≡ OnAll e
      → series_on id (cpu_of n (returns indexes n ps s)) ≡ Some (component_begins_at n e s.clock, e.interval)
  returns_there e p low high [] s rise within none is all = absurd (cc)
  returns_there e p low high (q ∷ qs) s rise within none is all = dite (ℕ_discrete q.id id)
      (λ same.
      let mine : q ≡ p = some_same q p (sym (entry_here id q qs same) ∙ is) in
      let t = (return_of indexes n q s).state in
      let x = again q.id n e (s.ended q.id n) s.clock in
      let r = without_ended n q.id s in
      let placement = place_here n (indexes s.admissions) x in
      let back : t ≡ (return_here indexes n q.id (OnAll e) s).state =
      ap (λ placement. (return_here indexes n q.id placement s).state) (ap (λ (z : Placed). z.placement) mine ∙ all) in
      let above = subst (λ k. Each (λ z. k < z.id) qs) same (each_above q.id high qs rise.1) in
      ap (option_map series_of) (seen_at (found_in id) t (returns indexes n qs t) (returns_others qs t above) n)
      ∙ (ap (λ u. series_on id (cpu_of n u)) back
      ∙ (ap (series_on id) (on_there n placement r within)
      ∙ ap (option_map series_of) (ap (found id) (placed_cyclics indexes n (indexes s.admissions) x (cpu_of n s))
      ∙ put_same id x (cpu_of n s).cyclics same none))))
      (λ far.
      let t = (return_of indexes n q s).state in
      let kept = return_clock indexes n q.id q.placement s in
      returns_there e p q.id high qs t rise.1 (subst (λ k. n < k) (sym kept.1) within)
      (seen_at (found_in id) s t (return_other q.id q.placement s far) n ∙ none) (sym (entry_past id q qs far) ∙ is) all
      ∙ ap (λ now. Some (component_begins_at n e now, e.interval)) kept.0)

-- the entry of an omnipresent cyclic whose removal isn't open is among those that stay
stays_entry : (id : ℕ) (e : Everywhere) (s : State) → placement_of id s ≡ Some (OnAll e) → is_being_removed id s ≡ false
    → (p : Placed) × (entry id (staying_omni s) ≡ Some p) × (p.placement ≡ OnAll e)
stays_entry id e s is shut = by (entry id s.placed) refl is
  where
    by : (o : Option Placed) → entry id s.placed ≡ o → option_map (λ (p : Placed). p.placement) o ≡ Some (OnAll e)
        → (p : Placed) × (entry id (staying_omni s) ≡ Some p) × (p.placement ≡ OnAll e)
    by None at h = absurd (cc)
    by (Some p) at h =
        let placement : p.placement ≡ OnAll e = some_same p.placement (OnAll e) h in
        let one = entry_filter (λ q. not (is_being_removed q.id s)) id p s.placed at
        (ap (λ (k : ℕ). not (is_being_removed k s)) (entry_id id p s.placed at) ∙ ap not shut) in (
          p,
          entry_filter (λ q. is_on_all q.placement) id p (filter (λ q. not (is_being_removed q.id s)) s.placed) one (ap is_on_all
              placement),
          placement,
        )

placed_return : (indexes : ℕ → ℕ) (n id : ℕ) (p : Placement) (s : State) → (return_here indexes n id p s).state.placed ≡ s.placed
placed_return indexes n id (On k bound) s = refl
placed_return indexes n id (OnAll e) s = refl

pub placed_returns : (indexes : ℕ → ℕ) (n : ℕ) (ps : List Placed) (s : State)
    → (each (return_of indexes n) ps s).state.placed ≡ s.placed
placed_returns indexes n [] s = refl
placed_returns indexes n (p ∷ ps) s =
    placed_returns indexes n ps (return_of indexes n p s).state ∙ placed_return indexes n p.id p.placement s

long_returns : (indexes : ℕ → ℕ) (n : ℕ) (ps : List Placed) (s : State)
    → length (each (return_of indexes n) ps s).state.cpus ≡ length s.cpus
long_returns indexes n [] s = refl
long_returns indexes n (p ∷ ps) s =
    long_returns indexes n ps (return_of indexes n p s).state ∙ (return_clock indexes n p.id p.placement s).1

module _ (indexes : ℕ → ℕ) (step n : ℕ) (s : State) where
  abbrev pub widens : State
  widens = (on_number n (widen_here n (length (staying_omni s))) s).state

  abbrev back : State
  back = (each (return_of indexes n) (staying_omni s) (on_number n (widen_here n (length (staying_omni s))) s).state).state

  pub online_elsewhere : (m : ℕ) → m ≢ n → cpu_of m (online indexes step n s).state ≡ cpu_of m s
  online_elsewhere m far =
      on_elsewhere n m (λ c. nothing_here (go_online c)) back far
      ∙ (returns_elsewhere indexes n m (staying_omni s) widens far
      ∙ on_elsewhere n m (widen_here n (length (staying_omni s))) s far)

  long_back : length back.cpus ≡ length s.cpus
  long_back = long_returns indexes n (staying_omni s) widens ∙ on_long n (widen_here n (length (staying_omni s))) s

  pub online_there : n < length s.cpus → cpu_of n (online indexes step n s).state ≡ go_online (cpu_of n back)
  online_there within = on_there n (λ c. nothing_here (go_online c)) back (subst (λ k. n < k) (sym long_back) within)

  pub online_component : (id : ℕ) (e : Everywhere) → Good s → n < length s.cpus → placement_of id s ≡ Some (OnAll e)
      → is_being_removed id s ≡ false → found id (cpu_of n s).cyclics ≡ None
      → series_on id (cpu_of n (online indexes step n s).state) ≡ Some (component_begins_at n e s.clock, e.interval)
  online_component id e g within placement shut none =
      let p = stays_entry id e s placement shut in
      ap (series_on id) (online_there within)
      ∙ returns_there indexes n id e p.0 0 s.last_id (staying_omni s) widens (staying_rise s g)
      (subst (λ k. n < k) (sym (on_long n (widen_here n (length (staying_omni s))) s)) within)
      (seen_at (found_in id) s widens
      (on_same (found_in id) n (widen_here n (length (staying_omni s))) s
      (ap (found id) (widened_same n (length (staying_omni s)) (cpu_of n s)))) n ∙ none) p.1 p.2

-- ---- offline: the components of one CPU end

pub retires_elsewhere : (n m : ℕ) (ids : List ℕ) (s : State) → m ≢ n → cpu_of m (each (retire n) ids s).state ≡ cpu_of m s
retires_elsewhere n m [] s far = refl
retires_elsewhere n m (j ∷ ids) s far =
    let o = cyclic_with_id j (cpu_of n s) in
    retires_elsewhere n m ids (retire n j s).state far
    ∙ (on_elsewhere n m (take_here n j) (keep_counts n o s) far ∙ cpu_counts n m o s)

placed_counts : (n : ℕ) (o : Option CyclicState) (s : State) → (keep_counts n o s).placed ≡ s.placed
placed_counts n None s = refl
placed_counts n (Some x) s = refl

pub placed_retires : (n : ℕ) (ids : List ℕ) (s : State) → (each (retire n) ids s).state.placed ≡ s.placed
placed_retires n [] s = refl
placed_retires n (j ∷ ids) s =
    placed_retires n ids (retire n j s).state ∙ placed_counts n (cyclic_with_id j (cpu_of n s)) s

long_counts : (n : ℕ) (o : Option CyclicState) (s : State) → length (keep_counts n o s).cpus ≡ length s.cpus
long_counts n None s = refl
long_counts n (Some x) s = refl

pub long_retires : (n : ℕ) (ids : List ℕ) (s : State) → length (each (retire n) ids s).state.cpus ≡ length s.cpus
long_retires n [] s = refl
long_retires n (j ∷ ids) s =
    let o = cyclic_with_id j (cpu_of n s) in
    long_retires n ids (retire n j s).state ∙ (on_long n (take_here n j) (keep_counts n o s) ∙ long_counts n o s)

retired_elsewhere : (n m : ℕ) (s : State) → m ≢ n → cpu_of m (retire_all n s).state ≡ cpu_of m s
retired_elsewhere n m s far =
    on_elsewhere n m (λ c. nothing_here (go_offline c)) (each (retire n) (ids_of_cpu n s) s).state far
    ∙ retires_elsewhere n m (ids_of_cpu n s) s far

-- what becomes of the others, whether the CPU went offline or not
pub offline_elsewhere : (indexes : ℕ → ℕ) (step n : ℕ) (s : State) (m : ℕ) → m ≢ n
    → cpu_of m (offline plain indexes step n s).state ≡ cpu_of m (juggled plain indexes n s).outcome.state
offline_elsewhere indexes step n s m far = by (single_ids_of n (juggled plain indexes n s).outcome.state)
  where
    last : (b : Bool) → cpu_of m (last_part b step n (juggled plain indexes n s).outcome).state
        ≡ cpu_of m (juggled plain indexes n s).outcome.state
    last true = refl
    last false = retired_elsewhere n m (juggled plain indexes n s).outcome.state far

    by : (ids : List ℕ) → cpu_of m (leaving plain step n ids (juggled plain indexes n s)).state
        ≡ cpu_of m (juggled plain indexes n s).outcome.state
    by (j ∷ ids) = refl
    by [] = last (any_pending plain n (ids_of_cpu n (juggled plain indexes n s).outcome.state)
        (juggled plain indexes n s).outcome.state)
