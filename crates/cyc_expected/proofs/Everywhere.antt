-- What each word makes of an omnipresent cyclic.
use Rattle.std.proofs.Common.{◌≡◌, ℕ, ◌+◌, ◌<◌, Bool, true, false, cond, List, [], ◌∷◌, map, length, sum_by}
use Rattle.std.proofs.Common.{refl, ap, sym, ◌∙◌, subst, arith, zero, suc, Option, Some, None, ⊎_elim}
use Rattle.std.specs.Prelude.{slice_set, slice_index_or}
use Rattle.std.specs.Option.{option_map}
use Rattle.std.proofs.lemmas.List.{length-map}
use Rattle.cyc_types.specs.declared.refusal.Refusal.TheVariants.{Online as OnlineRefusal}
use Rattle.cyc_types.specs.Series.{never}
use Rattle.cyc_script.specs.declared.step.Omni.{Omni as OmniStep}
use Rattle.cyc_script.specs.declared.step.Step.{Step}
use Rattle.cyc_script.specs.declared.step.Step.TheVariants.{Add, Omni, Bind, Unbind, Reprogram, Remove, Advance, Softint, Juggle}
use Rattle.cyc_script.specs.declared.step.Step.TheVariants.{Offline, Online, Suspend, Resume}
use Rattle.cyc_model.specs.Cpu.{Cpu, nothing_here}
use Rattle.cyc_model.specs.Firing.{fire_here}
use Rattle.cyc_model.specs.Questions.{plain}
use Rattle.cyc_model.specs.State.{State, Everywhere, OnAll, Placed, cpu_of, on_number, each, cpus_online, absent}
use Rattle.cyc_model.specs.Places.{placement_of, is_omni, is_placed_everywhere, given}
use Rattle.cyc_types.specs.Reasons.{busy, bad_now}
use Rattle.cyc_model.specs.Refusals.{is_no_cpu, cpu_is_offline, is_last_online, magnitude}
use Rattle.cyc_model.specs.Juggle.{juggled, single_ids_of}
use Rattle.cyc_model.specs.Offline.{ids_of_cpu, any_pending, last_part, leaving, retire, retire_all, go_offline}
use Rattle.cyc_model.specs.Online.{staying_omni, is_online_already, no_room_for_all}
use Rattle.cyc_model.specs.Omni.{everywhere}
use Rattle.cyc_model.specs.Script.{refusal_of, does}
use Rattle.cyc_model.proofs.Rising.{found, due_of_found}
use Rattle.cyc_model.proofs.Placing.{entry, placement_given_new, placement_new}
use Rattle.cyc_model.proofs.Totals.{expired_in}
use Rattle.cyc_model.proofs.Base.{gone_away}
use Rattle.cyc_model.proofs.Numbers.{Has, has_or_not, numbers_rise, numbers_pass, pass_numbers, not_leaving}
use Rattle.cyc_model.proofs.Refusing.{none_first, not_when, is_cpu}
use Rattle.cyc_model.proofs.Spread.{Good, found_or_not, has_number}
use Rattle.cyc_model.proofs.Juggling.{juggling}
use Rattle.cyc_model.proofs.Staying.{not_open}
use Rattle.cyc_model.proofs.Calm.{good_clock}
use Rattle.cyc_model.proofs.Reaching.{well_does}
use Rattle.cyc_expected.specs.Course.{OnEach, component_begins_at, components_from, due_everywhere}
use Rattle.cyc_expected.proofs.Seen.{same_leaving, seen_at, removal_of, removal_alike, keeps_offline, keeps_online}
use Rattle.cyc_expected.proofs.Seen.{keeps_enters}
use Rattle.cyc_expected.proofs.Fires.{all_fired, due_at, Fired, Later}
use Rattle.cyc_expected.proofs.Running.{found_in, placement_enters}
use Rattle.cyc_expected.proofs.Goes.{IsOther, IsFixed, IsHere, left_does, placement_fires, new_shut}
use Rattle.cyc_expected.proofs.Spread.{series_of, series_on, with_interval, Spread, spread_given, spread_left, spread_one}
use Rattle.cyc_expected.proofs.Spread.{components_long, components_at, due_there, next_there, next_at, due_then, next_then}
use Rattle.cyc_expected.proofs.Spread.{sum_numbers}
use Rattle.cyc_expected.proofs.Unmoved.{left_bind, left_unbind, left_juggled}
use Rattle.cyc_expected.proofs.Components.{enters_there, enters_elsewhere, online_elsewhere, online_component}
use Rattle.cyc_expected.proofs.Components.{offline_elsewhere, placed_retires, placed_returns, long_retires, widens, on_there}

-- a CPU that is offline has no cyclic
offline_empty : (id m : ℕ) (s : State) → Good s → (cpu_of m s).online ≡ false → found id (cpu_of m s).cyclics ≡ None
offline_empty id m s g off = ⊎_elim
    (λ some. let wrong : true ≡ false = sym (g.spread.there m id some) ∙ off in absurd (cc)) (λ none. none)
    (found_or_not id (cpu_of m s))

module _ (texts : List (List ℕ)) (f : ℕ → ℕ) (step id : ℕ) (e : Everywhere) (moments : List (Option ℕ)) (s : State) (g : Good s)
    (h : Spread id e moments s) where
  abbrev after : Step → State
  after x = (does plain texts f step x s).state

  all : is_omni id s ≡ true
  all = ap is_placed_everywhere h.placement

  long : (x : Step) → refusal_of plain x s ≡ None → length (after x).cpus ≡ length s.cpus
  long x why = (well_does texts f step x s g why).0.tells.as_many

  fixed : (x : Step) → refusal_of plain x s ≡ None → IsOther id s x → IsFixed x → Spread id e moments (after x)
  fixed x why other is = spread_left id e moments s h (after x) (long x why)
      (left_does texts f step id x s other is (spread_given id e moments s h g) h.stays)

  pub spread_does : (x : Step) → refusal_of plain x s ≡ None → IsOther id s x → IsHere x → Spread id e moments (after x)
  spread_does (Add a) why other is = fixed (Add a) why other tt
  spread_does (Omni a) why other is = fixed (Omni a) why other tt
  spread_does (Bind b) why other is = spread_left id e moments s h (after (Bind b)) (long (Bind b) why)
      (left_bind id f step b s why all)
  spread_does (Unbind name) why other is = spread_left id e moments s h (after (Unbind name)) (long (Unbind name) why)
      (left_unbind id step name s why all)
  spread_does (Reprogram r) why other is = fixed (Reprogram r) why other tt
  spread_does (Remove name) why other is = fixed (Remove name) why other tt
  spread_does (Advance now) why other is = absurd other
  spread_does (Softint i) why other is = fixed (Softint i) why other tt
  spread_does (Juggle n) why other is = spread_left id e moments s h (after (Juggle n)) (long (Juggle n) why)
      (left_juggled id f n s all)
  spread_does (Offline n) why other is = absurd is
  spread_does (Online n) why other is = absurd is
  spread_does Suspend why other is = fixed Suspend why other tt
  spread_does Resume why other is = fixed Resume why other tt

  -- ---- a CPU goes offline, or does not, or comes back

  placed_same : (t u : State) → u.placed ≡ t.placed → placement_of id u ≡ placement_of id t
  placed_same t u same = ap (λ ps. option_map (λ (p : Placed). p.placement) (entry id ps)) same

  abbrev moved : ℕ → State
  moved n = (juggled plain f n s).outcome.state

  placement_offline : (n : ℕ) → placement_of id (after (Offline n)) ≡ placement_of id (moved n)
  placement_offline n = by (single_ids_of n (moved n))
    where
      last : (b : Bool) → placement_of id (last_part b step n (juggled plain f n s).outcome).state ≡ placement_of id (moved n)
      last true = refl
      last false = placed_same (moved n) (retire_all n (moved n)).state (placed_retires n (ids_of_cpu n (moved n)) (moved n))

      by : (ids : List ℕ) → placement_of id (leaving plain step n ids (juggled plain f n s)).state ≡ placement_of id (moved n)
      by (j ∷ ids) = refl
      by [] = last (any_pending plain n (ids_of_cpu n (moved n)) (moved n))

  -- its component there has ended
  pub spread_offline : (n : ℕ) → refusal_of plain (Offline n) s ≡ None → (cpu_of n (after (Offline n))).online ≡ false
      → Spread id e (slice_set moments n None) (after (Offline n))
  spread_offline n why off =
      let t = after (Offline n) in
      let left = left_juggled id f n s all in
      let one = none_first (is_no_cpu n s) (cpu_is_offline n s ∷ is_last_online n s ∷ busy (cpu_of n s).removal ∷ []) why in
      spread_one id e moments s h n None t (is_cpu n s one.0) (long (Offline n) why)
      (same_leaving id s t (keeps_offline f step n s) ∙ h.stays) (placement_offline n ∙ left.placement)
      (λ m far. ap (λ (c : Cpu). found id c.cyclics) (offline_elsewhere f step n s m far)
      ∙ seen_at (found_in id) s (moved n) left.found_ m)
      (ap (option_map series_of) (offline_empty id n t (well_does texts f step (Offline n) s g why).1 off))

  -- it stands as it was, where cyclics or calls were left on the CPU
  pub spread_remained : (n : ℕ) → refusal_of plain (Offline n) s ≡ None → (cpu_of n (after (Offline n))).online ≡ true
      → Spread id e moments (after (Offline n))
  spread_remained n why = by (single_ids_of n (moved n))
    where
      long_moved : length (moved n).cpus ≡ length s.cpus
      long_moved = (juggling f n s g why).7.tells.as_many

      moved_spread : Spread id e moments (moved n)
      moved_spread = spread_left id e moments s h (moved n) long_moved (left_juggled id f n s all)

      last : (b : Bool) → (cpu_of n (last_part b step n (juggled plain f n s).outcome).state).online ≡ true
          → Spread id e moments (last_part b step n (juggled plain f n s).outcome).state
      last true on_ = moved_spread
      last false on_ =
          let r = moved n in
          let u = (each (retire n) (ids_of_cpu n r) r).state in
          let within : n < length u.cpus = subst (λ k. n < k) (sym (long_retires n (ids_of_cpu n r) r ∙ long_moved))
          (juggling f n s g why).5 in
          let off = ap (λ (c : Cpu). c.online) (on_there n (λ c. nothing_here (go_offline c)) u within) in
          absurd (let wrong : true ≡ false = sym on_ ∙ off in cc)

      by : (ids : List ℕ) → (cpu_of n (leaving plain step n ids (juggled plain f n s)).state).online ≡ true
          → Spread id e moments (leaving plain step n ids (juggled plain f n s)).state
      by (j ∷ ids) on_ = moved_spread
      by [] on_ = last (any_pending plain n (ids_of_cpu n (moved n)) (moved n)) on_

  -- its component there has begun anew
  pub spread_online : (n : ℕ) → refusal_of plain (Online n) s ≡ None
      → Spread id e (slice_set moments n (Some (component_begins_at n e s.clock))) (after (Online n))
  spread_online n why =
      let t = after (Online n) in
      let room = no_room_for_all plain n (length (staying_omni s)) (cpu_of n s) in
      let one = none_first (is_no_cpu n s) (is_online_already n s ∷ bad_now s.clock ∷ room ∷ []) why in
      let two = none_first (is_online_already n s) (bad_now s.clock ∷ room ∷ []) one.1 in
      let within = is_cpu n s one.0 in
      spread_one id e moments s h n (Some (component_begins_at n e s.clock)) t within (long (Online n) why)
      (same_leaving id s t (keeps_online f step n s) ∙ h.stays)
      (placed_same s t (placed_returns f n (staying_omni s) (widens f step n s)))
      (λ m far. ap (λ (c : Cpu). found id c.cyclics) (online_elsewhere f step n s m far))
      (online_component f step n s id e g within h.placement h.stays
      (offline_empty id n s g (not_when (cpu_of n s).online OnlineRefusal two.0)))

  -- ---- every online CPU fires

  abbrev fires : ℕ → State
  fires now = (each (λ n. on_number n (fire_here n now)) (cpus_online s) (record s { clock = now })).state

  pub spread_fired : (now : ℕ) → now < never → length (fires now).cpus ≡ length s.cpus
      → Spread id e (map (next_then e.interval now) moments) (fires now)
      × (expired_in id (fires now) ≡ expired_in id s + due_everywhere now (OnEach e moments))
  spread_fired now before as_many = (
    record {
      stays = not_open id (fires now) (λ m is. not_leaving id s h.stays m (sym (fired.removal m) ∙ is));
      placement = placement_fires id now (cpus_online s) (record s { clock = now }) ∙ h.placement;
      long = length-map moments (next_then e.interval now) ∙ (h.long ∙ sym as_many);
      here = λ m. next_there e.interval now (found id (cpu_of m s).cyclics) (found id (cpu_of m (fires now)).cyclics)
          (slice_index_or moments m None) (h.here m) (later m)
          ∙ ap (with_interval e.interval) (sym (next_at e.interval now moments m));
    },
    fired.expired ∙ ap (λ k. expired_in id s + k) sum,
  )
    where
      fired : Fired id now before (cpus_online s) (record s { clock = now }) (fires now)
      fired = all_fired id now before 0 (cpus_online s) (record s { clock = now }) (good_clock now s g)
          (numbers_rise (λ (c : Cpu). c.online) 0 s.cpus) (λ m has. (numbers_pass (λ (c : Cpu). c.online) m s has).0)

      -- a CPU that does not fire is offline, and so it has no component
      quiet : (m : ℕ) → (Has m (cpus_online s) → ⊥) → found id (cpu_of m s).cyclics ≡ None
      quiet m idle = ⊎_elim
          (λ some. absurd (idle (pass_numbers (λ (c : Cpu). c.online) m s (has_number s m id some) (g.spread.there m id some))))
          (λ none. none) (found_or_not id (cpu_of m s))

      later : (m : ℕ) → Later now (found id (cpu_of m s).cyclics) (found id (cpu_of m (fires now)).cyclics)
      later m = ⊎_elim (λ has. fired.later m has)
          (λ idle. subst (λ o. Later now o (found id (cpu_of m (fires now)).cyclics)) (sym (quiet m idle))
          (ap (λ (c : Cpu). found id c.cyclics) (fired.others m idle) ∙ quiet m idle)) (has_or_not m (cpus_online s))

      one : (m : ℕ) → cond (cpu_of m s).online (due_at id now before (record s { clock = now }) (0 + m)) 0
          ≡ due_then e.interval now (slice_index_or moments m None)
      one m = by (cpu_of m s).online refl
        where
          same : due_of_found now (found id (cpu_of m s).cyclics) ≡ due_then e.interval now (slice_index_or moments m None)
          same = due_there e.interval now (found id (cpu_of m s).cyclics) (slice_index_or moments m None) (h.here m)

          none_plus : (k : ℕ) → 0 + k ≡ k
          none_plus k = omega arith

          by : (b : Bool) → (cpu_of m s).online ≡ b
              → cond b (due_at id now before (record s { clock = now }) (0 + m)) 0
              ≡ due_then e.interval now (slice_index_or moments m None)
          by true is = ap (λ k. due_of_found now (found id (cpu_of k s).cyclics)) (none_plus m) ∙ same
          by false is = sym (ap (due_of_found now) (offline_empty id m s g is)) ∙ same

      sum : sum_by (due_at id now before (record s { clock = now })) (cpus_online s) ≡ due_everywhere now (OnEach e moments)
      sum = sum_numbers (λ (c : Cpu). c.online) (due_at id now before (record s { clock = now })) (due_then e.interval now) 0
          s.cpus moments h.long one

-- ---- it begins, with a component on each online CPU

online_within : (m : ℕ) (s : State) → (cpu_of m s).online ≡ true → m < length s.cpus
online_within m s is = by s.cpus m is
  where
    by : (cs : List Cpu) (k : ℕ) → (slice_index_or cs k absent).online ≡ true → k < length cs
    by [] k on_ = absurd (let wrong : false ≡ true = on_ in cc)
    by (c ∷ cs) zero on_ = omega arith
    by (c ∷ cs) (suc k) on_ = let r = by cs k on_ in omega (arith, r)

module _ (texts : List (List ℕ)) (f : ℕ → ℕ) (step : ℕ) (a : OmniStep) (ups : List Bool) (s : State) (g : Good s)
    (as_many : length ups ≡ length s.cpus) (up : (m : ℕ) → slice_index_or ups m false ≡ (cpu_of m s).online) where
  abbrev new : ℕ
  new = s.last_id + 1

  abbrev known : State
  known = given a.name (OnAll (everywhere a)) s

  abbrev began : State
  began = (does plain texts f step (Omni a) s).state

  -- the component that a CPU begins with
  abbrev begins_with : Bool → ℕ → Option ℕ
  begins_with on_ m = cond on_ (Some (component_begins_at m (everywhere a) s.clock)) None

  begun_here : (m : ℕ) (b : Bool) → (cpu_of m s).online ≡ b
      → series_on new (cpu_of m began) ≡ with_interval (magnitude a.interval) (begins_with b m)
  begun_here m true is =
      let within = online_within m s is in
      enters_there f new (everywhere a) 0 m (cpus_online known) known (numbers_rise (λ (c : Cpu). c.online) 0 s.cpus)
      (pass_numbers (λ (c : Cpu). c.online) m s within is) within (gone_away None s g.base new (placement_new s g.base.rise) m)
  begun_here m false is =
      let idle : Has m (cpus_online known) → ⊥ = λ has.
      let wrong : true ≡ false = sym (numbers_pass (λ (c : Cpu). c.online) m s has).1 ∙ is in absurd (cc) in
      ap (series_on new) (enters_elsewhere f new (everywhere a) m (cpus_online known) known idle)
      ∙ ap (option_map series_of) (offline_empty new m s g is)

  pub spread_begun : length began.cpus ≡ length s.cpus
      → Spread new (everywhere a) (components_from 0 (everywhere a) s.clock ups) began
  spread_begun long = record {
    stays = same_leaving new s began
        (keeps_enters removal_of removal_alike f new (everywhere a) (cpus_online known) known) ∙ new_shut s g;
    placement = placement_enters new f new (everywhere a) (cpus_online known) known
        ∙ placement_given_new a.name (OnAll (everywhere a)) s g.base.rise;
    long = components_long 0 (everywhere a) s.clock ups ∙ (as_many ∙ sym long);
    here = λ m. begun_here m (cpu_of m s).online refl ∙ ap (with_interval (magnitude a.interval))
        (ap (λ b. begins_with b m) (sym (up m)) ∙ (ap (begins_with (slice_index_or ups m false)) (none_plus m)
        ∙ sym (components_at 0 (everywhere a) s.clock ups m)));
  }
    where
      none_plus : (m : ℕ) → m ≡ 0 + m
      none_plus m = omega arith
