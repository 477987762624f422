-- A cyclic comes to a CPU: add and omni.
use Rattle.std.proofs.Common.{◌≡◌, ◌≢◌, ℕ, zero, suc, ◌+◌, ◌<◌, Bool, true, false, cond, List, [], ◌∷◌, map, length, Option, Some}
use Rattle.std.proofs.Common.{None, refl, ap, sym, ◌∙◌, subst, inl, ⊎_elim, arith}
use Rattle.std.specs.Prelude.{IsSome, is_some, int_lt, pos, slice_index_or}
use mathlib.Core.Logic.{dite}
use native.Mathlib.Decide.{ℕ_discrete}
use Rattle.cyc_types.specs.Limits.{last_id as greatest_id}
use Rattle.cyc_types.specs.declared.refusal.Refusal.TheVariants.{BadWhen, BadInterval}
use Rattle.cyc_level.specs.Lawful.{IsId}
use Rattle.cyc_script.specs.declared.step.Add.{Add as AddStep}
use Rattle.cyc_script.specs.declared.step.Omni.{Omni as OmniStep}
use Rattle.cyc_model.specs.Cpu.{CyclicState, Cpu, Here, is_of}
use Rattle.cyc_model.specs.Moving.{put_in, enter_here}
use Rattle.cyc_model.specs.Questions.{plain}
use Rattle.cyc_model.specs.State.{State, Placement, On, OnAll, Everywhere, absent, on_number, cpu_of, each, cpus_online}
use Rattle.cyc_model.specs.Places.{placement_of, given, destination_of, home_at, is_placed_everywhere}
use Rattle.cyc_types.specs.Reasons.{when, first_refusal, bad_now}
use Rattle.cyc_model.specs.Refusals.{no_id_left, no_room}
use Rattle.cyc_model.specs.Add.{enter, add_refusal, added, add}
use Rattle.cyc_model.specs.Omni.{component, no_room_on_each, omni_refusal, everywhere, omni}
use Rattle.cyc_model.proofs.Local.{local_enter}
use Rattle.cyc_model.proofs.Given.{rise_append}
use Rattle.cyc_model.proofs.Rising.{found, put_same, put_other}
use Rattle.cyc_model.proofs.Whole.{Done}
use Rattle.cyc_model.proofs.Moves.{CanGrow}
use Rattle.cyc_model.proofs.Stays.{none_and_some, done_enter, entered_cyclics, entered_removal, entered_online}
use Rattle.cyc_model.proofs.Totals.{carried, expired_of, lost_of}
use Rattle.cyc_model.proofs.Shifts.{shift_enter}
use Rattle.cyc_model.proofs.Placing.{placement_given_new, placement_given_old, placement_given_other, placement_new}
use Rattle.cyc_model.proofs.Base.{IsAt, Base, IsGone, Goes, goes_from, goes_to, goes_on, base_on, cpu_there, cpu_elsewhere}
use Rattle.cyc_model.proofs.Base.{gone_away}
use Rattle.cyc_model.proofs.Numbers.{Has, has_or_not, numbers_rise, numbers_pass, pass_numbers, Turned, looped}
use Rattle.cyc_model.proofs.Numbers.{destination_online}
use Rattle.cyc_model.proofs.Refusing.{none_first, room_grows, few_ids}
use Rattle.cyc_model.proofs.Spread.{Stands, Good, Still, stands_still}
use Rattle.cyc_model.proofs.Calm.{Well}

-- ---- one cyclic comes to one CPU

module _ (indexes : ℕ → ℕ) (n : ℕ) (x : CyclicState) (s : State) (within : n < length s.cpus) (b : Base (Some x) s)
    (new : found x.timer.id (cpu_of n s).cyclics ≡ None) (is_id : IsId x.timer.id) (can : CanGrow 1 (cpu_of n s))
    (at : IsAt n (placement_of x.timer.id s)) where
  abbrev f : Cpu → Here
  f = enter_here n (indexes s.admissions) x

  pub done_there : Done n (λ j. 0) (cpu_of n s) (enter_here n (indexes s.admissions) x (cpu_of n s))
  done_there = done_enter n (indexes s.admissions) x (cpu_of n s) (b.whole n) is_id new can

  pub enter_goes : Goes (enter indexes n x s).acts s (enter indexes n x s).state
  enter_goes = goes_to _ s (on_number n (enter_here n (indexes s.admissions) x) s).state _
      (goes_on n (enter_here n (indexes s.admissions) x) (λ j. 0) s within done_there (Some x) b
      (local_enter n (indexes s.admissions) x) (λ id none. refl)) refl refl (λ id g. g)

  pub enter_there : ((cpu_of n (enter indexes n x s).state).cyclics ≡ put_in x (cpu_of n s).cyclics)
      × ((cpu_of n (enter indexes n x s).state).removal ≡ (cpu_of n s).removal)
      × ((cpu_of n (enter indexes n x s).state).online ≡ (cpu_of n s).online)
  enter_there =
      let e = cpu_there n (enter_here n (indexes s.admissions) x) (λ j. 0) s within done_there in (
        ap (λ (c : Cpu). c.cyclics) e ∙ entered_cyclics n (indexes s.admissions) x (cpu_of n s) (b.whole n) is_id new can,
        ap (λ (c : Cpu). c.removal) e ∙ entered_removal n (indexes s.admissions) x (cpu_of n s) (b.whole n) is_id new can,
        ap (λ (c : Cpu). c.online) e ∙ entered_online n (indexes s.admissions) x (cpu_of n s) (b.whole n) is_id new can,
      )

  pub enter_elsewhere : (m : ℕ) → m ≢ n → cpu_of m (enter indexes n x s).state ≡ cpu_of m s
  enter_elsewhere m ne = cpu_elsewhere n (enter_here n (indexes s.admissions) x) (λ j. 0) s within done_there m ne

  pub enter_base : Base None (enter indexes n x s).state
  enter_base =
      let r = base_on n (enter_here n (indexes s.admissions) x) (λ j. 0) s within done_there (Some x) None b
      (shift_enter n (indexes s.admissions) x (cpu_of n s) (b.whole n) is_id new can)
      (λ id some. dite (ℕ_discrete x.timer.id id)
      (λ e. subst (λ k. IsAt n (placement_of k s)) e at)
      (λ ne. b.homes n id (subst (λ o. IsSome o) (put_other id x (cpu_of n s).cyclics ne)
      (subst (λ cs. IsSome (found id cs)) (entered_cyclics n (indexes s.admissions) x (cpu_of n s) (b.whole n) is_id new can)
      some)))) in
      record { whole = r.whole; homes = r.homes; rise = r.rise; few = r.few; books = r.books }

  -- it is found there, and each other is where it was
  pub enter_found : IsSome (found x.timer.id (cpu_of n (enter indexes n x s).state).cyclics)
  enter_found = ap (λ cs. is_some (found x.timer.id cs)) enter_there.0
      ∙ ap is_some (put_same x.timer.id x (cpu_of n s).cyclics refl new)

  pub enter_same : (j : ℕ) → j ≢ x.timer.id → (m : ℕ)
      → found j (cpu_of m (enter indexes n x s).state).cyclics ≡ found j (cpu_of m s).cyclics
  enter_same j ne m = dite (ℕ_discrete m n)
      (λ e. subst (λ k. found j (cpu_of k (enter indexes n x s).state).cyclics ≡ found j (cpu_of k s).cyclics) (sym e)
      (ap (λ cs. found j cs) enter_there.0 ∙ put_other j x (cpu_of n s).cyclics (λ same. ne (sym same))))
      (λ far. ap (λ (c : Cpu). found j c.cyclics) (enter_elsewhere m far))

  pub enter_removal : (m : ℕ) → (cpu_of m (enter indexes n x s).state).removal ≡ (cpu_of m s).removal
  enter_removal m = dite (ℕ_discrete m n)
      (λ e. subst (λ k. (cpu_of k (enter indexes n x s).state).removal ≡ (cpu_of k s).removal) (sym e) enter_there.1)
      (λ far. ap (λ (c : Cpu). c.removal) (enter_elsewhere m far))

  pub enter_online : (m : ℕ) → (cpu_of m (enter indexes n x s).state).online ≡ (cpu_of m s).online
  enter_online m = dite (ℕ_discrete m n)
      (λ e. subst (λ k. (cpu_of k (enter indexes n x s).state).online ≡ (cpu_of k s).online) (sym e) enter_there.2)
      (λ far. ap (λ (c : Cpu). c.online) (enter_elsewhere m far))

  pub enter_still : (j : ℕ) → j ≢ x.timer.id → Still j s (enter indexes n x s).state
  enter_still j ne = record {
    ids = λ m. ap is_some (enter_same j ne m);
    removal = enter_removal;
    online = enter_online;
  }

-- ---- a cyclic that has not expired

carried_none : (g : CyclicState → ℕ) (id : ℕ) (x : CyclicState) → g x ≡ 0 → carried g id (Some x) ≡ 0
carried_none g id x none = by (is_of id x)
  where
    by : (b : Bool) → cond b (g x) 0 ≡ 0
    by true = none
    by false = refl

pub base_fresh : (x : CyclicState) (s : State) → expired_of x ≡ 0 → lost_of x ≡ 0 → Base None s → Base (Some x) s
base_fresh x s expired lost b = record {
  whole = b.whole;
  homes = b.homes;
  rise = b.rise;
  few = b.few;
  books = λ id. let a = carried_none expired_of id x expired in let c = carried_none lost_of id x lost in
      let h = b.books id in omega (arith, a, c, h);
}

module _ (name : ℕ) (placement : Placement) (s : State) (b : Base None s) (few : s.last_id < greatest_id) where
  pub given_base : Base None (given name placement s)
  given_base = record {
    whole = b.whole;
    homes = λ n id some. by n id (placement_of id s) refl (b.homes n id some);
    rise = rise_append 0 s.last_id placement s.placed b.rise;
    few = omega (arith, few);
    books = b.books;
  }
    where
      by : (n id : ℕ) (o : Option Placement) → placement_of id s ≡ o → IsAt n (placement_of id s)
          → IsAt n (placement_of id (given name placement s))
      by n id None is at = absurd (subst (λ o. IsAt n o) is at)
      by n id (Some p) is at = subst (λ o. IsAt n o) (is ∙ sym (placement_given_old name placement s id p is)) at

  pub given_gone : (id : ℕ) → IsGone id s → IsGone id (given name placement s)
  given_gone id gone =
      let le = gone.0 in
      (omega (arith, le), placement_given_other name placement s id (λ (e : id ≡ s.last_id + 1). omega (arith, le, e)) ∙ gone.1)

  new_id : IsId (s.last_id + 1)
  new_id = (omega arith, omega (arith, few))

-- the new id is on no CPU
new_away : (s : State) → Base None s → (n : ℕ) → found (s.last_id + 1) (cpu_of n s).cyclics ≡ None
new_away s b n = gone_away None s b (s.last_id + 1) (placement_new s b.rise) n

-- a placement that was there before is that of an older id
older : (name : ℕ) (placement : Placement) (s : State) (j : ℕ) (p : Placement) → Base None s → j ≢ s.last_id + 1
    → placement_of j (given name placement s) ≡ Some p → placement_of j s ≡ Some p
older name placement s j p b ne is = sym (placement_given_other name placement s j ne) ∙ is

pub well_add : (indexes : ℕ → ℕ) (step : ℕ) (a : AddStep) (s : State) → Good s → add_refusal plain a s ≡ None
    → Well (add indexes step a s) s
well_add indexes step a s g why =
    let b = g.base in
    let one = none_first (when (int_lt a.start (pos 0)) BadWhen)
    (when (int_lt a.interval (pos 1)) BadInterval ∷ bad_now s.clock ∷ no_id_left s
    ∷ no_room plain (destination_of None s) (s.last_id + 1) 1 (cpu_of (destination_of None s) s) ∷ []) why in
    let two = none_first (when (int_lt a.interval (pos 1)) BadInterval) (bad_now s.clock ∷ no_id_left s
    ∷ no_room plain (destination_of None s) (s.last_id + 1) 1 (cpu_of (destination_of None s) s) ∷ []) one.1 in
    let three = none_first (bad_now s.clock) (no_id_left s
    ∷ no_room plain (destination_of None s) (s.last_id + 1) 1 (cpu_of (destination_of None s) s) ∷ []) two.1 in
    let four = none_first (no_id_left s) (no_room plain (destination_of None s) (s.last_id
    + 1) 1 (cpu_of (destination_of None s) s) ∷ []) three.1 in
    let room = (none_first (no_room plain (destination_of None s) (s.last_id + 1) 1 (cpu_of (destination_of None s) s)) []
    four.1).0 in
    let few = few_ids s four.0 in
    let n = destination_of None s in
    let x = added a s in
    let r = given a.name (On n false) s in
    let dest = destination_online None s g.spread.some.0
    (pass_numbers (λ (c : Cpu). c.online) g.spread.some.0 s g.spread.some.1 g.spread.some.2) refl in
    let online = numbers_pass (λ (c : Cpu). c.online) n s dest.0 in
    let rb = base_fresh x r refl refl (given_base a.name (On n false) s b few) in
    let here = placement_given_new a.name (On n false) s b.rise in
    let at : IsAt n (placement_of (s.last_id + 1) r) = subst (λ o. IsAt n o) (sym here) refl in
    let can = room_grows n (s.last_id + 1) 1 (cpu_of n s) room in
    let is_id : IsId (s.last_id + 1) = new_id a.name (On n false) s b few in
    let new = new_away s b n in
    let goes = enter_goes indexes n x r online.0 rb new is_id can at in
    let t = (enter indexes n x r).state in
    let there = enter_there indexes n x r online.0 rb new is_id can at in
    let still = enter_still indexes n x r online.0 rb new is_id can at in
    let elsewhere = enter_elsewhere indexes n x r online.0 rb new is_id can at in (
      goes_from _ s r t goes refl refl (given_gone a.name (On n false) s b few),
      record {
        base = enter_base indexes n x r online.0 rb new is_id can at;
        spread = record {
          some = (n, subst (λ k. n < k) (sym goes.tells.as_many) online.0, there.2 ∙ online.1);
          there = λ m j some. dite (ℕ_discrete m n)
              (λ e. ap (λ (k : ℕ). (cpu_of k t).online) e ∙ there.2 ∙ online.1)
              (λ far. ap (λ (c : Cpu). c.online) (elsewhere m far)
              ∙ g.spread.there m j (subst (λ (c : Cpu). IsSome (found j c.cyclics)) (elsewhere m far) some));
          home = λ j m bound is. dite (ℕ_discrete j (s.last_id + 1))
              (λ e. let same : Some (On n false) ≡ Some (On m bound) = sym (ap (λ (k : ℕ). placement_of k r) e ∙ here) ∙ is in
              subst (λ k. IsSome (found j (cpu_of k t).cyclics)) (ap (λ o. home_at o) same)
              (subst (λ k. IsSome (found k (cpu_of n t).cyclics)) (sym e)
              (enter_found indexes n x r online.0 rb new is_id can at)))
              (λ ne. (still j ne).ids m ∙ g.spread.home j m bound (older a.name (On n false) s j (On m bound) b ne is));
          stands = λ j e is. dite (ℕ_discrete j (s.last_id + 1))
              (λ same. absurd (let no : Some (On n false) ≡ Some (OnAll e) = sym (ap (λ (k : ℕ). placement_of k r) same ∙ here)
              ∙ is in
              let no2 : false ≡ true = ap is_placed_everywhere no in cc))
              (λ ne. stands_still j s t (let st = still j ne in record { ids = st.ids; removal = st.removal; online = st.online })
              (g.spread.stands j e (older a.name (On n false) s j (OnAll e) b ne is)));
        };
      },
    )

-- ---- omni

online_number : (m : ℕ) (s : State) → (cpu_of m s).online ≡ true → m < length s.cpus
online_number m s is = by s.cpus m is
  where
    by : (cs : List Cpu) (k : ℕ) → (slice_index_or cs k absent).online ≡ true → k < length cs
    by [] k h = absurd (cc)
    by (c ∷ cs) zero h = omega arith
    by (c ∷ cs) (suc k) h = let r = by cs k h in omega (arith, r)

-- what a turn of omni does on its CPU
record Came (id n : ℕ) (c d : Cpu) : Type 0 where
  has : IsSome (found id d.cyclics)
  others : (j : ℕ) → j ≢ id → is_some (found j d.cyclics) ≡ is_some (found j c.cyclics)
  removal : d.removal ≡ c.removal
  online : d.online ≡ c.online

module _ (indexes : ℕ → ℕ) (id : ℕ) (e : Everywhere) where
  omni_turn : (n : ℕ) (t : State) → n < length t.cpus → IsId id → Base None t × (placement_of id t ≡ Some (OnAll e))
      → (found id (cpu_of n t).cyclics ≡ None) × CanGrow 1 (cpu_of n t)
      → Turned (Came id) (λ u. Base None u
      × (placement_of id u ≡ Some (OnAll e))) n t (enter indexes n (component id n e t.clock) t)
  omni_turn n t within is_id inv ready =
      let x = component id n e t.clock in
      let b = base_fresh x t refl refl inv.0 in
      let at : IsAt n (placement_of id t) = subst (λ o. IsAt n o) (sym inv.1) tt in
      let still = enter_still indexes n x t within b ready.0 is_id ready.1 at in
      let there = enter_there indexes n x t within b ready.0 is_id ready.1 at in record {
        goes = enter_goes indexes n x t within b ready.0 is_id ready.1 at;
        inv = (enter_base indexes n x t within b ready.0 is_id ready.1 at, inv.1);
        own = record {
          has = enter_found indexes n x t within b ready.0 is_id ready.1 at;
          others = λ j ne. (still j ne).ids n;
          removal = there.1;
          online = there.2;
        };
        others = enter_elsewhere indexes n x t within b ready.0 is_id ready.1 at;
      }

room_each : (id : ℕ) (ns : List ℕ) (s : State) → first_refusal (map (λ n. no_room plain n id 1 (cpu_of n s)) ns) ≡ None
    → (m : ℕ) → Has m ns → CanGrow 1 (cpu_of m s)
room_each id [] s h m has = absurd has
room_each id (n ∷ ns) s h m has =
    let one = none_first (no_room plain n id 1 (cpu_of n s)) (map (λ k. no_room plain k id 1 (cpu_of k s)) ns) h in
    ⊎_elim (λ e. subst (λ k. CanGrow 1 (cpu_of k s)) (sym e) (room_grows n id 1 (cpu_of n s) one.0))
    (λ r. room_each id ns s one.1 m r) has

pub well_omni : (indexes : ℕ → ℕ) (step : ℕ) (a : OmniStep) (s : State) → Good s → omni_refusal plain a s ≡ None
    → Well (omni indexes step a s) s
well_omni indexes step a s g why =
    let b = g.base in let id = s.last_id + 1 in let e = everywhere a in
    let one = none_first (when (int_lt a.start (pos 0)) BadWhen)
    (when (int_lt a.interval (pos 1)) BadInterval ∷ bad_now s.clock ∷ no_id_left s
    ∷ no_room_on_each plain id s) why in
    let two = none_first (when (int_lt a.interval (pos 1)) BadInterval)
    (bad_now s.clock ∷ no_id_left s ∷ no_room_on_each plain id s) one.1 in
    let three = none_first (bad_now s.clock) (no_id_left s ∷ no_room_on_each plain id s) two.1 in
    let four = none_first (no_id_left s) (no_room_on_each plain id s) three.1 in
    let few = few_ids s four.0 in
    let r = given a.name (OnAll e) s in
    let ns = cpus_online s in
    let here = placement_given_new a.name (OnAll e) s b.rise in
    let is_id = new_id a.name (OnAll e) s b few in
    let all = looped (λ n t. enter indexes n (component id n e t.clock) t) (λ n c. (found id c.cyclics ≡ None)
    × CanGrow 1 c) (Came id)
    (λ u. Base None u × (placement_of id u ≡ Some (OnAll e)))
    (λ n t within inv ready. omni_turn indexes id e n t within is_id inv ready) 0 ns r
    (numbers_rise (λ (c : Cpu). c.online) 0 s.cpus) (λ m has. (numbers_pass (λ (c : Cpu). c.online) m s has).0)
    (given_base a.name (OnAll e) s b few, here)
    (λ m has. (new_away s b m, room_each id ns s four.1 m has)) in
    let t = (each (λ n t. enter indexes n (component id n e t.clock) t) ns r).state in
    let came = all.own in
    let same = all.others in
    let online : (m : ℕ) → (cpu_of m t).online ≡ (cpu_of m s).online =
    λ m. ⊎_elim (λ has. (came m has).online) (λ away. ap (λ (c : Cpu). c.online) (same m away)) (has_or_not m ns) in
    let removal : (m : ℕ) → (cpu_of m t).removal ≡ (cpu_of m s).removal =
    λ m. ⊎_elim (λ has. (came m has).removal) (λ away. ap (λ (c : Cpu). c.removal) (same m away)) (has_or_not m ns) in
    let ids : (j : ℕ) → j ≢ id → (m : ℕ) → is_some (found j (cpu_of m t).cyclics) ≡ is_some (found j (cpu_of m s).cyclics) =
    λ j ne m. ⊎_elim (λ has. (came m has).others j ne) (λ away. ap (λ (c : Cpu). is_some (found j c.cyclics)) (same m away))
    (has_or_not m ns) in
    let kept : (j : ℕ) → placement_of j t ≡ placement_of j r = placement_kept indexes id e ns r in (
      goes_from _ s r t all.goes refl refl (given_gone a.name (OnAll e) s b few),
      record {
        base = all.inv.0;
        spread = record {
          some = (
            g.spread.some.0,
            subst (λ k. g.spread.some.0 < k) (sym all.goes.tells.as_many) g.spread.some.1,
            online
                g.spread.some.0 ∙ g.spread.some.2,
          );
          there = λ m j some. ⊎_elim
              (λ has. online m ∙ (numbers_pass (λ (c : Cpu). c.online) m s has).1)
              (λ away. ap (λ (c : Cpu). c.online) (same m away)
              ∙ g.spread.there m j (subst (λ (c : Cpu). IsSome (found j c.cyclics)) (same m away) some))
              (has_or_not m ns);
          home = λ j m bound is. dite (ℕ_discrete j id)
              (λ q. absurd (let no : Some (OnAll e) ≡ Some (On m bound) = sym (ap (λ (k : ℕ). placement_of k r) q ∙ here)
              ∙ sym (kept j) ∙ is in
              let no2 : true ≡ false = ap is_placed_everywhere no in cc))
              (λ ne. ids j ne m ∙ g.spread.home j m bound (older a.name (OnAll e) s j (On m bound) b ne (sym (kept j) ∙ is)));
          stands = λ j k is. dite (ℕ_discrete j id)
              (λ q. subst (λ i. Stands i t) (sym q) (inl (
                (λ m on_number. (came m (pass_numbers (λ (c : Cpu). c.online) m s (online_number m s (sym (online m)
                    ∙ on_number)) (sym (online m) ∙ on_number))).has),
                (λ m open_. none_and_some ⊥ (found id (cpu_of m s).cyclics) (new_away s b m)
                    ((b.whole m).held id (sym (removal m) ∙ open_))),
              )))
              (λ ne. stands_still j s t (record { ids = ids j ne; removal = removal; online = online })
              (g.spread.stands j k (older a.name (OnAll e) s j (OnAll k) b ne (sym (kept j) ∙ is))));
        };
      },
    )
  where
    placement_kept : (indexes : ℕ → ℕ) (id : ℕ) (e : Everywhere) (ns : List ℕ) (r : State) (j : ℕ)
        → placement_of j (each (λ n t. enter indexes n (component id n e t.clock) t) ns r).state ≡ placement_of j r
    placement_kept indexes id e [] r j = refl
    placement_kept indexes id e (n ∷ ns) r j =
        placement_kept indexes id e ns (enter indexes n (component id n e r.clock) r).state j
