-- online keeps a machine good, and loses nothing.
use Rattle.std.proofs.Common.{◌≡◌, ◌≢◌, ℕ, suc, ◌+◌, ◌<◌, ◌≤◌, eq-eqb, ne_eqb, Bool, true, false, List, [], ◌∷◌, ◌++◌, map}
use Rattle.std.proofs.Common.{length, Option, Some, None, refl, ap, sym, ◌∙◌, subst, inl, inr, ⊎_elim, ◌⊎◌, arith}
use Rattle.std.specs.Prelude.{IsSome, is_some, not}
use Rattle.std.specs.Option.{option_map}
use mathlib.Core.Logic.{dite}
use native.Mathlib.Decide.{ℕ_discrete}
use Rattle.cyc_types.specs.declared.refusal.Refusal.TheVariants.{Expanding, Online}
use Rattle.cyc_level.specs.declared.Event.TheVariants.{Admit}
use Rattle.cyc_level.specs.Lawful.{IsId}
use Rattle.cyc_level.proofs.Maps.{none_some}
use Rattle.cyc_model.specs.Acts.{calls_of, losses_of}
use Rattle.cyc_model.specs.Cpu.{CyclicState, Cpu, cyclic_with_id, nothing_here}
use Rattle.cyc_model.specs.Moving.{must_grow, widen_here, put_in, place_here}
use Rattle.cyc_model.specs.Questions.{plain, soft_has_followed}
use Rattle.cyc_model.specs.State.{State, Outcome, Placement, On, OnAll, Everywhere, Placed, on_number, cpu_of, each, followed_by}
use Rattle.cyc_model.specs.Places.{placement_of, home_at, is_placed_everywhere, without_ended}
use Rattle.cyc_types.specs.Reasons.{when, bad_now}
use Rattle.cyc_model.specs.Refusals.{is_no_cpu}
use Rattle.cyc_model.specs.Online.{
  staying_omni,
  is_online_already,
  no_room_for_all,
  online_refusal,
  again,
  return_here,
  return_of,
  go_online,
}
use Rattle.cyc_model.specs.Online.{return_all, online}
use Rattle.cyc_model.specs.Laws.{RiseTo}
use Rattle.cyc_model.specs.Kept.{Kept}
use Rattle.cyc_model.proofs.Local.{local_widen, local_place}
use Rattle.cyc_model.proofs.Rising.{found, first_is, put_same, put_other, length_put}
use Rattle.cyc_model.proofs.Whole.{Done, calls_own, losses_own}
use Rattle.cyc_model.proofs.Moves.{CanGrow, done_widen, widened_cpu, widened_room, widened_calls, widened_losses}
use Rattle.cyc_model.proofs.Stays.{done_place, placed_cyclics, placed_removal, placed_size}
use Rattle.cyc_model.proofs.Totals.{carried, expired_of, lost_of, expired_in, lost_in, pending_in, balanced_again, again_expired}
use Rattle.cyc_model.proofs.Totals.{again_lost}
use Rattle.cyc_model.proofs.Shifts.{Shift, shift_place, shift_widen}
use Rattle.cyc_model.proofs.Placing.{entry, with_entry, placement_known}
use Rattle.cyc_model.proofs.Base.{IsAt, Base, Goes, goes_append, goes_nothing, goes_from, goes_to, goes_on, base_on, cpu_there}
use Rattle.cyc_model.proofs.Base.{cpu_elsewhere, expired_on, lost_on, pending_on, gone_away}
use Rattle.cyc_model.proofs.Numbers.{not_leaving}
use Rattle.cyc_model.proofs.Refusing.{none_first, not_when, not_not, only_none, is_cpu}
use Rattle.cyc_model.proofs.Spread.{Spread, Good}
use Rattle.cyc_model.proofs.Travels.{counts_same}
use Rattle.cyc_model.proofs.Juggling.{Safe}
use Rattle.cyc_model.proofs.Retiring.{SameCounts, switch_goes, switch_base, switch_there, switch_elsewhere, switch_counts}
use Rattle.cyc_model.proofs.Staying.{Each, each_then, each_both, each_above, Stays, staying_all, staying_rise, does_stay}
use Rattle.cyc_model.proofs.Staying.{stays_closed, not_open, few_staying}

-- ---- one component comes back

module _ (indexes : ℕ → ℕ) (n id : ℕ) (e : Everywhere) (s : State) (within : n < length s.cpus) (b : Base None s)
    (new : found id (cpu_of n s).cyclics ≡ None) (is_id : IsId id) (fits : length (cpu_of n s).cyclics + 1 ≤ (cpu_of n s).size)
    (at : placement_of id s ≡ Some (OnAll e)) where
  abbrev y : CyclicState
  y = again id n e (s.ended id n) s.clock

  abbrev r : State
  r = without_ended n id s

  abbrev back : Outcome
  back = return_here indexes n id (OnAll e) s

  base_r : Base (Some y) r
  base_r = record {
    whole = b.whole;
    homes = b.homes;
    rise = b.rise;
    few = b.few;
    books = λ j. balanced_again n y s within j refl refl (b.books j);
  }

  done_back : Done n (λ j. 0) (cpu_of n s) (place_here n (indexes s.admissions) y (cpu_of n s))
  done_back = done_place n (indexes s.admissions) y (cpu_of n s) (b.whole n) is_id new fits

  shift_back : Shift (Some y) None (λ j. 0) (cpu_of n s) (place_here n (indexes s.admissions) y (cpu_of n s))
  shift_back = shift_place n (indexes s.admissions) y (cpu_of n s) (b.whole n) is_id new fits

  pub back_goes : Goes back.acts s back.state
  back_goes = goes_from back.acts s r back.state
      (goes_to back.acts r (on_number n (place_here n (indexes s.admissions) y) r).state back.state
      (goes_on n (place_here n (indexes s.admissions) y) (λ j. 0) r within done_back (Some y) base_r
      (local_place n (indexes s.admissions) y) (λ j none. refl)) refl refl (λ j g. g)) refl refl (λ j g. g)

  pub back_there : ((cpu_of n back.state).cyclics ≡ put_in y (cpu_of n s).cyclics)
      × ((cpu_of n back.state).removal ≡ (cpu_of n s).removal)
      × ((cpu_of n back.state).size ≡ (cpu_of n s).size)
  back_there =
      let c = cpu_there n (place_here n (indexes s.admissions) y) (λ j. 0) r within done_back in (
        ap (λ (d : Cpu). d.cyclics) c ∙ placed_cyclics n (indexes s.admissions) y (cpu_of n s) (b.whole n) is_id new fits,
        ap (λ (d : Cpu). d.removal) c ∙ placed_removal n (indexes s.admissions) y (cpu_of n s) (b.whole n) is_id new fits,
        ap (λ (d : Cpu). d.size) c ∙ placed_size n (indexes s.admissions) y (cpu_of n s) (b.whole n) is_id new fits,
      )

  pub back_elsewhere : (m : ℕ) → m ≢ n → cpu_of m back.state ≡ cpu_of m s
  back_elsewhere m ne = cpu_elsewhere n (place_here n (indexes s.admissions) y) (λ j. 0) r within done_back m ne

  pub back_base : Base None back.state
  back_base =
      let a = base_on n (place_here n (indexes s.admissions) y) (λ j. 0) r within done_back (Some y) None base_r shift_back
      (λ j some. dite (ℕ_discrete id j)
      (λ same. subst (λ k. IsAt n (placement_of k s)) same (subst (λ o. IsAt n o) (sym at) tt))
      (λ ne. b.homes n j (subst (λ o. IsSome o) (put_other j y (cpu_of n s).cyclics ne)
      (subst (λ cs. IsSome (found j cs)) (placed_cyclics n (indexes s.admissions) y (cpu_of n s) (b.whole n) is_id new fits)
      some)))) in
      record { whole = a.whole; homes = a.homes; rise = a.rise; few = a.few; books = a.books }

  pub back_counts : SameCounts s back.state
  back_counts j =
      let e0 = again_expired n y s within j refl in let l0 = again_lost n y s within j refl in
      let e1 = expired_on n (place_here n (indexes s.admissions) y) (λ k. 0) r within done_back (Some y) None base_r shift_back
      j in
      let l1 = lost_on n (place_here n (indexes s.admissions) y) (λ k. 0) r within done_back (Some y) None base_r shift_back j in
      let p1 = pending_on n (place_here n (indexes s.admissions) y) (λ k. 0) r within done_back j in
      let c1 = calls_own n j y.timer.level (Admit id (indexes s.admissions)) in
      let m1 = losses_own n j y.timer.level (Admit id (indexes s.admissions)) refl in
      counts_same (expired_in j back.state) (back.state.called j) (lost_in j back.state) (pending_in j back.state)
      (expired_in j s) (s.called j) (lost_in j s) (pending_in j s)
      (sums (expired_in j s) (expired_in j r) (expired_in j back.state) (carried expired_of j (Some y)) 0 e0 e1 refl)
      (plus (s.called j) (calls_of j (place_here n (indexes s.admissions) y (cpu_of n s)).acts) c1)
      (sums (lost_in j s) (lost_in j r) (lost_in j back.state) (carried lost_of j (Some y))
      (losses_of j (place_here n (indexes s.admissions) y (cpu_of n s)).acts) l0 l1 m1)
      (pends (pending_in j s) (pending_in j back.state) (calls_of j (place_here n (indexes s.admissions) y (cpu_of n s)).acts)
      (losses_of j (place_here n (indexes s.admissions) y (cpu_of n s)).acts) p1 c1 m1)
    where
      sums : (a b c x m : ℕ) → a ≡ b + x → c + 0 ≡ b + x + m → m ≡ 0 → c ≡ a
      sums a b c x m h i k = omega (arith, h, i, k)

      plus : (a c : ℕ) → c ≡ 0 → a + c ≡ a
      plus a c h = omega (arith, h)

      pends : (p q c m : ℕ) → q + c + m ≡ p + 0 → c ≡ 0 → m ≡ 0 → q ≡ p
      pends p q c m h i k = omega (arith, h, i, k)

-- ---- all of them

pub record Returned (n : ℕ) (ps : List Placed) (s t : State) : Type 0 where
  pub base : Base None t
  pub placed : t.placed ≡ s.placed
  -- each of them is there, and nothing else that wasn't
  pub has : (j : ℕ) → IsSome (entry j ps) ⊎ IsSome (found j (cpu_of n s).cyclics) → IsSome (found j (cpu_of n t).cyclics)
  pub more : (j : ℕ) → IsSome (found j (cpu_of n t).cyclics) → IsSome (entry j ps) ⊎ IsSome (found j (cpu_of n s).cyclics)
  pub removal : (cpu_of n t).removal ≡ (cpu_of n s).removal
  pub elsewhere : (m : ℕ) → m ≢ n → cpu_of m t ≡ cpu_of m s
  pub counts : SameCounts s t

-- what can come back
abbrev Ready : ℕ → State → Placed → Type 0
Ready n s p = ((e : Everywhere) × (p.placement ≡ OnAll e)) × (placement_of p.id s ≡ Some p.placement)
    × (found p.id (cpu_of n s).cyclics ≡ None)

entry_first : (j : ℕ) (p : Placed) (ps : List Placed) → p.id ≡ j → IsSome (entry j (p ∷ ps))
entry_first j p ps e = ap (λ (b : Bool). is_some (with_entry b p (entry j ps))) (eq-eqb p.id j e)

entry_rest : (j : ℕ) (p : Placed) (ps : List Placed) → p.id ≢ j → is_some (entry j (p ∷ ps)) ≡ is_some (entry j ps)
entry_rest j p ps ne = ap (λ (b : Bool). is_some (with_entry b p (entry j ps))) (ne_eqb p.id j ne)

returned : (indexes : ℕ → ℕ) (n low high : ℕ) (ps : List Placed) (s : State) → n < length s.cpus → Base None s
    → RiseTo low ps high
    → length (cpu_of n s).cyclics + length ps ≤ (cpu_of n s).size → Each (Ready n s) ps
    → Goes (each (return_of indexes n) ps s).acts s (each (return_of indexes n) ps s).state
    × Returned n ps s (each (return_of indexes n) ps s).state
returned indexes n low high [] s within b rise fits ready = (
  goes_nothing s s refl refl (λ j h. h),
  record {
    base = b;
    placed = refl;
    has = λ j h. ⊎_elim (λ no. absurd (cc)) (λ some. some) h;
    more = λ j some. inr some;
    removal = refl;
    elsewhere = λ m ne. refl;
    counts = λ j. refl;
  },
)
returned indexes n low high (p ∷ ps) s within b rise fits ready =
    let all = ready.0.0 in let e = all.0 in
    let at : placement_of p.id s ≡ Some (OnAll e) = ready.0.1 ∙ ap Some all.1 in
    let new = ready.0.2 in
    let known = placement_known p.id s (OnAll e) b.rise at in
    let few = b.few in let k0 = known.0 in let k1 = known.1 in
    let is_id : IsId p.id = (k0, omega (arith, k1, few)) in
    let room : length (cpu_of n s).cyclics + 1 ≤ (cpu_of n s).size = omega (arith, fits) in
    let o = return_here indexes n p.id (OnAll e) s in
    let same : return_of indexes n p s ≡ o = ap (λ placement. return_here indexes n p.id placement s) all.1 in
    let t = o.state in
    let goes = back_goes indexes n p.id e s within b new is_id room at in
    let there = back_there indexes n p.id e s within b new is_id room at in
    let x = again p.id n e (s.ended p.id n) s.clock in
    let here : found p.id (cpu_of n t).cyclics ≡ Some x = ap (found p.id) there.0
    ∙ put_same p.id x (cpu_of n s).cyclics refl new in
    let other : (j : ℕ) → p.id ≢ j → found j (cpu_of n t).cyclics ≡ found j (cpu_of n s).cyclics =
    λ j ne. ap (found j) there.0 ∙ put_other j x (cpu_of n s).cyclics ne in
    let len : length (cpu_of n t).cyclics ≡ suc (length (cpu_of n s).cyclics) = ap length there.0
    ∙ length_put x (cpu_of n s).cyclics in
    let size = there.2 in
    let rest = returned indexes n p.id high ps t (subst (λ k. n < k) (sym goes.tells.as_many) within)
    (back_base indexes n p.id e s within b new is_id room at) rise.1 (omega (arith, len, size, fits))
    (each_then (λ q. Ready n s q × (p.id < q.id)) (Ready n t)
    (λ q both. let a = both.1 in (both.0.0, both.0.1, other q.id (λ (z : p.id ≡ q.id). omega (arith, a, z)) ∙ both.0.2)) ps
    (each_both (Ready n s) (λ q. p.id < q.id) ps ready.1 (each_above p.id high ps rise.1))) in
    let u = (each (return_of indexes n) ps t).state in
    subst (λ (w : Outcome). Goes (followed_by w (each (return_of indexes n) ps)).acts s
    (followed_by w (each (return_of indexes n) ps)).state
    × Returned n (p ∷ ps) s (followed_by w (each (return_of indexes n) ps)).state) (sym same) (
      goes_append o.acts (each (return_of indexes n) ps t).acts s t u goes rest.0,
      record {
        base = rest.1.base;
        placed = rest.1.placed;
        has = λ j h. dite (ℕ_discrete p.id j)
            (λ q. rest.1.has j (inr (ap is_some (ap (λ (k : ℕ). found k (cpu_of n t).cyclics) (sym q) ∙ here))))
            (λ ne. rest.1.has j (⊎_elim (λ some. inl (sym (entry_rest j p ps ne) ∙ some)) (λ some. inr (ap is_some (other j ne)
            ∙ some)) h));
        more = λ j some. dite (ℕ_discrete p.id j)
            (λ q. inl (entry_first j p ps q))
            (λ ne. ⊎_elim (λ h. inl (entry_rest j p ps ne ∙ h)) (λ h. inr (sym (ap is_some (other j ne))
            ∙ h)) (rest.1.more j some));
        removal = rest.1.removal ∙ there.1;
        elsewhere = λ m ne. rest.1.elsewhere m ne ∙ back_elsewhere indexes n p.id e s within b new is_id room at m ne;
        counts = λ j. rest.1.counts j ∙ back_counts indexes n p.id e s within b new is_id room at j;
      },
    )

-- ---- online

none_found : (cs : List CyclicState) → ((j : ℕ) → found j cs ≡ None) → cs ≡ []
none_found [] none = refl
none_found (x ∷ xs) none = none_some ((x ∷ xs) ≡ []) x (found x.timer.id (x ∷ xs)) (none x.timer.id)
    (first_is x.timer.id x xs refl)

module _ (indexes : ℕ → ℕ) (n : ℕ) (s : State) (g : Good s) (within : n < length s.cpus) (off : (cpu_of n s).online ≡ false)
    (can : must_grow (length (staying_omni s)) (cpu_of n s) ≡ true → soft_has_followed (cpu_of n s) ≡ true) where
  away : (j : ℕ) → IsSome (found j (cpu_of n s).cyclics) → ⊥
  away j some = let no : true ≡ false = sym (g.spread.there n j some) ∙ off in absurd (cc)

  none_at : (j : ℕ) → found j (cpu_of n s).cyclics ≡ None
  none_at j = by (found j (cpu_of n s).cyclics) refl (away j)
    where
      by : (o : Option CyclicState) → found j (cpu_of n s).cyclics ≡ o → (IsSome (found j (cpu_of n s).cyclics) → ⊥)
          → found j (cpu_of n s).cyclics ≡ None
      by None is no_one = is
      by (Some x) is no_one = absurd (no_one (ap is_some is))

  empty : length (cpu_of n s).cyclics ≡ 0
  empty = ap length (none_found (cpu_of n s).cyclics none_at)

  shut : (cpu_of n s).removal ≡ None
  shut = by (cpu_of n s).removal refl
    where
      by : (o : Option ℕ) → (cpu_of n s).removal ≡ o → (cpu_of n s).removal ≡ None
      by None is = is
      by (Some j) is = absurd (away j ((g.base.whole n).held j is))

  abbrev more : ℕ
  more = length (staying_omni s)

  grows : CanGrow (length (staying_omni s)) (cpu_of n s)
  grows must = let few = few_staying s g in let z = empty in (can must, omega (arith, few, z))

  wide : Done n (λ j. 0) (cpu_of n s) (widen_here n (length (staying_omni s)) (cpu_of n s))
  wide = done_widen n (length (staying_omni s)) (cpu_of n s) (g.base.whole n) grows

  shift_w : Shift None None (λ j. 0) (cpu_of n s) (widen_here n (length (staying_omni s)) (cpu_of n s))
  shift_w = shift_widen None n (length (staying_omni s)) (cpu_of n s) (g.base.whole n)

  abbrev t : State
  t = (on_number n (widen_here n (length (staying_omni s))) s).state

  there_t : cpu_of n t ≡ (widen_here n (length (staying_omni s)) (cpu_of n s)).cpu
  there_t = cpu_there n (widen_here n (length (staying_omni s))) (λ j. 0) s within wide

  same_t : (m : ℕ) → m ≢ n → cpu_of m t ≡ cpu_of m s
  same_t m ne = cpu_elsewhere n (widen_here n (length (staying_omni s))) (λ j. 0) s within wide m ne

  cyclics_t : (cpu_of n t).cyclics ≡ (cpu_of n s).cyclics
  cyclics_t = ap (λ (c : Cpu). c.cyclics) there_t ∙ (widened_cpu n (length (staying_omni s)) (cpu_of n s) (g.base.whole n)).0

  goes_t : Goes (on_number n (widen_here n (length (staying_omni s))) s).acts s t
  goes_t = goes_on n (widen_here n (length (staying_omni s))) (λ j. 0) s within wide None g.base (local_widen n (length
      (staying_omni s)))
      (λ j none. refl)

  base_t : Base None t
  base_t = base_on n (widen_here n (length (staying_omni s))) (λ j. 0) s within wide None None g.base shift_w
      (λ j some. g.base.homes n j (subst (λ cs. IsSome (found j cs))
      (widened_cpu n (length (staying_omni s)) (cpu_of n s) (g.base.whole n)).0 some))

  counts_t : SameCounts s t
  counts_t j =
      let e = expired_on n (widen_here n (length (staying_omni s))) (λ k. 0) s within wide None None g.base shift_w j in
      let l = lost_on n (widen_here n (length (staying_omni s))) (λ k. 0) s within wide None None g.base shift_w j in
      let p = pending_on n (widen_here n (length (staying_omni s))) (λ k. 0) s within wide j in
      let c = widened_calls n (length (staying_omni s)) (cpu_of n s) (g.base.whole n) j in
      let m = widened_losses n (length (staying_omni s)) (cpu_of n s) (g.base.whole n) j in
      counts_same (expired_in j t) (t.called j) (lost_in j t) (pending_in j t) (expired_in j s) (s.called j) (lost_in j s)
      (pending_in j s)
      (omega (arith, e)) (omega (arith, c)) (omega (arith, l, m)) (omega (arith, p, c, m))

  within_t : n < length t.cpus
  within_t = subst (λ k. n < k) (sym goes_t.tells.as_many) within

  fits_t : length (cpu_of n t).cyclics + length (staying_omni s) ≤ (cpu_of n t).size
  fits_t = let r = widened_room n (length (staying_omni s)) (cpu_of n s) (g.base.whole n) grows in
      let a = ap length cyclics_t in let b = ap (λ (c : Cpu). c.size) there_t in omega (arith, r, a, b)

  all_back : Goes (each (return_of indexes n) (staying_omni s) t).acts t (each (return_of indexes n) (staying_omni s) t).state
      × Returned n (staying_omni s) t (each (return_of indexes n) (staying_omni s) t).state
  all_back = returned indexes n 0 s.last_id (staying_omni s) t within_t base_t (staying_rise s g) fits_t
      (each_then (Stays s) (Ready n t) (λ p h. (
        h.everywhere,
        h.placed,
        ap (found p.id) cyclics_t
            ∙ none_at p.id,
      )) (staying_omni s) (staying_all s g))

  abbrev u : State
  u = (each (return_of indexes n) (staying_omni s) t).state

  within_u : n < length u.cpus
  within_u = subst (λ k. n < k) (sym all_back.0.tells.as_many) within_t

  abbrev v : State
  v = (on_number n (λ c. nothing_here (go_online c)) u).state

  there_v : cpu_of n v ≡ record (cpu_of n u) { online = true }
  there_v = switch_there true n u within_u all_back.1.base

  same_v : (m : ℕ) → m ≢ n → cpu_of m v ≡ cpu_of m s
  same_v m ne = switch_elsewhere true n u within_u all_back.1.base m ne ∙ all_back.1.elsewhere m ne ∙ same_t m ne

  view_v : (j m : ℕ) → m ≢ n → found j (cpu_of m v).cyclics ≡ found j (cpu_of m s).cyclics
  view_v j m ne = ap (λ (c : Cpu). found j c.cyclics) (same_v m ne)

  placement_v : (j : ℕ) → placement_of j v ≡ placement_of j s
  placement_v j = ap (λ ps. option_map (λ (p : Placed). p.placement) (entry j ps)) all_back.1.placed

  removal_v : (cpu_of n v).removal ≡ None
  removal_v = ap (λ (c : Cpu). c.removal) there_v ∙ all_back.1.removal ∙ ap (λ (c : Cpu). c.removal) there_t
      ∙ (widened_cpu n (length (staying_omni s)) (cpu_of n s) (g.base.whole n)).1 ∙ shut

  -- the CPU has those that stay
  has_v : (j : ℕ) → IsSome (entry j (staying_omni s)) → IsSome (found j (cpu_of n v).cyclics)
  has_v j some = subst (λ (c : Cpu). IsSome (found j c.cyclics)) (sym there_v) (all_back.1.has j (inl some))

  only_v : (j : ℕ) → IsSome (found j (cpu_of n v).cyclics) → IsSome (entry j (staying_omni s))
  only_v j some = ⊎_elim (λ h. h) (λ h. absurd (away j (subst (λ cs. IsSome (found j cs)) cyclics_t h)))
      (all_back.1.more j (subst (λ (c : Cpu). IsSome (found j c.cyclics)) there_v some))

  home_far : (j m : ℕ) (bound : Bool) → placement_of j s ≡ Some (On m bound) → m ≢ n
  home_far j m bound is e = away j (subst (λ k. IsSome (found j (cpu_of k s).cyclics)) e (g.spread.home j m bound is))

  spread_v : Spread v
  spread_v = record {
    some = (
      n,
      subst (λ k. n < k) (sym (switch_goes true n u within_u all_back.1.base).tells.as_many) within_u,
      ap
          (λ (c : Cpu). c.online) there_v,
    );
    there = λ m j some. dite (ℕ_discrete m n)
        (λ q. ap (λ (k : ℕ). (cpu_of k v).online) q ∙ ap (λ (c : Cpu). c.online) there_v)
        (λ ne. ap (λ (c : Cpu). c.online) (same_v m ne) ∙ g.spread.there m j (subst (λ o. IsSome o) (view_v j m ne) some));
    home = λ j m bound is. let was = sym (placement_v j) ∙ is in
        subst (λ o. IsSome o) (sym (view_v j m (home_far j m bound was))) (g.spread.home j m bound was);
    stands = λ j e is. let was = sym (placement_v j) ∙ is in ⊎_elim
        (λ full. inl (
          (λ m on_m. dite (ℕ_discrete m n)
              (λ q. subst (λ k. IsSome (found j (cpu_of k v).cyclics)) (sym q)
              (has_v j (does_stay j e s was (not_open j s full.1))))
              (λ ne. subst (λ o. IsSome o) (sym (view_v j m ne)) (full.0 m (sym (ap (λ (c : Cpu). c.online) (same_v m ne))
              ∙ on_m)))),
          (λ m is_open. dite (ℕ_discrete m n)
              (λ q. none_some ⊥ j (cpu_of n v).removal removal_v (sym (ap (λ (k : ℕ). (cpu_of k v).removal) q) ∙ is_open))
              (λ ne. full.1 m (sym (ap (λ (c : Cpu). c.removal) (same_v m ne)) ∙ is_open))),
        ))
        (λ leave. inr (
          (λ m some. dite (ℕ_discrete m n)
              (λ q. absurd (not_leaving j s
              (stays_closed j s g (only_v j (subst (λ k. IsSome (found j (cpu_of k v).cyclics)) q some)))
              leave.1.0 (leave.0 leave.1.0 leave.1.1)))
              (λ ne. ap (λ (c : Cpu). c.removal) (same_v m ne) ∙ leave.0 m (subst (λ o. IsSome o) (view_v j m ne) some))),
          (
            leave.1.0,
            subst (λ o. IsSome o) (sym (view_v j leave.1.0
                (λ q. away j (subst (λ k. IsSome (found j (cpu_of k s).cyclics)) q leave.1.1)))) leave.1.1,
          ),
        ))
        (g.spread.stands j e was);
  }

  kept_v : Kept s v
  kept_v = record {
    ids = ap (λ ps. map (λ (p : Placed). p.id) ps) all_back.1.placed;
    cyclics = λ j single. (
      ap is_placed_everywhere (placement_v j) ∙ single,
      ap (λ o. cyclic_with_id j (cpu_of (home_at o) v)) (placement_v j) ∙ by j (placement_of j s) refl single,
    );
    counts = λ j. switch_counts true n u within_u all_back.1.base j ∙ all_back.1.counts j ∙ counts_t j;
  }
    where
      nowhere : (j m : ℕ) → placement_of j s ≡ None → cyclic_with_id j (cpu_of m v) ≡ cyclic_with_id j (cpu_of m s)
      nowhere j m none = gone_away None v (switch_base true n u within_u all_back.1.base) j (placement_v j ∙ none) m
          ∙ sym (gone_away None s g.base j none m)

      by : (j : ℕ) (o : Option Placement) → placement_of j s ≡ o → is_placed_everywhere (placement_of j s) ≡ false
          → cyclic_with_id j (cpu_of (home_at (placement_of j s)) v) ≡ cyclic_with_id j (cpu_of (home_at (placement_of j s)) s)
      by j None is single = nowhere j (home_at (placement_of j s)) is
      by j (Some (On m bound)) is single = subst (λ p. cyclic_with_id j (cpu_of (home_at p) v)
          ≡ cyclic_with_id j (cpu_of (home_at p) s)) (sym is)
          (view_v j m (home_far j m bound is))
      by j (Some (OnAll e)) is single = absurd (let no : true ≡ false = sym (ap is_placed_everywhere is) ∙ single in cc)

  pub safe_return : Safe (return_all indexes n (staying_omni s) s) s
  safe_return = (
    goes_append (on_number n (widen_here n (length (staying_omni s))) s).acts ((each (return_of indexes n) (staying_omni s)
        t).acts ++ []) s t v
        goes_t
        (goes_append (each (return_of indexes n) (staying_omni s) t).acts [] t u v all_back.0
        (switch_goes true n u within_u all_back.1.base)),
    record { base = switch_base true n u within_u all_back.1.base; spread = spread_v },
    kept_v,
  )

pub safe_online : (indexes : ℕ → ℕ) (step n : ℕ) (s : State) → Good s → online_refusal plain n s ≡ None
    → Safe (online indexes step n s) s
safe_online indexes step n s g why =
    let c = cpu_of n s in let more = length (staying_omni s) in
    let one = none_first (is_no_cpu n s) (is_online_already n s ∷ bad_now s.clock ∷ no_room_for_all plain n more c ∷ []) why in
    let two = none_first (is_online_already n s) (bad_now s.clock ∷ no_room_for_all plain n more c ∷ []) one.1 in
    let three = none_first (bad_now s.clock) (no_room_for_all plain n more c ∷ []) two.1 in
    let four = none_first (no_room_for_all plain n more c) [] three.1 in
    let r = safe_return indexes n s g (is_cpu n s one.0) (not_when c.online Online two.0)
    (λ must. not_not (soft_has_followed c) (not_when (not (soft_has_followed c)) Expanding
    (only_none (must_grow more c) (when (not (soft_has_followed c)) Expanding) four.0 must))) in
    (r.0, r.1, r.2)
