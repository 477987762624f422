-- What an advance makes of the cyclics of an id.
use Rattle.std.proofs.Common.{◌≡◌, ◌≢◌, ℕ, ◌+◌, ◌<◌, List, [], ◌∷◌, length, sum_by, refl}
use Rattle.std.proofs.Common.{ap, sym, ◌∙◌, subst, arith, Option, Some, None, inl, inr, ⊎_elim}
use Rattle.std.specs.Option.{option_map}
use Rattle.std.proofs.lemmas.List.Sums.{sum_by-cons}
use mathlib.Core.Logic.{dite}
use native.Mathlib.Decide.{ℕ_discrete}
use Rattle.cyc_types.specs.Series.{never, due, next}
use Rattle.cyc_types.specs.Expirations.{Expiration, times_of, after_expirations}
use Rattle.cyc_types.proofs.Laws.{moment_next}
use Rattle.cyc_model.specs.Cpu.{CyclicState, Cpu}
use Rattle.cyc_model.specs.Firing.{due_here, fire_here, fired_cyclic}
use Rattle.cyc_model.specs.State.{State, cpu_of, on_number, each}
use Rattle.cyc_model.proofs.Agreement.{fired_same}
use Rattle.cyc_model.proofs.Rising.{found, found_map, found_id, times_found, due_of_found}
use Rattle.cyc_model.proofs.Totals.{expired_in}
use Rattle.cyc_model.proofs.Base.{expired_on, cpu_there, cpu_elsewhere}
use Rattle.cyc_model.proofs.Fires.{done_fire, fired_cyclics, fired_alike}
use Rattle.cyc_model.proofs.Shifts.{shift_fire}
use Rattle.cyc_model.proofs.Numbers.{Has, RiseFrom, has_above}
use Rattle.cyc_model.proofs.Spread.{Good}
use Rattle.cyc_model.proofs.Calm.{well_fire}

-- the cyclic of the id is at its next expiration, where there is one
abbrev pub Later : ℕ → Option CyclicState → Option CyclicState → Type 0
Later now None p = p ≡ None
Later now (Some x) p = (y : CyclicState) × (p ≡ Some y) × (y.timer.moment ≡ next x.timer.moment x.timer.interval now)
    × (y.timer.interval ≡ x.timer.interval)

same_interval : (now : ℕ) (made : List Expiration) (x : CyclicState)
    → (after_expirations now made x.timer).interval ≡ x.timer.interval
unfolding after_expirations
same_interval now made x = refl

module _ (id now : ℕ) (before : now < never) where
  fired_later : (n : ℕ) (s : State) → Good s → n < length s.cpus
      → Later now (found id (cpu_of n s).cyclics) (found id (cpu_of n (on_number n (fire_here n now) s).state).cyclics)
  fired_later n s g within =
      let c = cpu_of n s in
      let w = g.base.whole n in
      let made = due_here now c in
      let acts = (fire_here n now c).acts in
      let done = done_fire n now c w before in
      let is = ap (λ (d : Cpu). found id d.cyclics) (cpu_there n (fire_here n now) (λ j. times_of j made) s within done)
      ∙ (ap (found id) (fired_cyclics n now c w before)
      ∙ found_map (fired_cyclic now made acts) (λ x. (fired_same now made acts x).0) id c.cyclics) in
      subst (λ p. Later now (found id c.cyclics) p) (sym is) (by (found id c.cyclics) refl)
    where
      by : (o : Option CyclicState) → found id (cpu_of n s).cyclics ≡ o
          → Later now o (option_map (fired_cyclic now (due_here now (cpu_of n s)) (fire_here n now (cpu_of n s)).acts) o)
      by None e = refl
      by (Some x) e =
          let made = due_here now (cpu_of n s) in
          let times : times_of x.timer.id made ≡ due x.timer.moment x.timer.interval now =
          ap (λ k. times_of k made) (found_id id x (cpu_of n s).cyclics e)
          ∙ (times_found now 0 id (cpu_of n s).cyclics (g.base.whole n).rising ∙ ap (due_of_found now) e) in (
            fired_cyclic now made (fire_here n now (cpu_of n s)).acts x,
            refl,
            moment_next now made x.timer times,
            same_interval now
                made x,
          )

  fired_expired : (n : ℕ) (s : State) → Good s → n < length s.cpus
      → expired_in id (on_number n (fire_here n now) s).state ≡ expired_in id s + due_of_found now (found id (cpu_of n s).cyclics)
  fired_expired n s g within =
      let w = g.base.whole n in let done = done_fire n now (cpu_of n s) w before in
      let e = expired_on n (fire_here n now) (λ j. times_of j (due_here now (cpu_of n s))) s within done None None g.base
      (shift_fire n now (cpu_of n s) w before done) id in
      let t = times_found now 0 id (cpu_of n s).cyclics w.rising in omega (arith, e, t)

  -- what is due on these CPUs
  abbrev pub due_at : State → ℕ → ℕ
  due_at s n = due_of_found now (found id (cpu_of n s).cyclics)

  pub record Fired (ns : List ℕ) (s t : State) : Type 0 where
    pub expired : expired_in id t ≡ expired_in id s + sum_by (due_at s) ns
    pub later : (m : ℕ) → Has m ns → Later now (found id (cpu_of m s).cyclics) (found id (cpu_of m t).cyclics)
    pub others : (m : ℕ) → (Has m ns → ⊥) → cpu_of m t ≡ cpu_of m s
    pub removal : (m : ℕ) → (cpu_of m t).removal ≡ (cpu_of m s).removal
    pub online : (m : ℕ) → (cpu_of m t).online ≡ (cpu_of m s).online

  sum_alike : (f h : ℕ → ℕ) (ns : List ℕ) → ((m : ℕ) → Has m ns → f m ≡ h m) → sum_by f ns ≡ sum_by h ns
  sum_alike f h [] e = refl
  sum_alike f h (n ∷ ns) e =
      let a = sum_by-cons f n ns in let b = sum_by-cons h n ns in let c = e n (inl refl) in
      let r = sum_alike f h ns (λ m has. e m (inr has)) in omega (arith, a, b, c, r)

  pub all_fired : (low : ℕ) (ns : List ℕ) (s : State) → Good s → RiseFrom low ns → ((m : ℕ) → Has m ns → m < length s.cpus)
      → Fired ns s (each (λ n. on_number n (fire_here n now)) ns s).state
  all_fired low [] s g rise within = record {
    expired = plus_none (expired_in id s);
    later = λ m has. absurd has;
    others = λ m no. refl;
    removal = λ m. refl;
    online = λ m. refl;
  }
    where
      plus_none : (k : ℕ) → k ≡ k + 0
      plus_none k = omega arith
  all_fired low (n ∷ ns) s g rise within =
      let c = cpu_of n s in
      let here = within n (inl refl) in
      let one = well_fire n now s g here before in
      let t = (on_number n (fire_here n now) s).state in
      let u = (each (λ m. on_number m (fire_here m now)) ns t).state in
      let w = g.base.whole n in
      let done = done_fire n now c w before in
      let rest = all_fired (n + 1) ns t one.1 rise.1
      (λ m has. subst (λ k. m < k) (sym one.0.tells.as_many) (within m (inr has))) in
      let there = cpu_there n (fire_here n now) (λ j. times_of j (due_here now c)) s here done in
      let away = cpu_elsewhere n (fire_here n now) (λ j. times_of j (due_here now c)) s here done in
      let far : (m : ℕ) → Has m ns → m ≢ n = λ m has e. let a = has_above (n + 1) m ns rise.1 has
      in absurd (omega (arith, a, e)) in
      let alike = fired_alike n now c w before in
      let mine : (Has n ns → ⊥) = λ has. far n has refl in
      record {
        expired =
            let a = sum_by-cons (due_at s) n ns in
            let b = fired_expired n s g here in
            let d = rest.expired in
            let e = sum_alike (due_at t) (due_at s) ns
            (λ m has. ap (λ (q : Cpu). due_of_found now (found id q.cyclics)) (away m (far m has))) in
            omega (arith, a, b, d, e);
        later = λ m. ⊎_elim
            (λ same. subst (λ k. Later now (found id (cpu_of k s).cyclics) (found id (cpu_of k u).cyclics)) (sym same)
            (subst (λ (q : Cpu). Later now (found id c.cyclics) (found id q.cyclics)) (sym (rest.others n mine))
            (fired_later n s g here)))
            (λ has. subst (λ (q : Cpu). Later now (found id q.cyclics) (found id (cpu_of m u).cyclics)) (away m (far m has))
            (rest.later m has));
        others = λ m no. rest.others m (λ has. no (inr has)) ∙ away m (λ e. no (inl e));
        removal = λ m. rest.removal m ∙ dite (ℕ_discrete m n)
            (λ e. subst (λ k. (cpu_of k t).removal ≡ (cpu_of k s).removal) (sym e)
            (ap (λ (q : Cpu). q.removal) there ∙ alike.0))
            (λ ne. ap (λ (q : Cpu). q.removal) (away m ne));
        online = λ m. rest.online m ∙ dite (ℕ_discrete m n)
            (λ e. subst (λ k. (cpu_of k t).online ≡ (cpu_of k s).online) (sym e)
            (ap (λ (q : Cpu). q.online) there ∙ alike.1))
            (λ ne. ap (λ (q : Cpu). q.online) (away m ne));
      }

-- a sum to which one of rising numbers alone gives something
pub sum_none : (g : ℕ → ℕ) (ns : List ℕ) → ((m : ℕ) → Has m ns → g m ≡ 0) → sum_by g ns ≡ 0
sum_none g [] none = refl
sum_none g (n ∷ ns) none =
    let a = sum_by-cons g n ns in let b = none n (inl refl) in
    let r = sum_none g ns (λ m has. none m (inr has)) in omega (arith, a, b, r)

pub sum_one : (g : ℕ → ℕ) (h low : ℕ) (ns : List ℕ) → RiseFrom low ns → Has h ns → ((m : ℕ) → m ≢ h → g m ≡ 0)
    → sum_by g ns ≡ g h
sum_one g h low [] rise has none = absurd has
sum_one g h low (n ∷ ns) rise has none = let a = sum_by-cons g n ns in ⊎_elim
    (λ (e : h ≡ n). let b = sum_none g ns (λ m in_. none m (λ q. let k = has_above (n + 1) m ns rise.1 in_
    in absurd (omega (arith, k, q, e)))) in
    let same = ap g e in omega (arith, a, b, same))
    (λ later. let k = has_above (n + 1) h ns rise.1 later in
    let b = none n (λ q. absurd (omega (arith, k, q))) in
    let r = sum_one g h (n + 1) ns rise.1 later none in omega (arith, a, b, r)) has
