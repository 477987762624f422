-- The words that move no cyclic: advance, reprogram, unbind, and the soft interrupt itself.
use Rattle.std.proofs.Common.{◌≡◌, ℕ, ◌<◌, Bool, true, false, List, [], ◌∷◌, length, Option, Some, None, refl, ap, sym, ◌∙◌}
use Rattle.std.proofs.Common.{subst, inl, inr}
use Rattle.std.specs.Prelude.{IsSome, is_some, int_lt, pos}
use Rattle.std.specs.Option.{option_map}
use mathlib.Core.Logic.{dite}
use native.Mathlib.Decide.{ℕ_discrete}
use Rattle.cyc_types.specs.Series.{never}
use Rattle.cyc_types.specs.declared.refusal.Refusal.TheVariants.{BadWhen}
use Rattle.cyc_types.specs.Expirations.{times_of}
use Rattle.cyc_script.specs.declared.step.Reprogram.{Reprogram as ReprogramStep}
use Rattle.cyc_script.specs.declared.step.Softint.{Softint as SoftintStep}
use Rattle.cyc_model.specs.Cpu.{Cpu, Here}
use Rattle.cyc_model.specs.Firing.{due_here, fired_cyclic, fire_here}
use Rattle.cyc_model.specs.Serving.{serve_here}
use Rattle.cyc_model.specs.Moving.{moment_at, reprogram_here}
use Rattle.cyc_model.specs.State.{
  State,
  Outcome,
  Placement,
  On,
  OnAll,
  on_number,
  cpu_of,
  each,
  nothing,
  followed_by,
  cpus_online,
}
use Rattle.cyc_model.specs.Places.{id_of, placement_of, put_at, home_of, home_at, is_placed_everywhere}
use Rattle.cyc_types.specs.Reasons.{when, first_refusal}
use Rattle.cyc_model.specs.Refusals.{is_no_cpu, cpu_is_offline, magnitude}
use Rattle.cyc_model.specs.Bind.{cyclic_is_absent, cyclic_is_omni, unbind_refusal, unbind}
use Rattle.cyc_model.specs.Reprogram.{has_no_component, cpu_refusals, reprogram_refusal, cpu_meant, reprogram}
use Rattle.cyc_model.specs.Advance.{advance, advance_refusal}
use Rattle.cyc_model.specs.Softint.{softint_refusal, interrupt}
use Rattle.cyc_model.proofs.Agreement.{moment_same, fired_same}
use Rattle.cyc_model.proofs.Local.{Local, local_fire, local_serve, local_reprogram}
use Rattle.cyc_model.proofs.Given.{rise_map}
use Rattle.cyc_model.proofs.Rising.{found, found_map, times_found, due_of_found}
use Rattle.cyc_model.proofs.Whole.{Done}
use Rattle.cyc_model.proofs.Fires.{done_fire, fired_cyclics, fired_alike}
use Rattle.cyc_model.proofs.Serves.{done_serve, same_serve}
use Rattle.cyc_model.proofs.Leaves.{done_reprogram}
use Rattle.cyc_model.proofs.Shifts.{Shift, shift_fire, shift_serve, shift_reprogram}
use Rattle.cyc_model.proofs.Placing.{placement_put_same, placement_put_other}
use Rattle.cyc_model.proofs.Base.{IsAt, IsGone, Goes, goes_append, goes_nothing, goes_from, goes_on, base_on, cpu_there}
use Rattle.cyc_model.proofs.Base.{cpu_elsewhere}
use Rattle.cyc_model.proofs.Numbers.{Has, numbers_pass, not_leaving}
use Rattle.cyc_model.proofs.Refusing.{none_first, is_cpu, is_cyclic, is_single, not_omnipresent, fires_before}
use Rattle.cyc_model.proofs.Spread.{Good, SameView, view_refl, spread_view, is_there}

-- the outcome of a word
abbrev pub Well : Outcome → State → Type 0
Well o s = Goes o.acts s o.state × Good o.state

pub well_then : (o : Outcome) (f : State → Outcome) (s : State) → Well o s → (Good o.state → Well (f o.state) o.state)
    → Well (followed_by o f) s
well_then o f s one next = let two = next one.1 in
    (goes_append o.acts (f o.state).acts s o.state (f o.state).state one.0 two.0, two.1)

pub well_nothing : (s : State) → Good s → Well (nothing s) s
well_nothing s g = (goes_nothing s s refl refl (λ id h. h), g)

some_map : {A B : Type 0} (f : A → B) (o : Option A) → is_some (option_map f o) ≡ is_some o
some_map f None = refl
some_map f (Some x) = refl

-- ---- where the CPU looks the same after it

module _ (n : ℕ) (f : Cpu → Here) (made : ℕ → ℕ) (s : State) (g : Good s) (within : n < length s.cpus)
    (done : Done n made (cpu_of n s) (f (cpu_of n s))) (shift : Shift None None made (cpu_of n s) (f (cpu_of n s)))
    (view : SameView (cpu_of n s) (f (cpu_of n s)).cpu) where
  pub views_on : (m : ℕ) → SameView (cpu_of m s) (cpu_of m (on_number n f s).state)
  views_on m = dite (ℕ_discrete m n)
      (λ e. subst (λ k. SameView (cpu_of k s) (cpu_of k (on_number n f s).state)) (sym e)
      (subst (λ c. SameView (cpu_of n s) c) (sym (cpu_there n f made s within done)) view))
      (λ ne. subst (λ c. SameView (cpu_of m s) c) (sym (cpu_elsewhere n f made s within done m ne)) (view_refl (cpu_of m s)))

  pub well_on : ((c : Cpu) → Local n c (f c)) → ((id : ℕ) → found id (cpu_of n s).cyclics ≡ None → made id ≡ 0)
      → Well (on_number n f s) s
  well_on local none =
      let goes = goes_on n f made s within done None g.base local none in (
        goes,
        record {
          base = base_on n f made s within done None None g.base shift (λ id some. g.base.homes n id (sym (view.ids id) ∙ some));
          spread = spread_view s (on_number n f s).state goes.tells.as_many (λ j. refl) views_on g.spread;
        },
      )

-- ---- advance

view_fire : (n now : ℕ) (s : State) → Good s → now < never → SameView (cpu_of n s) (fire_here n now (cpu_of n s)).cpu
view_fire n now s g before = record {
  ids = λ j. ap is_some (ap (found j) (fired_cyclics n now (cpu_of n s) (g.base.whole n) before)
      ∙ found_map (fired_cyclic now (due_here now (cpu_of n s)) (fire_here n now (cpu_of n s)).acts)
      (λ x. (fired_same now (due_here now (cpu_of n s)) (fire_here n now (cpu_of n s)).acts x).0) j (cpu_of n s).cyclics)
      ∙ some_map (fired_cyclic now (due_here now (cpu_of n s)) (fire_here n now (cpu_of n s)).acts) (found j (cpu_of n
      s).cyclics);
  removal = (fired_alike n now (cpu_of n s) (g.base.whole n) before).0;
  online = (fired_alike n now (cpu_of n s) (g.base.whole n) before).1;
}

pub well_fire : (n now : ℕ) (s : State) → Good s → n < length s.cpus → now < never → Well (on_number n (fire_here n now) s) s
well_fire n now s g within before =
    let w = g.base.whole n in
    let done = done_fire n now (cpu_of n s) w before in
    well_on n (fire_here n now) (λ j. times_of j (due_here now (cpu_of n s))) s g within done
    (shift_fire n now (cpu_of n s) w before done)
    (view_fire n now s g before) (local_fire n now)
    (λ id none. times_found now 0 id (cpu_of n s).cyclics w.rising ∙ ap (due_of_found now) none)

well_fires : (now : ℕ) (ns : List ℕ) (s : State) → Good s → now < never → ((m : ℕ) → Has m ns → m < length s.cpus)
    → Well (each (λ n. on_number n (fire_here n now)) ns s) s
well_fires now [] s g before within = well_nothing s g
well_fires now (n ∷ ns) s g before within =
    let one = well_fire n now s g (within n (inl refl)) before in
    well_then (on_number n (fire_here n now) s) (each (λ m. on_number m (fire_here m now)) ns) s one
    (λ g2. well_fires now ns (on_number n (fire_here n now) s).state g2 before
    (λ m has. subst (λ k. m < k) (sym one.0.tells.as_many) (within m (inr has))))

-- neither the clock nor whether the system is suspended matters to the CPUs
good_set : (now : ℕ) (suspended : Bool) (s : State) → Good s → Good (record s { clock = now; suspended = suspended })
good_set now suspended s g = record {
  base = record { whole = g.base.whole; homes = g.base.homes; rise = g.base.rise; few = g.base.few; books = g.base.books };
  spread = record { some = g.spread.some; there = g.spread.there; home = g.spread.home; stands = g.spread.stands };
}

pub good_clock : (now : ℕ) (s : State) → Good s → Good (record s { clock = now })
good_clock now s g = good_set now s.suspended s g

pub well_set : (now : ℕ) (suspended : Bool) (s : State) → Good s
    → Well (nothing (record s { clock = now; suspended = suspended })) s
well_set now suspended s g =
    (goes_nothing s (record s { clock = now; suspended = suspended }) refl refl (λ id h. h), good_set now suspended s g)

pub well_advance : (step now : ℕ) (s : State) → Good s → advance_refusal now s ≡ None → Well (advance step now s) s
well_advance step now s g why =
    let o = well_fires now (cpus_online s) (record s { clock = now }) (good_clock now s g) (fires_before now s why)
    (λ m has. (numbers_pass (λ (c : Cpu). c.online) m s has).0) in
    (goes_from _ s (record s { clock = now }) _ o.0 refl refl (λ id h. h), o.1)

-- ---- a soft interrupt

pub well_interrupt : (step : ℕ) (i : SoftintStep) (s : State) → Good s → softint_refusal i s ≡ None → Well (interrupt step i s) s
well_interrupt step i s g why =
    let same = same_serve i.cpu i.budget i.level (cpu_of i.cpu s) in
    let view : SameView (cpu_of i.cpu s) (serve_here i.cpu i.level i.budget (cpu_of i.cpu s)).cpu = record {
      ids = λ j. ap (λ cs. is_some (found j cs)) same.cyclics;
      removal = same.removal;
      online = same.online;
    } in
    let o = well_on i.cpu (serve_here i.cpu i.level i.budget) (λ j. 0) s g (is_cpu i.cpu s why)
    (done_serve i.cpu i.budget i.level (cpu_of i.cpu s) (g.base.whole i.cpu))
    (shift_serve None i.cpu i.level i.budget (cpu_of i.cpu s)) view (local_serve i.cpu i.level i.budget) (λ id none. refl) in
    (o.0, o.1)

-- ---- reprogram

view_reprogram : (id moment : ℕ) (c : Cpu) → SameView c (reprogram_here id moment c).cpu
view_reprogram id moment c = record {
  ids = λ j. ap is_some (found_map (moment_at id moment) (λ x. (moment_same id moment x).0) j c.cyclics)
      ∙ some_map (moment_at id moment) (found j c.cyclics);
  removal = refl;
  online = refl;
}

meant_there : (cpu : Option ℕ) (id : ℕ) (s : State) → Good s → IsSome (placement_of id s)
    → first_refusal (cpu_refusals cpu id s) ≡ None
    → cpu_meant cpu id s < length s.cpus
meant_there None id s g known h =
    let all = (none_first (cyclic_is_omni id s) [] h).0 in
    let at = is_single (placement_of id s) known (not_omnipresent id s all) in
    subst (λ o. home_at o < length s.cpus) (sym at.2) (is_there s g.spread id at.0 at.1 at.2)
meant_there (Some n) id s g known h = is_cpu n s (none_first (is_no_cpu n s) (cpu_is_offline n s ∷ has_no_component id n s ∷
    []) h).0

pub well_reprogram : (step : ℕ) (r : ReprogramStep) (s : State) → Good s → reprogram_refusal r s ≡ None
    → Well (reprogram step r s) s
well_reprogram step r s g why =
    let id = id_of r.name s in
    let one = none_first (when (int_lt r.moment (pos 0)) BadWhen) (cyclic_is_absent id s ∷ cpu_refusals r.cpu id s) why in
    let two = none_first (cyclic_is_absent id s) (cpu_refusals r.cpu id s) one.1 in
    let known = is_cyclic id s two.0 in
    let n = cpu_meant r.cpu id s in
    let o = well_on n (reprogram_here id (magnitude r.moment)) (λ j. 0) s g (meant_there r.cpu id s g known.0 two.1)
    (done_reprogram n id (magnitude r.moment) (cpu_of n s) (g.base.whole n) (not_leaving id s known.1 n))
    (shift_reprogram None id (magnitude r.moment) (cpu_of n s)) (view_reprogram id (magnitude r.moment) (cpu_of n s))
    (local_reprogram n id (magnitude r.moment)) (λ j none. refl) in
    (o.0, o.1)

-- ---- a cyclic that is on one CPU is put down as on it again

put_gone : (id : ℕ) (placement : Placement) (s : State) (j : ℕ) → IsSome (placement_of id s) → IsGone j s
    → IsGone j (put_at id placement s)
put_gone id placement s j known gone = (
  gone.0,
  placement_put_other id j placement s (λ e. let n : IsSome (placement_of j s) = ap (λ (k : ℕ). is_some (placement_of k s)) e
      ∙ known in
      absurd (let no : true ≡ false = sym n ∙ ap is_some gone.1 in cc)) ∙ gone.1,
)

pub well_put : (id n : ℕ) (bound was : Bool) (s : State) → Good s → placement_of id s ≡ Some (On n was)
    → Well (nothing (put_at id (On n bound) s)) s
well_put id n bound was s g at =
    let t = put_at id (On n bound) s in (
      goes_nothing s t refl refl (λ j gone. put_gone id (On n bound) s j (ap is_some at) gone),
      record {
        base = record {
          whole = g.base.whole;
          homes = λ m j some. dite (ℕ_discrete j id)
              (λ e. subst (λ o. IsAt m o)
              (sym (ap (λ (k : ℕ). placement_of k t) e ∙ placement_put_same id (On n bound) s (On n was) at))
              (subst (λ o. IsAt m o) (ap (λ (k : ℕ). placement_of k s) e ∙ at) (g.base.homes m j some)))
              (λ ne. subst (λ o. IsAt m o) (sym (placement_put_other id j (On n bound) s ne)) (g.base.homes m j some));
          rise = rise_map 0 s.last_id id (On n bound) s.placed g.base.rise;
          few = g.base.few;
          books = g.base.books;
        };
        spread = record {
          some = g.spread.some;
          there = g.spread.there;
          home = λ j m b is. dite (ℕ_discrete j id)
              (λ e. let same : Some (On n bound) ≡ Some (On m b) = sym (ap (λ (k : ℕ). placement_of k t) e
              ∙ placement_put_same id (On n bound) s (On n was) at) ∙ is in
              let there = g.spread.home j n was (ap (λ (k : ℕ). placement_of k s) e ∙ at) in
              subst (λ k. IsSome (found j (cpu_of k s).cyclics)) (ap (λ o. home_at o) same) there)
              (λ ne. g.spread.home j m b (sym (placement_put_other id j (On n bound) s ne) ∙ is));
          stands = λ j e is. dite (ℕ_discrete j id)
              (λ same. absurd (let no : Some (On n bound) ≡ Some (OnAll e) =
              sym (ap (λ (k : ℕ). placement_of k t) same ∙ placement_put_same id (On n bound) s (On n was) at) ∙ is in
              let no2 : false ≡ true = ap is_placed_everywhere no in cc))
              (λ ne. g.spread.stands j e (sym (placement_put_other id j (On n bound) s ne) ∙ is));
        };
      },
    )

pub well_unbind : (step name : ℕ) (s : State) → Good s → unbind_refusal name s ≡ None → Well (unbind step name s) s
well_unbind step name s g why =
    let id = id_of name s in
    let one = none_first (cyclic_is_absent id s) (cyclic_is_omni id s ∷ []) why in
    let known = is_cyclic id s one.0 in
    let at = is_single (placement_of id s) known.0 (not_omnipresent id s (none_first (cyclic_is_omni id s) [] one.1).0) in
    let home : home_of id s ≡ at.0 = ap home_at at.2 in
    let o = subst (λ n. Well (nothing (put_at id (On n false) s)) s) (sym home) (well_put id at.0 false at.1 s g at.2) in
    (o.0, o.1)
