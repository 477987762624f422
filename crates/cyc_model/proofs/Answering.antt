-- A removal that begins or is polled, on all CPUs of the cyclic, and its answer.
use Rattle.std.proofs.Common.{◌≡◌, ◌≢◌, ℕ, ◌-◌, ◌==◌, eqb-true, true, false, List, [], ◌∷◌, Option, Some, None, refl, ap}
use Rattle.std.proofs.Common.{sym, ◌∙◌, subst, inl, ⊎_elim, arith}
use Rattle.std.specs.Prelude.{IsSome, is_some}
use Rattle.std.specs.Option.{option_map_or}
use Rattle.cyc_types.specs.declared.refusal.Refusal.TheVariants.{NoCyclic}
use Rattle.cyc_level.proofs.Maps.{none_some, some_same}
use Rattle.cyc_script.specs.declared.step.Softint.{Softint as SoftintStep}
use Rattle.cyc_model.specs.Cpu.{Cpu, has_cyclic}
use Rattle.cyc_model.specs.Questions.{plain}
use Rattle.cyc_model.specs.State.{State, Outcome, Placement, On, OnAll, cpu_of, nothing, each, numbers, cpus_having}
use Rattle.cyc_model.specs.Places.{id_of, placement_of, is_no_cyclic, forgotten}
use Rattle.cyc_types.specs.Reasons.{when, first_refusal, busy}
use Rattle.cyc_model.specs.Report.{counts_of}
use Rattle.cyc_model.specs.Remove.{busy_on_any, remove_refusal, poll, begin, answered, begun, with_answer, remove, ended_expired}
use Rattle.cyc_model.specs.Remove.{ended_lost}
use Rattle.cyc_model.specs.Softint.{softint_refusal, interrupt, is_open, text_of_id, polled, with_poll, poll_id, leaving_ids}
use Rattle.cyc_model.specs.Softint.{poll_all, softint}
use Rattle.cyc_model.proofs.Rising.{found, any_found}
use Rattle.cyc_model.proofs.Stays.{none_and_some}
use Rattle.cyc_model.proofs.Base.{IsAt, Goes, goes_nothing, goes_to}
use Rattle.cyc_model.proofs.Numbers.{Has, has_or_not, numbers_rise, numbers_pass, pass_numbers, Looped, looped}
use Rattle.cyc_model.proofs.Refusing.{none_first, not_busy}
use Rattle.cyc_model.proofs.Spread.{Leaving, Good, has_number}
use Rattle.cyc_model.proofs.Calm.{Well, well_then, well_nothing, well_interrupt}
use Rattle.cyc_model.proofs.Ending.{all_ended}
use Rattle.cyc_model.proofs.Removing.{Begun, Steady, Removing, poll_turn, begin_turn, good_kept, good_answered, forgotten_gone}
use Rattle.cyc_model.proofs.Removing.{none_with, first_with}

steady_refl : (s : State) → Good s → Steady s s
steady_refl s g = record { base = g.base; placed = refl; last_id = refl; counts = λ j. refl }

-- ---- after a loop of begins, or of polls

module _ (id : ℕ) (s : State) (g : Good s) (ns : List ℕ) (o : Outcome) (h : Looped (λ m c d. Begun id c d) (Steady s) ns s o)
    -- on these CPUs no removal is open, or this one
    (before : (m : ℕ) → Has m ns → (j : ℕ) → (cpu_of m s).removal ≡ Some j → j ≡ id)
    -- and wherever else the cyclic is, its removal is open
    (elsewhere : (m : ℕ) → (Has m ns → ⊥) → IsSome (found id (cpu_of m s).cyclics) → (cpu_of m s).removal ≡ Some id) where
  pub removing : Removing id s o.state
  removing = record {
    steady = h.inv;
    as_many = h.goes.tells.as_many;
    others = λ j ne m. ⊎_elim (λ has. (h.own m has).others j ne)
        (λ away. ap (λ (c : Cpu). is_some (found j c.cyclics)) (h.others m away)) (has_or_not m ns);
    less = λ m some. ⊎_elim (λ has. (h.own m has).less some)
        (λ away. subst (λ (c : Cpu). IsSome (found id c.cyclics)) (h.others m away) some) (has_or_not m ns);
    leaving = λ m some. ⊎_elim
        (λ has. ⊎_elim (λ gone. none_and_some ((cpu_of m o.state).removal
        ≡ Some id) (found id (cpu_of m o.state).cyclics) gone.0 some)
        (λ open_. open_.1) (h.own m has).either)
        (λ away. ap (λ (c : Cpu). c.removal) (h.others m away)
        ∙ elsewhere m away (subst (λ (c : Cpu). IsSome (found id c.cyclics)) (h.others m away) some))
        (has_or_not m ns);
    online = λ m. ⊎_elim (λ has. (h.own m has).online) (λ away. ap (λ (c : Cpu). c.online) (h.others m away)) (has_or_not m ns);
    opened = λ j ne m is. ⊎_elim
        (λ has. ⊎_elim (λ gone. none_some ((cpu_of m s).removal ≡ Some j) j (cpu_of m o.state).removal gone.1 is)
        (λ open_. absurd (ne (some_same j id (sym is ∙ open_.1)))) (h.own m has).either)
        (λ away. sym (ap (λ (c : Cpu). c.removal) (h.others m away)) ∙ is)
        (has_or_not m ns);
    stays = λ j ne m is. ⊎_elim (λ has. absurd (ne (before m has j is))) (λ away. ap (λ (c : Cpu). c.removal) (h.others m away)
        ∙ is) (has_or_not m ns);
  }

-- the calls of its line are all calls that were made of it
pub calls_answered : (id : ℕ) (s : State) (o : Outcome) → Removing id s o.state → cpus_having id o.state ≡ []
    → ended_expired id o.state - ended_lost id o.state ≡ o.state.called id
calls_answered id s o h none = let a = all_ended id o.state h.steady.base (none_with id o.state none) in omega (arith, a)

-- what a removal comes to after these parts of it
module _ (id : ℕ) (s : State) (g : Good s) (o : Outcome) (goes : Goes o.acts s o.state) (h : Removing id s o.state) where
  well_answered : (step : ℕ) (text : List ℕ) → cpus_having id o.state ≡ [] → Well (answered step text id o) s
  well_answered step text none = (
    goes_to o.acts s o.state (forgotten id o.state) goes refl refl (λ j gone. forgotten_gone id j o.state gone),
    good_answered id s o.state g h (none_with id o.state none),
  )

  well_begun : (step : ℕ) (text : List ℕ) → Well (with_answer plain step text id o) s
  well_begun step text = by (cpus_having id o.state) refl
    where
      by : (ns : List ℕ) → cpus_having id o.state ≡ ns → Well (begun plain step text id ns o) s
      by [] is = well_answered step text is
      by (n ∷ ns) is = (goes, good_kept id s o.state g h n (first_with id n ns o.state is))

  well_polled : (step : ℕ) (text : List ℕ) → Well (with_poll step text id o) s
  well_polled step text = by (cpus_having id o.state) refl
    where
      by : (ns : List ℕ) → cpus_having id o.state ≡ ns → Well (polled step text id ns o) s
      by [] is = well_answered step text is
      by (n ∷ ns) is = (goes, good_kept id s o.state g h n (first_with id n ns o.state is))

-- no answer changes a count
counts_begun : (id step : ℕ) (text : List ℕ) (o : Outcome) (s : State) → ((j : ℕ) → counts_of j o.state ≡ counts_of j s) → (j : ℕ)
    → counts_of j (with_answer plain step text id o).state ≡ counts_of j s
counts_begun id step text o s same j = by (cpus_having id o.state)
  where
    by : (ns : List ℕ) → counts_of j (begun plain step text id ns o).state ≡ counts_of j s
    by [] = same j
    by (n ∷ ns) = same j

counts_polled : (id step : ℕ) (text : List ℕ) (o : Outcome) (s : State) → ((j : ℕ) → counts_of j o.state ≡ counts_of j s)
    → (j : ℕ)
    → counts_of j (with_poll step text id o).state ≡ counts_of j s
counts_polled id step text o s same j = by (cpus_having id o.state)
  where
    by : (ns : List ℕ) → counts_of j (polled step text id ns o).state ≡ counts_of j s
    by [] = same j
    by (n ∷ ns) = same j

-- ---- remove

busy_each : (ns : List ℕ) (s : State) → first_refusal (busy_on_any plain ns s) ≡ None → (m : ℕ) → Has m ns
    → (cpu_of m s).removal ≡ None
busy_each [] s h m has = absurd has
busy_each (n ∷ ns) s h m has =
    let one = none_first (busy (cpu_of n s).removal) (busy_on_any plain ns s) h in
    ⊎_elim (λ e. subst (λ k. (cpu_of k s).removal ≡ None) (sym e) (not_busy (cpu_of n s).removal one.0))
    (λ r. busy_each ns s one.1 m r) has

module _ (name : ℕ) (s : State) (g : Good s) (why : remove_refusal plain name s ≡ None) where
  free_each : (m : ℕ) → Has m (cpus_having (id_of name s) s) → (cpu_of m s).removal ≡ None
  free_each = busy_each (cpus_having (id_of name s) s) s
      (none_first (when (is_no_cyclic (id_of name s) s) NoCyclic) (busy_on_any plain (cpus_having (id_of name s) s) s) why).1

  begins : Looped (λ m c d. Begun (id_of name s) c d) (Steady s) (cpus_having (id_of name s) s) s
      (each (begin plain (id_of name s)) (cpus_having (id_of name s) s) s)
  begins =
      let id = id_of name s in
      looped (begin plain id) (λ n c. (c.removal ≡ None) × IsSome (found id c.cyclics)) (λ m c d. Begun id c d) (Steady s)
      (λ n t within inv ready. begin_turn s id n t within inv ready) 0 (cpus_having id s) s (numbers_rise (has_cyclic id) 0
      s.cpus)
      (λ m has. (numbers_pass (has_cyclic id) m s has).0) (steady_refl s g)
      (λ m has. (free_each m has, sym (any_found id (cpu_of m s).cyclics) ∙ (numbers_pass (has_cyclic id) m s has).1))

  pub begun_removal : Removing (id_of name s) s (each (begin plain (id_of name s)) (cpus_having (id_of name s) s) s).state
  begun_removal =
      let id = id_of name s in
      removing id s g (cpus_having id s) (each (begin plain id) (cpus_having id s) s) begins
      (λ m has j is. none_some (j ≡ id) j (cpu_of m s).removal (free_each m has) is)
      (λ m away some. absurd (away (pass_numbers (has_cyclic id) m s (has_number s m id some) (any_found id (cpu_of m s).cyclics
      ∙ some))))

  pub well_remove : (step : ℕ) (text : List ℕ) → Well (remove plain step text name s) s
  well_remove step text = well_begun (id_of name s) s g (each (begin plain (id_of name s)) (cpus_having (id_of name s) s) s)
      begins.goes begun_removal step text

  pub counts_removed : (step : ℕ) (text : List ℕ) (j : ℕ) → counts_of j (remove plain step text name s).state ≡ counts_of j s
  counts_removed step text = counts_begun (id_of name s) step text (each (begin plain (id_of name s)) (cpus_having
      (id_of name s) s) s) s
      begins.inv.counts

-- ---- polls

pub open_is : (id : ℕ) (c : Cpu) → is_open id c ≡ true → c.removal ≡ Some id
open_is id c h = by c.removal refl h
  where
    by : (r : Option ℕ) → c.removal ≡ r → option_map_or (λ busy. busy == id) r false ≡ true → c.removal ≡ Some id
    by None is e = absurd (cc)
    by (Some j) is e = is ∙ ap Some (eqb-true j id e)

-- where a removal is open, it is open wherever the cyclic is
pub all_leaving : (id k : ℕ) (s : State) → Good s → (cpu_of k s).removal ≡ Some id → Leaving id s
all_leaving id k s g is = by (placement_of id s) refl (g.base.homes k id held)
  where
    held : IsSome (found id (cpu_of k s).cyclics)
    held = (g.base.whole k).held id is

    by : (o : Option Placement) → placement_of id s ≡ o → IsAt k (placement_of id s) → Leaving id s
    by None at here = absurd (subst (λ p. IsAt k p) at here)
    by (Some (On m bound)) at here = λ n some.
        let a = subst (λ p. IsAt k p) at here in let b = subst (λ p. IsAt n p) at (g.base.homes n id some) in
        ap (λ (i : ℕ). (cpu_of i s).removal) (sym b ∙ a) ∙ is
    by (Some (OnAll e)) at here = ⊎_elim (λ full. absurd (full.1 k is)) (λ leave. leave.0) (g.spread.stands id e at)

module _ (id : ℕ) (s : State) (g : Good s) where
  open_here : (m : ℕ) → Has m (numbers (is_open id) s) → (cpu_of m s).removal ≡ Some id
  open_here m has = open_is id (cpu_of m s) (numbers_pass (is_open id) m s has).1

  polls : Looped (λ m c d. Begun id c d) (Steady s) (numbers (is_open id) s) s (each (poll plain id) (numbers (is_open id) s) s)
  polls = looped (poll plain id) (λ n c. c.removal ≡ Some id) (λ m c d. Begun id c d) (Steady s)
      (λ n t within inv ready. poll_turn s id n t within inv ready) 0 (numbers (is_open id) s) s
      (numbers_rise (is_open id) 0 s.cpus)
      (λ m has. (numbers_pass (is_open id) m s has).0) (steady_refl s g) open_here

  pub counts_poll : (texts : List (List ℕ)) (step j : ℕ) → counts_of j (poll_id plain texts step id s).state ≡ counts_of j s
  counts_poll texts step = counts_polled id step (text_of_id id texts s.names) (each (poll plain id) (numbers
      (is_open id) s) s) s polls.inv.counts

  -- the open removals of other ids stay so
  pub polls_others : (j k : ℕ) → j ≢ id → (cpu_of k s).removal ≡ Some j
      → (cpu_of k (each (poll plain id) (numbers (is_open id) s) s).state).removal ≡ Some j
  polls_others j k ne is = ⊎_elim (λ has. absurd (ne (some_same j id (sym is ∙ open_here k has))))
      (λ away. ap (λ (c : Cpu). c.removal) (polls.others k away) ∙ is) (has_or_not k (numbers (is_open id) s))

  -- where its removal is open, or no CPU has it
  polled_removal : ((m : ℕ) → (Has m (numbers (is_open id) s) → ⊥) → IsSome (found id (cpu_of m s).cyclics)
      → (cpu_of m s).removal ≡ Some id)
      → Removing id s (each (poll plain id) (numbers (is_open id) s) s).state
  polled_removal elsewhere = removing id s g (numbers (is_open id) s) (each (poll plain id) (numbers (is_open id) s) s) polls
      (λ m has j is. some_same j id (sym is ∙ open_here m has)) elsewhere

  pub open_removal : (k : ℕ) → (cpu_of k s).removal ≡ Some id
      → Removing id s (each (poll plain id) (numbers (is_open id) s) s).state
  open_removal k is = polled_removal (λ m away some. all_leaving id k s g is m some)

  pub well_open : (texts : List (List ℕ)) (step k : ℕ) → (cpu_of k s).removal ≡ Some id → Well (poll_id plain texts step id s) s
  well_open texts step k is =
      well_polled id s g (each (poll plain id) (numbers (is_open id) s) s) polls.goes (open_removal k is) step
      (text_of_id id texts s.names)

  -- where it isn't open
  pub well_poll : (texts : List (List ℕ)) (step : ℕ) → Well (poll_id plain texts step id s) s
  well_poll texts step = by (numbers (is_open id) s) refl
    where
      closed : (ns : List ℕ) → cpus_having id s ≡ ns → numbers (is_open id) s ≡ []
          → Well (polled step (text_of_id id texts s.names) id ns (nothing s)) s
      closed [] none shut = well_answered id s g (nothing s) (goes_nothing s s refl refl (λ j gone. gone))
          (subst (λ ns. Removing id s (each (poll plain id) ns s).state) shut
          (polled_removal (λ m away some. none_and_some ((cpu_of m s).removal
          ≡ Some id) (found id (cpu_of m s).cyclics) (none_with id s none m) some)))
          step (text_of_id id texts s.names) none
      closed (n ∷ ns) some shut = well_nothing s g

      by : (ns : List ℕ) → numbers (is_open id) s ≡ ns → Well (poll_id plain texts step id s) s
      by [] shut = subst (λ ns. Well (with_poll step (text_of_id id texts s.names) id (each (poll plain id) ns s)) s) (sym shut)
          (closed (cpus_having id s) refl shut)
      by (k ∷ ks) is = well_open texts step k (open_here k (subst (λ ns. Has k ns) (sym is) (inl refl)))

pub well_polls : (texts : List (List ℕ)) (step : ℕ) (ids : List ℕ) (s : State) → Good s
    → Well (each (poll_id plain texts step) ids s) s
well_polls texts step [] s g = well_nothing s g
well_polls texts step (id ∷ ids) s g =
    well_then (poll_id plain texts step id s) (each (poll_id plain texts step) ids) s (well_poll id s g texts step)
    (λ h. well_polls texts step ids (poll_id plain texts step id s).state h)

pub counts_polls : (texts : List (List ℕ)) (step : ℕ) (ids : List ℕ) (s : State) → Good s → (j : ℕ)
    → counts_of j (each (poll_id plain texts step) ids s).state ≡ counts_of j s
counts_polls texts step [] s g j = refl
counts_polls texts step (id ∷ ids) s g j =
    counts_polls texts step ids (poll_id plain texts step id s).state (well_poll id s g texts step).1 j
    ∙ counts_poll id s g texts step j

pub well_softint : (texts : List (List ℕ)) (step : ℕ) (i : SoftintStep) (s : State) → Good s → softint_refusal i s ≡ None
    → Well (softint plain texts step i s) s
well_softint texts step i s g why =
    well_then (interrupt step i s) (poll_all plain texts step) s (well_interrupt step i s g why)
    (λ h. well_polls texts step (leaving_ids (interrupt step i s).state) (interrupt step i s).state h)
