-- The numbers that are printed, and what follows a removal.
use Rattle.std.proofs.Common.{◌≡◌, ◌≢◌, ℕ, ◌+◌, ◌<◌, ◌==◌, Bool, true, false, cond, List, [], ◌∷◌, ◌++◌, map, length, Option}
use Rattle.std.proofs.Common.{Some, None, refl, ap, sym, ◌∙◌, subst, inl, inr, arith}
use Rattle.std.specs.Prelude.{IsSome, is_some, not}
use Rattle.std.specs.Option.{option_map}
use Rattle.cyc_types.specs.declared.refusal.Refusal.TheVariants.{NoCyclic}
use Rattle.cyc_text.specs.Lines.{removed}
use Rattle.cyc_model.specs.Questions.{plain, outstanding_here}
use Rattle.cyc_model.specs.State.{State, Outcome, Placement, Placed, cpu_of, each, numbers, cpus_having}
use Rattle.cyc_model.specs.Places.{id_of, placement_of, is_no_cyclic, is_being_removed, forgotten}
use Rattle.cyc_types.specs.Reasons.{when}
use Rattle.cyc_model.specs.Remove.{busy_on_any, begin, poll, clear_if, begun}
use Rattle.cyc_model.specs.Softint.{is_open, text_of_id, polled, poll_id, leaving_ids, interrupt}
use Rattle.cyc_model.specs.Script.{run_on, run_of, start, names_of}
use Rattle.cyc_model.specs.Laws.{RiseTo}
use Rattle.cyc_model.specs.Numbers.{ReportsAddUp, answer, answer_if_gone, poll_lines, RemovesTellCalls, PollsTellCalls}
use Rattle.cyc_model.specs.Numbers.{NothingFollowsRemoval}
use Rattle.cyc_model.proofs.Placing.{placement_forgotten, entry}
use Rattle.cyc_model.proofs.Base.{IsAt, IsGone}
use Rattle.cyc_model.proofs.Numbers.{Has, RiseFrom, has_above}
use Rattle.cyc_model.proofs.Refusing.{none_first, not_when, not_not}
use Rattle.cyc_model.proofs.Spread.{Good}
use Rattle.cyc_model.proofs.Calm.{well_interrupt}
use Rattle.cyc_model.proofs.Removing.{Removing}
use Rattle.cyc_model.proofs.Answering.{begun_removal, open_removal, polls_others, well_poll, calls_answered}
use Rattle.cyc_model.proofs.Juggling.{filter_rise, filtered}
use Rattle.cyc_model.proofs.Staying.{leaving_where}
use Rattle.cyc_model.proofs.Reaching.{well_steps, run_good, start_good}

-- ---- the report

pub reports_add_up : ReportsAddUp
unfolding run_of
reports_add_up indexes script name =
    let cpus = script.cpus_in_range.0 in
    let texts = names_of script in
    let some : 0 < script.cpus = omega (arith, cpus) in
    let g = run_good indexes script.cpus script.ceiling texts script.steps.items some in
    let id = id_of name (run_on indexes script.cpus script.ceiling texts script.steps.items).state in
    let w = well_steps texts indexes 1 script.steps.items (start script.cpus script.ceiling (length texts))
    (start_good script.cpus script.ceiling (length texts) some) in
    let b = g.base.books id in
    let c = w.0.tells.called id in
    record { balance = omega (arith, b); called = omega (arith, c) }

-- ---- removals

known_placement : (id : ℕ) (s t : State) → t.placed ≡ s.placed → placement_of id t ≡ placement_of id s
known_placement id s t same = ap (λ ps. option_map (λ (p : Placed). p.placement) (entry id ps)) same

unknown_not : (id : ℕ) (s : State) → IsSome (placement_of id s) → is_no_cyclic id s ≡ true → ⊥
unknown_not id s known is = let a : is_no_cyclic id s ≡ false = ap not known in let no : true ≡ false = sym is ∙ a in absurd (cc)

pub removes_tell_calls : RemovesTellCalls
removes_tell_calls indexes cpus ceiling texts steps step name text s some is why gone =
    let g = subst (λ r. Good r) (sym is) (run_good indexes cpus ceiling texts steps some) in
    let id = id_of name s in
    let o = each (begin plain id) (cpus_having id s) s in
    let h = begun_removal name s g why in
    let known = not_not (is_some (placement_of id s)) (not_when (is_no_cyclic id s) NoCyclic
    (none_first (when (is_no_cyclic id s) NoCyclic) (busy_on_any plain (cpus_having id s) s) why).0) in
    by id o known h g (cpus_having id o.state) refl gone
  where
    by : (id : ℕ) (o : Outcome) → IsSome (placement_of id s) → Removing id s o.state → Good s → (ns : List ℕ)
        → cpus_having id o.state ≡ ns
        → is_no_cyclic id (begun plain step text id ns o).state ≡ true
        → (begun plain step text id ns o).line ≡ answer step text id (begun plain step text id ns o).state
    by id o known h g [] e gone = ap (removed step text) (calls_answered id s o h e)
    by id o known h g (n ∷ ns) e gone =
        absurd (unknown_not id o.state (ap is_some (known_placement id s o.state h.steady.placed) ∙ known) gone)

-- ---- polls

-- those that have an open removal are known, and rise
leaving_known : (s : State) → Good s → (k id : ℕ) → (cpu_of k s).removal ≡ Some id → IsSome (placement_of id s)
leaving_known s g k id is = by (placement_of id s) refl (g.base.homes k id ((g.base.whole k).held id is))
  where
    by : (o : Option Placement) → placement_of id s ≡ o → IsAt k (placement_of id s) → IsSome (placement_of id s)
    by None at here = absurd (subst (λ p. IsAt k p) at here)
    by (Some p) at here = ap is_some at

one_poll : (texts : List (List ℕ)) (step id k : ℕ) (s : State) → Good s → (cpu_of k s).removal ≡ Some id
    → (poll_id plain texts step id s).line ≡ answer_if_gone step (text_of_id id texts s.names) id
    (poll_id plain texts step id s).state
one_poll texts step id k s g is =
    let o = each (poll plain id) (numbers (is_open id) s) s in
    let h = open_removal id s g k is in
    by o h (no_line (numbers (is_open id) s) s) (cpus_having id o.state) refl
  where
    no_line : (ns : List ℕ) (r : State) → (each (poll plain id) ns r).line ≡ []
    no_line [] r = refl
    no_line (n ∷ ns) r = ap (λ l. l ++ (each (poll plain id) ns (poll plain id n r).state).line)
        (quiet (outstanding_here id (cpu_of n r) == 0) n r)
        ∙ no_line ns (poll plain id n r).state
      where
        quiet : (b : Bool) (m : ℕ) (q : State) → (clear_if b id m q).line ≡ []
        quiet true m q = refl
        quiet false m q = refl

    by : (o : Outcome) → Removing id s o.state → o.line ≡ [] → (ns : List ℕ) → cpus_having id o.state ≡ ns
        → (polled step (text_of_id id texts s.names) id ns o).line
        ≡ answer_if_gone step (text_of_id id texts s.names) id (polled step (text_of_id id texts s.names) id ns o).state
    by o h silent [] e =
        ap (removed step (text_of_id id texts s.names)) (calls_answered id s o h e)
        ∙ sym (ap (λ (b : Bool). cond b (answer step (text_of_id id texts s.names) id (forgotten id o.state)) [])
        (ap (λ q. not (is_some q)) (placement_forgotten id o.state)))
    by o h silent (n ∷ ns) e =
        silent ∙ sym (ap (λ (b : Bool). cond b (answer step (text_of_id id texts s.names) id o.state) [])
        (ap not (ap is_some (known_placement id s o.state h.steady.placed) ∙ leaving_known s g k id is)))

-- a poll leaves the open removals of other ids
pub polls_keep : (texts : List (List ℕ)) (step id j k : ℕ) (s : State) → Good s → j ≢ id → (cpu_of k s).removal ≡ Some j
    → (cpu_of k (poll_id plain texts step id s).state).removal ≡ Some j
polls_keep texts step id j k s g ne is =
    let o = each (poll plain id) (numbers (is_open id) s) s in
    by o (polls_others id s g j k ne is) (cpus_having id o.state)
  where
    by : (o : Outcome) → (cpu_of k o.state).removal ≡ Some j → (ns : List ℕ)
        → (cpu_of k (polled step (text_of_id id texts s.names) id ns o).state).removal ≡ Some j
    by o h [] = h
    by o h (n ∷ ns) = h

each_poll : (texts : List (List ℕ)) (step low : ℕ) (ids : List ℕ) (s : State) → Good s → RiseFrom low ids
    → ((j : ℕ) → Has j ids → (k : ℕ) × ((cpu_of k s).removal ≡ Some j))
    → (each (poll_id plain texts step) ids s).line ≡ poll_lines texts step ids s
each_poll texts step low [] s g rise open_ = refl
each_poll texts step low (id ∷ ids) s g rise open_ =
    let at = open_ id (inl refl) in
    let t = (poll_id plain texts step id s).state in
    ap (λ l. l ++ (each (poll_id plain texts step) ids t).line) (one_poll texts step id at.0 s g at.1)
    ∙ ap (λ l. answer_if_gone step (text_of_id id texts s.names) id t ++ l)
    (each_poll texts step (id + 1) ids t (well_poll id s g texts step).1 rise.1
    (λ j has. let a = has_above (id + 1) j ids rise.1 has in let w = open_ j (inr has) in
    (w.0, polls_keep texts step id j w.0 s g (λ (e : j ≡ id). omega (arith, a, e)) w.1)))

pub placed_rise : (low high : ℕ) (ps : List Placed) → RiseTo low ps high → RiseFrom (low + 1) (map (λ p. p.id) ps)
placed_rise low high [] h = tt
placed_rise low high (p ∷ ps) h = (let a = h.0 in omega (arith, a), placed_rise p.id high ps h.1)

pub polls_tell_calls : PollsTellCalls
polls_tell_calls indexes cpus ceiling texts steps step i s some is why =
    let g = subst (λ r. Good r) (sym is) (run_good indexes cpus ceiling texts steps some) in
    let w = well_interrupt step i s g why in
    let t = (interrupt step i s).state in
    ap (λ l. (interrupt step i s).line ++ l)
    (each_poll texts step 1 (leaving_ids t) t w.1
    (filter_rise (λ id. is_being_removed id t) 1 (map (λ (p : Placed). p.id) t.placed) (placed_rise 0 t.last_id t.placed
    w.1.base.rise))
    (λ j has. leaving_where j t (filtered (λ id. is_being_removed id t) j (map (λ (p : Placed). p.id) t.placed) has).1))

-- ---- what follows a removal

pub unknown_gone : (id : ℕ) (s : State) → is_no_cyclic id s ≡ true → placement_of id s ≡ None
unknown_gone id s is = by (placement_of id s) is
  where
    by : (o : Option Placement) → not (is_some o) ≡ true → o ≡ None
    by None h = refl
    by (Some p) h = absurd (cc)

pub nothing_follows_removal : NothingFollowsRemoval
nothing_follows_removal indexes cpus ceiling texts before after step id s some is given unknown =
    let g = subst (λ r. Good r) (sym is) (run_good indexes cpus ceiling texts before some) in
    let w = well_steps texts indexes step after s g in
    let gone : IsGone id s = (given, unknown_gone id s unknown) in
    (w.0.quiet id gone, ap (λ o. not (is_some o)) (w.0.gone id gone).1)
