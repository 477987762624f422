-- Which cyclics are known once removals began, and once they were polled.
use Rattle.std.proofs.Common.{◌≡◌, ◌≢◌, ℕ, zero, suc, ◌==◌, eq-eqb, Bool, true, false, cond, List, [], ◌∷◌, map, find}
use Rattle.std.proofs.Common.{Option, Some, None, refl, ap, sym, ◌∙◌}
use Rattle.std.specs.Prelude.{not, is_some}
use Rattle.std.specs.Option.{option_map}
use Rattle.std.specs.List.{slice_get}
use Rattle.cyc_core.specs.Tables.{Tables}
use Rattle.cyc_places.specs.declared.record.Record.{Record}
use Rattle.cyc_system.specs.System.{SystemView, has}
use Rattle.cyc_system.specs.Agreement.{Agrees}
use Rattle.cyc_system.proofs.Spots.{same_some, none_some}
use Rattle.cyc_system.specs.Removing.{cpus_with as cpus_with_in}
use Rattle.cyc_system.proofs.Where.{nowhere}
use Rattle.cyc_model.specs.Cpu.{CyclicState, cyclic_with_id}
use Rattle.cyc_model.specs.Moving.{mark_here}
use Rattle.cyc_model.specs.Questions.{plain, outstanding_here}
use Rattle.cyc_model.specs.State.{State, Outcome, Placed, cpu_of, numbers, on_number, each, cpus_having}
use Rattle.cyc_model.specs.Places.{id_of, is_no_cyclic, keep_counts, forgotten}
use Rattle.cyc_model.specs.Remove.{clear_if, poll, begin, begun, remove}
use Rattle.cyc_model.specs.Softint.{is_open, text_of_id, polled, poll_id}
use Rattle.cyc_model.proofs.Placing.{placement_forgotten_other}
use Rattle.cyc_system_model.specs.Shown.{ShowsSystem, shown_record}

-- ---- begins and polls leave where cyclics are

placed_kept : (n : ℕ) (o : Option CyclicState) (s : State) → (keep_counts n o s).placed ≡ s.placed
placed_kept n None s = refl
placed_kept n (Some x) s = refl

placed_clear : (b : Bool) (id n : ℕ) (s : State) → (clear_if b id n s).state.placed ≡ s.placed
placed_clear true id n s = placed_kept n (cyclic_with_id id (cpu_of n s)) s
placed_clear false id n s = refl

placed_poll : (id n : ℕ) (s : State) → (poll plain id n s).state.placed ≡ s.placed
placed_poll id n s = placed_clear (outstanding_here id (cpu_of n s) == 0) id n s

placed_polls : (id : ℕ) (ns : List ℕ) (s : State) → (each (poll plain id) ns s).state.placed ≡ s.placed
placed_polls id [] s = refl
placed_polls id (n ∷ ns) s = placed_polls id ns (poll plain id n s).state ∙ placed_poll id n s

placed_begins : (id : ℕ) (ns : List ℕ) (s : State) → (each (begin plain id) ns s).state.placed ≡ s.placed
placed_begins id [] s = refl
placed_begins id (n ∷ ns) s = placed_begins id ns (begin plain id n s).state
    ∙ placed_poll id n (on_number n (mark_here n id) s).state

-- ---- the other cyclics

unknown_same : (j : ℕ) (s t : State) → t.placed ≡ s.placed → is_no_cyclic j t ≡ is_no_cyclic j s
unknown_same j s t same = ap (λ ps. not (is_some (option_map (λ (p : Placed). p.placement) (find (λ (p : Placed). p.id == j)
    ps))))
    same

unknown_forgotten : (id j : ℕ) (t : State) → j ≢ id → is_no_cyclic j (forgotten id t) ≡ is_no_cyclic j t
unknown_forgotten id j t ne = ap (λ o. not (is_some o)) (placement_forgotten_other id j t ne)

pub unknown_polled : (texts : List (List ℕ)) (step id j : ℕ) (s : State) → j ≢ id
    → is_no_cyclic j (poll_id plain texts step id s).state ≡ is_no_cyclic j s
unknown_polled texts step id j s ne =
    let o = each (poll plain id) (numbers (is_open id) s) s in
    by o (placed_polls id (numbers (is_open id) s) s) (cpus_having id o.state)
  where
    by : (o : Outcome) → o.state.placed ≡ s.placed → (ns : List ℕ)
        → is_no_cyclic j (polled step (text_of_id id texts s.names) id ns o).state ≡ is_no_cyclic j s
    by o same [] = unknown_forgotten id j o.state ne ∙ unknown_same j s o.state same
    by o same (n ∷ ns) = unknown_same j s o.state same

pub unknown_removed : (step : ℕ) (text : List ℕ) (name j : ℕ) (s : State) → j ≢ id_of name s
    → is_no_cyclic j (remove plain step text name s).state ≡ is_no_cyclic j s
unknown_removed step text name j s ne =
    let id = id_of name s in
    let o = each (begin plain id) (cpus_having id s) s in
    by id ne o (placed_begins id (cpus_having id s) s) (cpus_having id o.state)
  where
    by : (id : ℕ) → j ≢ id → (o : Outcome) → o.state.placed ≡ s.placed → (ns : List ℕ)
        → is_no_cyclic j (begun plain step text id ns o).state ≡ is_no_cyclic j s
    by id ne o same [] = unknown_forgotten id j o.state ne ∙ unknown_same j s o.state same
    by id ne o same (n ∷ ns) = unknown_same j s o.state same

-- ---- one that is on a CPU is known

found_shown : (id k : ℕ) (rs : List Record) (r : Record) → slice_get rs k ≡ Some r → r.id ≡ id
    → is_some (option_map (λ (p : Placed). p.placement) (find (λ (p : Placed). p.id == id) (map shown_record rs))) ≡ true
found_shown id k [] r is named = absurd (none_some is)
found_shown id zero (q ∷ rs) r is named =
    ap (λ b. is_some (option_map (λ (p : Placed). p.placement)
    (cond b (Some (shown_record q)) (find (λ (p : Placed). p.id == id) (map shown_record rs)))))
    (eq-eqb q.id id (ap (λ (x : Record). x.id) (same_some is) ∙ named))
found_shown id (suc k) (q ∷ rs) r is named = by (q.id == id) (found_shown id k rs r is named)
  where
    by : (b : Bool) → is_some (option_map (λ (p : Placed). p.placement) (find (λ (p : Placed). p.id == id) (map shown_record rs)))
        ≡ true
        → is_some (option_map (λ (p : Placed). p.placement)
        (cond b (Some (shown_record q)) (find (λ (p : Placed). p.id == id) (map shown_record rs)))) ≡ true
    by true h = refl
    by false h = h

pub still_known : (id : ℕ) (t : State) (w : SystemView Tables) → ShowsSystem t w → Agrees w → cpus_with_in id w.cpus ≢ []
    → is_no_cyclic id t ≡ true → ⊥
still_known id t w h agrees some gone = some (nowhere id w.cpus (λ n. by n (has n id w.cpus) refl))
  where
    by : (n : ℕ) (b : Bool) → has n id w.cpus ≡ b → has n id w.cpus ≡ false
    by n false is = is
    by n true is =
        let (k, r, here, named, stands, online) = agrees.known n id is in
        let known = found_shown id k w.records r here named in
        absurd (let no : false ≡ true =
        sym (ap (λ ps. not (is_some (option_map (λ (p : Placed). p.placement) (find (λ (p : Placed). p.id == id) ps)))) h.placed
        ∙ ap not known) ∙ gone in cc)
