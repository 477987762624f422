-- The words of a script, on a machine without its indexes, do the same; so no line tells of an index.
use Rattle.std.proofs.Common.{◌≡◌, ℕ, zero, suc, ◌+◌, ◌-◌, ◌==◌, Bool, true, false, cond, List, [], ◌∷◌, ◌++◌, map, length}
use Rattle.std.proofs.Common.{Option, Some, None, refl, ap, sym, ◌∙◌}
use Rattle.std.specs.Prelude.{nat_lt, is_some, filter, sum_by, replicate}
use Rattle.std.specs.List.{list_any}
use Rattle.std.proofs.lemmas.List.{map-append, map-set}
use Rattle.std.proofs.lemmas.List.Sums.{sum_by-cons}
use Rattle.cyc_types.specs.declared.refusal.Refusal.{Refusal}
use Rattle.cyc_text.specs.Lines.{accepted, fired as fired_line, ran, kept, removed, reported}
use Rattle.cyc_script.specs.declared.step.Step.{Step}
use Rattle.cyc_script.specs.declared.step.Step.TheVariants.{Add, Omni, Bind, Unbind, Reprogram, Remove, Advance, Softint, Juggle}
use Rattle.cyc_script.specs.declared.step.Step.TheVariants.{Offline as OfflineStep, Online, Suspend, Resume}
use Rattle.cyc_script.specs.declared.step.Add.{Add as AddStep}
use Rattle.cyc_script.specs.declared.step.Softint.{Softint as SoftintStep}
use Rattle.cyc_model.specs.Cpu.{CyclicState, Cpu, Here, cyclic_with_id, begun_cpu, nothing_here}
use Rattle.cyc_model.specs.Serving.{serve_here, interrupt_here}
use Rattle.cyc_model.specs.Firing.{due_here, fire_here}
use Rattle.cyc_model.specs.Moving.{enter_here, take_here, widen_here, place_here, mark_here, clear_here, reprogram_here}
use Rattle.cyc_model.specs.Questions.{plain, outstanding_here}
use Rattle.cyc_model.specs.State.{State, Outcome, Placement, On, OnAll, Placed, Everywhere, nothing, told, before, followed_by}
use Rattle.cyc_model.specs.State.{each, done_on, on_number, cpu_of, numbers, cpus_having, cpus_online}
use Rattle.cyc_model.specs.Places.{id_of, is_bound, keep_counts, given, put_at, home_of, forgotten, without_ended, destination_of}
use Rattle.cyc_model.specs.Refusals.{unless, magnitude}
use Rattle.cyc_model.specs.Add.{one_admitted, enter, add_at, added, add}
use Rattle.cyc_model.specs.Omni.{enter_each, everywhere, component}
use Rattle.cyc_model.specs.Bind.{bring, move, move_unless_there, bind_id}
use Rattle.cyc_model.specs.Reprogram.{cpu_meant}
use Rattle.cyc_model.specs.Remove.{clear_if, poll, begin, answered, begun, with_answer, remove_id}
use Rattle.cyc_model.specs.Advance.{due_on, with_fired_line, advance}
use Rattle.cyc_model.specs.Softint.{interrupt, with_ran_line, polled, with_poll, poll_id, poll_all, is_open, text_of_id}
use Rattle.cyc_model.specs.Softint.{leaving_ids}
use Rattle.cyc_model.specs.Juggle.{Turn, IsBound, IsPending, IsRefused, Moves, turn, turn_to, take_turn, Juggled, turn_first}
use Rattle.cyc_model.specs.Juggle.{and_the_rest, juggle_each, juggled, single_ids_of, with_moved_line}
use Rattle.cyc_model.specs.Offline.{retire, retire_all, go_offline, last_part, leaving, after_juggle, ids_of_cpu, any_pending}
use Rattle.cyc_model.specs.Online.{return_here, return_of, return_all, go_online, staying_omni, again}
use Rattle.cyc_model.specs.Report.{expired_here, lost_here, counts_of, reports}
use Rattle.cyc_model.specs.Script.{refusal_of, does, word, steps_from, text_in, no_indexes, start, run_on, with_report, text_on}
use Rattle.cyc_model.proofs.Bare.{bare_act, bare_cpu, bare_here, calls_bare, calls_in_bare, losses_in_bare, fire_bare, idle_bare}
use Rattle.cyc_model.proofs.Bare.{serve_here_bare, widen_bare, place_bare, enter_bare_here, take_bare, mark_bare, clear_bare}
use Rattle.cyc_model.proofs.Bare.{outstanding_bare}
use Rattle.cyc_model.proofs.BareMachine.{bare, bare_out, IsBare, at_bare, online_bare, with_bare, open_bare, all_bare}
use Rattle.cyc_model.proofs.BareMachine.{leaving_bare, cyclic_bare, out_bare, room_bare, target_bare, staying_bare, single_bare}
use Rattle.cyc_model.proofs.BareMachine.{ids_bare, refusal_bare}

-- each index k becomes relabel k
module _ (relabel : ℕ → ℕ) where
  done_bare : (n : ℕ) (d : Here) (s : State) → (bare_out relabel) (done_on n d s)
      ≡ done_on n ((bare_here relabel) d) ((bare relabel) s)
  done_bare n d s = λ z. record {
    line = [];
    acts = map (bare_act relabel) d.acts;
    state = record ((bare relabel) s) {
      cpus = map-set (bare_cpu relabel) s.cpus n d.cpu z;
      called = λ id. s.called id + (sym ((calls_bare relabel) id d.acts)) z;
    };
  }

  on_bare : (n : ℕ) (f g : Cpu → Here) → ((c : Cpu) → (bare_here relabel) (f c) ≡ g ((bare_cpu relabel) c))
      → (IsBare relabel) (on_number n f) (on_number n g)
  on_bare n f g same s =
      done_bare n (f (cpu_of n s)) s
      ∙ ap (λ (d : Here). done_on n d ((bare relabel) s)) (same (cpu_of n s) ∙ ap g (sym ((at_bare relabel) n s)))

  before_bare : (a b : Outcome) → (bare_out relabel) (before a b) ≡ before ((bare_out relabel) a) ((bare_out relabel) b)
  before_bare a b = λ z. record {
    line = a.line ++ b.line;
    acts = map-append (bare_act relabel) a.acts b.acts z;
    state =
        (bare relabel) b.state;
  }

  then_out : (o : Outcome) (f g : State → Outcome) → (IsBare relabel) f g
      → (bare_out relabel) (followed_by o f) ≡ followed_by ((bare_out relabel) o) g
  then_out o f g next = before_bare o (f o.state) ∙ ap (before ((bare_out relabel) o)) (next o.state)

  then_same : (o p : Outcome) (f g : State → Outcome) → (bare_out relabel) o ≡ p → (IsBare relabel) f g
      → (bare_out relabel) (followed_by o f) ≡ followed_by p g
  then_same o p f g first next = then_out o f g next ∙ ap (λ (x : Outcome). followed_by x g) first

  each_bare : {A : Type 0} → (f g : A → State → Outcome) → ((x : A) → (IsBare relabel) (f x) (g x)) → (xs : List A)
      → (IsBare relabel) (each f xs) (each g xs)
  each_bare f g one [] s = refl
  each_bare f g one (x ∷ xs) s = then_same (f x s) (g x ((bare relabel) s)) (each f xs) (each g xs) (one x s)
      (each_bare f g one xs)

  module _ (indexes : ℕ → ℕ) where
    enter_bare : (n : ℕ) (x : CyclicState) → (IsBare relabel) (enter indexes n x) (enter (λ k. relabel (indexes k)) n x)
    enter_bare n x s =
        ap one_admitted (on_bare n (enter_here n (indexes s.admissions) x) (enter_here n (relabel (indexes s.admissions)) x)
        ((enter_bare_here relabel) n (indexes s.admissions) x) s)

    add_bare : (step : ℕ) (a : AddStep) → (IsBare relabel) (add indexes step a) (add (λ k. relabel (indexes k)) step a)
    add_bare step a s =
        ap (told (accepted step)) (enter_bare (destination_of None s) (added a s) (given a.name (On (destination_of None s)
        false) s))
        ∙ ap (λ n. add_at (λ k. relabel (indexes k)) step n a ((bare relabel) s)) (sym ((target_bare relabel) None s))

    enter_each_bare : (id : ℕ) (e : Everywhere) → (IsBare relabel) (enter_each indexes id e)
        (enter_each (λ k. relabel (indexes k)) id e)
    enter_each_bare id e s =
        each_bare (λ n t. enter indexes n (component id n e t.clock) t)
        (λ n t. enter (λ k. relabel (indexes k)) n (component id n e t.clock) t)
        (λ n t. enter_bare n (component id n e t.clock) t) (cpus_online s) s
        ∙ ap (λ ns. each (λ n t. enter (λ k. relabel (indexes k)) n (component id n e t.clock) t) ns ((bare relabel) s))
        (sym ((online_bare relabel) s))

    bring_bare : (n : ℕ) (x : Option CyclicState) → (IsBare relabel) (bring indexes n x) (bring (λ k. relabel (indexes k)) n x)
    bring_bare n None s = refl
    bring_bare n (Some x) s = enter_bare n x s

    move_bare : (id source target : ℕ) → (IsBare relabel) (move indexes id source target)
        (move (λ k. relabel (indexes k)) id source target)
    move_bare id source target s =
        then_same (on_number source (take_here source id) s) (on_number source (take_here source id) ((bare relabel) s))
        (λ t. bring indexes target (cyclic_with_id id (cpu_of source s)) (put_at id (On target (is_bound id t)) t))
        (λ t. bring (λ k. relabel (indexes k)) target (cyclic_with_id id (cpu_of source s)) (put_at id (On target (is_bound id
        t)) t))
        (on_bare source (take_here source id) (take_here source id) ((take_bare relabel) source id) s)
        (λ t. bring_bare target (cyclic_with_id id (cpu_of source s)) (put_at id (On target (is_bound id t)) t))
        ∙ ap (λ (x : Option CyclicState). followed_by (on_number source (take_here source id) ((bare relabel) s))
        (λ t. bring (λ k. relabel (indexes k)) target x (put_at id (On target (is_bound id t)) t)))
        (sym ((cyclic_bare relabel) id source s))

    move_unless_bare : (there : Bool) (id n : ℕ)
        → (IsBare relabel) (move_unless_there there indexes id n) (move_unless_there there (λ k. relabel (indexes k)) id n)
    move_unless_bare true id n s = refl
    move_unless_bare false id n s = move_bare id (home_of id s) n s

    bind_bare : (id n : ℕ) → (IsBare relabel) (bind_id indexes id n) (bind_id (λ k. relabel (indexes k)) id n)
    bind_bare id n s =
        then_same (move_unless_there (home_of id s == n) indexes id n s)
        (move_unless_there (home_of id s == n) (λ k. relabel (indexes k)) id n ((bare relabel) s))
        (λ t. nothing (put_at id (On n true) t)) (λ t. nothing (put_at id (On n true) t))
        (move_unless_bare (home_of id s == n) id n s) (λ t. refl)

  keep_bare : (n : ℕ) (x : Option CyclicState) (s : State) → (bare relabel) (keep_counts n x s) ≡ keep_counts n x ((bare
      relabel) s)
  keep_bare n None s = refl
  keep_bare n (Some x) s = refl

  leaves_bare : (f : ℕ → Cpu → Here) → ((n : ℕ) (c : Cpu) → (bare_here relabel) (f n c) ≡ f n ((bare_cpu relabel) c)) → (id n : ℕ)
      → (IsBare relabel) (λ s. on_number n (f n) (keep_counts n (cyclic_with_id id (cpu_of n s)) s))
      (λ s. on_number n (f n) (keep_counts n (cyclic_with_id id (cpu_of n s)) s))
  leaves_bare f same id n s =
      on_bare n (f n) (f n) (same n) (keep_counts n (cyclic_with_id id (cpu_of n s)) s)
      ∙ ap (on_number n (f n)) (keep_bare n (cyclic_with_id id (cpu_of n s)) s
      ∙ ap (λ (x : Option CyclicState). keep_counts n x ((bare relabel) s)) (sym ((cyclic_bare relabel) id n s)))

  clear_if_bare : (b : Bool) (id n : ℕ) → (IsBare relabel) (clear_if b id n) (clear_if b id n)
  clear_if_bare true id n s = leaves_bare (λ m. clear_here m id) (λ m. (clear_bare relabel) m id) id n s
  clear_if_bare false id n s = refl

  poll_bare : (id n : ℕ) → (IsBare relabel) (poll plain id n) (poll plain id n)
  poll_bare id n s =
      clear_if_bare (outstanding_here id (cpu_of n s) == 0) id n s
      ∙ ap (λ k. clear_if (k == 0) id n ((bare relabel) s)) (sym ((out_bare relabel) n id s))

  begin_bare : (id n : ℕ) → (IsBare relabel) (begin plain id n) (begin plain id n)
  begin_bare id n s =
      then_same (on_number n (mark_here n id) s) (on_number n (mark_here n id) ((bare relabel) s)) (poll plain id n) (poll
      plain id n)
      (on_bare n (mark_here n id) (mark_here n id) ((mark_bare relabel) n id) s) (poll_bare id n)

  answered_bare : (step : ℕ) (text : List ℕ) (id : ℕ) (o : Outcome) → (bare_out relabel) (answered step text id o)
      ≡ answered step text id ((bare_out relabel) o)
  answered_bare step text id o = λ z. record {
    line = ap (λ ns. removed step text (sum_by (λ n. (o.state.ended id n).expired) ns - sum_by (λ n. (o.state.ended id n).lost)
        ns))
        (sym ((all_bare relabel) o.state)) z;
    acts = map (bare_act relabel) o.acts;
    state = forgotten id ((bare relabel) o.state);
  }

  begun_bare : (step : ℕ) (text : List ℕ) (id : ℕ) (ns : List ℕ) (o : Outcome)
      → (bare_out relabel) (begun plain step text id ns o) ≡ begun plain step text id ns ((bare_out relabel) o)
  begun_bare step text id [] o = answered_bare step text id o
  begun_bare step text id (n ∷ ns) o = λ z. record {
    line = kept step (sum_by (λ m. (sym ((out_bare relabel) m id o.state)) z) (n ∷ ns));
    acts = map (bare_act relabel) o.acts;
    state = (bare relabel) o.state;
  }

  with_answer_bare : (step : ℕ) (text : List ℕ) (id : ℕ) (o : Outcome)
      → (bare_out relabel) (with_answer plain step text id o) ≡ with_answer plain step text id ((bare_out relabel) o)
  with_answer_bare step text id o =
      begun_bare step text id (cpus_having id o.state) o
      ∙ ap (λ ns. begun plain step text id ns ((bare_out relabel) o)) (sym ((with_bare relabel) id o.state))

  remove_bare : (step : ℕ) (text : List ℕ) (id : ℕ) → (IsBare relabel) (remove_id plain step text id)
      (remove_id plain step text id)
  remove_bare step text id s =
      with_answer_bare step text id (each (begin plain id) (cpus_having id s) s)
      ∙ ap (with_answer plain step text id) (each_bare (begin plain id) (begin plain id) (begin_bare id) (cpus_having id s) s
      ∙ ap (λ ns. each (begin plain id) ns ((bare relabel) s)) (sym ((with_bare relabel) id s)))

  polled_bare : (step : ℕ) (text : List ℕ) (id : ℕ) (ns : List ℕ) (o : Outcome)
      → (bare_out relabel) (polled step text id ns o) ≡ polled step text id ns ((bare_out relabel) o)
  polled_bare step text id [] o = answered_bare step text id o
  polled_bare step text id (n ∷ ns) o = refl

  with_poll_bare : (step : ℕ) (text : List ℕ) (id : ℕ) (o : Outcome) → (bare_out relabel) (with_poll step text id o)
      ≡ with_poll step text id ((bare_out relabel) o)
  with_poll_bare step text id o =
      polled_bare step text id (cpus_having id o.state) o
      ∙ ap (λ ns. polled step text id ns ((bare_out relabel) o)) (sym ((with_bare relabel) id o.state))

  poll_id_bare : (texts : List (List ℕ)) (step id : ℕ) → (IsBare relabel) (poll_id plain texts step id)
      (poll_id plain texts step id)
  poll_id_bare texts step id s =
      with_poll_bare step (text_of_id id texts s.names) id (each (poll plain id) (numbers (is_open id) s) s)
      ∙ ap (with_poll step (text_of_id id texts s.names) id)
      (each_bare (poll plain id) (poll plain id) (poll_bare id) (numbers (is_open id) s) s
      ∙ ap (λ ns. each (poll plain id) ns ((bare relabel) s)) (sym ((open_bare relabel) id s)))

  poll_all_bare : (texts : List (List ℕ)) (step : ℕ) → (IsBare relabel) (poll_all plain texts step) (poll_all plain texts step)
  poll_all_bare texts step s =
      each_bare (poll_id plain texts step) (poll_id plain texts step) (poll_id_bare texts step) (leaving_ids s) s
      ∙ ap (λ (f : ℕ → Bool). each (poll_id plain texts step) (filter f (map (λ (p : Placed). p.id) s.placed)) ((bare relabel) s))
      (λ z id. (sym ((leaving_bare relabel) id s)) z)

  interrupt_out : (step : ℕ) (i : SoftintStep) → (IsBare relabel) (interrupt step i) (interrupt step i)
  interrupt_out step i s =
      (λ z. record {
        line = ran step ((sym ((calls_in_bare relabel) (serve_here i.cpu i.level i.budget (cpu_of i.cpu s)).acts)) z)
            (((idle_bare relabel) i.cpu i.level i.budget (cpu_of i.cpu s)
            ∙ ap (λ (c : Cpu). (interrupt_here i.cpu i.level i.budget c).idle) (sym ((at_bare relabel) i.cpu s))) z);
        acts = map (bare_act relabel) (serve_here i.cpu i.level i.budget (cpu_of i.cpu s)).acts;
        state = (bare relabel) (on_number i.cpu (serve_here i.cpu i.level i.budget) s).state;
      })
      ∙ ap (with_ran_line step (interrupt_here i.cpu i.level i.budget (cpu_of i.cpu ((bare relabel) s))).idle)
      (on_bare i.cpu (serve_here i.cpu i.level i.budget) (serve_here i.cpu i.level i.budget)
      ((serve_here_bare relabel) i.cpu i.level i.budget) s)

  due_bare : (now : ℕ) (ns : List ℕ) (s : State) → due_on now ns ((bare relabel) s) ≡ due_on now ns s
  due_bare now ns s = λ z. sum_by (λ n. ap (λ (c : Cpu). length (due_here now c)) ((at_bare relabel) n s) z) ns

  advance_bare : (step now : ℕ) → (IsBare relabel) (advance step now) (advance step now)
  advance_bare step now s =
      (λ z. record {
        line = fired_line step ((sym (due_bare now (cpus_online s) s)) z)
            ((sym ((losses_in_bare relabel) (each (λ n. on_number n (fire_here n now)) (cpus_online s) t).acts)) z);
        acts = map (bare_act relabel) (each (λ n. on_number n (fire_here n now)) (cpus_online s) t).acts;
        state = (bare relabel) (each (λ n. on_number n (fire_here n now)) (cpus_online s) t).state;
      })
      ∙ ap (with_fired_line step (due_on now (cpus_online s) ((bare relabel) s)))
      (each_bare (λ n. on_number n (fire_here n now)) (λ n. on_number n (fire_here n now))
      (λ n. on_bare n (fire_here n now) (fire_here n now) ((fire_bare relabel) n now)) (cpus_online s) t)
      ∙ ap (λ ns. with_fired_line step (due_on now ns ((bare relabel) s))
      (each (λ n. on_number n (fire_here n now)) ns ((bare relabel) t)))
      (sym ((online_bare relabel) s))
    where
      t : State
      t = record s { clock = now }

  -- ---- moves from a CPU

  turn_bare : (source id : ℕ) (s : State) → turn plain source id ((bare relabel) s) ≡ turn plain source id s
  turn_bare source id s = λ z. cond (is_bound id s) IsBound
      (cond (nat_lt 0 ((out_bare relabel) source id s z)) IsPending (to_bare z))
    where
      to_bare : turn_to plain id (destination_of (Some source) ((bare relabel) s)) ((bare relabel) s)
          ≡ turn_to plain id (destination_of (Some source) s) s
      to_bare =
          (λ z. cond (is_some ((room_bare relabel) (destination_of (Some source) ((bare relabel) s)) id 1 s z)) IsRefused
          (Moves (destination_of (Some source) ((bare relabel) s))))
          ∙ ap (λ n. turn_to plain id n s) ((target_bare relabel) (Some source) s)

  abbrev bare_juggled : Juggled → Juggled
  bare_juggled j = record { report = j.report; outcome = (bare_out relabel) j.outcome }

  module _ (indexes : ℕ → ℕ) where
    take_turn_bare : (source id : ℕ) (t : Turn) → (IsBare relabel) (take_turn indexes source id t)
        (take_turn (λ k. relabel (indexes k)) source id t)
    take_turn_bare source id IsBound s = refl
    take_turn_bare source id IsPending s = refl
    take_turn_bare source id IsRefused s = refl
    take_turn_bare source id (Moves target) s = move_bare indexes id source target s

    turns_bare : (source : ℕ) (ids : List ℕ) (s : State)
        → bare_juggled (juggle_each plain indexes source ids s)
        ≡ juggle_each plain (λ k. relabel (indexes k)) source ids ((bare relabel) s)
    turns_bare source [] s = refl
    turns_bare source (id ∷ ids) s =
        let t = turn plain source id s in
        let o = take_turn indexes source id t s in
        (λ z. record {
          report = (turn_first t o (juggle_each plain indexes source ids o.state)).report;
          outcome = before_bare o (juggle_each plain indexes source ids o.state).outcome z;
        })
        ∙ ap (turn_first t ((bare_out relabel) o)) (turns_bare source ids o.state)
        ∙ ap (λ (p : Outcome). and_the_rest t p (juggle_each plain (λ k. relabel (indexes k)) source ids))
        (take_turn_bare source id t s)
        ∙ ap (λ (u : Turn). and_the_rest u (take_turn (λ k. relabel (indexes k)) source id u ((bare relabel) s))
        (juggle_each plain (λ k. relabel (indexes k)) source ids))
        (sym (turn_bare source id s))

    juggled_bare : (n : ℕ) (s : State) → bare_juggled (juggled plain indexes n s)
        ≡ juggled plain (λ k. relabel (indexes k)) n ((bare relabel) s)
    juggled_bare n s =
        turns_bare n (single_ids_of n s) s ∙ ap (λ ids. juggle_each plain (λ k. relabel (indexes k)) n ids ((bare relabel) s))
        (sym ((single_bare relabel) n s))

  retire_all_bare : (n : ℕ) → (IsBare relabel) (retire_all n) (retire_all n)
  retire_all_bare n s =
      then_same (each (retire n) (ids_of_cpu n s) s) (each (retire n) (ids_of_cpu n ((bare relabel) s)) ((bare relabel) s))
      (on_number n (λ c. nothing_here (go_offline c))) (on_number n (λ c. nothing_here (go_offline c)))
      (each_bare (retire n) (retire n) (λ id. leaves_bare (λ m. take_here m id) (λ m. (take_bare relabel) m id) id n)
      (ids_of_cpu n s) s
      ∙ ap (λ ids. each (retire n) ids ((bare relabel) s)) (sym ((ids_bare relabel) n s)))
      (on_bare n (λ c. nothing_here (go_offline c)) (λ c. nothing_here (go_offline c)) (λ c. refl))

  last_bare_part : (b : Bool) (step n : ℕ) (o : Outcome) → (bare_out relabel) (last_part b step n o)
      ≡ last_part b step n ((bare_out relabel) o)
  last_bare_part true step n o = refl
  last_bare_part false step n o = ap (told (accepted step)) (then_out o (retire_all n) (retire_all n) (retire_all_bare n))

  any_pending_bare : (n : ℕ) (ids : List ℕ) (s : State) → any_pending plain n ids ((bare relabel) s) ≡ any_pending plain n ids s
  any_pending_bare n ids s = λ z. list_any (λ id. nat_lt 0 ((out_bare relabel) n id s z)) ids

  leaving_out : (step n : ℕ) (ids : List ℕ) (j : Juggled) → (bare_out relabel) (leaving plain step n ids j)
      ≡ leaving plain step n ids (bare_juggled j)
  leaving_out step n (id ∷ ids) j = refl
  leaving_out step n [] j =
      last_bare_part (any_pending plain n (ids_of_cpu n j.outcome.state) j.outcome.state) step n j.outcome
      ∙ ap (λ b. last_part b step n ((bare_out relabel) j.outcome))
      (sym (any_pending_bare n (ids_of_cpu n j.outcome.state) j.outcome.state))
      ∙ ap (λ ids. last_part (any_pending plain n ids ((bare relabel) j.outcome.state)) step n ((bare_out relabel) j.outcome))
      (sym ((ids_bare relabel) n j.outcome.state))

  after_juggle_bare : (step n : ℕ) (j : Juggled) → (bare_out relabel) (after_juggle plain step n j)
      ≡ after_juggle plain step n (bare_juggled j)
  after_juggle_bare step n j =
      leaving_out step n (single_ids_of n j.outcome.state) j
      ∙ ap (λ ids. leaving plain step n ids (bare_juggled j)) (sym ((single_bare relabel) n j.outcome.state))

  meant_bare : (n : Option ℕ) (id : ℕ) (s : State) → cpu_meant n id s ≡ cpu_meant n id ((bare relabel) s)
  meant_bare None id s = refl
  meant_bare (Some n) id s = refl

  module _ (indexes : ℕ → ℕ) where
    return_bare : (n id : ℕ) (p : Placement) → (IsBare relabel) (return_here indexes n id p)
        (return_here (λ k. relabel (indexes k)) n id p)
    return_bare n id (On m bound) s = refl
    return_bare n id (OnAll e) s =
        ap one_admitted (on_bare n (place_here n (indexes s.admissions) (again id n e (s.ended id n) s.clock))
        (place_here n (relabel (indexes s.admissions)) (again id n e (s.ended id n) s.clock))
        ((place_bare relabel) n (indexes s.admissions) (again id n e (s.ended id n) s.clock)) (without_ended n id s))

    return_all_bare : (n : ℕ) (ps : List Placed) → (IsBare relabel) (return_all indexes n ps)
        (return_all (λ k. relabel (indexes k)) n ps)
    return_all_bare n ps s =
        then_same (on_number n (widen_here n (length ps)) s) (on_number n (widen_here n (length ps)) ((bare relabel) s))
        (λ t. followed_by (each (return_of indexes n) ps t) (on_number n (λ c. nothing_here (go_online c))))
        (λ t. followed_by (each (return_of (λ k. relabel (indexes k)) n) ps t) (on_number n (λ c. nothing_here (go_online c))))
        (on_bare n (widen_here n (length ps)) (widen_here n (length ps)) ((widen_bare relabel) n (length ps)) s)
        (λ t. then_same (each (return_of indexes n) ps t) (each (return_of (λ k. relabel (indexes k)) n) ps ((bare relabel) t))
        (on_number n (λ c. nothing_here (go_online c))) (on_number n (λ c. nothing_here (go_online c)))
        (each_bare (return_of indexes n) (return_of (λ k. relabel (indexes k)) n) (λ p. return_bare n p.id p.placement) ps t)
        (on_bare n (λ c. nothing_here (go_online c)) (λ c. nothing_here (go_online c)) (λ c. refl)))

    -- ---- all words

    does_bare : (texts : List (List ℕ)) (step : ℕ) (x : Step)
        → (IsBare relabel) (does plain texts indexes step x) (does plain texts (λ k. relabel (indexes k)) step x)
    does_bare texts step (Add a) s = add_bare indexes step a s
    does_bare texts step (Omni a) s =
        ap (told (accepted step)) (enter_each_bare indexes (s.last_id + 1) (everywhere a) (given a.name (OnAll (everywhere a)) s))
    does_bare texts step (Bind b) s = ap (told (accepted step)) (bind_bare indexes (id_of b.name s) b.cpu s)
    does_bare texts step (Unbind name) s = refl
    does_bare texts step (Reprogram r) s =
        ap (told (accepted step))
        (on_bare (cpu_meant r.cpu (id_of r.name s) s) (reprogram_here (id_of r.name s) (magnitude r.moment))
        (reprogram_here (id_of r.name s) (magnitude r.moment)) (λ c. refl) s
        ∙ ap (λ n. on_number n (reprogram_here (id_of r.name s) (magnitude r.moment)) ((bare relabel) s))
        (meant_bare r.cpu (id_of r.name s) s))
    does_bare texts step (Remove name) s = remove_bare step (text_in texts name) (id_of name s) s
    does_bare texts step (Advance now) s = advance_bare step now s
    does_bare texts step (Softint i) s =
        then_same (interrupt step i s) (interrupt step i ((bare relabel) s)) (poll_all plain texts step)
        (poll_all plain texts step)
        (interrupt_out step i s) (poll_all_bare texts step)
    does_bare texts step (Juggle n) s = ap (with_moved_line step) (juggled_bare indexes n s)
    does_bare texts step (OfflineStep n) s = after_juggle_bare step n (juggled plain indexes n s)
        ∙ ap (after_juggle plain step n) (juggled_bare indexes n s)
    does_bare texts step (Online n) s =
        ap (told (accepted step)) (return_all_bare n (staying_omni s) s
        ∙ ap (λ (ps : List Placed). return_all (λ k. relabel (indexes k)) n ps ((bare relabel) s))
        (sym ((staying_bare relabel) s)))
    does_bare texts step Suspend s = refl
    does_bare texts step Resume s = refl

    unless_bare : (why : Option Refusal) (step : ℕ) (x : Step) (f g : State → Outcome) → (IsBare relabel) f g
        → (IsBare relabel) (unless why step x f) (unless why step x g)
    unless_bare (Some why) step x f g same s = refl
    unless_bare None step x f g same s = same s

    word_bare : (texts : List (List ℕ)) (step : ℕ) (x : Step)
        → (IsBare relabel) (word plain texts indexes step x) (word plain texts (λ k. relabel (indexes k)) step x)
    word_bare texts step x s =
        unless_bare (refusal_of plain x s) step x (does plain texts indexes step x)
        (does plain texts (λ k. relabel (indexes k)) step x)
        (does_bare texts step x) s
        ∙ ap (λ (why : Option Refusal). unless why step x (does plain texts (λ k. relabel (indexes k)) step x) ((bare relabel) s))
        (sym ((refusal_bare relabel) x s))

    pub steps_bare : (texts : List (List ℕ)) (step : ℕ) (xs : List Step)
        → (IsBare relabel) (steps_from plain texts indexes step xs) (steps_from plain texts (λ k. relabel (indexes k)) step xs)
    steps_bare texts step [] s = refl
    steps_bare texts step (x ∷ xs) s =
        then_same (word plain texts indexes step x s) (word plain texts (λ k. relabel (indexes k)) step x ((bare relabel) s))
        (steps_from plain texts indexes (step + 1) xs) (steps_from plain texts (λ k. relabel (indexes k)) (step + 1) xs)
        (word_bare texts step x s) (steps_bare texts (step + 1) xs)

  -- ---- the report

  sum_bare : (f : Cpu → ℕ) → ((c : Cpu) → f ((bare_cpu relabel) c) ≡ f c) → (cs : List Cpu)
      → sum_by f (map (bare_cpu relabel) cs) ≡ sum_by f cs
  sum_bare f same [] = refl
  sum_bare f same (c ∷ cs) =
      sum_by-cons f ((bare_cpu relabel) c) (map (bare_cpu relabel) cs) ∙ (λ z. same c z + sum_bare f same cs z)
      ∙ sym (sum_by-cons f c cs)

  counts_bare : (id : ℕ) (s : State) → counts_of id ((bare relabel) s) ≡ counts_of id s
  counts_bare id s = λ z. record {
    expired = ap (sum_by (λ n. (s.ended id n).expired)) ((all_bare relabel) s) z
        + sum_bare (expired_here id) (λ c. refl) s.cpus z;
    called = s.called id;
    lost = ap (sum_by (λ n. (s.ended id n).lost)) ((all_bare relabel) s) z + sum_bare (lost_here id) (λ c. refl) s.cpus z;
    pending = sum_bare (outstanding_here id) ((outstanding_bare relabel) id) s.cpus z;
  }

  reports_bare : (name : ℕ) (texts : List (List ℕ)) (s : State) → reports name texts ((bare relabel) s) ≡ reports name texts s
  reports_bare name [] s = refl
  reports_bare name (text ∷ texts) s = λ z. reported text (counts_bare (id_of name s) s z) ++ reports_bare (name + 1) texts s z

  replicate_bare : (n ceiling : ℕ) → map (bare_cpu relabel) (replicate n (begun_cpu ceiling)) ≡ replicate n (begun_cpu ceiling)
  replicate_bare zero ceiling = refl
  replicate_bare (suc n) ceiling = ap (λ cs. begun_cpu ceiling ∷ cs) (replicate_bare n ceiling)

  start_bare : (cpus ceiling names : ℕ) → (bare relabel) (start cpus ceiling names) ≡ start cpus ceiling names
  start_bare cpus ceiling names = λ z. record (start cpus ceiling names) { cpus = replicate_bare cpus ceiling z }

-- the acts of steps, with other indexes
pub acts_relabeled : (relabel indexes : ℕ → ℕ) (cpus ceiling : ℕ) (texts : List (List ℕ)) (xs : List Step)
    → (run_on (λ k. relabel (indexes k)) cpus ceiling texts xs).acts
    ≡ map (bare_act relabel) (run_on indexes cpus ceiling texts xs).acts
acts_relabeled relabel indexes cpus ceiling texts xs =
    let s = start cpus ceiling (length texts) in
    sym (ap (λ (o : Outcome). o.acts) (steps_bare relabel indexes texts 1 xs s
    ∙ ap (steps_from plain texts (λ k. relabel (indexes k)) 1 xs) (start_bare relabel cpus ceiling (length texts))))

-- the text of steps is the one where every index is 0
pub text_bare : (indexes : ℕ → ℕ) (cpus ceiling : ℕ) (texts : List (List ℕ)) (xs : List Step)
    → text_on indexes cpus ceiling texts xs ≡ text_on no_indexes cpus ceiling texts xs
text_bare indexes cpus ceiling texts xs =
    let s = start cpus ceiling (length texts) in
    let o = steps_from plain texts indexes 1 xs s in
    ap (λ ys. o.line ++ ys) (sym (reports_bare (λ k. 0) 0 texts o.state))
    ∙ ap (with_report texts) (steps_bare (λ k. 0) indexes texts 1 xs s
    ∙ ap (steps_from plain texts no_indexes 1 xs) (start_bare (λ k. 0) cpus ceiling (length texts)))
