-- What holds of the acts of each call holds of the acts of each word.
use Rattle.std.proofs.Common.{ℕ, ◌+◌, ◌==◌, Bool, true, false, cond, List, [], ◌∷◌, ◌++◌, length, Option, Some, None}
use Rattle.std.specs.Prelude.{⊤}
use Rattle.cyc_types.specs.declared.level.Level.{Level}
use Rattle.cyc_types.specs.declared.level.Soft.{Soft}
use Rattle.cyc_level.specs.Level.{SoftLevel}
use Rattle.cyc_types.specs.declared.level.Level.TheVariants as level
use Rattle.cyc_level.specs.declared.Event.{Event}
use Rattle.cyc_level.specs.declared.Event.TheVariants.{Admit, Expire, Lose, Mark, Clear}
use Rattle.cyc_script.specs.declared.step.Step.{Step}
use Rattle.cyc_script.specs.declared.step.Step.TheVariants.{Add, Omni, Bind, Unbind, Reprogram, Remove, Advance, Softint, Juggle}
use Rattle.cyc_script.specs.declared.step.Step.TheVariants.{Offline, Online, Suspend, Resume}
use Rattle.cyc_model.specs.Acts.{Act, At, Call, at_own}
use Rattle.cyc_model.specs.Cpu.{CyclicState, Cpu, Here, happen, handler_level_of, nothing_here, cyclic_with_id}
use Rattle.cyc_model.specs.Serving.{level_at, serve}
use Rattle.cyc_model.specs.Moving.{must_grow, bank_for, switch_here, widen_here, take_here, mark_here, clear_here}
use Rattle.cyc_model.specs.Questions.{Questions}
use Rattle.cyc_model.specs.State.{State, Outcome, Placement, On, OnAll, Placed, on_number, cpu_of, each, nothing, followed_by}
use Rattle.cyc_model.specs.State.{cpus_online, cpus_having, numbers}
use Rattle.cyc_model.specs.Places.{id_of, given, put_at, keep_counts, is_bound, home_of, destination_of}
use Rattle.cyc_model.specs.Add.{enter, added}
use Rattle.cyc_model.specs.Omni.{component, everywhere}
use Rattle.cyc_model.specs.Bind.{bring, move, move_unless_there, bind_id}
use Rattle.cyc_model.specs.Remove.{clear_if, poll, begin, begun}
use Rattle.cyc_model.specs.Softint.{interrupt, is_open, text_of_id, polled, poll_id, leaving_ids}
use Rattle.cyc_model.specs.Juggle.{Turn, IsBound, IsPending, IsRefused, Moves, turn, take_turn, Juggled, juggle_each, juggled}
use Rattle.cyc_model.specs.Juggle.{single_ids_of}
use Rattle.cyc_model.specs.Offline.{ids_of_cpu, retire, go_offline, retire_all, any_pending, last_part, leaving}
use Rattle.cyc_model.specs.Online.{return_here, return_of, go_online, staying_omni}
use Rattle.cyc_model.specs.Script.{does, text_in}
use Rattle.cyc_model.proofs.Agreement.{AllActs, acts_of_serve}

-- an event that neither begins a stay nor is an expiration
abbrev pub IsIdle : Event → Type 0
IsIdle (Admit id index) = ⊥
IsIdle (Expire id) = ⊥
IsIdle (Lose id) = ⊥
IsIdle _ = ⊤

-- the step isn't an advance
abbrev pub IsNoFire : Step → Type 0
IsNoFire (Advance now) = ⊥
IsNoFire _ = ⊤

-- each act is an event of which this holds
abbrev pub AllEvents : (Event → Type 0) → List Act → Type 0
AllEvents Q [] = ⊤
AllEvents Q (At n soft e ∷ acts) = Q e × AllEvents Q acts
AllEvents Q (Call id ∷ acts) = ⊥

events_only : (Q : Event → Type 0) (acts : List Act) → AllEvents Q acts → AllActs Q acts
events_only Q [] h = tt
events_only Q (At n soft e ∷ acts) h = (h.0, events_only Q acts h.1)
events_only Q (Call id ∷ acts) h = absurd h

idle_own : (n : ℕ) (k : Level) (e : Event) → IsIdle e → AllEvents IsIdle (at_own n k e)
idle_own n level.High e is = tt
idle_own n level.Lock e is = (is, tt)
idle_own n level.Low e is = (is, tt)

-- P holds of acts between so many admissions before and after them
module _ (indexes : ℕ → ℕ) (P : List Act → ℕ → ℕ → Type 0) (calm : (acts : List Act) (a : ℕ) → AllEvents IsIdle acts → P acts a a)
    (serves : (n : ℕ) (soft : Soft) (budget : ℕ) (l : SoftLevel) (a : ℕ) → P (serve n soft budget l).acts a a)
    (app : (xs ys : List Act) (a b c : ℕ) → P xs a b → P ys b c → P (xs ++ ys) a c)
    (admit : (n id a : ℕ) (k : Level) → P (at_own n k (Admit id (indexes a))) a (a + 1)) where
  abbrev Shaped : (State → Outcome) → Type 0
  Shaped f = (s : State) → P (f s).acts s.admissions (f s).state.admissions

  none : (a : ℕ) → P [] a a
  none a = calm [] a tt

  shaped_then : (o : Outcome) (f : State → Outcome) (s : State) → P o.acts s.admissions o.state.admissions → Shaped f
      → P (followed_by o f).acts s.admissions (followed_by o f).state.admissions
  shaped_then o f s one next =
      app o.acts (f o.state).acts s.admissions o.state.admissions (f o.state).state.admissions one (next o.state)

  shaped_each : {A : Type 0} → (f : A → State → Outcome) → ((x : A) → Shaped (f x)) → (xs : List A) → Shaped (each f xs)
  shaped_each f one [] s = none s.admissions
  shaped_each f one (x ∷ xs) s = shaped_then (f x s) (each f xs) s (one x s) (shaped_each f one xs)

  widened : (n more : ℕ) (c : Cpu) (a : ℕ) → P (widen_here n more c).acts a a
  widened n more c a = by (must_grow more c)
    where
      by : (b : Bool) → P (cond b (switch_here n (bank_for (length c.cyclics + more)) c) (nothing_here c)).acts a a
      by true = calm (switch_here n (bank_for (length c.cyclics + more)) c).acts a (tt, (tt, tt))
      by false = none a

  shaped_enter : (n : ℕ) (x : CyclicState) → Shaped (enter indexes n x)
  shaped_enter n x s = app (widen_here n 1 (cpu_of n s)).acts (at_own n x.timer.level (Admit x.timer.id (indexes s.admissions)))
      s.admissions s.admissions (s.admissions + 1) (widened n 1 (cpu_of n s) s.admissions)
      (admit n x.timer.id s.admissions x.timer.level)

  taken : (n id : ℕ) (c : Cpu) (a : ℕ) → P (take_here n id c).acts a a
  taken n id c a = app (at_own n (handler_level_of id c) (Mark id)) _ a a a
      (calm (at_own n (handler_level_of id c) (Mark id)) a (idle_own n (handler_level_of id c) (Mark id) tt))
      (calm _ a (idle_own n (handler_level_of id (happen (at_own n (handler_level_of id c) (Mark id)) c)) (Clear id) tt))

  shaped_bring : (n : ℕ) (o : Option CyclicState) → Shaped (bring indexes n o)
  shaped_bring n None s = none s.admissions
  shaped_bring n (Some x) s = shaped_enter n x s

  shaped_move : (id source target : ℕ) → Shaped (move indexes id source target)
  shaped_move id source target s = shaped_then (on_number source (take_here source id) s)
      (λ t. bring indexes target (cyclic_with_id id (cpu_of source s)) (put_at id (On target (is_bound id t)) t)) s
      (taken source id (cpu_of source s) s.admissions)
      (λ t. shaped_bring target (cyclic_with_id id (cpu_of source s)) (put_at id (On target (is_bound id t)) t))

  shaped_unless : (there : Bool) (id n : ℕ) → Shaped (move_unless_there there indexes id n)
  shaped_unless true id n s = none s.admissions
  shaped_unless false id n s = shaped_move id (home_of id s) n s

  shaped_bind : (id n : ℕ) → Shaped (bind_id indexes id n)
  shaped_bind id n s = shaped_then (move_unless_there (home_of id s == n) indexes id n s)
      (λ t. nothing (put_at id (On n true) t)) s
      (shaped_unless (home_of id s == n) id n s) (λ t. none t.admissions)

  -- a stay ends
  shaped_ended : (n : ℕ) (f : Cpu → Here) → ((c : Cpu) (a : ℕ) → P (f c).acts a a) → (o : Option CyclicState) (s : State)
      → P (on_number n f (keep_counts n o s)).acts s.admissions (on_number n f (keep_counts n o s)).state.admissions
  shaped_ended n f own None s = own (cpu_of n s) s.admissions
  shaped_ended n f own (Some x) s = own (cpu_of n s) s.admissions

  cleared : (n id : ℕ) (c : Cpu) (a : ℕ) → P (clear_here n id c).acts a a
  cleared n id c a = calm (at_own n (handler_level_of id c) (Clear id)) a (idle_own n (handler_level_of id c) (Clear id) tt)

  shaped_poll : (q : Questions) (id n : ℕ) → Shaped (poll q id n)
  shaped_poll q id n s = by (q.outstanding n id (cpu_of n s) == 0)
    where
      by : (b : Bool) → P (clear_if b id n s).acts s.admissions (clear_if b id n s).state.admissions
      by true = shaped_ended n (clear_here n id) (cleared n id) (cyclic_with_id id (cpu_of n s)) s
      by false = none s.admissions

  shaped_begin : (q : Questions) (id n : ℕ) → Shaped (begin q id n)
  shaped_begin q id n s = shaped_then (on_number n (mark_here n id) s) (poll q id n) s
      (calm (at_own n (handler_level_of id (cpu_of n s)) (Mark id)) s.admissions
      (idle_own n (handler_level_of id (cpu_of n s)) (Mark id) tt))
      (shaped_poll q id n)

  shaped_begun : (q : Questions) (step : ℕ) (text : List ℕ) (id : ℕ) (ns : List ℕ) (o : Outcome) (a : ℕ)
      → P o.acts a o.state.admissions
      → P (begun q step text id ns o).acts a (begun q step text id ns o).state.admissions
  shaped_begun q step text id [] o a h = h
  shaped_begun q step text id (n ∷ ns) o a h = h

  shaped_polled : (step : ℕ) (text : List ℕ) (id : ℕ) (ns : List ℕ) (o : Outcome) (a : ℕ) → P o.acts a o.state.admissions
      → P (polled step text id ns o).acts a (polled step text id ns o).state.admissions
  shaped_polled step text id [] o a h = h
  shaped_polled step text id (n ∷ ns) o a h = h

  shaped_poll_id : (q : Questions) (texts : List (List ℕ)) (step id : ℕ) → Shaped (poll_id q texts step id)
  shaped_poll_id q texts step id s =
      let o = each (poll q id) (numbers (is_open id) s) s in
      shaped_polled step (text_of_id id texts s.names) id (cpus_having id o.state) o s.admissions
      (shaped_each (poll q id) (shaped_poll q id) (numbers (is_open id) s) s)

  shaped_turn : (source id : ℕ) (t : Turn) → Shaped (take_turn indexes source id t)
  shaped_turn source id IsBound s = none s.admissions
  shaped_turn source id IsPending s = none s.admissions
  shaped_turn source id IsRefused s = none s.admissions
  shaped_turn source id (Moves target) s = shaped_move id source target s

  shaped_turns : (q : Questions) (source : ℕ) (ids : List ℕ) → Shaped (λ s. (juggle_each q indexes source ids s).outcome)
  shaped_turns q source [] s = none s.admissions
  shaped_turns q source (id ∷ ids) s =
      let o = take_turn indexes source id (turn q source id s) s in
      app o.acts (juggle_each q indexes source ids o.state).outcome.acts s.admissions o.state.admissions
      (juggle_each q indexes source ids o.state).outcome.state.admissions
      (shaped_turn source id (turn q source id s) s) (shaped_turns q source ids o.state)

  shaped_retire_all : (n : ℕ) → Shaped (retire_all n)
  shaped_retire_all n s = shaped_then (each (retire n) (ids_of_cpu n s) s) (on_number n (λ c. nothing_here (go_offline c))) s
      (shaped_each (retire n) (λ id t. shaped_ended n (take_here n id) (taken n id) (cyclic_with_id id (cpu_of n t)) t)
      (ids_of_cpu n s) s)
      (λ t. none t.admissions)

  shaped_last : (b : Bool) (step n : ℕ) (o : Outcome) (a : ℕ) → P o.acts a o.state.admissions
      → P (last_part b step n o).acts a (last_part b step n o).state.admissions
  shaped_last true step n o a h = h
  shaped_last false step n o a h =
      app o.acts (retire_all n o.state).acts a o.state.admissions (retire_all n o.state).state.admissions h
      (shaped_retire_all n o.state)

  shaped_leaving : (q : Questions) (step n : ℕ) (ids : List ℕ) (j : Juggled) (a : ℕ)
      → P j.outcome.acts a j.outcome.state.admissions
      → P (leaving q step n ids j).acts a (leaving q step n ids j).state.admissions
  shaped_leaving q step n (id ∷ ids) j a h = h
  shaped_leaving q step n [] j a h = shaped_last (any_pending q n (ids_of_cpu n j.outcome.state) j.outcome.state) step n
      j.outcome a h

  shaped_return : (n : ℕ) (p : Placed) → Shaped (return_of indexes n p)
  shaped_return n p s = by p.placement
    where
      by : (placement : Placement) → P (return_here indexes n p.id placement s).acts s.admissions
          (return_here indexes n p.id placement s).state.admissions
      by (On m bound) = none s.admissions
      by (OnAll e) = admit n p.id s.admissions e.level

  pub acts_shaped : (q : Questions) (texts : List (List ℕ)) (step : ℕ) (x : Step) (s : State) → IsNoFire x
      → P (does q texts indexes step x s).acts s.admissions (does q texts indexes step x s).state.admissions
  acts_shaped q texts step (Add a) s is = shaped_enter (destination_of None s) (added a s)
      (given a.name (On (destination_of None s) false) s)
  acts_shaped q texts step (Omni a) s is =
      shaped_each (λ n t. enter indexes n (component (s.last_id + 1) n (everywhere a) t.clock) t)
      (λ n t. shaped_enter n (component (s.last_id + 1) n (everywhere a) t.clock) t) (cpus_online s)
      (given a.name (OnAll (everywhere a)) s)
  acts_shaped q texts step (Bind b) s is = shaped_bind (id_of b.name s) b.cpu s
  acts_shaped q texts step (Unbind name) s is = none s.admissions
  acts_shaped q texts step (Reprogram r) s is = none s.admissions
  acts_shaped q texts step (Remove name) s is =
      let id = id_of name s in let o = each (begin q id) (cpus_having id s) s in
      shaped_begun q step (text_in texts name) id (cpus_having id o.state) o s.admissions
      (shaped_each (begin q id) (shaped_begin q id) (cpus_having id s) s)
  acts_shaped q texts step (Advance now) s is = absurd is
  acts_shaped q texts step (Softint i) s is =
      let t = (interrupt step i s).state in
      app (interrupt step i s).acts (each (poll_id q texts step) (leaving_ids t) t).acts s.admissions s.admissions
      (each (poll_id q texts step) (leaving_ids t) t).state.admissions
      (serves i.cpu i.level i.budget (level_at i.level (cpu_of i.cpu s)) s.admissions)
      (shaped_each (poll_id q texts step) (shaped_poll_id q texts step) (leaving_ids t) t)
  acts_shaped q texts step (Juggle n) s is = shaped_turns q n (single_ids_of n s) s
  acts_shaped q texts step (Offline n) s is =
      shaped_leaving q step n (single_ids_of n (juggled q indexes n s).outcome.state) (juggled q indexes n s) s.admissions
      (shaped_turns q n (single_ids_of n s) s)
  acts_shaped q texts step (Online n) s is =
      shaped_then (on_number n (widen_here n (length (staying_omni s))) s)
      (λ t. followed_by (each (return_of indexes n) (staying_omni s) t) (on_number n (λ c. nothing_here (go_online c)))) s
      (widened n (length (staying_omni s)) (cpu_of n s) s.admissions)
      (λ t. shaped_then (each (return_of indexes n) (staying_omni s) t) (on_number n (λ c. nothing_here (go_online c))) t
      (shaped_each (return_of indexes n) (shaped_return n) (staying_omni s) t) (λ u. none u.admissions))
  acts_shaped q texts step Suspend s is = none s.admissions
  acts_shaped q texts step Resume s is = none s.admissions

-- the same, where the calls of a soft interrupt matter as little as its events
pub shaped_does : (indexes : ℕ → ℕ) (P : List Act → ℕ → ℕ → Type 0)
    (calm : (acts : List Act) (a : ℕ) → AllActs IsIdle acts → P acts a a)
    (app : (xs ys : List Act) (a b c : ℕ) → P xs a b → P ys b c → P (xs ++ ys) a c)
    (admit : (n id a : ℕ) (k : Level) → P (at_own n k (Admit id (indexes a))) a (a + 1))
    (q : Questions) (texts : List (List ℕ)) (step : ℕ) (x : Step) (s : State) → IsNoFire x
    → P (does q texts indexes step x s).acts s.admissions (does q texts indexes step x s).state.admissions
shaped_does indexes P calm app admit = acts_shaped indexes P (λ acts a idle. calm acts a (events_only IsIdle acts idle))
    (λ n soft budget l a. calm (serve n soft budget l).acts a (acts_of_serve IsIdle tt tt tt n soft budget l)) app admit
