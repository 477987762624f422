-- Each id that stands anywhere was given.
use Rattle.std.proofs.Common.{◌≡◌, ℕ, zero, suc, ◌+◌, ◌≤◌, ◌<◌, ◌==◌, Bool, true, false, cond, List, [], ◌∷◌, ◌++◌, map, length}
use Rattle.std.proofs.Common.{Option, Some, None, refl, sym, ◌∙◌, subst, arith}
use Rattle.std.specs.Prelude.{⊤, not, nat_lt, filter, find, slice_index_or, slice_set, replicate}
use Rattle.cyc_types.specs.declared.refusal.Refusal.{Refusal}
use Rattle.cyc_types.specs.declared.level.Soft.{Soft}
use Rattle.cyc_types.specs.declared.level.Soft.TheVariants.{Low, Lock}
use Rattle.cyc_types.specs.Expirations.{Expiration, after_expirations}
use Rattle.cyc_types.specs.Series.{never}
use Rattle.cyc_level.specs.declared.Event.TheVariants.{Mark, Clear}
use Rattle.cyc_script.specs.declared.step.Step.{Step}
use Rattle.cyc_script.specs.declared.step.Step.TheVariants.{Add, Omni, Bind, Unbind, Reprogram, Remove, Advance, Softint, Juggle}
use Rattle.cyc_script.specs.declared.step.Step.TheVariants.{Offline, Online, Suspend, Resume}
use Rattle.cyc_model.specs.Acts.{Act, At, Call, at_own}
use Rattle.cyc_model.specs.Cpu.{
  CyclicState,
  Cpu,
  Here,
  cpu_after,
  happen,
  here,
  nothing_here,
  is_of,
  cyclic_with_id,
  others,
  begun_cpu,
}
use Rattle.cyc_model.specs.Cpu.{handler_level_of, cyclic_at}
use Rattle.cyc_model.specs.Firing.{expire_here, expire_all, due_here, fired_cyclic, fire_here}
use Rattle.cyc_model.specs.Serving.{serve_here}
use Rattle.cyc_model.specs.Moving.{must_grow, widen_here, switch_here, place_here, put_in, enter_here, take_here, mark_here}
use Rattle.cyc_model.specs.Moving.{clear_here, reprogram_here, moment_at, bank_for}
use Rattle.cyc_model.specs.Questions.{Questions}
use Rattle.cyc_model.specs.State.{
  State,
  Outcome,
  Placement,
  On,
  OnAll,
  Placed,
  Everywhere,
  each,
  on_number,
  absent,
  cpu_of,
  cpus_online,
}
use Rattle.cyc_model.specs.State.{cpus_having, numbers}
use Rattle.cyc_model.specs.Places.{
  id_of,
  destination_of,
  is_being_removed,
  keep_counts,
  given,
  put_at,
  replaced,
  home_of,
  is_bound,
}
use Rattle.cyc_model.specs.Places.{forgotten}
use Rattle.cyc_model.specs.Refusals.{unless, magnitude}
use Rattle.cyc_model.specs.Add.{enter, added}
use Rattle.cyc_model.specs.Omni.{everywhere, component}
use Rattle.cyc_model.specs.Bind.{bring, move, move_unless_there, bind_id}
use Rattle.cyc_model.specs.Reprogram.{cpu_meant}
use Rattle.cyc_model.specs.Remove.{clear, clear_if, poll, begin, begun, remove_id}
use Rattle.cyc_model.specs.Softint.{interrupt, polled, poll_id, text_of_id, is_open, leaving_ids}
use Rattle.cyc_model.specs.Juggle.{Turn, IsBound, IsPending, IsRefused, Moves, turn, take_turn, Juggled, juggle_each, juggled}
use Rattle.cyc_model.specs.Juggle.{single_ids_of}
use Rattle.cyc_model.specs.Offline.{retire, retire_all, go_offline, last_part, leaving, ids_of_cpu, any_pending}
use Rattle.cyc_model.specs.Online.{return_here, return_of, return_all, go_online, staying_omni, again, is_on_all}
use Rattle.cyc_model.specs.Script.{refusal_of, does, word, steps_from, text_in, start}
use Rattle.cyc_model.specs.Laws.{AtMost, AllAtMost, RiseTo, AreGiven, IdsAreGivenOnce}

-- ---- the cyclics of one CPU

most_more : (k m : ℕ) → k ≤ m → (cs : List CyclicState) → AtMost k cs → AtMost m cs
most_more k m le [] h = tt
most_more k m le (x ∷ xs) h = (let a = h.0 in omega (arith, a), most_more k m le xs h.1)

most_map : (k : ℕ) (f : CyclicState → CyclicState) → ((x : CyclicState) → (f x).timer.id ≡ x.timer.id)
    → (cs : List CyclicState) → AtMost k cs
    → AtMost k (map f cs)
most_map k f same [] h = tt
most_map k f same (x ∷ xs) h = (subst (λ j. j ≤ k) (sym (same x)) h.0, most_map k f same xs h.1)

most_if : (k : ℕ) (b : Bool) (x : CyclicState) (cs : List CyclicState) → x.timer.id ≤ k → AtMost k cs
    → AtMost k (cond b (x ∷ cs) cs)
most_if k true x cs one h = (one, h)
most_if k false x cs one h = h

most_others : (k id : ℕ) (cs : List CyclicState) → AtMost k cs → AtMost k (others id cs)
most_others k id [] h = tt
most_others k id (x ∷ xs) h = most_if k (not (is_of id x)) x (others id xs) h.0 (most_others k id xs h.1)

most_choice : (k : ℕ) (b : Bool) (xs ys : List CyclicState) → AtMost k xs → AtMost k ys → AtMost k (cond b xs ys)
most_choice k true xs ys h i = h
most_choice k false xs ys h i = i

most_put : (k : ℕ) (x : CyclicState) → x.timer.id ≤ k → (cs : List CyclicState) → AtMost k cs → AtMost k (put_in x cs)
most_put k x one [] h = (one, tt)
most_put k x one (y ∷ ys) h =
    most_choice k (nat_lt x.timer.id y.timer.id) (x ∷ y ∷ ys) (y ∷ put_in x ys) (one, (h.0, h.1)) (h.0, most_put k x one ys h.1)

-- the cyclic, if there is one, has an id up to this
abbrev OneAtMost : ℕ → Option CyclicState → Type 0
OneAtMost k None = ⊤
OneAtMost k (Some x) = x.timer.id ≤ k

one_if : (k : ℕ) (b : Bool) (x : CyclicState) (o : Option CyclicState) → x.timer.id ≤ k → OneAtMost k o
    → OneAtMost k (cond b (Some x) o)
one_if k true x o one h = one
one_if k false x o one h = h

most_find : (k id : ℕ) (cs : List CyclicState) → AtMost k cs → OneAtMost k (find (is_of id) cs)
most_find k id [] h = tt
most_find k id (x ∷ xs) h = one_if k (is_of id x) x (find (is_of id) xs) h.0 (most_find k id xs h.1)

-- acts leave the cyclics as they are
happen_cyclics : (acts : List Act) (c : Cpu) → (happen acts c).cyclics ≡ c.cyclics
happen_cyclics [] c = refl
happen_cyclics (a ∷ acts) c = happen_cyclics acts (cpu_after a c) ∙ act_cyclics a
  where
    act_cyclics : (b : Act) → (cpu_after b c).cyclics ≡ c.cyclics
    act_cyclics (At n Low e) = refl
    act_cyclics (At n Lock e) = refl
    act_cyclics (Call id) = refl

-- what is done on a CPU brings no other id
abbrev Brings : ℕ → (Cpu → Here) → Type 0
Brings k f = (c : Cpu) → AtMost k c.cyclics → AtMost k (f c).cpu.cyclics

here_most : (k : ℕ) (acts : List Act) (c : Cpu) → AtMost k c.cyclics → AtMost k (here acts c).cpu.cyclics
here_most k acts c h = subst (AtMost k) (sym (happen_cyclics acts c)) h

expire_most : (k n : ℕ) (ps : List Expiration) → Brings k (expire_all n ps)
expire_most k n [] c h = h
expire_most k n (p ∷ ps) c h = expire_most k n ps (expire_here n p.id c).cpu (here_most k (expire_here n p.id c).acts c h)

fired_id : (now : ℕ) (made : List Expiration) (acts : List Act) (x : CyclicState)
    → (fired_cyclic now made acts x).timer.id ≡ x.timer.id
unfolding after_expirations
fired_id now made acts x = refl

fire_most : (k n now : ℕ) → Brings k (fire_here n now)
fire_most k n now c h =
    most_map k (fired_cyclic now (due_here now c) (expire_all n (due_here now c) c).acts)
    (fired_id now (due_here now c) (expire_all n (due_here now c) c).acts) (expire_all n (due_here now c) c).cpu.cyclics
    (expire_most k n (due_here now c) c h)

serve_most : (k n : ℕ) (soft : Soft) (budget : ℕ) → Brings k (serve_here n soft budget)
serve_most k n soft budget c h = here_most k (serve_here n soft budget c).acts c h

widen_most : (k n more : ℕ) → Brings k (widen_here n more)
widen_most k n more c h = by (must_grow more c)
  where
    by : (b : Bool) → AtMost k (cond b (switch_here n (bank_for (length c.cyclics + more)) c) (nothing_here c)).cpu.cyclics
    by true = h
    by false = h

place_most : (k n index : ℕ) (x : CyclicState) → x.timer.id ≤ k → Brings k (place_here n index x)
place_most k n index x one c h = here_most k (place_here n index x c).acts (record c { cyclics = put_in x c.cyclics })
    (most_put k x one c.cyclics h)

enter_most : (k n index : ℕ) (x : CyclicState) → x.timer.id ≤ k → Brings k (enter_here n index x)
enter_most k n index x one c h = place_most k n index x one (widen_here n 1 c).cpu (widen_most k n 1 c h)

take_most : (k n id : ℕ) → Brings k (take_here n id)
take_most k n id c h =
    let d = happen (at_own n (handler_level_of id c) (Mark id)) c in
    here_most k (at_own n (handler_level_of id d) (Clear id)) (record d { cyclics = others id d.cyclics })
    (most_others k id d.cyclics (here_most k (at_own n (handler_level_of id c) (Mark id)) c h))

moment_same : (id moment : ℕ) (x : CyclicState) → (moment_at id moment x).timer.id ≡ x.timer.id
moment_same id moment x = by (is_of id x)
  where
    by : (b : Bool) → (cond b (cyclic_at moment x) x).timer.id ≡ x.timer.id
    by true = refl
    by false = refl

mark_most : (k n id : ℕ) → Brings k (mark_here n id)
mark_most k n id c h =
    here_most k (at_own n (handler_level_of id c) (Mark id))
    (record c { cyclics = map (moment_at id never) c.cyclics; removal = Some id })
    (most_map k (moment_at id never) (moment_same id never) c.cyclics h)

clear_most : (k n id : ℕ) → Brings k (clear_here n id)
clear_most k n id c h =
    here_most k (at_own n (handler_level_of id c) (Clear id)) (record c { cyclics = others id c.cyclics; removal = None })
    (most_others k id c.cyclics h)

reprogram_most : (k id moment : ℕ) → Brings k (reprogram_here id moment)
reprogram_most k id moment c h = most_map k (moment_at id moment) (moment_same id moment) c.cyclics h

-- ---- the CPUs, and where cyclics are

at_most : (k : ℕ) (cs : List Cpu) → AllAtMost k cs → (n : ℕ) → AtMost k (slice_index_or cs n absent).cyclics
at_most k [] h n = tt
at_most k (c ∷ cs) h zero = h.0
at_most k (c ∷ cs) h (suc n) = at_most k cs h.1 n

set_most : (k : ℕ) (cs : List Cpu) (d : Cpu) → AllAtMost k cs → AtMost k d.cyclics → (n : ℕ) → AllAtMost k (slice_set cs n d)
set_most k [] d h one n = tt
set_most k (c ∷ cs) d h one zero = (one, h.1)
set_most k (c ∷ cs) d h one (suc n) = (h.0, set_most k cs d h.1 one n)

all_more : (k m : ℕ) → k ≤ m → (cs : List Cpu) → AllAtMost k cs → AllAtMost m cs
all_more k m le [] h = tt
all_more k m le (c ∷ cs) h = (most_more k m le c.cyclics h.0, all_more k m le cs h.1)

rise_more : (low high more : ℕ) (ps : List Placed) → high ≤ more → RiseTo low ps high → RiseTo low ps more
rise_more low high more [] le h = omega (arith, le, h)
rise_more low high more (p ∷ ps) le h = (h.0, rise_more p.id high more ps le h.1)

rise_from : (low from high : ℕ) (ps : List Placed) → low ≤ from → RiseTo from ps high → RiseTo low ps high
rise_from low from high [] le h = omega (arith, le, h)
rise_from low from high (p ∷ ps) le h = (let a = h.0 in omega (arith, a, le), h.1)

pub rise_append : (low high : ℕ) (placement : Placement) (ps : List Placed) → RiseTo low ps high
    → RiseTo low (ps ++ record { id = high + 1; placement = placement } ∷ []) (high + 1)
rise_append low high placement [] h = (omega (arith, h), omega arith)
rise_append low high placement (p ∷ ps) h = (h.0, rise_append p.id high placement ps h.1)

pub replaced_id : (id : ℕ) (placement : Placement) (p : Placed) → (replaced id placement p).id ≡ p.id
replaced_id id placement p = by (p.id == id)
  where
    by : (b : Bool) → (cond b (record p { placement = placement }) p).id ≡ p.id
    by true = refl
    by false = refl

pub rise_map : (low high id : ℕ) (placement : Placement) (ps : List Placed) → RiseTo low ps high
    → RiseTo low (map (replaced id placement) ps) high
rise_map low high id placement [] h = h
rise_map low high id placement (p ∷ ps) h = (
  subst (λ j. low < j) (sym (replaced_id id placement p)) h.0,
  subst (λ j. RiseTo j (map (replaced id placement) ps) high) (sym (replaced_id id placement p))
      (rise_map p.id high id placement ps h.1),
)

rise_if : (b : Bool) (low high : ℕ) (p : Placed) (ps : List Placed) → low < p.id → RiseTo p.id ps high
    → RiseTo low (cond b (p ∷ ps) ps) high
rise_if true low high p ps first h = (first, h)
rise_if false low high p ps first h = rise_from low p.id high ps (omega (arith, first)) h

pub rise_filter : (test : Placed → Bool) (low high : ℕ) (ps : List Placed) → RiseTo low ps high → RiseTo low (filter test ps) high
rise_filter test low high [] h = h
rise_filter test low high (p ∷ ps) h = rise_if (test p) low high p (filter test ps) h.0 (rise_filter test p.id high ps h.1)

rise_first : (low high : ℕ) (p : Placed) (ps : List Placed) → RiseTo low (p ∷ ps) high → p.id ≤ high
rise_first low high p [] h = h.1
rise_first low high p (q ∷ ps) h = let a = h.1.0 in let b = rise_first p.id high q ps h.1 in omega (arith, a, b)

-- ---- the words

module _ (least : ℕ) where
  abbrev Keeps : (State → Outcome) → Type 0
  Keeps f = (s : State) → AreGiven least s → AreGiven least (f s).state

  keeps_each : {A : Type 0} → (f : A → State → Outcome) → ((x : A) → Keeps (f x)) → (xs : List A) → Keeps (each f xs)
  keeps_each f one [] s h = h
  keeps_each f one (x ∷ xs) s h = keeps_each f one xs (f x s).state (one x s h)

  keeps_on : (n : ℕ) (f : Cpu → Here) → ((k : ℕ) → Brings k f) → Keeps (on_number n f)
  keeps_on n f brings s h = record {
    many = h.many;
    rise = h.rise;
    cyclics = set_most s.last_id s.cpus (f (cpu_of n s)).cpu h.cyclics
        (brings s.last_id (cpu_of n s) (at_most s.last_id s.cpus h.cyclics n)) n;
  }

  keeps_enter : (indexes : ℕ → ℕ) (n : ℕ) (x : CyclicState) (s : State) → x.timer.id ≤ s.last_id → AreGiven least s
      → AreGiven least (enter indexes n x s).state
  keeps_enter indexes n x s one h = record {
    many = h.many;
    rise = h.rise;
    cyclics = set_most s.last_id s.cpus (enter_here n (indexes s.admissions) x (cpu_of n s)).cpu h.cyclics
        (enter_most s.last_id n (indexes s.admissions) x one (cpu_of n s) (at_most s.last_id s.cpus h.cyclics n)) n;
  }

  keeps_given : (name : ℕ) (placement : Placement) (s : State) → AreGiven least s → AreGiven least (given name placement s)
  keeps_given name placement s h = record {
    many = let a = h.many in omega (arith, a);
    rise = rise_append 0 s.last_id placement s.placed h.rise;
    cyclics = all_more s.last_id (s.last_id + 1) (omega arith) s.cpus h.cyclics;
  }

  keeps_put : (id : ℕ) (placement : Placement) (s : State) → AreGiven least s → AreGiven least (put_at id placement s)
  keeps_put id placement s h = record {
    many = h.many;
    rise = rise_map 0 s.last_id id placement s.placed h.rise;
    cyclics = h.cyclics;
  }

  keeps_forgotten : (id : ℕ) (s : State) → AreGiven least s → AreGiven least (forgotten id s)
  keeps_forgotten id s h = record {
    many = h.many;
    rise = rise_filter
        (λ p. not (p.id == id)) 0 s.last_id s.placed h.rise;
    cyclics = h.cyclics;
  }

  keeps_counts : (n : ℕ) (x : Option CyclicState) (s : State) → AreGiven least s → AreGiven least (keep_counts n x s)
  keeps_counts n None s h = h
  keeps_counts n (Some x) s h = record { many = h.many; rise = h.rise; cyclics = h.cyclics }

  keeps_components : (indexes : ℕ → ℕ) (id : ℕ) (e : Everywhere) (ns : List ℕ) (s : State) → id ≤ s.last_id → AreGiven least s
      → AreGiven least (each (λ n t. enter indexes n (component id n e t.clock) t) ns s).state
  keeps_components indexes id e [] s one h = h
  keeps_components indexes id e (n ∷ ns) s one h =
      keeps_components indexes id e ns (enter indexes n (component id n e s.clock) s).state one
      (keeps_enter indexes n (component id n e s.clock) s one h)

  keeps_bring : (indexes : ℕ → ℕ) (n : ℕ) (x : Option CyclicState) (s : State) → OneAtMost s.last_id x → AreGiven least s
      → AreGiven least (bring indexes n x s).state
  keeps_bring indexes n None s one h = h
  keeps_bring indexes n (Some x) s one h = keeps_enter indexes n x s one h

  keeps_move : (indexes : ℕ → ℕ) (id source target : ℕ) → Keeps (move indexes id source target)
  keeps_move indexes id source target s h =
      let t = (on_number source (take_here source id) s).state in
      keeps_bring indexes target (cyclic_with_id id (cpu_of source s)) (put_at id (On target (is_bound id t)) t)
      (most_find s.last_id id (cpu_of source s).cyclics (at_most s.last_id s.cpus h.cyclics source))
      (keeps_put id (On target (is_bound id t)) t (keeps_on source (take_here source id) (λ k. take_most k source id) s h))

  keeps_unless_there : (there : Bool) (indexes : ℕ → ℕ) (id n : ℕ) → Keeps (move_unless_there there indexes id n)
  keeps_unless_there true indexes id n s h = h
  keeps_unless_there false indexes id n s h = keeps_move indexes id (home_of id s) n s h

  keeps_bind : (indexes : ℕ → ℕ) (id n : ℕ) → Keeps (bind_id indexes id n)
  keeps_bind indexes id n s h =
      keeps_put id (On n true) (move_unless_there (home_of id s == n) indexes id n s).state
      (keeps_unless_there (home_of id s == n) indexes id n s h)

  keeps_clear : (id n : ℕ) → Keeps (clear id n)
  keeps_clear id n s h =
      keeps_on n (clear_here n id) (λ k. clear_most k n id) (keep_counts n (cyclic_with_id id (cpu_of n s)) s)
      (keeps_counts n (cyclic_with_id id (cpu_of n s)) s h)

  keeps_clear_if : (b : Bool) (id n : ℕ) → Keeps (clear_if b id n)
  keeps_clear_if true id n s h = keeps_clear id n s h
  keeps_clear_if false id n s h = h

  keeps_poll : (q : Questions) (id n : ℕ) → Keeps (poll q id n)
  keeps_poll q id n s h = keeps_clear_if (q.outstanding n id (cpu_of n s) == 0) id n s h

  keeps_begin : (q : Questions) (id n : ℕ) → Keeps (begin q id n)
  keeps_begin q id n s h = keeps_poll q id n (on_number n (mark_here n id) s).state
      (keeps_on n (mark_here n id) (λ k. mark_most k n id) s h)

  keeps_begun : (q : Questions) (step : ℕ) (text : List ℕ) (id : ℕ) (ns : List ℕ) (o : Outcome) → AreGiven least o.state
      → AreGiven least (begun q step text id ns o).state
  keeps_begun q step text id [] o h = keeps_forgotten id o.state h
  keeps_begun q step text id (n ∷ ns) o h = h

  keeps_remove : (q : Questions) (step : ℕ) (text : List ℕ) (id : ℕ) → Keeps (remove_id q step text id)
  keeps_remove q step text id s h =
      let o = each (begin q id) (cpus_having id s) s in
      keeps_begun q step text id (cpus_having id o.state) o (keeps_each (begin q id) (keeps_begin q id) (cpus_having id s) s h)

  keeps_polled : (step : ℕ) (text : List ℕ) (id : ℕ) (ns : List ℕ) (o : Outcome) → AreGiven least o.state
      → AreGiven least (polled step text id ns o).state
  keeps_polled step text id [] o h = keeps_forgotten id o.state h
  keeps_polled step text id (n ∷ ns) o h = h

  keeps_poll_id : (q : Questions) (texts : List (List ℕ)) (step id : ℕ) → Keeps (poll_id q texts step id)
  keeps_poll_id q texts step id s h =
      let o = each (poll q id) (numbers (is_open id) s) s in
      keeps_polled step (text_of_id id texts s.names) id (cpus_having id o.state) o
      (keeps_each (poll q id) (keeps_poll q id) (numbers (is_open id) s) s h)

  keeps_turn : (indexes : ℕ → ℕ) (source id : ℕ) (t : Turn) → Keeps (take_turn indexes source id t)
  keeps_turn indexes source id IsBound s h = h
  keeps_turn indexes source id IsPending s h = h
  keeps_turn indexes source id IsRefused s h = h
  keeps_turn indexes source id (Moves target) s h = keeps_move indexes id source target s h

  keeps_turns : (q : Questions) (indexes : ℕ → ℕ) (source : ℕ) (ids : List ℕ) (s : State) → AreGiven least s
      → AreGiven least (juggle_each q indexes source ids s).outcome.state
  keeps_turns q indexes source [] s h = h
  keeps_turns q indexes source (id ∷ ids) s h =
      keeps_turns q indexes source ids (take_turn indexes source id (turn q source id s) s).state
      (keeps_turn indexes source id (turn q source id s) s h)

  keeps_retire : (n id : ℕ) → Keeps (retire n id)
  keeps_retire n id s h =
      keeps_on n (take_here n id) (λ k. take_most k n id) (keep_counts n (cyclic_with_id id (cpu_of n s)) s)
      (keeps_counts n (cyclic_with_id id (cpu_of n s)) s h)

  keeps_retire_all : (n : ℕ) → Keeps (retire_all n)
  keeps_retire_all n s h =
      keeps_on n (λ c. nothing_here (go_offline c)) (λ k c i. i) (each (retire n) (ids_of_cpu n s) s).state
      (keeps_each (retire n) (keeps_retire n) (ids_of_cpu n s) s h)

  keeps_last : (b : Bool) (step n : ℕ) (o : Outcome) → AreGiven least o.state → AreGiven least (last_part b step n o).state
  keeps_last true step n o h = h
  keeps_last false step n o h = keeps_retire_all n o.state h

  keeps_leaving : (q : Questions) (step n : ℕ) (ids : List ℕ) (j : Juggled) → AreGiven least j.outcome.state
      → AreGiven least (leaving q step n ids j).state
  keeps_leaving q step n (id ∷ ids) j h = h
  keeps_leaving q step n [] j h = keeps_last (any_pending q n (ids_of_cpu n j.outcome.state) j.outcome.state) step n j.outcome h

  keeps_return : (indexes : ℕ → ℕ) (n id : ℕ) (p : Placement) (s : State) → id ≤ s.last_id → AreGiven least s
      → AreGiven least (return_here indexes n id p s).state
  keeps_return indexes n id (On m bound) s one h = h
  keeps_return indexes n id (OnAll e) s one h = record {
    many = h.many;
    rise = h.rise;
    cyclics = set_most s.last_id s.cpus
        (place_here n (indexes s.admissions) (again id n e (s.ended id n) s.clock) (cpu_of n s)).cpu h.cyclics
        (place_most s.last_id n (indexes s.admissions) (again id n e (s.ended id n) s.clock) one (cpu_of n s)
        (at_most s.last_id s.cpus h.cyclics n)) n;
  }

  same_last : (indexes : ℕ → ℕ) (n id : ℕ) (p : Placement) (s : State) → (return_here indexes n id p s).state.last_id ≡ s.last_id
  same_last indexes n id (On m bound) s = refl
  same_last indexes n id (OnAll e) s = refl

  keeps_returns : (indexes : ℕ → ℕ) (n low high : ℕ) (ps : List Placed) (s : State) → RiseTo low ps high → high ≤ s.last_id
      → AreGiven least s
      → AreGiven least (each (return_of indexes n) ps s).state
  keeps_returns indexes n low high [] s rise le h = h
  keeps_returns indexes n low high (p ∷ ps) s rise le h =
      let first = rise_first low high p ps rise in
      keeps_returns indexes n p.id high ps (return_of indexes n p s).state rise.1
      (subst (λ k. high ≤ k) (sym (same_last indexes n p.id p.placement s)) le)
      (keeps_return indexes n p.id p.placement s (omega (arith, first, le)) h)

  staying_rise : (s : State) → AreGiven least s → RiseTo 0 (staying_omni s) s.last_id
  staying_rise s h =
      rise_filter (λ p. is_on_all p.placement) 0 s.last_id (filter (λ p. not (is_being_removed p.id s)) s.placed)
      (rise_filter (λ p. not (is_being_removed p.id s)) 0 s.last_id s.placed h.rise)

  keeps_online : (indexes : ℕ → ℕ) (n : ℕ) (ps : List Placed) (s : State) → RiseTo 0 ps s.last_id → AreGiven least s
      → AreGiven least (return_all indexes n ps s).state
  keeps_online indexes n ps s rise h =
      let t = (on_number n (widen_here n (length ps)) s).state in
      keeps_on n (λ c. nothing_here (go_online c)) (λ k c i. i) (each (return_of indexes n) ps t).state
      (keeps_returns indexes n 0 s.last_id ps t rise (omega arith)
      (keeps_on n (widen_here n (length ps)) (λ k. widen_most k n (length ps)) s h))

  keeps_does : (q : Questions) (texts : List (List ℕ)) (indexes : ℕ → ℕ) (step : ℕ) (x : Step)
      → Keeps (does q texts indexes step x)
  keeps_does q texts indexes step (Add a) s h =
      keeps_enter indexes (destination_of None s) (added a s) (given a.name (On (destination_of None s) false) s) (omega arith)
      (keeps_given a.name (On (destination_of None s) false) s h)
  keeps_does q texts indexes step (Omni a) s h =
      keeps_components indexes (s.last_id + 1) (everywhere a) (cpus_online s) (given a.name (OnAll (everywhere a)) s)
      (omega arith)
      (keeps_given a.name (OnAll (everywhere a)) s h)
  keeps_does q texts indexes step (Bind b) s h = keeps_bind indexes (id_of b.name s) b.cpu s h
  keeps_does q texts indexes step (Unbind name) s h = keeps_put (id_of name s) (On (home_of (id_of name s) s) false) s h
  keeps_does q texts indexes step (Reprogram r) s h =
      keeps_on (cpu_meant r.cpu (id_of r.name s) s) (reprogram_here (id_of r.name s) (magnitude r.moment))
      (λ k. reprogram_most k (id_of r.name s) (magnitude r.moment)) s h
  keeps_does q texts indexes step (Remove name) s h = keeps_remove q step (text_in texts name) (id_of name s) s h
  keeps_does q texts indexes step (Advance now) s h =
      keeps_each (λ n. on_number n (fire_here n now)) (λ n. keeps_on n (fire_here n now) (λ k. fire_most k n now)) (cpus_online s)
      (record s { clock = now })
      (record { many = h.many; rise = h.rise; cyclics = h.cyclics })
  keeps_does q texts indexes step (Softint i) s h =
      let t = (interrupt step i s).state in
      keeps_each (poll_id q texts step) (keeps_poll_id q texts step) (leaving_ids t) t
      (keeps_on i.cpu (serve_here i.cpu i.level i.budget) (λ k. serve_most k i.cpu i.level i.budget) s h)
  keeps_does q texts indexes step (Juggle n) s h = keeps_turns q indexes n (single_ids_of n s) s h
  keeps_does q texts indexes step (Offline n) s h =
      let j = juggled q indexes n s in
      keeps_leaving q step n (single_ids_of n j.outcome.state) j (keeps_turns q indexes n (single_ids_of n s) s h)
  keeps_does q texts indexes step (Online n) s h = keeps_online indexes n (staying_omni s) s (staying_rise s h) h
  keeps_does q texts indexes step Suspend s h = record { many = h.many; rise = h.rise; cyclics = h.cyclics }
  keeps_does q texts indexes step Resume s h = record { many = h.many; rise = h.rise; cyclics = h.cyclics }

  keeps_unless : (why : Option Refusal) (step : ℕ) (x : Step) (f : State → Outcome) → Keeps f → Keeps (unless why step x f)
  keeps_unless (Some why) step x f done s h = record { many = h.many; rise = h.rise; cyclics = h.cyclics }
  keeps_unless None step x f done s h = done s h

  keeps_steps : (q : Questions) (texts : List (List ℕ)) (indexes : ℕ → ℕ) (step : ℕ) (xs : List Step)
      → Keeps (steps_from q texts indexes step xs)
  keeps_steps q texts indexes step [] s h = h
  keeps_steps q texts indexes step (x ∷ xs) s h =
      keeps_steps q texts indexes (step + 1) xs (word q texts indexes step x s).state
      (keeps_unless (refusal_of q x s) step x (does q texts indexes step x) (keeps_does q texts indexes step x) s h)

start_most : (n ceiling : ℕ) → AllAtMost 0 (replicate n (begun_cpu ceiling))
start_most zero ceiling = tt
start_most (suc n) ceiling = (tt, start_most n ceiling)

pub start_given : (cpus ceiling names : ℕ) → AreGiven 0 (start cpus ceiling names)
start_given cpus ceiling names = record { many = omega arith; rise = omega arith; cyclics = start_most cpus ceiling }

-- the same, with as many ids given as there are
as_many : (s : State) → AreGiven 0 s → AreGiven s.last_id s
as_many s h = record { many = omega arith; rise = h.rise; cyclics = h.cyclics }

pub given_from_start : IdsAreGivenOnce
given_from_start q texts indexes cpus ceiling names step xs ys =
    let s = (steps_from q texts indexes 1 xs (start cpus ceiling names)).state in
    keeps_steps s.last_id q texts indexes step ys s
    (as_many s (keeps_steps 0 q texts indexes 1 xs (start cpus ceiling names) (start_given cpus ceiling names)))
