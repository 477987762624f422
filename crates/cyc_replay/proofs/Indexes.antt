-- A run depends on no index but those that its cyclics got.
use Rattle.std.proofs.Common.{◌≡◌, ℕ, zero, suc, ◌+◌, ◌<◌, ◌≤◌, ◌==◌, Bool, true, false, cond, List, [], ◌∷◌, ◌++◌, map, length}
use Rattle.std.proofs.Common.{Option, Some, None, refl, ap, sym, ◌∙◌, arith}
use Rattle.std.specs.Prelude.{⊤, slice_index_or, replicate}
use Rattle.cyc_types.specs.declared.level.Soft.{Soft}
use Rattle.cyc_types.specs.declared.level.Soft.TheVariants.{Low, Lock}
use Rattle.cyc_types.specs.declared.level.Level.{Level}
use Rattle.cyc_types.specs.declared.level.Level.TheVariants as level
use Rattle.cyc_types.specs.declared.refusal.Refusal.{Refusal}
use Rattle.cyc_level.specs.declared.Event.{Event}
use Rattle.cyc_level.specs.declared.Event.TheVariants.{Admit, Expire, Lose, Publish, Take, Finish, Mark, Clear, Switch, Follow}
use Rattle.cyc_level.specs.Level.{SoftLevel, count}
use Rattle.cyc_types.specs.Expirations.{Expiration}
use Rattle.cyc_script.specs.declared.step.Step.{Step}
use Rattle.cyc_script.specs.declared.step.Step.TheVariants.{Advance}
use Rattle.cyc_model.specs.Acts.{Act, At, Call, at_own, events_at}
use Rattle.cyc_model.specs.Cpu.{Cpu, handler_level_of, begun_cpu}
use Rattle.cyc_model.specs.Firing.{raised, expiry, expire_here, expire_all, due_here, fire_here}
use Rattle.cyc_model.specs.Questions.{plain}
use Rattle.cyc_model.specs.Serving.{level_at, level_after}
use Rattle.cyc_model.specs.State.{State, Outcome, absent, on_number, cpu_of, each, cpus_online}
use Rattle.cyc_model.specs.Refusals.{unless}
use Rattle.cyc_model.specs.Laws.{level_on}
use Rattle.cyc_model.specs.Script.{refusal_of, does, word, steps_from, start, run_on}
use Rattle.cyc_model.proofs.Agreement.{AllActs, acts_append}
use Rattle.cyc_model.proofs.Bare.{bare_event, bare_act, bare_cpu}
use Rattle.cyc_model.proofs.BareMachine.{bare, bare_out, at_bare}
use Rattle.cyc_model.proofs.Unindexed.{acts_relabeled, steps_bare}
use Rattle.cyc_model.proofs.Telling.{tells_steps}
use Rattle.cyc_model.proofs.Shaped.{IsIdle, IsNoFire, shaped_does}
use Rattle.cyc_model.proofs.Choosing.{own_number}

-- ---- where the k-th cyclic gets the index k, indexes are below the admissions

abbrev IsBelow : ℕ → Event → Type 0
IsBelow high (Admit id k) = k < high
IsBelow high _ = ⊤

-- the acts between so many admissions before and after them
abbrev Below : List Act → ℕ → ℕ → Type 0
Below acts a b = (a ≤ b) × AllActs (IsBelow b) acts

idle_below : (high : ℕ) (e : Event) → IsIdle e → IsBelow high e
idle_below high (Admit id k) is = absurd is
idle_below high (Expire id) is = absurd is
idle_below high (Lose id) is = absurd is
idle_below high Publish is = tt
idle_below high Take is = tt
idle_below high Finish is = tt
idle_below high (Mark id) is = tt
idle_below high (Clear id) is = tt
idle_below high (Switch bank) is = tt
idle_below high Follow is = tt

more_below : (a b : ℕ) (e : Event) → a ≤ b → IsBelow a e → IsBelow b e
more_below a b (Admit id k) le is = omega (arith, le, is)
more_below a b (Expire id) le is = tt
more_below a b (Lose id) le is = tt
more_below a b Publish le is = tt
more_below a b Take le is = tt
more_below a b Finish le is = tt
more_below a b (Mark id) le is = tt
more_below a b (Clear id) le is = tt
more_below a b (Switch bank) le is = tt
more_below a b Follow le is = tt

all_acts : (P Q : Event → Type 0) → ((e : Event) → P e → Q e) → (acts : List Act) → AllActs P acts → AllActs Q acts
all_acts P Q f [] h = tt
all_acts P Q f (Call j ∷ acts) h = (tt, all_acts P Q f acts h.1)
all_acts P Q f (At n soft e ∷ acts) h = (f e h.0, all_acts P Q f acts h.1)

below_calm : (acts : List Act) (a : ℕ) → AllActs IsIdle acts → Below acts a a
below_calm acts a h = (omega arith, all_acts IsIdle (IsBelow a) (idle_below a) acts h)

below_append : (xs ys : List Act) (a b c : ℕ) → Below xs a b → Below ys b c → Below (xs ++ ys) a c
below_append xs ys a b c one two =
    let low = one.0 in let high = two.0 in (
      omega (arith, low, high),
      acts_append (IsBelow c) xs ys
          (all_acts (IsBelow b) (IsBelow c) (λ e. more_below b c e high) xs one.1) two.1,
    )

below_admit : (n id a : ℕ) (k : Level) → Below (at_own n k (Admit id a)) a (a + 1)
below_admit n id a level.High = (omega arith, tt)
below_admit n id a level.Lock = (omega arith, (omega arith, tt))
below_admit n id a level.Low = (omega arith, (omega arith, tt))

raised_below : (high n : ℕ) (soft : Soft) (id : ℕ) (l : SoftLevel) → AllActs (IsBelow high) (map (At n soft) (raised id l))
raised_below high n soft id l = by (count l id == l.ceiling) (count l id == 0)
  where
    by : (a b : Bool) → AllActs (IsBelow high)
        (map (At n soft) (cond a (Lose id ∷ []) (cond b (Expire id ∷ Publish ∷ []) (Expire id ∷ []))))
    by true b = (tt, tt)
    by false true = (tt, (tt, tt))
    by false false = (tt, tt)

expiry_below : (high n id : ℕ) (k : Level) (c : Cpu) → AllActs (IsBelow high) (expiry n k id c)
expiry_below high n id level.High c = (tt, tt)
expiry_below high n id level.Lock c = raised_below high n Lock id c.lock
expiry_below high n id level.Low c = raised_below high n Low id c.low

expiries_below : (high n : ℕ) (ps : List Expiration) (c : Cpu) → AllActs (IsBelow high) (expire_all n ps c).acts
expiries_below high n [] c = tt
expiries_below high n (p ∷ ps) c =
    acts_append (IsBelow high) (expire_here n p.id c).acts (expire_all n ps (expire_here n p.id c).cpu).acts
    (expiry_below high n p.id (handler_level_of p.id c) c) (expiries_below high n ps (expire_here n p.id c).cpu)

below_fires : (now : ℕ) (ns : List ℕ) (s : State) → Below (each (λ n. on_number n (fire_here n now)) ns s).acts s.admissions
    (each (λ n. on_number n (fire_here n now)) ns s).state.admissions
below_fires now [] s = (omega arith, tt)
below_fires now (n ∷ ns) s =
    let t = (on_number n (fire_here n now) s).state in
    below_append (fire_here n now (cpu_of n s)).acts (each (λ m. on_number m (fire_here m now)) ns t).acts s.admissions
    s.admissions
    (each (λ m. on_number m (fire_here m now)) ns t).state.admissions
    (omega arith, expiries_below s.admissions n (due_here now (cpu_of n s)) (cpu_of n s)) (below_fires now ns t)

below_shaped : (texts : List (List ℕ)) (step : ℕ) (x : Step) (s : State) → IsNoFire x
    → Below (does plain texts own_number step x s).acts s.admissions (does plain texts own_number step x s).state.admissions
below_shaped texts step x s is = shaped_does own_number Below below_calm below_append below_admit plain texts step x s is

below_does : (texts : List (List ℕ)) (step : ℕ) (x : Step) (s : State)
    → Below (does plain texts own_number step x s).acts s.admissions (does plain texts own_number step x s).state.admissions
below_does texts step (Advance now) s = below_fires now (cpus_online s) (record s { clock = now })
below_does texts step x s = below_shaped texts step x s tt

below_unless : (why : Option Refusal) (texts : List (List ℕ)) (step : ℕ) (x : Step) (s : State)
    → Below (unless why step x (does plain texts own_number step x) s).acts s.admissions
    (unless why step x (does plain texts own_number step x) s).state.admissions
below_unless None texts step x s = below_does texts step x s
below_unless (Some why) texts step x s = (omega arith, tt)

below_steps : (texts : List (List ℕ)) (step : ℕ) (xs : List Step) (s : State)
    → Below (steps_from plain texts own_number step xs s).acts s.admissions
    (steps_from plain texts own_number step xs s).state.admissions
below_steps texts step [] s = (omega arith, tt)
below_steps texts step (x ∷ xs) s =
    let o = word plain texts own_number step x s in
    below_append o.acts (steps_from plain texts own_number (step + 1) xs o.state).acts s.admissions o.state.admissions
    (steps_from plain texts own_number (step + 1) xs o.state).state.admissions
    (below_unless (refusal_of plain x s) texts step x s) (below_steps texts (step + 1) xs o.state)

-- ---- other indexes

-- a machine with no cyclic has none
new_bare : (f : ℕ → ℕ) (n ceiling : ℕ) → map (bare_cpu f) (replicate n (begun_cpu ceiling)) ≡ replicate n (begun_cpu ceiling)
new_bare f zero ceiling = refl
new_bare f (suc n) ceiling = ap (λ cs. begun_cpu ceiling ∷ cs) (new_bare f n ceiling)

start_bare : (f : ℕ → ℕ) (cpus ceiling names : ℕ) → bare f (start cpus ceiling names) ≡ start cpus ceiling names
start_bare f cpus ceiling names = λ z. record (start cpus ceiling names) { cpus = new_bare f cpus ceiling z }

module _ (f g : ℕ → ℕ) (high : ℕ) (same : (k : ℕ) → k < high → f k ≡ g k) where
  same_event : (e : Event) → IsBelow high e → bare_event f e ≡ bare_event g e
  same_event (Admit id k) low = ap (Admit id) (same k low)
  same_event (Expire id) low = refl
  same_event (Lose id) low = refl
  same_event Publish low = refl
  same_event Take low = refl
  same_event Finish low = refl
  same_event (Mark id) low = refl
  same_event (Clear id) low = refl
  same_event (Switch bank) low = refl
  same_event Follow low = refl

  same_acts : (acts : List Act) → AllActs (IsBelow high) acts → map (bare_act f) acts ≡ map (bare_act g) acts
  same_acts [] low = refl
  same_acts (Call j ∷ acts) low = ap (λ xs. Call j ∷ xs) (same_acts acts low.1)
  same_acts (At n soft e ∷ acts) low = (λ z. At n soft (same_event e low.0 z) ∷ same_acts acts low.1 z)

same_map : (F G : Cpu → Cpu) (cs : List Cpu)
    → ((n : ℕ) → n < length cs → F (slice_index_or cs n absent) ≡ G (slice_index_or cs n absent))
    → map F cs ≡ map G cs
same_map F G [] same = refl
same_map F G (c ∷ cs) same = (λ z. same 0 (omega arith) z ∷ same_map F G cs (λ n low. same (suc n) (omega (arith, low))) z)

module _ (cpus ceiling : ℕ) (texts : List (List ℕ)) (xs : List Step) where
  begun : State
  begun = start cpus ceiling (length texts)

  -- the run with these indexes
  relabeled : (f : ℕ → ℕ) → (bare_out f) (run_on own_number cpus ceiling texts xs) ≡ run_on f cpus ceiling texts xs
  relabeled f = steps_bare f own_number texts 1 xs (start cpus ceiling (length texts))
      ∙ ap (steps_from plain texts f 1 xs) (start_bare f cpus ceiling (length texts))

  pub same_line : (f g : ℕ → ℕ) → (run_on f cpus ceiling texts xs).line ≡ (run_on g cpus ceiling texts xs).line
  same_line f g = ap (λ (o : Outcome). o.line) (sym (relabeled f)) ∙ ap (λ (o : Outcome). o.line) (relabeled g)

  pub same_admissions : (f g : ℕ → ℕ)
      → (run_on f cpus ceiling texts xs).state.admissions ≡ (run_on g cpus ceiling texts xs).state.admissions
  same_admissions f g = ap (λ (o : Outcome). o.state.admissions) (sym (relabeled f))
      ∙ ap (λ (o : Outcome). o.state.admissions) (relabeled g)

  module _ (f g : ℕ → ℕ) (same : (k : ℕ) → k < (run_on f cpus ceiling texts xs).state.admissions → f k ≡ g k) where
    all_same : (run_on f cpus ceiling texts xs).acts ≡ (run_on g cpus ceiling texts xs).acts
    all_same =
        let o = run_on own_number cpus ceiling texts xs in
        let low = below_steps texts 1 xs (start cpus ceiling (length texts)) in
        let many = same_admissions own_number f in
        acts_relabeled f own_number cpus ceiling texts xs
        ∙ same_acts f g o.state.admissions (λ k less. same k (omega (arith, less, many))) o.acts low.1
        ∙ sym (acts_relabeled g own_number cpus ceiling texts xs)

    pub same_run : run_on f cpus ceiling texts xs ≡ run_on g cpus ceiling texts xs
    same_run =
        let o = run_on own_number cpus ceiling texts xs in
        let s = start cpus ceiling (length texts) in
        let levels : (n : ℕ) → n < length s.cpus → (soft : Soft)
        → level_on n soft (bare f o.state) ≡ level_on n soft (bare g o.state) =
        λ n low soft.
        ap (λ (p : Outcome). level_on n soft p.state) (relabeled f)
        ∙ (tells_steps plain texts f 1 xs s).tells.levels n low soft
        ∙ ap (λ acts. level_after (events_at n soft acts) (level_on n soft s)) all_same
        ∙ sym ((tells_steps plain texts g 1 xs s).tells.levels n low soft)
        ∙ ap (λ (p : Outcome). level_on n soft p.state) (sym (relabeled g)) in
        let many = (tells_steps plain texts own_number 1 xs s).tells.as_many in
        let cpus_same : map (bare_cpu f) o.state.cpus ≡ map (bare_cpu g) o.state.cpus =
        same_map (bare_cpu f) (bare_cpu g) o.state.cpus (λ n low.
        let c = cpu_of n o.state in
        let at : (h : ℕ → ℕ) (soft : Soft) → level_on n soft (bare h o.state) ≡ level_at soft (bare_cpu h c) =
        λ h soft. ap (level_at soft) (at_bare h n o.state) in
        let lock = sym (at f Lock) ∙ levels n (omega (arith, low, many)) Lock ∙ at g Lock in
        let soft_low = sym (at f Low) ∙ levels n (omega (arith, low, many)) Low ∙ at g Low in
        (λ z. record c { lock = lock z; low = soft_low z })) in
        sym (relabeled f)
        ∙ (λ z. record {
          line = o.line;
          acts =
              (sym (acts_relabeled f own_number cpus ceiling texts xs)) z;
          state = bare f o.state;
        })
        ∙ (λ z. record { line = o.line; acts = all_same z; state = record o.state { cpus = cpus_same z } })
        ∙ (λ z. record { line = o.line; acts = (acts_relabeled g own_number cpus ceiling texts xs) z; state = bare g o.state })
        ∙ relabeled g
