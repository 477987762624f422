-- A fire is what the definition says.
use Rattle.std.proofs.Common.{◌≡◌, ◌≢◌, ℕ, zero, suc, ◌+◌, ◌<◌, List, [], ◌∷◌, ◌++◌, length, map, find, filter, get_or, Bool}
use Rattle.std.proofs.Common.{true, false, cond, ◌==◌, eq-eqb, Option, Some, None, IsSome, refl, ap, sym, ◌∙◌, subst, arith}
use Rattle.std.specs.Prelude.{⊤}
use Rattle.std.specs.Option.{option_map, option_map_or}
use Rattle.std.proofs.lemmas.Bool.Decides.{nat_tests}
use Rattle.std.proofs.lemmas.List.Sums.{sum_by-append}
use Rattle.cyc_types.specs.Counting.{times}
use Rattle.cyc_types.specs.Firing.{FiringCall}
use Rattle.cyc_types.specs.Runs.{lost_by}
use Rattle.cyc_types.specs.declared.level.Level.{Level}
use Rattle.cyc_types.specs.declared.level.Level.TheVariants.{Low, Lock, High}
use Rattle.cyc_types.specs.declared.level.Soft.{Soft}
use Rattle.cyc_types.specs.declared.level.Soft.TheVariants as soft
use Rattle.cyc_level.specs.declared.Event.{Event}
use Rattle.cyc_level.specs.Events.{after as event_after}
use Rattle.cyc_types.specs.Expirations.{Expiration, expirations, times_of, after_expirations, all_after}
use Rattle.cyc_types.specs.Timers.{Timer}
use Rattle.cyc_types.proofs.Laws.{times_others}
use Rattle.cyc_core.specs.Tables.{Tables, level_of}
use Rattle.cyc_timers.specs.Rows.{Cyclic as Timed, timers as timed}
use Rattle.cyc_timers.specs.Acts.{ids_at, is_at, is_of_level as is_of_level, timer_of, same_level, lost_after, acting}
use Rattle.cyc_timers.specs.Made.{Makes, fire_state}
use Rattle.cyc_cpu.specs.Cpu.{CpuView, SameCpu}
use Rattle.cyc_cpu.specs.Soft.{raise_tables}
use Rattle.cyc_model.specs.Acts.{Act, At, Call, call_in, calls_of, losses_of, all_losses}
use Rattle.cyc_model.specs.Cpu.{CyclicState, Cpu, Here, happen, here, then_here, acts_first, timers_on, is_of, handler_level_of}
use Rattle.cyc_model.specs.Firing.{raised, expiry, expire_all, due_here, fired_cyclic, fire_these, fire_here}
use Rattle.cyc_model.specs.Serving.{level_after}
use Rattle.cyc_model.proofs.Events.{level_append, calls_append, zero_first}
use Rattle.cyc_model.proofs.Whole.{losses_append}
use Rattle.cyc_system_model.specs.ShownCpu.{shown_cyclic, shown_cpu}
use Rattle.cyc_system_model.proofs.Raising.{expiries, lost_of, lost_all, lost_of_append, lost_all_append, expired}

-- ---- acts of one level

pub lock_events : (n : ℕ) (es : List Event) (c : Cpu)
    → happen (map (At n soft.Lock) es) c ≡ record c { lock = level_after es c.lock }
lock_events n [] c = refl
lock_events n (e ∷ es) c = lock_events n es (record c { lock = event_after e c.lock })

pub low_events : (n : ℕ) (es : List Event) (c : Cpu) → happen (map (At n soft.Low) es) c ≡ record c { low = level_after es c.low }
low_events n [] c = refl
low_events n (e ∷ es) c = low_events n es (record c { low = event_after e c.low })

pub events_call_none : (n id : ℕ) (soft : Soft) (es : List Event) → calls_of id (map (At n soft) es) ≡ 0
events_call_none n id soft [] = refl
events_call_none n id soft (e ∷ es) = let r = events_call_none n id soft es in omega (arith, r)

pub events_lose : (n id : ℕ) (soft : Soft) (es : List Event) → losses_of id (map (At n soft) es) ≡ lost_of id es
events_lose n id soft [] = refl
events_lose n id soft (e ∷ es) = let r = events_lose n id soft es in omega (arith, r)

pub events_lose_all : (n : ℕ) (soft : Soft) (es : List Event) → all_losses (map (At n soft) es) ≡ lost_all es
events_lose_all n soft [] = refl
events_lose_all n soft (e ∷ es) = let r = events_lose_all n soft es in omega (arith, r)

losses_in_append : (xs ys : List Act) → all_losses (xs ++ ys) ≡ all_losses xs + all_losses ys
losses_in_append [] ys = zero_first (all_losses ys)
losses_in_append (At m s e ∷ xs) ys = let r = losses_in_append xs ys in omega (arith, r)
losses_in_append (Call j ∷ xs) ys = let r = losses_in_append xs ys in omega (arith, r)

-- ---- the level of an expiration

-- each of these is of a cyclic of the CPU
abbrev pub AllHere : List Expiration → List CyclicState → Type 0
AllHere [] cs = ⊤
AllHere (p ∷ ps) cs = IsSome (find (is_of p.id) cs) × AllHere ps cs

find_timer_at : (x : CyclicState) (o : Option CyclicState) (b : Bool)
    → cond b (Some x.timer) (option_map (λ y. y.timer) o) ≡ option_map (λ y. y.timer) (cond b (Some x) o)
find_timer_at x o true = refl
find_timer_at x o false = refl

find_timer : (id : ℕ) (cs : List CyclicState) → timer_of id (timers_on cs) ≡ option_map (λ y. y.timer) (find (is_of id) cs)
find_timer id [] = refl
find_timer id (x ∷ cs) = ap (cond (x.timer.id == id) (Some x.timer)) (find_timer id cs)
    ∙ find_timer_at x (find (is_of id) cs) (x.timer.id == id)

of_level_at : (level : Level) (o : Option CyclicState) → IsSome o → is_of_level level (option_map (λ y. y.timer) o)
    ≡ same_level level (option_map_or (λ y. y.timer.level) o High)
of_level_at level None some = absurd (let no : false ≡ true = some in cc)
of_level_at level (Some x) some = refl

of_level : (level : Level) (p : Expiration) (c : Cpu) → IsSome (find (is_of p.id) c.cyclics)
    → is_at level (timers_on c.cyclics) p ≡ same_level level (handler_level_of p.id c)
of_level level p c some = ap (is_of_level level) (find_timer p.id c.cyclics)
    ∙ of_level_at level (find (is_of p.id) c.cyclics) some

-- the ids of the expirations of a level, where that of the first is known
ids_as : (level : Level) (p : Expiration) (ps : List Expiration) (ts : List Timer) (b : Bool) → is_at level ts p ≡ b
    → ids_at level ts (p ∷ ps) ≡ cond b (p.id ∷ ids_at level ts ps) (ids_at level ts ps)
ids_as level p ps ts b is = ap (λ x. map (λ (q : Expiration). q.id)
    (cond x (p ∷ filter (is_at level ts) ps) (filter (is_at level ts) ps))) is ∙ pick b
  where
    pick : (b : Bool) → map (λ (q : Expiration). q.id) (cond b (p ∷ filter (is_at level ts) ps) (filter (is_at level ts) ps))
        ≡ cond b (p.id ∷ ids_at level ts ps) (ids_at level ts ps)
    pick true = refl
    pick false = refl

-- ---- all expirations of a fire

abbrev pub at : Level → List Expiration → Cpu → List ℕ
at level ps c = ids_at level (timers_on c.cyclics) ps

-- what these expirations do on the CPU: each level's in order, and the handlers' calls
pub record Does (ps : List Expiration) (c : Cpu) (d : Here) : Type 0 where
  pub cpu : d.cpu ≡ record c {
    lock = level_after (expiries (at Lock ps c) c.lock) c.lock;
    low = level_after (expiries (at Low ps c) c.low) c.low;
  }
  pub each : (id : ℕ) → losses_of id d.acts ≡ lost_of id (expiries (at Lock ps c) c.lock) + lost_of id
      (expiries (at Low ps c) c.low)
  pub lost : all_losses d.acts ≡ lost_all (expiries (at Lock ps c) c.lock) + lost_all (expiries (at Low ps c) c.low)
  pub calls : (id : ℕ) → calls_of id d.acts ≡ times id (at High ps c)

-- one expiration before others
step_as : (n : ℕ) (p : Expiration) (ps : List Expiration) (c e : Cpu) (level : Level) → handler_level_of p.id c ≡ level
    → happen (expiry n level p.id c) c ≡ e
    → Does (p ∷ ps) c (acts_first (expiry n level p.id c) (expire_all n ps e)) → Does (p ∷ ps) c (expire_all n (p ∷ ps) c)
step_as n p ps c e level is leads does =
    subst (Does (p ∷ ps) c)
    (sym (ap (λ l. then_here (here (expiry n l p.id c) c) (expire_all n ps)) is
    ∙ ap (λ x. acts_first (expiry n level p.id c) (expire_all n ps x)) leads)) does

at_lock : (n : ℕ) (p : Expiration) (ps : List Expiration) (c : Cpu) (d : Here) → IsSome (find (is_of p.id) c.cyclics)
    → handler_level_of p.id c ≡ Lock
    → Does ps (record c { lock = level_after (raised p.id c.lock) c.lock }) d
    → Does (p ∷ ps) c (acts_first (map (At n soft.Lock) (raised p.id c.lock)) d)
at_lock n p ps c d some is r =
    let es = raised p.id c.lock in
    let l = level_after es c.lock in
    let locks : at Lock (p ∷ ps) c ≡ p.id ∷ at Lock ps c =
    ids_as Lock p ps (timers_on c.cyclics) true (of_level Lock p c some ∙ ap (same_level Lock) is) in
    let lows : at Low (p ∷ ps) c ≡ at Low ps c =
    ids_as Low p ps (timers_on c.cyclics) false (of_level Low p c some ∙ ap (same_level Low) is) in
    let highs : at High (p ∷ ps) c ≡ at High ps c =
    ids_as High p ps (timers_on c.cyclics) false (of_level High p c some ∙ ap (same_level High) is) in
    let all : expiries (at Lock (p ∷ ps) c) c.lock ≡ es ++ expiries (at Lock ps c) l = ap (λ ids. expiries ids c.lock) locks in
    let same : expiries (at Low (p ∷ ps) c) c.low ≡ expiries (at Low ps c) c.low = ap (λ ids. expiries ids c.low) lows in
    let lock : level_after (expiries (at Lock ps c) l) l ≡ level_after (expiries (at Lock (p ∷ ps) c) c.lock) c.lock =
    sym (ap (λ xs. level_after xs c.lock) all ∙ level_append es (expiries (at Lock ps c) l) c.lock) in
    let low : level_after (expiries (at Low ps c) c.low) c.low ≡ level_after (expiries (at Low (p ∷ ps) c) c.low) c.low =
    ap (λ xs. level_after xs c.low) (sym same) in
    record {
      cpu = r.cpu ∙ (λ z. record c { lock = lock z; low = low z });
      each = λ id.
          let whole = losses_append id (map (At n soft.Lock) es) d.acts in
          let first = events_lose n id soft.Lock es in
          let rest = r.each id in
          let both = lost_of_append id es (expiries (at Lock ps c) l) in
          let a = ap (lost_of id) all in
          let b = ap (lost_of id) same in
          omega (arith, whole, first, rest, both, a, b);
      lost =
          (let whole = losses_in_append (map (At n soft.Lock) es) d.acts in
          let first = events_lose_all n soft.Lock es in
          let rest = r.lost in
          let both = lost_all_append es (expiries (at Lock ps c) l) in
          let a = ap lost_all all in
          let b = ap lost_all same in
          omega (arith, whole, first, rest, both, a, b));
      calls = λ id.
          let whole = calls_append id (map (At n soft.Lock) es) d.acts in
          let first = events_call_none n id soft.Lock es in
          let rest = r.calls id in
          let a = ap (times id) highs in
          omega (arith, whole, first, rest, a);
    }

at_low : (n : ℕ) (p : Expiration) (ps : List Expiration) (c : Cpu) (d : Here) → IsSome (find (is_of p.id) c.cyclics)
    → handler_level_of p.id c ≡ Low
    → Does ps (record c { low = level_after (raised p.id c.low) c.low }) d
    → Does (p ∷ ps) c (acts_first (map (At n soft.Low) (raised p.id c.low)) d)
at_low n p ps c d some is r =
    let es = raised p.id c.low in
    let l = level_after es c.low in
    let locks : at Lock (p ∷ ps) c ≡ at Lock ps c =
    ids_as Lock p ps (timers_on c.cyclics) false (of_level Lock p c some ∙ ap (same_level Lock) is) in
    let lows : at Low (p ∷ ps) c ≡ p.id ∷ at Low ps c =
    ids_as Low p ps (timers_on c.cyclics) true (of_level Low p c some ∙ ap (same_level Low) is) in
    let highs : at High (p ∷ ps) c ≡ at High ps c =
    ids_as High p ps (timers_on c.cyclics) false (of_level High p c some ∙ ap (same_level High) is) in
    let all : expiries (at Low (p ∷ ps) c) c.low ≡ es ++ expiries (at Low ps c) l = ap (λ ids. expiries ids c.low) lows in
    let same : expiries (at Lock (p ∷ ps) c) c.lock ≡ expiries (at Lock ps c) c.lock = ap (λ ids. expiries ids c.lock) locks in
    let low : level_after (expiries (at Low ps c) l) l ≡ level_after (expiries (at Low (p ∷ ps) c) c.low) c.low =
    sym (ap (λ xs. level_after xs c.low) all ∙ level_append es (expiries (at Low ps c) l) c.low) in
    let lock : level_after (expiries (at Lock ps c) c.lock) c.lock ≡ level_after (expiries (at Lock (p ∷ ps) c) c.lock) c.lock =
    ap (λ xs. level_after xs c.lock) (sym same) in
    record {
      cpu = r.cpu ∙ (λ z. record c { lock = lock z; low = low z });
      each = λ id.
          let whole = losses_append id (map (At n soft.Low) es) d.acts in
          let first = events_lose n id soft.Low es in
          let rest = r.each id in
          let both = lost_of_append id es (expiries (at Low ps c) l) in
          let a = ap (lost_of id) all in
          let b = ap (lost_of id) same in
          omega (arith, whole, first, rest, both, a, b);
      lost =
          (let whole = losses_in_append (map (At n soft.Low) es) d.acts in
          let first = events_lose_all n soft.Low es in
          let rest = r.lost in
          let both = lost_all_append es (expiries (at Low ps c) l) in
          let a = ap lost_all all in
          let b = ap lost_all same in
          omega (arith, whole, first, rest, both, a, b));
      calls = λ id.
          let whole = calls_append id (map (At n soft.Low) es) d.acts in
          let first = events_call_none n id soft.Low es in
          let rest = r.calls id in
          let a = ap (times id) highs in
          omega (arith, whole, first, rest, a);
    }

times_more : (id j : ℕ) (ids : List ℕ) → times id (j ∷ ids) ≡ call_in id (Call j) + times id ids
times_more id j ids = let whole = sum_by-append (λ (c : ℕ). cond (c == id) 1 0) (j ∷ []) ids in omega (arith, whole)

at_high : (n : ℕ) (p : Expiration) (ps : List Expiration) (c : Cpu) (d : Here) → IsSome (find (is_of p.id) c.cyclics)
    → handler_level_of p.id c ≡ High
    → Does ps c d → Does (p ∷ ps) c (acts_first (Call p.id ∷ []) d)
at_high n p ps c d some is r =
    let locks : at Lock (p ∷ ps) c ≡ at Lock ps c =
    ids_as Lock p ps (timers_on c.cyclics) false (of_level Lock p c some ∙ ap (same_level Lock) is) in
    let lows : at Low (p ∷ ps) c ≡ at Low ps c =
    ids_as Low p ps (timers_on c.cyclics) false (of_level Low p c some ∙ ap (same_level Low) is) in
    let highs : at High (p ∷ ps) c ≡ p.id ∷ at High ps c =
    ids_as High p ps (timers_on c.cyclics) true (of_level High p c some ∙ ap (same_level High) is) in
    let a : expiries (at Lock ps c) c.lock ≡ expiries (at Lock (p ∷ ps) c) c.lock = ap (λ ids. expiries ids c.lock) (sym locks) in
    let b : expiries (at Low ps c) c.low ≡ expiries (at Low (p ∷ ps) c) c.low = ap (λ ids. expiries ids c.low) (sym lows) in
    record {
      cpu = r.cpu ∙ (λ z. record c { lock = level_after (a z) c.lock; low = level_after (b z) c.low });
      each = λ id. let rest = r.each id in let x = ap (lost_of id) a in let y = ap (lost_of id) b in omega (arith, rest, x, y);
      lost = (let rest = r.lost in let x = ap lost_all a in let y = ap lost_all b in omega (arith, rest, x, y));
      calls = λ id. let rest = r.calls id in let x = ap (times id) highs in let y = times_more id p.id (at High ps c) in
          omega (arith, rest, x, y);
    }

one_more : (n : ℕ) (p : Expiration) (ps : List Expiration) (c : Cpu) (level : Level) → handler_level_of p.id c ≡ level
    → IsSome (find (is_of p.id) c.cyclics) → ((e : Cpu) → e.cyclics ≡ c.cyclics → Does ps e (expire_all n ps e))
    → Does (p ∷ ps) c (expire_all n (p ∷ ps) c)
one_more n p ps c High is some rest = step_as n p ps c c High is refl (at_high n p ps c (expire_all n ps c) some is (rest c refl))
one_more n p ps c Lock is some rest =
    let e = record c { lock = level_after (raised p.id c.lock) c.lock } in
    step_as n p ps c e Lock is (lock_events n (raised p.id c.lock) c) (at_lock n p ps c (expire_all n ps e) some is (rest e refl))
one_more n p ps c Low is some rest =
    let e = record c { low = level_after (raised p.id c.low) c.low } in
    step_as n p ps c e Low is (low_events n (raised p.id c.low) c) (at_low n p ps c (expire_all n ps e) some is (rest e refl))

pub all_do : (n : ℕ) (ps : List Expiration) (c : Cpu) → AllHere ps c.cyclics → Does ps c (expire_all n ps c)
all_do n [] c here = record { cpu = refl; each = λ id. refl; lost = refl; calls = λ id. refl }
all_do n (p ∷ ps) c here = one_more n p ps c (handler_level_of p.id c) refl here.0
    (λ e same. all_do n ps e (subst (AllHere ps) (sym same) here.1))

-- ---- each expiration is of a cyclic

not_same : (a b : ℕ) → (a == b) ≡ false → a ≢ b
not_same a b e = grind (arith, nat_tests)

abbrev NoneOf : ℕ → List Timer → Type 0
NoneOf id ts = (k : ℕ) (d : Timer) → k < length ts → (get_or ts k d).id ≢ id

none_more : (id : ℕ) (t : Timer) (ts : List Timer) → t.id ≢ id → NoneOf id ts → NoneOf id (t ∷ ts)
none_more id t ts ne none zero d low = ne
none_more id t ts ne none (suc k) d low = none k d (omega (arith, low))

not_first : (id : ℕ) (c : Timed) (cs : List Timed) (b : Bool) → (c.timer.id == id) ≡ b
    → (find (is_of id) (map shown_cyclic cs) ≡ None → NoneOf id (timed cs))
    → cond b (Some (shown_cyclic c)) (find (is_of id) (map shown_cyclic cs)) ≡ None → NoneOf id (timed (c ∷ cs))
not_first id c cs true is rest e = absurd (let no : Some (shown_cyclic c) ≡ None = e in cc)
not_first id c cs false is rest e = none_more id c.timer (timed cs) (not_same c.timer.id id is) (rest e)

not_found : (id : ℕ) (cs : List Timed) → find (is_of id) (map shown_cyclic cs) ≡ None → NoneOf id (timed cs)
not_found id [] none k d low = absurd (omega (arith, low))
not_found id (c ∷ cs) none k d low = not_first id c cs (c.timer.id == id) refl (not_found id cs) none k d low

abbrev one_if : Bool → ℕ
one_if b = cond b 1 0

first_times : (id : ℕ) (p : Expiration) (ps : List Expiration) → times_of id (p ∷ ps) ≡ one_if (p.id == id) + times_of id ps
first_times id p ps = let whole = sum_by-append (λ (q : Expiration). cond (q.id == id) 1 0) (p ∷ []) ps in omega (arith, whole)

some_or_none : {A : Type 0} (o : Option A) → (o ≡ None → ⊥) → IsSome o
some_or_none None h = absurd (h refl)
some_or_none (Some x) h = refl

pub all_here : (ps : List Expiration) (cs : List CyclicState) → ((id : ℕ) → find (is_of id) cs ≡ None → times_of id ps ≡ 0)
    → AllHere ps cs
all_here [] cs none = tt
all_here (p ∷ ps) cs none = (
  some_or_none (find (is_of p.id) cs) (λ e. let zero_times = none p.id e in let one = ap one_if (eq-eqb p.id p.id refl) in
      let first = first_times p.id p ps in absurd (omega (arith, zero_times, one, first))),
  all_here ps cs (λ id e. let zero_times = none id e in let first = first_times id p ps in omega (arith, zero_times, first)),
)

pub due_are_here : (now : ℕ) (cs : List Timed) → AllHere (expirations now (timed cs)) (map shown_cyclic cs)
due_are_here now cs = all_here (expirations now (timed cs)) (map shown_cyclic cs)
    (λ id e. times_others now id (timed cs) (not_found id cs e))

-- ---- the cyclics after it

fired_shown : (now : ℕ) (made : List Expiration) (acts : List Act) (lock_way low_way : List FiringCall) (cs ds : List Timed)
    → timed ds ≡ all_after now made (timed cs)
    → map (λ (c : Timed). c.lost) ds ≡ map (λ (c : Timed). lost_after lock_way low_way c.timer.id c.lost) cs
    → ((id : ℕ) → losses_of id acts ≡ lost_by id lock_way + lost_by id low_way)
    → map shown_cyclic ds ≡ map (fired_cyclic now made acts) (map shown_cyclic cs)
unfolding all_after
fired_shown now made acts lock_way low_way [] [] moved lost each = refl
fired_shown now made acts lock_way low_way [] (d ∷ ds) moved lost each = absurd (let no = ap length moved in omega (arith, no))
fired_shown now made acts lock_way low_way (c ∷ cs) [] moved lost each = absurd (let no = ap length moved in omega (arith, no))
fired_shown now made acts lock_way low_way (c ∷ cs) (d ∷ ds) moved lost each =
    let timer : d.timer ≡ after_expirations now made c.timer = ap (λ xs. get_or xs 0 d.timer) moved in
    let more : d.lost ≡ lost_after lock_way low_way c.timer.id c.lost = ap (λ xs. get_or xs 0 d.lost) lost in
    let a = each c.timer.id in
    let all : d.lost ≡ c.lost + losses_of c.timer.id acts = omega (arith, more, a) in
    let rest = fired_shown now made acts lock_way low_way cs ds (ap tail moved) (ap tail lost) each in
    λ z. record { timer = timer z; lost = all z } ∷ rest z
  where
    tail : {A : Type 0} → List A → List A
    tail [] = []
    tail (x ∷ xs) = xs

-- ---- the whole fire

pub same_timers : (cs : List Timed) → timers_on (map shown_cyclic cs) ≡ timed cs
same_timers [] = refl
same_timers (c ∷ cs) = ap (λ ts. c.timer ∷ ts) (same_timers cs)

-- expirations of its cyclics that were made are made there
pub fires_these : {C : Type 0} (called : C → ℕ → C → Type 0) (count : C → ℕ
    → ℕ) (n now lost : ℕ) (online : Bool) (made : List Expiration) (v w : CpuView Tables) (t u : C)
    → AllHere made (map shown_cyclic v.cyclics)
    → Makes (acting called count raise_tables) now made (fire_state v.cyclics (record { calls = t; lock = v.lock; low = v.low }))
    (fire_state w.cyclics (record { calls = u; lock = w.lock; low = w.low })) lost
    → SameCpu v w
    → (shown_cpu online w ≡ (fire_these n now made (shown_cpu online v)).cpu)
    × ((id : ℕ) → count u id ≡ count t id + calls_of id (fire_these n now made (shown_cpu online v)).acts)
    × (lost ≡ all_losses (fire_these n now made (shown_cpu online v)).acts)
fires_these called count n now lost online made v w t u here m same =
    let c = shown_cpu online v in
    let ts = same_timers v.cyclics in
    let d = expire_all n made c in
    let does = all_do n made c here in
    let lock = expired (ids_at Lock (timed v.cyclics) made) m.acts.lock_way v.lock w.lock m.acts.lock_goes m.acts.lock_raises in
    let low = expired (ids_at Low (timed v.cyclics) made) m.acts.low_way v.low w.low m.acts.low_goes m.acts.low_raises in
    let locks : at Lock made c ≡ ids_at Lock (timed v.cyclics) made = ap (λ xs. ids_at Lock xs made) ts in
    let lows : at Low made c ≡ ids_at Low (timed v.cyclics) made = ap (λ xs. ids_at Low xs made) ts in
    let highs : at High made c ≡ ids_at High (timed v.cyclics) made = ap (λ xs. ids_at High xs made) ts in
    let each : (id : ℕ) → losses_of id d.acts ≡ lost_by id m.acts.lock_way + lost_by id m.acts.low_way = λ id.
    let whole = does.each id in
    let a = ap (λ ids. lost_of id (expiries ids c.lock)) locks in
    let b = ap (λ ids. lost_of id (expiries ids c.low)) lows in
    let x = lock.each id in
    let y = low.each id in
    omega (arith, whole, a, b, x, y) in
    let cyclics : map shown_cyclic w.cyclics ≡ map (fired_cyclic now made d.acts) d.cpu.cyclics =
    fired_shown now made d.acts m.acts.lock_way m.acts.low_way v.cyclics w.cyclics m.timers_are m.losses_are each
    ∙ ap (λ (x : Cpu). map (fired_cyclic now made d.acts) x.cyclics) (sym does.cpu) in
    let at_lock_level : level_of w.lock ≡ d.cpu.lock = lock.level
    ∙ ap (λ ids. level_after (expiries ids c.lock) c.lock) (sym locks) ∙ ap (λ (x : Cpu). x.lock) (sym does.cpu) in
    let at_low_level : level_of w.low ≡ d.cpu.low = low.level ∙ ap (λ ids. level_after (expiries ids c.low) c.low) (sym lows)
    ∙ ap (λ (x : Cpu). x.low) (sym does.cpu) in
    let size : w.size ≡ d.cpu.size = same.size ∙ ap (λ (x : Cpu). x.size) (sym does.cpu) in
    let removal : w.removal ≡ d.cpu.removal = same.removal ∙ ap (λ (x : Cpu). x.removal) (sym does.cpu) in
    let up : online ≡ d.cpu.online = ap (λ (x : Cpu). x.online) (sym does.cpu) in
    let cpu : shown_cpu online w ≡ (fire_these n now made c).cpu = λ z. record {
      online = up z;
      cyclics = cyclics z;
      size = size z;
      removal = removal z;
      lock = at_lock_level z;
      low = at_low_level z;
    } in (
      cpu,
      λ id.
          let counted = m.acts.counted id in
          let calls = does.calls id in
          let a = ap (times id) highs in
          omega (arith, counted, calls, a),
      (let is = m.lost_is in
          let all = does.lost in
          let a = ap (λ ids. lost_all (expiries ids c.lock)) locks in
          let b = ap (λ ids. lost_all (expiries ids c.low)) lows in
          let x = lock.lost in
          let y = low.lost in
          omega (arith, is, all, a, b, x, y)),
    )

pub fires_here : {C : Type 0} (called : C → ℕ → C → Type 0) (count : C → ℕ
    → ℕ) (n now lost : ℕ) (online : Bool) (v w : CpuView Tables) (t u : C)
    → Makes (acting called count raise_tables) now (expirations now (timed v.cyclics)) (fire_state v.cyclics (record {
      calls =
          t;
      lock = v.lock;
      low = v.low;
    }))
    (fire_state w.cyclics (record { calls = u; lock = w.lock; low = w.low })) lost
    → SameCpu v w
    → (shown_cpu online w ≡ (fire_here n now (shown_cpu online v)).cpu)
    × ((id : ℕ) → count u id ≡ count t id + calls_of id (fire_here n now (shown_cpu online v)).acts)
    × (lost ≡ all_losses (fire_here n now (shown_cpu online v)).acts)
fires_here called count n now lost online v w t u m same =
    let c = shown_cpu online v in
    let dues : due_here now c ≡ expirations now (timed v.cyclics) = ap (expirations now) (same_timers v.cyclics) in
    let r = fires_these called count n now lost online (expirations now (timed v.cyclics)) v w t u
    (due_are_here now v.cyclics) m same in (
      r.0 ∙ ap (λ ps. (fire_these n now ps c).cpu) (sym dues),
      λ id. r.1 id ∙ ap (λ ps. count t id + calls_of id (fire_these n now ps c).acts) (sym dues),
      r.2 ∙ ap (λ ps. all_losses (fire_these n now ps c).acts) (sym dues),
    )
