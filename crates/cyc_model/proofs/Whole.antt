-- A CPU that is whole: its cyclics, its size and its open removal go with its soft levels.
use Rattle.std.proofs.Common.{◌≡◌, ◌≢◌, ℕ, ◌+◌, ◌≤◌, ◌==◌, ◌&&◌, eq-eqb, Bool, true, false, cond, List, [], ◌∷◌, ◌++◌, length}
use Rattle.std.proofs.Common.{Option, Some, None, refl, ap, sym, ◌∙◌, subst, inl, inr, ◌⊎◌, arith}
use Rattle.std.specs.Prelude.{⊤, IsSome}
use Rattle.std.specs.Option.{option_map, option_map_or}
use Rattle.cyc_types.specs.Series.{never}
use Rattle.cyc_types.specs.declared.level.Soft.{Soft}
use Rattle.cyc_types.specs.declared.level.Soft.TheVariants.{Low, Lock}
use Rattle.cyc_types.specs.declared.level.Level.{Level}
use Rattle.cyc_types.specs.declared.level.Level.TheVariants as level
use Rattle.cyc_level.specs.declared.Event.{Event}
use Rattle.cyc_level.specs.declared.Event.TheVariants.{Admit, Expire, Lose, Publish, Take, Finish, Mark, Clear, Switch, Follow}
use Rattle.cyc_level.specs.Level.{SoftLevel, AdmittedCyclic, Cyclics, count, count_in}
use Rattle.cyc_level.specs.Events.{after, after_finish, changed_at, cyclic_after_expire, cyclic_after_lose, cyclic_after_finish}
use Rattle.cyc_level.proofs.Maps.{is_some_of}
use Rattle.cyc_model.specs.Acts.{Act, At, Call, at_own, same_soft, events_at, calls_of, losses_of, loss_of}
use Rattle.cyc_model.specs.Cpu.{CyclicState, Cpu, Here, cpu_after, happen, then_here, handler_level_of}
use Rattle.cyc_model.specs.Questions.{outstanding_here}
use Rattle.cyc_model.specs.Serving.{level_at, level_after}
use Rattle.cyc_types.specs.Levels.{as_level}
use Rattle.cyc_model.specs.Agreement.{StateAgrees}
use Rattle.cyc_model.proofs.Agreement.{AllActs}
use Rattle.cyc_model.proofs.Events.{events_append, calls_append, zero_first}
use Rattle.cyc_model.proofs.Local.{Local}
use Rattle.cyc_model.proofs.Rising.{Rising, found}
use Rattle.cyc_model.proofs.Fit.{Fit, AllRest, fit_along, count_along, all_finishes, all_brings}

pub record Whole (c : Cpu) : Type 0 where
  pub agrees : StateAgrees c
  pub free : (soft : Soft) → (level_at soft c).firer_hand ≡ None
  pub fit : (soft : Soft) → Fit (level_at soft c)
  -- what is admitted is a cyclic of the level
  pub back : (soft : Soft) (id : ℕ) → IsSome ((level_at soft c).cyclics id) → handler_level_of id c ≡ as_level soft
  -- the marked id is the one whose removal is open
  pub marks : (soft : Soft) (id : ℕ) → (level_at soft c).marked ≡ Some id
      → (c.removal ≡ Some id) × (handler_level_of id c ≡ as_level soft)
  pub marked : (soft : Soft) (id : ℕ) → c.removal ≡ Some id → handler_level_of id c ≡ as_level soft
      → (level_at soft c).marked ≡ Some id
  pub rising : Rising 0 c.cyclics
  pub room : length c.cyclics ≤ c.size
  -- it doesn't expire, and is on the CPU
  pub still : (id : ℕ) (x : CyclicState) → c.removal ≡ Some id → found id c.cyclics ≡ Some x → x.timer.moment ≡ never
  pub held : (id : ℕ) → c.removal ≡ Some id → IsSome (found id c.cyclics)

-- ---- acts change the levels alone

pub record Same (c d : Cpu) : Type 0 where
  pub cyclics : d.cyclics ≡ c.cyclics
  pub size : d.size ≡ c.size
  pub removal : d.removal ≡ c.removal
  pub online : d.online ≡ c.online

pub same_act : (a : Act) (c : Cpu) → Same c (cpu_after a c)
same_act (At n Low e) c = record { cyclics = refl; size = refl; removal = refl; online = refl }
same_act (At n Lock e) c = record { cyclics = refl; size = refl; removal = refl; online = refl }
same_act (Call id) c = record { cyclics = refl; size = refl; removal = refl; online = refl }

pub same_then : (c d e : Cpu) → Same c d → Same d e → Same c e
same_then c d e one two = record {
  cyclics = two.cyclics ∙ one.cyclics;
  size = two.size ∙ one.size;
  removal = two.removal ∙ one.removal;
  online = two.online ∙ one.online;
}

pub same_happen : (acts : List Act) (c : Cpu) → Same c (happen acts c)
same_happen [] c = record { cyclics = refl; size = refl; removal = refl; online = refl }
same_happen (a ∷ acts) c = same_then c (cpu_after a c) (happen acts (cpu_after a c)) (same_act a c)
    (same_happen acts (cpu_after a c))

-- ---- events that neither begin a stay nor end one, and leave the mark

abbrev pub IsSteady : Event → Type 0
IsSteady (Admit id index) = ⊥
IsSteady (Mark id) = ⊥
IsSteady (Clear id) = ⊥
IsSteady _ = ⊤

abbrev pub AllSteady : List Event → Type 0
AllSteady [] = ⊤
AllSteady (e ∷ es) = IsSteady e × AllSteady es

changed_back : (m : Cyclics) (id : ℕ) (f : AdmittedCyclic → AdmittedCyclic) (j : ℕ) → IsSome (changed_at m id (option_map f) j)
    → IsSome (m j)
changed_back m id f j = by (j == id)
  where
    mapped : (o : Option AdmittedCyclic) → IsSome (option_map f o) → IsSome o
    mapped None h = h
    mapped (Some c) h = refl

    by : (b : Bool) → IsSome (cond b (option_map f (m j)) (m j)) → IsSome (m j)
    by true h = mapped (m j) h
    by false h = h

finish_back : (hand : Option ℕ) (l : SoftLevel) (j : ℕ) → IsSome ((after_finish hand l).cyclics j) → IsSome (l.cyclics j)
finish_back None l j h = h
finish_back (Some id) l j h = changed_back l.cyclics id cyclic_after_finish j h

finish_marked : (hand : Option ℕ) (l : SoftLevel) → (after_finish hand l).marked ≡ l.marked
finish_marked None l = refl
finish_marked (Some id) l = refl

steady_back : (e : Event) (l : SoftLevel) (j : ℕ) → IsSteady e → IsSome ((after e l).cyclics j) → IsSome (l.cyclics j)
steady_back (Admit id index) l j is h = absurd is
steady_back (Expire id) l j is h = changed_back l.cyclics id cyclic_after_expire j h
steady_back (Lose id) l j is h = changed_back l.cyclics id cyclic_after_lose j h
steady_back Publish l j is h = h
steady_back Take l j is h = h
steady_back Finish l j is h = finish_back l.drainer_hand l j h
steady_back (Mark id) l j is h = absurd is
steady_back (Clear id) l j is h = absurd is
steady_back (Switch bank) l j is h = h
steady_back Follow l j is h = h

steady_marked : (e : Event) (l : SoftLevel) → IsSteady e → (after e l).marked ≡ l.marked
steady_marked (Admit id index) l is = absurd is
steady_marked (Expire id) l is = refl
steady_marked (Lose id) l is = refl
steady_marked Publish l is = refl
steady_marked Take l is = refl
steady_marked Finish l is = finish_marked l.drainer_hand l
steady_marked (Mark id) l is = absurd is
steady_marked (Clear id) l is = absurd is
steady_marked (Switch bank) l is = refl
steady_marked Follow l is = refl

pub all_back : (es : List Event) (l : SoftLevel) (j : ℕ) → AllSteady es → IsSome ((level_after es l).cyclics j)
    → IsSome (l.cyclics j)
all_back [] l j is h = h
all_back (e ∷ es) l j is h = steady_back e l j is.0 (all_back es (after e l) j is.1 h)

pub all_marked : (es : List Event) (l : SoftLevel) → AllSteady es → (level_after es l).marked ≡ l.marked
all_marked [] l is = refl
all_marked (e ∷ es) l is = all_marked es (after e l) is.1 ∙ steady_marked e l is.0

pub steady_events : (n : ℕ) (soft : Soft) (acts : List Act) → AllActs IsSteady acts → AllSteady (events_at n soft acts)
steady_events n soft [] h = tt
steady_events n soft (Call id ∷ acts) h = steady_events n soft acts h.1
steady_events n soft (At m s e ∷ acts) h = by ((m == n) && same_soft s soft) (steady_events n soft acts h.1)
  where
    by : (b : Bool) → AllSteady (events_at n soft acts) → AllSteady (cond b (e ∷ []) [] ++ events_at n soft acts)
    by true rest = (h.0, rest)
    by false rest = rest

-- ---- what is done on a whole CPU

-- the acts can happen as far as they were left
abbrev pub RestAt : ℕ → List Act → Cpu → Type 0
RestAt n acts c = (soft : Soft) → AllRest (events_at n soft acts) (level_at soft c)

module _ (n : ℕ) (c : Cpu) (d : Here) (w : Whole c) (h : Local n c d) (rest : RestAt n d.acts c) where
  pub fit_here : (soft : Soft) → Fit (level_at soft d.cpu)
  fit_here soft = subst (λ l. Fit l) (sym (h.levels soft))
      (fit_along (events_at n soft d.acts) (level_at soft c) (w.fit soft) (h.fair soft (w.free soft)).0
      (h.ready w.agrees soft (w.free soft)) (rest soft))

  pub free_here : (soft : Soft) → (level_at soft d.cpu).firer_hand ≡ None
  free_here soft = ap (λ (l : SoftLevel). l.firer_hand) (h.levels soft) ∙ (h.fair soft (w.free soft)).1

  -- the outstanding calls of an id
  pub count_here : (soft : Soft) (j : ℕ)
      → count (level_at soft d.cpu) j + all_finishes j (events_at n soft d.acts) (level_at soft c)
      ≡ count (level_at soft c) j + all_brings j (events_at n soft d.acts)
  count_here soft j =
      ap (λ (l : SoftLevel). count l j + all_finishes j (events_at n soft d.acts) (level_at soft c)) (h.levels soft)
      ∙ count_along (events_at n soft d.acts) (level_at soft c) j (w.fit soft) (h.fair soft (w.free soft)).0
      (h.ready w.agrees soft (w.free soft)) (rest soft)

  -- where the cyclics stay as they are, and the size has room for them
  pub whole_resized : d.cpu.cyclics ≡ c.cyclics → d.cpu.removal ≡ c.removal → length c.cyclics ≤ d.cpu.size
      → ((soft : Soft) → AllSteady (events_at n soft d.acts)) → Whole d.cpu
  whole_resized cyclics removal room steady = record {
    agrees = h.agrees w.agrees;
    free = free_here;
    fit = fit_here;
    back = λ soft id some. at_level id ∙ w.back soft id (all_back (events_at n soft d.acts) (level_at soft c) id (steady soft)
        (subst (λ (l : SoftLevel). IsSome (l.cyclics id)) (h.levels soft) some));
    marks = λ soft id is. let was = w.marks soft id (sym (same_mark soft) ∙ is) in (removal ∙ was.0, at_level id ∙ was.1);
    marked = λ soft id is at. same_mark soft ∙ w.marked soft id (sym removal ∙ is) (sym (at_level id) ∙ at);
    rising = subst (Rising 0) (sym cyclics) w.rising;
    room = subst (λ cs. length cs ≤ d.cpu.size) (sym cyclics) room;
    still = λ id x is at. w.still id x (sym removal ∙ is) (sym (ap (found id) cyclics) ∙ at);
    held = λ id is. subst (λ cs. IsSome (found id cs)) (sym cyclics) (w.held id (sym removal ∙ is));
  }
    where
      at_level : (id : ℕ) → handler_level_of id d.cpu ≡ handler_level_of id c
      at_level id = ap (λ cs. option_map_or (λ (x : CyclicState). x.timer.level) (found id cs) level.High) cyclics

      same_mark : (soft : Soft) → (level_at soft d.cpu).marked ≡ (level_at soft c).marked
      same_mark soft = ap (λ (l : SoftLevel). l.marked) (h.levels soft)
          ∙ all_marked (events_at n soft d.acts) (level_at soft c) (steady soft)

  pub whole_onward : Same c d.cpu → ((soft : Soft) → AllSteady (events_at n soft d.acts)) → Whole d.cpu
  whole_onward same steady = whole_resized same.cyclics same.removal (subst (λ k. length c.cyclics ≤ k) (sym same.size) w.room)
      steady

-- what was done on the CPU: what it was, what it left, and so many expirations of each id
pub record Done (n : ℕ) (made : ℕ → ℕ) (c : Cpu) (d : Here) : Type 0 where
  pub local : Local n c d
  pub rest : RestAt n d.acts c
  pub whole : Whole d.cpu
  -- each expiration is called, lost or outstanding
  pub books : (id : ℕ) → outstanding_here id d.cpu + calls_of id d.acts + losses_of id d.acts ≡ outstanding_here id c + made id

pub losses_append : (id : ℕ) (xs ys : List Act) → losses_of id (xs ++ ys) ≡ losses_of id xs + losses_of id ys
losses_append id [] ys = zero_first (losses_of id ys)
losses_append id (At n soft e ∷ xs) ys = let h = losses_append id xs ys in omega (arith, h)
losses_append id (Call j ∷ xs) ys = losses_append id xs ys

pub rest_append : (xs ys : List Event) (l : SoftLevel) → AllRest xs l → AllRest ys (level_after xs l) → AllRest (xs ++ ys) l
rest_append [] ys l first rest = rest
rest_append (x ∷ xs) ys l first rest = (first.0, rest_append xs ys (after x l) first.1 rest)

-- ---- one event of a cyclic at its level

pub own_cases : (n : ℕ) (k : Level) (soft : Soft) (e : Event)
    → ((k ≡ as_level soft) × (events_at n soft (at_own n k e) ≡ e ∷ []))
    ⊎ ((k ≢ as_level soft) × (events_at n soft (at_own n k e) ≡ []))
own_cases n level.High Low e = inr ((λ is. let no : level.High ≡ level.Low = is in absurd (cc)), refl)
own_cases n level.High Lock e = inr ((λ is. let no : level.High ≡ level.Lock = is in absurd (cc)), refl)
own_cases n level.Low Low e = inl (refl, ap (λ (b : Bool). cond (b && true) (e ∷ []) [] ++ []) (eq-eqb n n refl))
own_cases n level.Low Lock e = inr (
  (λ is. let no : level.Low
      ≡ level.Lock = is in absurd (cc)),
  ap (λ (b : Bool). cond (b && false) (e ∷ []) [] ++ []) (eq-eqb n n refl),
)
own_cases n level.Lock Low e = inr (
  (λ is. let no : level.Lock
      ≡ level.Low = is in absurd (cc)),
  ap (λ (b : Bool). cond (b && false) (e ∷ []) [] ++ []) (eq-eqb n n refl),
)
own_cases n level.Lock Lock e = inl (refl, ap (λ (b : Bool). cond (b && true) (e ∷ []) [] ++ []) (eq-eqb n n refl))

pub calls_own : (n id : ℕ) (k : Level) (e : Event) → calls_of id (at_own n k e) ≡ 0
calls_own n id level.High e = refl
calls_own n id level.Low e = refl
calls_own n id level.Lock e = refl

pub losses_own : (n id : ℕ) (k : Level) (e : Event) → loss_of id e ≡ 0 → losses_of id (at_own n k e) ≡ 0
losses_own n id level.High e none = refl
losses_own n id level.Low e none = ap (λ (m : ℕ). m + 0) none
losses_own n id level.Lock e none = ap (λ (m : ℕ). m + 0) none

-- one thing done, and then another
pub done_then : (n : ℕ) (first second : ℕ → ℕ) (c : Cpu) (d : Here) (f : Cpu → Here) → Local n c (then_here d f)
    → Done n first c d → Done n second d.cpu (f d.cpu) → Done n (λ j. first j + second j) c (then_here d f)
done_then n first second c d f local one two = record {
  local = local;
  rest = λ soft. subst (λ es. AllRest es (level_at soft c)) (sym (events_append n soft d.acts (f d.cpu).acts))
      (rest_append (events_at n soft d.acts) (events_at n soft (f d.cpu).acts) (level_at soft c) (one.rest soft)
      (subst (λ l. AllRest (events_at n soft (f d.cpu).acts) l) (one.local.levels soft) (two.rest soft)));
  whole = two.whole;
  books = λ id. let a = one.books id in let b = two.books id in let calls = calls_append id d.acts (f d.cpu).acts in
      let losses = losses_append id d.acts (f d.cpu).acts in omega (arith, a, b, calls, losses);
}

-- ---- an id of no cyclic

pub high_is_none : (soft : Soft) → level.High ≢ as_level soft
high_is_none Low is = let no : level.High ≡ level.Low = is in absurd (cc)
high_is_none Lock is = let no : level.High ≡ level.Lock = is in absurd (cc)

pub no_level : (id : ℕ) (c : Cpu) → found id c.cyclics ≡ None → (soft : Soft) → handler_level_of id c ≢ as_level soft
no_level id c none soft is =
    high_is_none soft (ap (λ o. option_map_or (λ (x : CyclicState). x.timer.level) o level.High) (sym none) ∙ is)

-- what isn't at a level isn't admitted there
pub not_admitted : (soft : Soft) (id : ℕ) (c : Cpu) → Whole c → handler_level_of id c ≢ as_level soft
    → (level_at soft c).cyclics id ≡ None
not_admitted soft id c w far = by ((level_at soft c).cyclics id) refl
  where
    by : (o : Option AdmittedCyclic) → (level_at soft c).cyclics id ≡ o → (level_at soft c).cyclics id ≡ None
    by None is = is
    by (Some x) is = absurd (far (w.back soft id (is_some_of ((level_at soft c).cyclics id) x is)))

pub none_outstanding : (id : ℕ) (c : Cpu) → Whole c → found id c.cyclics ≡ None → outstanding_here id c ≡ 0
none_outstanding id c w none =
    let a : count c.lock id ≡ 0 = ap count_in (not_admitted Lock id c w (no_level id c none Lock)) in
    let b : count c.low id ≡ 0 = ap count_in (not_admitted Low id c w (no_level id c none Low)) in omega (arith, a, b)

-- isn't called
pub quiet_here : (n : ℕ) (made : ℕ → ℕ) (c : Cpu) (d : Here) → Whole c → Done n made c d → (id : ℕ) → made id ≡ 0
    → found id c.cyclics ≡ None → calls_of id d.acts ≡ 0
quiet_here n made c d w done id none away =
    let a = done.books id in let b = none_outstanding id c w away in omega (arith, a, b, none)
