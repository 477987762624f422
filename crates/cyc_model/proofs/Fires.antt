-- A fire leaves a whole CPU whole.
use Rattle.std.proofs.Common.{◌≡◌, ◌≢◌, ℕ, ◌+◌, ◌-◌, ◌*◌, ◌/◌, ◌<◌, ◌≤◌, ◌==◌, eq-eqb, Bool, true, false, cond, List, [], ◌∷◌}
use Rattle.std.proofs.Common.{map, Option, Some, None, refl, ap, sym, ◌∙◌, subst, arith}
use Rattle.std.specs.Prelude.{⊤, IsSome, nat_lt}
use Rattle.std.specs.Option.{option_map, option_map_or}
use Rattle.std.proofs.lemmas.Bool.{lt-ltb}
use Rattle.cyc_types.specs.Series.{never, late, due, next}
use Rattle.cyc_types.specs.declared.level.Soft.{Soft}
use Rattle.cyc_types.specs.declared.level.Soft.TheVariants.{Low, Lock}
use Rattle.cyc_types.specs.declared.level.Level.{Level}
use Rattle.cyc_types.specs.declared.level.Level.TheVariants as level
use Rattle.cyc_level.specs.declared.Event.{Event}
use Rattle.cyc_level.specs.declared.Event.TheVariants.{Expire, Lose, Publish}
use Rattle.cyc_level.specs.Level.{SoftLevel, count}
use Rattle.cyc_level.proofs.Maps.{some_same, some_of}
use Rattle.cyc_types.specs.Expirations.{Expiration, times_of, after_expirations}
use Rattle.cyc_model.specs.Acts.{Act, At, events_at, calls_of, losses_of}
use Rattle.cyc_model.specs.Cpu.{CyclicState, Cpu, handler_level_of}
use Rattle.cyc_model.specs.Firing.{raised, expiry, expire_here, expire_all, due_here, fired_cyclic, fire_here}
use Rattle.cyc_model.specs.Questions.{outstanding_here}
use Rattle.cyc_model.specs.Serving.{level_at}
use Rattle.cyc_model.proofs.Agreement.{AllActs, agrees_with, fired_same}
use Rattle.cyc_model.proofs.Fair.{own_events}
use Rattle.cyc_model.proofs.Local.{local_expire, local_expire_all, local_fire}
use Rattle.cyc_model.proofs.Rising.{found, found_id, rising_map, found_map, length_mapped, times_cons, times_found, due_of_found}
use Rattle.cyc_model.proofs.Fit.{Fit, AllRest, all_finishes, all_brings}
use Rattle.cyc_model.proofs.Whole.{Whole, Same, same_happen, same_then, IsSteady, steady_events, RestAt, whole_onward, count_here}
use Rattle.cyc_model.proofs.Whole.{Done, done_then}

-- one where the ids are the same
abbrev pub one_of : ℕ → ℕ → ℕ
one_of id j = cond (id == j) 1 0

-- ---- one expiration

abbrev raised_as : ℕ → Bool → Bool → List Event
raised_as id a b = cond a (Lose id ∷ []) (cond b (Expire id ∷ Publish ∷ []) (Expire id ∷ []))

module _ (id : ℕ) where
  rest_raised : (a b : Bool) (l : SoftLevel) → l.marked ≢ Some id → AllRest (raised_as id a b) l
  rest_raised true b l far = (far, tt)
  rest_raised false true l far = (far, (tt, tt))
  rest_raised false false l far = (far, tt)

  steady_raised : (n : ℕ) (soft : Soft) (a b : Bool) → AllActs IsSteady (map (At n soft) (raised_as id a b))
  steady_raised n soft true b = (tt, tt)
  steady_raised n soft false true = (tt, (tt, tt))
  steady_raised n soft false false = (tt, tt)

  no_finish_raised : (j : ℕ) (a b : Bool) (l : SoftLevel) → all_finishes j (raised_as id a b) l ≡ 0
  no_finish_raised j true b l = refl
  no_finish_raised j false true l = refl
  no_finish_raised j false false l = refl

  shares_raised : (n : ℕ) (soft : Soft) (j : ℕ) (a b : Bool)
      → all_brings j (raised_as id a b) + losses_of j (map (At n soft) (raised_as id a b)) ≡ one_of id j
  shares_raised n soft j true b = omega arith
  shares_raised n soft j false true = omega arith
  shares_raised n soft j false false = omega arith

calls_map : (n : ℕ) (soft : Soft) (j : ℕ) (es : List Event) → calls_of j (map (At n soft) es) ≡ 0
calls_map n soft j [] = refl
calls_map n soft j (e ∷ es) = let h = calls_map n soft j es in omega (arith, h)

module _ (n id : ℕ) where
  rest_expiry : (k : Level) (c : Cpu) → ((soft : Soft) → (level_at soft c).marked ≢ Some id) → RestAt n (expiry n k id c) c
  rest_expiry level.High c far soft = tt
  rest_expiry level.Lock c far Lock = subst (λ es. AllRest es c.lock) (sym (own_events n Lock Lock (raised id c.lock)))
      (rest_raised id (count c.lock id == c.lock.ceiling) (count c.lock id == 0) c.lock (far Lock))
  rest_expiry level.Lock c far Low = subst (λ es. AllRest es c.low) (sym (own_events n Lock Low (raised id c.lock))) tt
  rest_expiry level.Low c far Low = subst (λ es. AllRest es c.low) (sym (own_events n Low Low (raised id c.low)))
      (rest_raised id (count c.low id == c.low.ceiling) (count c.low id == 0) c.low (far Low))
  rest_expiry level.Low c far Lock = subst (λ es. AllRest es c.lock) (sym (own_events n Low Lock (raised id c.low))) tt

  steady_expiry : (k : Level) (c : Cpu) → AllActs IsSteady (expiry n k id c)
  steady_expiry level.High c = (tt, tt)
  steady_expiry level.Lock c = steady_raised id n Lock (count c.lock id == c.lock.ceiling) (count c.lock id == 0)
  steady_expiry level.Low c = steady_raised id n Low (count c.low id == c.low.ceiling) (count c.low id == 0)

  -- nothing is finished, and the expiration is called, lost or outstanding
  no_finish : (k : Level) (j : ℕ) (c : Cpu) (soft : Soft)
      → all_finishes j (events_at n soft (expiry n k id c)) (level_at soft c) ≡ 0
  no_finish level.High j c soft = refl
  no_finish level.Lock j c Lock = ap (λ es. all_finishes j es c.lock) (own_events n Lock Lock (raised id c.lock))
      ∙ no_finish_raised id j (count c.lock id == c.lock.ceiling) (count c.lock id == 0) c.lock
  no_finish level.Lock j c Low = ap (λ es. all_finishes j es c.low) (own_events n Lock Low (raised id c.lock))
  no_finish level.Low j c Low = ap (λ es. all_finishes j es c.low) (own_events n Low Low (raised id c.low))
      ∙ no_finish_raised id j (count c.low id == c.low.ceiling) (count c.low id == 0) c.low
  no_finish level.Low j c Lock = ap (λ es. all_finishes j es c.lock) (own_events n Low Lock (raised id c.low))

  shares : (k : Level) (j : ℕ) (c : Cpu)
      → all_brings j (events_at n Lock (expiry n k id c)) + all_brings j (events_at n Low (expiry n k id c))
      + calls_of j (expiry n k id c) + losses_of j (expiry n k id c) ≡ one_of id j
  shares level.High j c = omega arith
  shares level.Lock j c =
      let a = ap (all_brings j) (own_events n Lock Lock (raised id c.lock)) in
      let b = ap (all_brings j) (own_events n Lock Low (raised id c.lock)) in
      let s = shares_raised id n Lock j (count c.lock id == c.lock.ceiling) (count c.lock id == 0) in
      let z = calls_map n Lock j (raised id c.lock) in omega (arith, a, b, s, z)
  shares level.Low j c =
      let a = ap (all_brings j) (own_events n Low Lock (raised id c.low)) in
      let b = ap (all_brings j) (own_events n Low Low (raised id c.low)) in
      let s = shares_raised id n Low j (count c.low id == c.low.ceiling) (count c.low id == 0) in
      let z = calls_map n Low j (raised id c.low) in omega (arith, a, b, s, z)

  done_expire : (c : Cpu) → Whole c → c.removal ≢ Some id → Done n (one_of id) c (expire_here n id c)
  done_expire c w far =
      let k = handler_level_of id c in
      let rest = rest_expiry k c (λ soft is. far (w.marks soft id is).0) in
      let d = expire_here n id c in
      let local = local_expire n id c in record {
        local = local;
        rest = rest;
        whole = whole_onward n c d w local rest (same_happen (expiry n k id c) c)
            (λ soft. steady_events n soft (expiry n k id c) (steady_expiry k c));
        books = λ j. let a = count_here n c d w local rest Lock j in let b = count_here n c d w local rest Low j in
            let e = no_finish k j c Lock in let f = no_finish k j c Low in let s = shares k j c in omega (arith, a, b, e, f, s);
      }

-- none of these expirations is of the id whose removal is open
abbrev AllFar : Option ℕ → List Expiration → Type 0
AllFar r [] = ⊤
AllFar r (p ∷ ps) = (r ≢ Some p.id) × AllFar r ps

done_expire_all : (n : ℕ) (ps : List Expiration) (c : Cpu) → Whole c → AllFar c.removal ps
    → Done n (λ j. times_of j ps) c (expire_all n ps c) × Same c (expire_all n ps c).cpu
done_expire_all n [] c w far = (
  record { local = local_expire_all n [] c; rest = λ soft. tt; whole = w; books = λ j. nothing_more (outstanding_here j c) },
  same_happen [] c,
)
  where
    nothing_more : (m : ℕ) → m + 0 + 0 ≡ m + 0
    nothing_more m = omega arith
done_expire_all n (p ∷ ps) c w far =
    let one = done_expire n p.id c w far.0 in
    let d = expire_here n p.id c in
    let same : Same c d.cpu = same_happen (expiry n (handler_level_of p.id c) p.id c) c in
    let more = done_expire_all n ps d.cpu one.whole (subst (λ r. AllFar r ps) (sym same.removal) far.1) in
    let both = done_then n (one_of p.id) (λ j. times_of j ps) c d (expire_all n ps) (local_expire_all n (p ∷ ps) c) one more.0
    in (
      record {
        local = both.local;
        rest = both.rest;
        whole = both.whole;
        books = λ j. let b = both.books j in let t = times_cons j p ps in omega (arith, b, t);
      },
      same_then c d.cpu (expire_all n ps d.cpu).cpu same more.1,
    )

-- ---- the cyclics get other moments and counts

-- the function keeps the id and the level of a cyclic
abbrev pub Retimes : (CyclicState → CyclicState) → Type 0
Retimes f = (x : CyclicState) → ((f x).timer.id ≡ x.timer.id) × ((f x).timer.level ≡ x.timer.level)

-- the level of a cyclic that was found
abbrev pub level_found : Option CyclicState → Level
level_found o = option_map_or (λ (x : CyclicState). x.timer.level) o level.High

pub level_mapped : (f : CyclicState → CyclicState) → Retimes f → (o : Option CyclicState)
    → level_found (option_map f o) ≡ level_found o
level_mapped f same None = refl
level_mapped f same (Some x) = (same x).1

pub retimed_level : (f : CyclicState → CyclicState) → Retimes f → (id : ℕ) (cs : List CyclicState)
    → level_found (found id (map f cs)) ≡ level_found (found id cs)
retimed_level f same id cs = ap level_found (found_map f (λ x. (same x).0) id cs) ∙ level_mapped f same (found id cs)

pub some_mapped : {A B : Type 0} (f : A → B) (o : Option A) (y : B) → option_map f o ≡ Some y → (x : A) × (o ≡ Some x) × (f x ≡ y)
some_mapped f None y e = absurd (cc)
some_mapped f (Some x) y e = (x, refl, some_same (f x) y e)

pub is_some_mapped : {A B : Type 0} (f : A → B) (o : Option A) → IsSome o → IsSome (option_map f o)
is_some_mapped f None h = absurd (cc)
is_some_mapped f (Some x) h = refl

pub whole_retimed : (f : CyclicState → CyclicState) → Retimes f → (c : Cpu) → Whole c
    → ((id : ℕ) (y : CyclicState) → c.removal ≡ Some id → found id c.cyclics ≡ Some y → (f y).timer.moment ≡ never)
    → Whole (record c { cyclics = map f c.cyclics })
whole_retimed f same c w calm = record {
  agrees = agrees_with c (record c { cyclics = map f c.cyclics }) refl refl refl (λ id. retimed_level f same id c.cyclics)
      w.agrees;
  free = λ soft. by_level soft (λ l. l.firer_hand ≡ None) (w.free soft);
  fit = λ soft. by_level soft (λ l. Fit l) (w.fit soft);
  back = λ soft id some. retimed_level f same id c.cyclics ∙ w.back soft id (back_level soft (λ l. IsSome (l.cyclics id)) some);
  marks = λ soft id is. let was = w.marks soft id (back_level soft (λ l. l.marked ≡ Some id) is) in
      (was.0, retimed_level f same id c.cyclics ∙ was.1);
  marked = λ soft id is at.
      by_level soft (λ l. l.marked ≡ Some id) (w.marked soft id is (sym (retimed_level f same id c.cyclics) ∙ at));
  rising = rising_map f (λ x. (same x).0) 0 c.cyclics w.rising;
  room = subst (λ k. k ≤ c.size) (sym (length_mapped f c.cyclics)) w.room;
  still = λ id x is at. let y = some_mapped f (found id c.cyclics) x (sym (found_map f (λ z. (same z).0) id c.cyclics) ∙ at) in
      sym (ap (λ (z : CyclicState). z.timer.moment) y.2) ∙ calm id y.0 is y.1;
  held = λ id is. subst (λ o. IsSome o) (sym (found_map f (λ z. (same z).0) id c.cyclics))
      (is_some_mapped f (found id c.cyclics) (w.held id is));
}
  where
    by_level : (soft : Soft) (P : SoftLevel → Type 0) → P (level_at soft c)
        → P (level_at soft (record c { cyclics = map f c.cyclics }))
    by_level Low P h = h
    by_level Lock P h = h

    back_level : (soft : Soft) (P : SoftLevel → Type 0) → P (level_at soft (record c { cyclics = map f c.cyclics }))
        → P (level_at soft c)
    back_level Low P h = h
    back_level Lock P h = h

whole_fired : (now : ℕ) (made : List Expiration) (acts : List Act) (c : Cpu) → Whole c
    → ((id : ℕ) → c.removal ≡ Some id → times_of id made ≡ 0)
    → Whole (record c { cyclics = map (fired_cyclic now made acts) c.cyclics })
unfolding after_expirations
whole_fired now made acts c w none = whole_retimed (fired_cyclic now made acts) (fired_same now made acts) c w
    (λ id y is at.
    ap (λ (k : ℕ). cond (k == 0) y.timer.moment (cond (k == due y.timer.moment y.timer.interval now)
    (next y.timer.moment y.timer.interval now) (y.timer.moment + k * y.timer.interval)))
    (ap (λ (k : ℕ). times_of k made) (found_id id y c.cyclics at) ∙ none id is)
    ∙ w.still id y is at)

-- a cyclic at never isn't due
pub never_due : (t now : ℕ) → now < never → due never t now ≡ 0
never_due t now before = ap (λ (b : Bool). cond b 0 (cond (nat_lt (never + t + late) now) 1 ((now - never) / t
    + 1))) (lt-ltb now never before)

removed_none : (now : ℕ) (c : Cpu) → Whole c → now < never → (id : ℕ) → c.removal ≡ Some id → times_of id (due_here now c) ≡ 0
removed_none now c w before id is =
    let x = some_of (found id c.cyclics) (w.held id is) in
    times_found now 0 id c.cyclics w.rising ∙ ap (due_of_found now) x.1
    ∙ ap (λ (m : ℕ). due m x.0.timer.interval now) (w.still id x.0 is x.1) ∙ never_due x.0.timer.interval now before

all_far : (r : Option ℕ) (ps : List Expiration) → ((id : ℕ) → r ≡ Some id → times_of id ps ≡ 0) → AllFar r ps
all_far r [] none = tt
all_far r (p ∷ ps) none = (
  (λ is. let z = none p.id is in let t = times_cons p.id p ps in
      let one : one_of p.id p.id ≡ 1 = ap (λ (b : Bool). cond {A = ℕ} b 1 0) (eq-eqb p.id p.id refl) in omega (arith, z, t, one)),
  all_far r ps (λ id is. let z = none id is in let t = times_cons id p ps in omega (arith, z, t)),
)

-- ---- the fire of a CPU

pub done_fire : (n now : ℕ) (c : Cpu) → Whole c → now < never → Done n (λ j. times_of j (due_here now c)) c (fire_here n now c)
done_fire n now c w before =
    let made = due_here now c in
    let none = removed_none now c w before in
    let all = done_expire_all n made c w (all_far c.removal made none) in
    let d = expire_all n made c in record {
      local = local_fire n now c;
      rest = all.0.rest;
      whole = whole_fired now made d.acts d.cpu all.0.whole (λ id is. none id (sym all.1.removal ∙ is));
      books = all.0.books;
    }

-- its cyclics are those that were there, each after its expirations
pub fired_cyclics : (n now : ℕ) (c : Cpu) → Whole c → now < never
    → (fire_here n now c).cpu.cyclics ≡ map (fired_cyclic now (due_here now c) (fire_here n now c).acts) c.cyclics
fired_cyclics n now c w before =
    let made = due_here now c in
    let all = done_expire_all n made c w (all_far c.removal made (removed_none now c w before)) in
    ap (map (fired_cyclic now made (expire_all n made c).acts)) all.1.cyclics

pub fired_alike : (n now : ℕ) (c : Cpu) → Whole c → now < never
    → ((fire_here n now c).cpu.removal ≡ c.removal) × ((fire_here n now c).cpu.online ≡ c.online)
fired_alike n now c w before =
    let made = due_here now c in
    let all = done_expire_all n made c w (all_far c.removal made (removed_none now c w before)) in (all.1.removal, all.1.online)
