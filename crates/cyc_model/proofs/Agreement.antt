-- What is done on a CPU keeps its cyclics and its size in agreement with its soft levels.
use Rattle.std.proofs.Common.{◌≡◌, ◌≢◌, ℕ, zero, suc, ◌==◌, eq-eqb, ne_eqb, Bool, true, false, cond, List, [], ◌∷◌, ◌++◌, map}
use Rattle.std.proofs.Common.{Option, Some, None, refl, ap, sym, ◌∙◌, subst}
use Rattle.std.specs.Prelude.{⊤, IsSome, is_some, not, nat_lt, find, replicate, slice_index_or, slice_set}
use Rattle.std.specs.Option.{option_map, option_map_or}
use mathlib.Core.Logic.{dite}
use native.Mathlib.Decide.{ℕ_discrete}
use Rattle.cyc_types.specs.declared.level.Soft.{Soft}
use Rattle.cyc_types.specs.declared.level.Soft.TheVariants.{Low, Lock}
use Rattle.cyc_types.specs.declared.level.Level.{Level}
use Rattle.cyc_types.specs.declared.level.Level.TheVariants as level
use Rattle.cyc_level.specs.declared.Event.{Event}
use Rattle.cyc_level.specs.declared.Event.TheVariants.{Admit, Expire, Lose, Publish, Take, Finish, Mark, Clear, Switch, Follow}
use Rattle.cyc_level.specs.Level.{SoftLevel, Cyclics, AdmittedCyclic, bank_size, count}
use Rattle.cyc_level.specs.Events.{after, after_finish, changed_at, admitted_cyclic, cyclic_after_expire, cyclic_after_lose}
use Rattle.cyc_level.specs.Events.{cyclic_after_finish}
use Rattle.cyc_types.specs.Expirations.{Expiration, after_expirations as timer_after}
use Rattle.cyc_model.specs.Acts.{Act, At, Call, at_own}
use Rattle.cyc_model.specs.Cpu.{CyclicState, Cpu, cpu_after, happen, here, is_of, handler_level_of, others, begun_cpu, cyclic_at}
use Rattle.cyc_model.specs.Firing.{raised, expiry, expire_here, fired_cyclic}
use Rattle.cyc_model.specs.Serving.{level_at, level_after, looks, look, Interrupt, after_look, serve, serve_here}
use Rattle.cyc_model.specs.Moving.{switch_here, place_here, put_in, moment_at}
use Rattle.cyc_model.specs.State.{absent}
use Rattle.cyc_types.specs.Levels.{as_level}
use Rattle.cyc_model.specs.Agreement.{StateAgrees, AllAgree}

-- an event that neither ends a stay nor leaves a bank
abbrev IsCalm : Event → Type 0
IsCalm (Clear id) = ⊥
IsCalm (Switch bank) = ⊥
IsCalm _ = ⊤

-- this holds of the act's event, and of each act's
abbrev pub ActIs : (Event → Type 0) → Act → Type 0
ActIs Q (At n soft e) = Q e
ActIs Q (Call id) = ⊤

abbrev pub AllActs : (Event → Type 0) → List Act → Type 0
AllActs Q [] = ⊤
AllActs Q (a ∷ acts) = ActIs Q a × AllActs Q acts

abbrev CalmAct : Act → Type 0
CalmAct a = ActIs IsCalm a

abbrev AllCalm : List Act → Type 0
AllCalm acts = AllActs IsCalm acts

pub acts_append : (Q : Event → Type 0) (xs ys : List Act) → AllActs Q xs → AllActs Q ys → AllActs Q (xs ++ ys)
acts_append Q [] ys h i = i
acts_append Q (x ∷ xs) ys h i = (h.0, acts_append Q xs ys h.1 i)

-- ---- what is admitted stays so

changed_some : (m : Cyclics) (id : ℕ) (f : Option AdmittedCyclic → Option AdmittedCyclic) (j : ℕ)
    → (IsSome (m j) → IsSome (f (m j))) → IsSome (m j) → IsSome (changed_at m id f j)
changed_some m id f j one h = by (j == id)
  where
    by : (b : Bool) → IsSome (cond b (f (m j)) (m j))
    by true = one h
    by false = h

mapped_some : (f : AdmittedCyclic → AdmittedCyclic) (o : Option AdmittedCyclic) → IsSome o → IsSome (option_map f o)
mapped_some f None h = h
mapped_some f (Some c) h = refl

finish_some : (hand : Option ℕ) (l : SoftLevel) (j : ℕ) → IsSome (l.cyclics j) → IsSome ((after_finish hand l).cyclics j)
finish_some None l j h = h
finish_some (Some id) l j h =
    changed_some l.cyclics id (option_map cyclic_after_finish) j (mapped_some cyclic_after_finish (l.cyclics j)) h

finish_bank : (hand : Option ℕ) (l : SoftLevel) → (after_finish hand l).hard_bank ≡ l.hard_bank
finish_bank None l = refl
finish_bank (Some id) l = refl

stays_admitted : (e : Event) (l : SoftLevel) (j : ℕ) → IsCalm e → IsSome (l.cyclics j) → IsSome ((after e l).cyclics j)
stays_admitted (Admit id index) l j calm h = changed_some l.cyclics id (λ o. Some (admitted_cyclic index)) j (λ i. refl) h
stays_admitted (Expire id) l j calm h =
    changed_some l.cyclics id (option_map cyclic_after_expire) j (mapped_some cyclic_after_expire (l.cyclics j)) h
stays_admitted (Lose id) l j calm h =
    changed_some l.cyclics id (option_map cyclic_after_lose) j (mapped_some cyclic_after_lose (l.cyclics j)) h
stays_admitted Publish l j calm h = h
stays_admitted Take l j calm h = h
stays_admitted Finish l j calm h = finish_some l.drainer_hand l j h
stays_admitted (Mark id) l j calm h = h
stays_admitted (Clear id) l j calm h = absurd calm
stays_admitted (Switch bank) l j calm h = h
stays_admitted Follow l j calm h = h

same_bank : (e : Event) (l : SoftLevel) → IsCalm e → (after e l).hard_bank ≡ l.hard_bank
same_bank (Admit id index) l calm = refl
same_bank (Expire id) l calm = refl
same_bank (Lose id) l calm = refl
same_bank Publish l calm = refl
same_bank Take l calm = refl
same_bank Finish l calm = finish_bank l.drainer_hand l
same_bank (Mark id) l calm = refl
same_bank (Clear id) l calm = refl
same_bank (Switch bank) l calm = absurd calm
same_bank Follow l calm = refl

-- ---- from one CPU to another with the same cyclics

record Onward (c d : Cpu) : Type 0 where
  cyclics : d.cyclics ≡ c.cyclics
  size : d.size ≡ c.size
  lock : d.lock.hard_bank ≡ c.lock.hard_bank
  low : d.low.hard_bank ≡ c.low.hard_bank
  admitted : (id : ℕ) (soft : Soft) → IsSome ((level_at soft c).cyclics id) → IsSome ((level_at soft d).cyclics id)

onward_act : (a : Act) (c : Cpu) → CalmAct a → Onward c (cpu_after a c)
onward_act (Call id) c calm = record { cyclics = refl; size = refl; lock = refl; low = refl; admitted = λ j soft h. h }
onward_act (At n Low e) c calm = record { cyclics = refl; size = refl; lock = refl; low = same_bank e c.low calm; admitted = by }
  where
    by : (id : ℕ) (soft : Soft) → IsSome ((level_at soft c).cyclics id)
        → IsSome ((level_at soft (record c { low = after e c.low })).cyclics id)
    by id Low h = stays_admitted e c.low id calm h
    by id Lock h = h
onward_act (At n Lock e) c calm = record {
  cyclics = refl;
  size = refl;
  lock = same_bank e c.lock calm;
  low = refl;
  admitted = by;
}
  where
    by : (id : ℕ) (soft : Soft) → IsSome ((level_at soft c).cyclics id)
        → IsSome ((level_at soft (record c { lock = after e c.lock })).cyclics id)
    by id Low h = h
    by id Lock h = stays_admitted e c.lock id calm h

onward_acts : (acts : List Act) (c : Cpu) → AllCalm acts → Onward c (happen acts c)
onward_acts [] c calm = record { cyclics = refl; size = refl; lock = refl; low = refl; admitted = λ j soft h. h }
onward_acts (a ∷ acts) c calm =
    let one = onward_act a c calm.0 in
    let rest = onward_acts acts (cpu_after a c) calm.1 in record {
      cyclics = rest.cyclics ∙ one.cyclics;
      size = rest.size ∙ one.size;
      lock = rest.lock ∙ one.lock;
      low = rest.low ∙ one.low;
      admitted = λ id soft h. rest.admitted id soft (one.admitted id soft h);
    }

-- the level of an id among these cyclics
abbrev level_in : ℕ → List CyclicState → Level
level_in id cs = option_map_or (λ x. x.timer.level) (find (is_of id) cs) level.High

agrees_onward : (c d : Cpu) → Onward c d → StateAgrees c → StateAgrees d
agrees_onward c d on h = record {
  one_bank = on.low ∙ h.one_bank ∙ sym on.lock;
  size = on.size ∙ h.size ∙ ap bank_size (sym on.lock);
  admitted = λ id soft is. on.admitted id soft (h.admitted id soft (ap (level_in id) (sym on.cyclics) ∙ is));
}

pub agrees_here : (acts : List Act) (c : Cpu) → AllCalm acts → StateAgrees c → StateAgrees (here acts c).cpu
agrees_here acts c calm h = agrees_onward c (happen acts c) (onward_acts acts c calm) h

-- ---- the cyclics get other moments and counts

-- the function keeps the id and the level
abbrev pub SameLevel : (CyclicState → CyclicState) → Type 0
SameLevel f = (x : CyclicState) → ((f x).timer.id ≡ x.timer.id) × ((f x).timer.level ≡ x.timer.level)

level_map : (f : CyclicState → CyclicState) → SameLevel f → (id : ℕ) (cs : List CyclicState)
    → level_in id (map f cs) ≡ level_in id cs
level_map f same id [] = refl
level_map f same id (x ∷ xs) =
    ap (λ (j : ℕ). option_map_or (λ y. y.timer.level) (cond (j == id) (Some (f x)) (find (is_of id) (map f xs))) level.High)
    (same x).0
    ∙ by (x.timer.id == id) (level_map f same id xs)
  where
    by : (b : Bool) → level_in id (map f xs) ≡ level_in id xs
        → option_map_or (λ y. y.timer.level) (cond b (Some (f x)) (find (is_of id) (map f xs))) level.High
        ≡ option_map_or (λ y. y.timer.level) (cond b (Some x) (find (is_of id) xs)) level.High
    by true rest = (same x).1
    by false rest = rest

-- the same levels and size, and each id at its level
pub agrees_with : (c d : Cpu) → d.lock ≡ c.lock → d.low ≡ c.low → d.size ≡ c.size
    → ((id : ℕ) → level_in id d.cyclics ≡ level_in id c.cyclics) → StateAgrees c → StateAgrees d
agrees_with c d lock low size own h = record {
  one_bank = ap (λ (l : SoftLevel). l.hard_bank) low ∙ h.one_bank ∙ sym (ap (λ (l : SoftLevel). l.hard_bank) lock);
  size = size ∙ h.size ∙ ap (λ (l : SoftLevel). bank_size l.hard_bank) (sym lock);
  admitted = λ id soft is. subst (λ (l : SoftLevel). IsSome (l.cyclics id)) (sym (levels soft))
      (h.admitted id soft (sym (own id) ∙ is));
}
  where
    levels : (soft : Soft) → level_at soft d ≡ level_at soft c
    levels Low = low
    levels Lock = lock

pub moment_same : (id moment : ℕ) → SameLevel (moment_at id moment)
moment_same id moment x = by (is_of id x)
  where
    by : (b : Bool) → ((cond b (cyclic_at moment x) x).timer.id ≡ x.timer.id)
        × ((cond b (cyclic_at moment x) x).timer.level ≡ x.timer.level)
    by true = (refl, refl)
    by false = (refl, refl)

pub fired_same : (now : ℕ) (made : List Expiration) (acts : List Act) → SameLevel (fired_cyclic now made acts)
unfolding timer_after
fired_same now made acts x = (refl, refl)

-- ---- one comes, or goes

-- the level of an id among these, where the test says whether the first has it
abbrev seen : Bool → ℕ → CyclicState → List CyclicState → Level
seen b id y ys = option_map_or (λ z. z.timer.level) (cond b (Some y) (find (is_of id) ys)) level.High

module _ (P : Level → Type 0) (id : ℕ) where
  into_same : (x : CyclicState) (xs : List CyclicState) → x.timer.id ≡ id → P x.timer.level → P (level_in id (x ∷ xs))
  into_same x xs e h = subst (λ (b : Bool). P (seen b id x xs)) (sym (eq-eqb x.timer.id id e)) h

  from_same : (x : CyclicState) (xs : List CyclicState) → x.timer.id ≡ id → P (level_in id (x ∷ xs)) → P x.timer.level
  from_same x xs e h = subst (λ (b : Bool). P (seen b id x xs)) (eq-eqb x.timer.id id e) h

  into_rest : (x : CyclicState) (xs : List CyclicState) → x.timer.id ≢ id → P (level_in id xs) → P (level_in id (x ∷ xs))
  into_rest x xs ne h = subst (λ (b : Bool). P (seen b id x xs)) (sym (ne_eqb x.timer.id id ne)) h

  from_rest : (x : CyclicState) (xs : List CyclicState) → x.timer.id ≢ id → P (level_in id (x ∷ xs)) → P (level_in id xs)
  from_rest x xs ne h = subst (λ (b : Bool). P (seen b id x xs)) (ne_eqb x.timer.id id ne) h

  place_either : (b : Bool) (xs ys : List CyclicState) → P (level_in id xs) → P (level_in id ys) → P (level_in id (cond b xs ys))
  place_either true xs ys h i = h
  place_either false xs ys h i = i

  -- what holds of the level of an id, and of the new one's where it has this id, holds of its level with the new one
  level_put : (x : CyclicState) → (x.timer.id ≡ id → P x.timer.level) → (cs : List CyclicState) → P (level_in id cs)
      → P (level_in id (put_in x cs))
  level_put x new [] h = dite (ℕ_discrete x.timer.id id) (λ e. into_same x [] e (new e)) (λ ne. into_rest x [] ne h)
  level_put x new (y ∷ ys) h = place_either (nat_lt x.timer.id y.timer.id) (x ∷ y ∷ ys) (y ∷ put_in x ys)
      (dite (ℕ_discrete x.timer.id id) (λ e. into_same x (y ∷ ys) e (new e)) (λ ne. into_rest x (y ∷ ys) ne h))
      (dite (ℕ_discrete y.timer.id id)
      (λ e. into_same y (put_in x ys) e (from_same y ys e h))
      (λ ne. into_rest y (put_in x ys) ne (level_put x new ys (from_rest y ys ne h))))

  -- and of its level without the cyclics of one id
  level_others : (gone : ℕ) → P level.High → (cs : List CyclicState) → (id ≢ gone → P (level_in id cs))
      → P (level_in id (others gone cs))
  level_others gone high [] h = high
  level_others gone high (x ∷ xs) h = dite (ℕ_discrete x.timer.id gone)
      (λ e. subst (λ (b : Bool). P (level_in id (cond (not b) (x ∷ others gone xs) (others gone xs))))
      (sym (eq-eqb x.timer.id gone e))
      (level_others gone high xs (λ far. from_rest x xs (λ s. far (sym s ∙ e)) (h far))))
      (λ ne. subst (λ (b : Bool). P (level_in id (cond (not b) (x ∷ others gone xs) (others gone xs))))
      (sym (ne_eqb x.timer.id gone ne))
      (dite (ℕ_discrete x.timer.id id)
      (λ e. into_same x (others gone xs) e (from_same x xs e (h (λ s. ne (e ∙ s)))))
      (λ n. into_rest x (others gone xs) n (level_others gone high xs (λ far. from_rest x xs n (h far))))))

calm_own : (n : ℕ) (l : Level) (e : Event) → IsCalm e → AllCalm (at_own n l e)
calm_own n level.High e calm = tt
calm_own n level.Lock e calm = (calm, tt)
calm_own n level.Low e calm = (calm, tt)

changed_here : (m : Cyclics) (id : ℕ) (f : Option AdmittedCyclic → Option AdmittedCyclic) → IsSome (f (m id))
    → IsSome (changed_at m id f id)
changed_here m id f h = subst (λ (b : Bool). IsSome (cond b (f (m id)) (m id))) (sym (eq-eqb id id refl)) h

admitted_own : (n id index : ℕ) (l : Level) (soft : Soft) (c : Cpu) → l ≡ as_level soft
    → IsSome ((level_at soft (happen (at_own n l (Admit id index)) c)).cyclics id)
admitted_own n id index level.Low Low c is = changed_here c.low.cyclics id (λ o. Some (admitted_cyclic index)) refl
admitted_own n id index level.Lock Lock c is = changed_here c.lock.cyclics id (λ o. Some (admitted_cyclic index)) refl
admitted_own n id index level.Low Lock c is = absurd (let no : level.Low ≡ level.Lock = is in cc)
admitted_own n id index level.Lock Low c is = absurd (let no : level.Lock ≡ level.Low = is in cc)
admitted_own n id index level.High Low c is = absurd (let no : level.High ≡ level.Low = is in cc)
admitted_own n id index level.High Lock c is = absurd (let no : level.High ≡ level.Lock = is in cc)

-- the levels of a CPU whose cyclics are changed
same_at : (c : Cpu) (cs : List CyclicState) (r : Option ℕ) (soft : Soft)
    → level_at soft (record c { cyclics = cs; removal = r }) ≡ level_at soft c
same_at c cs r Low = refl
same_at c cs r Lock = refl

pub agrees_place : (n index : ℕ) (x : CyclicState) (c : Cpu) → StateAgrees c → StateAgrees (place_here n index x c).cpu
agrees_place n index x c h = record {
  one_bank = on.low ∙ h.one_bank ∙ sym on.lock;
  size = on.size ∙ h.size ∙ ap bank_size (sym on.lock);
  admitted = λ id soft is. level_put (λ l. l ≡ as_level soft → IsSome ((level_at soft after_it).cyclics id)) id x
      (λ same i. subst (λ (j : ℕ). IsSome ((level_at soft after_it).cyclics j)) same
      (admitted_own n x.timer.id index x.timer.level soft with_it i))
      c.cyclics
      (λ i. on.admitted id soft
      (subst (λ (l : SoftLevel). IsSome (l.cyclics id)) (sym (same_at c (put_in x c.cyclics) c.removal soft))
      (h.admitted id soft i)))
      (ap (level_in id) (sym on.cyclics) ∙ is);
}
  where
    with_it : Cpu
    with_it = record c { cyclics = put_in x c.cyclics }

    after_it : Cpu
    after_it = happen (at_own n x.timer.level (Admit x.timer.id index)) with_it

    on : Onward with_it after_it
    on = onward_acts (at_own n x.timer.level (Admit x.timer.id index)) with_it
        (calm_own n x.timer.level (Admit x.timer.id index) tt)

-- where the stay of one id ends
record Past (id : ℕ) (c d : Cpu) : Type 0 where
  cyclics : d.cyclics ≡ c.cyclics
  size : d.size ≡ c.size
  lock : d.lock.hard_bank ≡ c.lock.hard_bank
  low : d.low.hard_bank ≡ c.low.hard_bank
  admitted : (j : ℕ) (soft : Soft) → j ≢ id → IsSome ((level_at soft c).cyclics j) → IsSome ((level_at soft d).cyclics j)

cleared_other : (m : Cyclics) (id j : ℕ) → j ≢ id → IsSome (m j) → IsSome (changed_at m id (λ o. None) j)
cleared_other m id j ne h = subst (λ (b : Bool). IsSome (cond b None (m j))) (sym (ne_eqb j id ne)) h

past_clear : (n id : ℕ) (l : Level) (c : Cpu) → Past id c (happen (at_own n l (Clear id)) c)
past_clear n id level.High c = record { cyclics = refl; size = refl; lock = refl; low = refl; admitted = λ j soft ne h. h }
past_clear n id level.Low c = record { cyclics = refl; size = refl; lock = refl; low = refl; admitted = by }
  where
    by : (j : ℕ) (soft : Soft) → j ≢ id → IsSome ((level_at soft c).cyclics j)
        → IsSome ((level_at soft (happen (at_own n level.Low (Clear id)) c)).cyclics j)
    by j Low ne h = cleared_other c.low.cyclics id j ne h
    by j Lock ne h = h
past_clear n id level.Lock c = record { cyclics = refl; size = refl; lock = refl; low = refl; admitted = by }
  where
    by : (j : ℕ) (soft : Soft) → j ≢ id → IsSome ((level_at soft c).cyclics j)
        → IsSome ((level_at soft (happen (at_own n level.Lock (Clear id)) c)).cyclics j)
    by j Low ne h = h
    by j Lock ne h = cleared_other c.lock.cyclics id j ne h

pub high_is_not : (soft : Soft) → level.High ≢ as_level soft
high_is_not Low is = absurd (let no : level.High ≡ level.Low = is in cc)
high_is_not Lock is = absurd (let no : level.High ≡ level.Lock = is in cc)

pub agrees_gone : (n id : ℕ) (l : Level) (r : Option ℕ) (c : Cpu) → StateAgrees c
    → StateAgrees (here (at_own n l (Clear id)) (record c { cyclics = others id c.cyclics; removal = r })).cpu
agrees_gone n id l r c h = record {
  one_bank = past.low ∙ h.one_bank ∙ sym past.lock;
  size = past.size ∙ h.size ∙ ap bank_size (sym past.lock);
  admitted = λ j soft is. level_others (λ k. k ≡ as_level soft → IsSome ((level_at soft after_it).cyclics j)) j id
      (λ no. absurd (high_is_not soft no)) c.cyclics
      (λ far i. past.admitted j soft far
      (subst (λ (m : SoftLevel). IsSome (m.cyclics j)) (sym (same_at c (others id c.cyclics) r soft))
      (h.admitted j soft i)))
      (ap (level_in j) (sym past.cyclics) ∙ is);
}
  where
    without : Cpu
    without = record c { cyclics = others id c.cyclics; removal = r }

    after_it : Cpu
    after_it = happen (at_own n l (Clear id)) without

    past : Past id without after_it
    past = past_clear n id l without

-- ---- the calls whose acts are calm, and a switch of both banks

calm_raised : (n : ℕ) (soft : Soft) (id : ℕ) (l : SoftLevel) → AllCalm (map (At n soft) (raised id l))
calm_raised n soft id l = by (count l id == l.ceiling) (count l id == 0)
  where
    by : (a b : Bool)
        → AllCalm (map (At n soft) (cond a (Lose id ∷ []) (cond b (Expire id ∷ Publish ∷ []) (Expire id ∷ []))))
    by true b = (tt, tt)
    by false true = (tt, (tt, tt))
    by false false = (tt, tt)

calm_expiry : (n : ℕ) (l : Level) (id : ℕ) (c : Cpu) → AllCalm (expiry n l id c)
calm_expiry n level.High id c = (tt, tt)
calm_expiry n level.Lock id c = calm_raised n Lock id c.lock
calm_expiry n level.Low id c = calm_raised n Low id c.low

pub agrees_expire : (n id : ℕ) (c : Cpu) → StateAgrees c → StateAgrees (expire_here n id c).cpu
agrees_expire n id c h = agrees_here (expiry n (handler_level_of id c) id c) c (calm_expiry n (handler_level_of id c) id c) h

pub agrees_fired : (now : ℕ) (made : List Expiration) (acts : List Act) (c : Cpu) → StateAgrees c
    → StateAgrees (record c { cyclics = map (fired_cyclic now made acts) c.cyclics })
agrees_fired now made acts c h = agrees_with c (record c { cyclics = map (fired_cyclic now made acts) c.cyclics }) refl refl refl
    (λ id. level_map (fired_cyclic now made acts) (fired_same now made acts) id c.cyclics) h

-- what holds of Take, Finish and Follow holds of all that a soft interrupt does
module _ (Q : Event → Type 0) (take : Q Take) (finish : Q Finish) (follow : Q Follow) where
  acts_of_looks : (n : ℕ) (soft : Soft) (old new : List ℕ) (b : Bool) → AllActs Q (map (At n soft) (looks old new b))
  acts_of_looks n soft old (x ∷ xs) true = (take, tt)
  acts_of_looks n soft old [] true = tt
  acts_of_looks n soft (x ∷ xs) new false = (take, tt)
  acts_of_looks n soft [] (y ∷ ys) false = (follow, (take, tt))
  acts_of_looks n soft [] [] false = (follow, tt)

  acts_of_look : (n : ℕ) (soft : Soft) (l : SoftLevel) → AllActs Q (map (At n soft) (look l))
  acts_of_look n soft l =
      by (is_some l.drainer_hand) (acts_of_looks n soft l.old_list l.new_list (l.hard_bank == l.soft_bank))
    where
      by : (b : Bool) → AllActs Q (map (At n soft) (looks l.old_list l.new_list (l.hard_bank == l.soft_bank)))
          → AllActs Q (map (At n soft) (cond b [] (looks l.old_list l.new_list (l.hard_bank == l.soft_bank))))
      by true all = tt
      by false all = all

  acts_after : (n : ℕ) (soft : Soft) (looked : List Event) (l : SoftLevel) (rest : SoftLevel → Interrupt)
      → AllActs Q (map (At n soft) looked) → ((m : SoftLevel) → AllActs Q (rest m).acts)
      → (hand : Option ℕ) → AllActs Q (after_look n soft looked (record l { drainer_hand = hand }) rest).acts
  acts_after n soft looked l rest all more None = all
  acts_after n soft looked l rest all more (Some id) =
      acts_append Q (map (At n soft) looked) _ all (tt, (finish, more (after Finish (record l { drainer_hand = Some id }))))

  pub acts_of_serve : (n : ℕ) (soft : Soft) (budget : ℕ) (l : SoftLevel) → AllActs Q (serve n soft budget l).acts
  acts_of_serve n soft zero l = tt
  acts_of_serve n soft (suc budget) l =
      acts_after n soft (look l) (level_after (look l) l) (serve n soft budget) (acts_of_look n soft l)
      (acts_of_serve n soft budget) (level_after (look l) l).drainer_hand

pub agrees_serve : (n : ℕ) (soft : Soft) (budget : ℕ) (c : Cpu) → StateAgrees c → StateAgrees (serve_here n soft budget c).cpu
agrees_serve n soft budget c h = agrees_here (serve n soft budget (level_at soft c)).acts c
    (acts_of_serve IsCalm tt tt tt n soft budget (level_at soft c)) h

pub agrees_switch : (n bank : ℕ) (c : Cpu) → StateAgrees c → StateAgrees (switch_here n bank c).cpu
agrees_switch n bank c h = record { one_bank = refl; size = refl; admitted = by }
  where
    by : (id : ℕ) (soft : Soft) → handler_level_of id c ≡ as_level soft
        → IsSome ((level_at soft (switch_here n bank c).cpu).cyclics id)
    by id Low is = h.admitted id Low is
    by id Lock is = h.admitted id Lock is

pub agrees_own : (n : ℕ) (l : Level) (id : ℕ) (c : Cpu) → StateAgrees c → StateAgrees (here (at_own n l (Mark id)) c).cpu
agrees_own n l id c h = agrees_here (at_own n l (Mark id)) c (calm_own n l (Mark id) tt) h

pub agrees_moment : (id moment : ℕ) (r : Option ℕ) (c : Cpu) → StateAgrees c
    → StateAgrees (record c { cyclics = map (moment_at id moment) c.cyclics; removal = r })
agrees_moment id moment r c h =
    agrees_with c (record c { cyclics = map (moment_at id moment) c.cyclics; removal = r }) refl refl refl
    (λ j. level_map (moment_at id moment) (moment_same id moment) j c.cyclics) h

-- ---- the CPUs of a machine

pub new_agrees : (ceiling : ℕ) (online : Bool) → StateAgrees (record (begun_cpu ceiling) { online = online })
new_agrees ceiling online = record { one_bank = refl; size = refl; admitted = λ id soft is. absurd (high_is_not soft is) }

pub agree_at : (cs : List Cpu) → AllAgree cs → (n : ℕ) → StateAgrees (slice_index_or cs n absent)
agree_at [] h n = new_agrees 0 false
agree_at (c ∷ cs) h zero = h.0
agree_at (c ∷ cs) h (suc n) = agree_at cs h.1 n

pub agree_set : (cs : List Cpu) (d : Cpu) → AllAgree cs → StateAgrees d → (n : ℕ) → AllAgree (slice_set cs n d)
agree_set [] d h one n = tt
agree_set (c ∷ cs) d h one zero = (one, h.1)
agree_set (c ∷ cs) d h one (suc n) = (h.0, agree_set cs d h.1 one n)

pub agree_new : (n ceiling : ℕ) → AllAgree (replicate n (begun_cpu ceiling))
agree_new zero ceiling = tt
agree_new (suc n) ceiling = (new_agrees ceiling true, agree_new n ceiling)
