-- From call to call the cyclics of a CPU stay tied to its levels.
use Rattle.std.proofs.Common.{◌≡◌, ◌≢◌, ℕ, ◌+◌, ◌==◌, List, [], ◌∷◌, ◌++◌, length, map, find, Bool, true, false, not, cond}
use Rattle.std.proofs.Common.{Option, Some, None, IsSome, refl, ap, sym, ◌∙◌, subst, arith}
use Rattle.std.specs.Prelude.{nat_lt, ◌&&◌}
use Rattle.std.specs.Option.{option_map}
use Rattle.std.proofs.lemmas.Bool.Decides.{nat_tests}
use mathlib.Core.Logic.{dite}
use native.Mathlib.Decide.{ℕ_discrete}
use Rattle.cyc_types.specs.declared.level.Soft.{Soft}
use Rattle.cyc_types.specs.declared.level.Soft.TheVariants as soft
use Rattle.cyc_types.specs.declared.level.Level.{Level}
use Rattle.cyc_types.specs.declared.level.Level.TheVariants.{Low, Lock, High}
use Rattle.cyc_types.specs.Series.{never}
use Rattle.cyc_level.specs.declared.Event.{Event}
use Rattle.cyc_level.specs.declared.Event.TheVariants.{Admit, Expire, Lose, Publish, Take, Finish, Mark, Clear, Switch, Follow}
use Rattle.cyc_level.specs.Level.{AdmittedCyclic, Cyclics, SoftLevel}
use Rattle.cyc_level.specs.Events.{after, after_finish, admitted_cyclic, changed_at, cyclic_after_expire, cyclic_after_lose}
use Rattle.cyc_level.specs.Events.{cyclic_after_finish}
use Rattle.cyc_level.proofs.Maps.{at_same, at_other, not_none}
use Rattle.cyc_types.specs.Expirations.{Expiration, after_expirations as timer_after}
use Rattle.cyc_timers.specs.Acts.{same_level}
use Rattle.cyc_model.specs.Acts.{Act, At, Call, same_soft, events_at}
use Rattle.cyc_model.specs.Cpu.{CyclicState, Cpu, happen, nothing_here, is_of, handler_level_of, others, cyclic_at}
use Rattle.cyc_model.specs.Firing.{expiry, expire_all, fired_cyclic, fire_these, fire_here, due_here}
use Rattle.cyc_model.specs.Serving.{level_after, level_at, serve_here}
use Rattle.cyc_model.specs.Moving.{put_in, must_grow, bank_for, switch_here, moment_at, widen_here, place_here, take_here}
use Rattle.cyc_model.specs.Moving.{mark_here, clear_here, reprogram_here}
use Rattle.cyc_types.specs.Levels.{as_level}
use Rattle.cyc_model.proofs.Local.{local_expire_all, local_serve, local_widen}
use Rattle.cyc_system_model.specs.Tied.{HasOwn}
use Rattle.cyc_system_model.proofs.Free.{IsNoAdmit, HasNoAdmit, expire_none, interrupt_none, widen_none}
use Rattle.cyc_system_model.proofs.Levels.{where_own, own_cpu}
use Rattle.cyc_system_model.proofs.Leaving.{marked_cpu, mark_as, cleared_cpu, clear_as, own_marked, without, take_as, level_in}

-- ---- what is admitted at a level

abbrev pub Has : ℕ → SoftLevel → Type 0
Has id l = IsSome (l.cyclics id)

some_map : (f : AdmittedCyclic → AdmittedCyclic) (o : Option AdmittedCyclic) → IsSome (option_map f o) → IsSome o
some_map f None is = is
some_map f (Some c) is = refl

changed_has : (m : Cyclics) (id : ℕ) (f : AdmittedCyclic → AdmittedCyclic) (q : ℕ) → IsSome (changed_at m id (option_map f) q)
    → IsSome (m q)
changed_has m id f q is = pick (q == id) is
  where
    pick : (b : Bool) → IsSome (cond b (option_map f (m q)) (m q)) → IsSome (m q)
    pick true some = some_map f (m q) some
    pick false some = some

gone_has : (m : Cyclics) (id q : ℕ) → IsSome (changed_at m id (λ _. None) q) → IsSome (m q)
gone_has m id q is = pick (q == id) is
  where
    pick : (b : Bool) → IsSome (cond b None (m q)) → IsSome (m q)
    pick true some = absurd (let isnt : false ≡ true = some in cc)
    pick false some = some

finish_has : (hand : Option ℕ) (l : SoftLevel) (q : ℕ) → Has q (after_finish hand l) → Has q l
finish_has None l q is = is
finish_has (Some id) l q is = changed_has l.cyclics id cyclic_after_finish q is

-- no event but an Admit makes it more
pub event_has : (e : Event) (l : SoftLevel) (q : ℕ) → IsNoAdmit e → Has q (after e l) → Has q l
event_has (Admit id index) l q none is = absurd none
event_has (Expire id) l q none is = changed_has l.cyclics id cyclic_after_expire q is
event_has (Lose id) l q none is = changed_has l.cyclics id cyclic_after_lose q is
event_has Publish l q none is = is
event_has Take l q none is = is
event_has Finish l q none is = finish_has l.drainer_hand l q is
event_has (Mark id) l q none is = is
event_has (Clear id) l q none is = gone_has l.cyclics id q is
event_has (Switch bank) l q none is = is
event_has Follow l q none is = is

first_has : (b : Bool) (e : Event) (es : List Event) (l : SoftLevel) (q : ℕ) → IsNoAdmit e → ((m : SoftLevel)
    → Has q (level_after es m) → Has q m)
    → Has q (level_after (cond b (e ∷ []) [] ++ es) l) → Has q l
first_has true e es l q none rest is = event_has e l q none (rest (after e l) is)
first_has false e es l q none rest is = rest l is

acts_have : (acts : List Act) (n : ℕ) (soft : Soft) (l : SoftLevel) (q : ℕ) → HasNoAdmit acts
    → Has q (level_after (events_at n soft acts) l) → Has q l
acts_have [] n soft l q none is = is
acts_have (At m level e ∷ acts) n soft l q none is =
    first_has ((m == n) && same_soft level soft) e (events_at n soft acts) l q none.0 (λ k. acts_have acts n soft k q none.1) is
acts_have (Call id ∷ acts) n soft l q none is = acts_have acts n soft l q none is

-- ---- the levels of cyclics

-- a change that keeps ids and levels
abbrev KeepsLevels : (CyclicState → CyclicState) → Type 0
KeepsLevels f = (x : CyclicState) → ((f x).timer.id ≡ x.timer.id) × ((f x).timer.level ≡ x.timer.level)

mapped_at : (f : CyclicState → CyclicState) (q : ℕ) (x : CyclicState) (o o' : Option CyclicState) (b : Bool)
    → (f x).timer.level ≡ x.timer.level → level_in o ≡ level_in o'
    → level_in (cond b (Some (f x)) o) ≡ level_in (cond b (Some x) o')
mapped_at f q x o o' true same rest = same
mapped_at f q x o o' false same rest = rest

mapped_level : (f : CyclicState → CyclicState) (q : ℕ) → KeepsLevels f → (ys : List CyclicState)
    → level_in (find (is_of q) (map f ys)) ≡ level_in (find (is_of q) ys)
mapped_level f q keeps [] = refl
mapped_level f q keeps (x ∷ ys) =
    ap (λ i. level_in (cond (i == q) (Some (f x)) (find (is_of q) (map f ys)))) (keeps x).0
    ∙ mapped_at f q x _ _ (x.timer.id == q) (keeps x).1 (mapped_level f q keeps ys)

fired_keeps : (now : ℕ) (made : List Expiration) (acts : List Act) → KeepsLevels (fired_cyclic now made acts)
unfolding timer_after
fired_keeps now made acts x = (refl, refl)

moment_keeps : (id moment : ℕ) → KeepsLevels (moment_at id moment)
moment_keeps id moment x = pick (is_of id x)
  where
    pick : (b : Bool) → ((cond b (cyclic_at moment x) x).timer.id ≡ x.timer.id)
        × ((cond b (cyclic_at moment x) x).timer.level ≡ x.timer.level)
    pick true = (refl, refl)
    pick false = (refl, refl)

-- the cyclics of other ids
other_level : (id q : ℕ) (ys : List CyclicState) → q ≢ id → level_in (find (is_of q) (others id ys)) ≡ level_in (find (is_of q)
    ys)
other_level id q [] ne = refl
other_level id q (x ∷ ys) ne = dite (ℕ_discrete x.timer.id id)
    (λ e. ap (λ b. level_in (find (is_of q) (cond (not b) (x ∷ others id ys) (others id ys)))) (same x.timer.id id e)
    ∙ other_level id q ys ne
    ∙ ap (λ b. level_in (cond b (Some x) (find (is_of q) ys))) (sym (differs x.timer.id q (λ is. ne (sym is ∙ e)))))
    (λ isnt. ap (λ b. level_in (find (is_of q) (cond (not b) (x ∷ others id ys) (others id ys)))) (differs x.timer.id id isnt)
    ∙ next (is_of q x) (other_level id q ys ne))
  where
    same : (a b : ℕ) → a ≡ b → (a == b) ≡ true
    same a b e = grind (arith, nat_tests)

    differs : (a b : ℕ) → a ≢ b → (a == b) ≡ false
    differs a b isnt = grind (arith, nat_tests)

    next : (b : Bool) → level_in (find (is_of q) (others id ys)) ≡ level_in (find (is_of q) ys)
        → level_in (cond b (Some x) (find (is_of q) (others id ys))) ≡ level_in (cond b (Some x) (find (is_of q) ys))
    next true rest = refl
    next false rest = rest

-- one more: it has its own level, and the others theirs
own_id : (a : ℕ) → (a == a) ≡ true
own_id a = grind (arith, nat_tests)

other_id : (a b : ℕ) → a ≢ b → (a == b) ≡ false
other_id a b isnt = grind (arith, nat_tests)

put_at : (x y : CyclicState) (ys : List CyclicState) (b first : Bool) → is_of x.timer.id y ≡ first
    → cond first (Some y) (find (is_of x.timer.id) ys) ≡ None
    → (find (is_of x.timer.id) ys ≡ None → level_in (find (is_of x.timer.id) (put_in x ys)) ≡ x.timer.level)
    → level_in (find (is_of x.timer.id) (cond b (x ∷ y ∷ ys) (y ∷ put_in x ys))) ≡ x.timer.level
put_at x y ys b true at e rest = absurd (let isnt : Some y ≡ None = e in cc)
put_at x y ys true false at e rest = ap (λ c. level_in (cond c (Some x) (find (is_of x.timer.id) (y ∷ ys)))) (own_id x.timer.id)
put_at x y ys false false at e rest = ap (λ c. level_in (cond c (Some y) (find (is_of x.timer.id) (put_in x ys)))) at ∙ rest e

put_own : (x : CyclicState) (ys : List CyclicState) → find (is_of x.timer.id) ys ≡ None
    → level_in (find (is_of x.timer.id) (put_in x ys)) ≡ x.timer.level
put_own x [] none = ap (λ b. level_in (cond b (Some x) None)) (own_id x.timer.id)
put_own x (y ∷ ys) none = put_at x y ys (nat_lt x.timer.id y.timer.id) (is_of x.timer.id y) refl none (put_own x ys)

next_level : (y : CyclicState) (o o' : Option CyclicState) (b : Bool) → level_in o ≡ level_in o'
    → level_in (cond b (Some y) o) ≡ level_in (cond b (Some y) o')
next_level y o o' true rest = refl
next_level y o o' false rest = rest

put_beside : (x y : CyclicState) (ys : List CyclicState) (q : ℕ) (b : Bool) → q ≢ x.timer.id
    → level_in (find (is_of q) (put_in x ys)) ≡ level_in (find (is_of q) ys)
    → level_in (find (is_of q) (cond b (x ∷ y ∷ ys) (y ∷ put_in x ys))) ≡ level_in (find (is_of q) (y ∷ ys))
put_beside x y ys q true ne rest = ap (λ c. level_in (cond c (Some x) (find (is_of q) (y ∷ ys))))
    (other_id x.timer.id q (λ e. ne (sym e)))
put_beside x y ys q false ne rest = next_level y _ _ (is_of q y) rest

put_other : (x : CyclicState) (ys : List CyclicState) (q : ℕ) → q ≢ x.timer.id
    → level_in (find (is_of q) (put_in x ys)) ≡ level_in (find (is_of q) ys)
put_other x [] q ne = ap (λ b. level_in (cond b (Some x) None)) (other_id x.timer.id q (λ e. ne (sym e)))
put_other x (y ∷ ys) q ne = put_beside x y ys q (nat_lt x.timer.id y.timer.id) ne (put_other x ys q ne)

-- ---- what acts leave alone

acts_keep : (acts : List Act) (c : Cpu) → ((happen acts c).cyclics ≡ c.cyclics) × ((happen acts c).removal ≡ c.removal)
acts_keep [] c = (refl, refl)
acts_keep (At n soft.Low e ∷ acts) c = acts_keep acts (record c { low = after e c.low })
acts_keep (At n soft.Lock e ∷ acts) c = acts_keep acts (record c { lock = after e c.lock })
acts_keep (Call id ∷ acts) c = acts_keep acts c

expire_keep : (n : ℕ) (ps : List Expiration) (c : Cpu)
    → ((expire_all n ps c).cpu.cyclics ≡ c.cyclics) × ((expire_all n ps c).cpu.removal ≡ c.removal)
expire_keep n [] c = (refl, refl)
expire_keep n (p ∷ ps) c =
    let first = acts_keep (expiry n (handler_level_of p.id c) p.id c) c in
    let rest = expire_keep n ps (happen (expiry n (handler_level_of p.id c) p.id c) c) in
    (rest.0 ∙ first.0, rest.1 ∙ first.1)

-- ---- each call keeps what is tied

pub kept : (c d : Cpu) → ((q : ℕ) → handler_level_of q d ≡ handler_level_of q c)
    → ((soft : Soft) (q : ℕ) → Has q (level_at soft d)
    → Has q (level_at soft c))
    → ((id : ℕ) → d.removal ≡ Some id → c.removal ≡ Some id) → HasOwn c → HasOwn d
kept c d levels fewer removal h = record {
  known = λ soft q is. levels q ∙ h.known soft q (fewer soft q is);
  removed = λ id is high. h.removed id (removal id is) (sym (levels id) ∙ high);
}

pub same_cyclics : (c d : Cpu) → d.cyclics ≡ c.cyclics → (q : ℕ) → handler_level_of q d ≡ handler_level_of q c
same_cyclics c d same q = ap (λ ys. level_in (find (is_of q) ys)) same

fired_level : (n now : ℕ) (made : List Expiration) (c : Cpu) (soft : Soft)
    → level_at soft (fire_these n now made c).cpu ≡ level_at soft (expire_all n made c).cpu
fired_level n now made c soft.Low = refl
fired_level n now made c soft.Lock = refl

-- any expirations
pub these_ties : (n now : ℕ) (made : List Expiration) (c : Cpu) → HasOwn c → HasOwn (fire_these n now made c).cpu
these_ties n now made c =
    let d = expire_all n made c in
    let k = expire_keep n made c in
    kept c (fire_these n now made c).cpu
    (λ q. mapped_level (fired_cyclic now made d.acts) q (fired_keeps now made d.acts) d.cpu.cyclics
    ∙ ap (λ ys. level_in (find (is_of q) ys)) k.0)
    (λ soft q is. acts_have d.acts n soft (level_at soft c) q (expire_none n made c)
    (subst (Has q) (fired_level n now made c soft ∙ (local_expire_all n made c).levels soft) is))
    (λ id is. sym k.1 ∙ is)

pub fire_ties : (n now : ℕ) (c : Cpu) → HasOwn c → HasOwn (fire_here n now c).cpu
fire_ties n now c = these_ties n now (due_here now c) c

pub serve_ties : (n : ℕ) (soft : Soft) (budget : ℕ) (c : Cpu) → HasOwn c → HasOwn (serve_here n soft budget c).cpu
serve_ties n soft budget c =
    let d = serve_here n soft budget c in
    let k = acts_keep d.acts c in
    kept c d.cpu (same_cyclics c d.cpu k.0)
    (λ level q is. acts_have d.acts n level (level_at level c) q (interrupt_none n soft budget c)
    (subst (Has q) ((local_serve n soft budget c).levels level) is))
    (λ id is. sym k.1 ∙ is)

pub widen_keep : (n more : ℕ) (c : Cpu)
    → ((widen_here n more c).cpu.cyclics ≡ c.cyclics) × ((widen_here n more c).cpu.removal ≡ c.removal)
widen_keep n more c = pick (must_grow more c)
  where
    pick : (b : Bool) → ((cond b (switch_here n (bank_for (length c.cyclics + more)) c) (nothing_here c)).cpu.cyclics ≡ c.cyclics)
        × ((cond b (switch_here n (bank_for (length c.cyclics + more)) c) (nothing_here c)).cpu.removal ≡ c.removal)
    pick true = (refl, refl)
    pick false = (refl, refl)

pub widen_ties : (n more : ℕ) (c : Cpu) → HasOwn c → HasOwn (widen_here n more c).cpu
widen_ties n more c =
    let d = widen_here n more c in
    let k = widen_keep n more c in
    kept c d.cpu (same_cyclics c d.cpu k.0)
    (λ soft q is. acts_have d.acts n soft (level_at soft c) q (widen_none n more c)
    (subst (Has q) ((local_widen n more c).levels soft) is))
    (λ id is. sym k.1 ∙ is)

pub reprogram_ties : (id moment : ℕ) (c : Cpu) → HasOwn c → HasOwn (reprogram_here id moment c).cpu
reprogram_ties id moment c = kept c (reprogram_here id moment c).cpu
    (λ q. mapped_level (moment_at id moment) q (moment_keeps id moment) c.cyclics)
    (λ soft q is. same_has soft q is) (λ i is. is)
  where
    same_has : (soft : Soft) (q : ℕ) → Has q (level_at soft (reprogram_here id moment c).cpu) → Has q (level_at soft c)
    same_has soft.Low q is = is
    same_has soft.Lock q is = is

-- ---- a cyclic comes

admits : (own : Bool) (id index q : ℕ) (l : SoftLevel) → Has q (where_own own (Admit id index) l) → q ≢ id → Has q l
admits false id index q l is ne = is
admits true id index q l is ne = subst (λ o. IsSome o) (at_other l.cyclics id (λ _. Some (admitted_cyclic index)) q ne) is

absent_level : (id : ℕ) (c : Cpu) → find (is_of id) c.cyclics ≡ None → handler_level_of id c ≡ High
absent_level id c none = ap level_in none

not_high : (soft : Soft) (level : Level) → level ≡ High → level ≡ as_level soft → ⊥
not_high soft.Low level high is = let both : High ≡ Low = sym high ∙ is in cc
not_high soft.Lock level high is = let both : High ≡ Lock = sym high ∙ is in cc

own_of : (kind level : Level) → same_level kind level ≡ true → level ≡ kind
own_of Low Low is = refl
own_of Lock Lock is = refl
own_of High High is = refl
own_of Low Lock is = absurd (let isnt : false ≡ true = is in cc)
own_of Low High is = absurd (let isnt : false ≡ true = is in cc)
own_of Lock Low is = absurd (let isnt : false ≡ true = is in cc)
own_of Lock High is = absurd (let isnt : false ≡ true = is in cc)
own_of High Low is = absurd (let isnt : false ≡ true = is in cc)
own_of High Lock is = absurd (let isnt : false ≡ true = is in cc)

pub place_ties : (n index : ℕ) (x : CyclicState) (c : Cpu) → find (is_of x.timer.id) c.cyclics ≡ None → HasOwn c
    → HasOwn (place_here n index x c).cpu
place_ties n index x c none h = subst HasOwn
    (sym (own_cpu x.timer.level n (Admit x.timer.id index) (record c { cyclics = put_in x c.cyclics }))) (record {
      known = known;
      removed = λ id is high. h.removed id is (sym
          (put_other x c.cyclics id (λ e. h.removed id is (ap (λ i. handler_level_of i c) e ∙ absent_level x.timer.id c none)))
          ∙ high);
    })
  where
    id : ℕ
    id = x.timer.id

    d : Cpu
    d = record c {
      cyclics = put_in x c.cyclics;
      lock = where_own (same_level Lock x.timer.level) (Admit x.timer.id index) c.lock;
      low = where_own (same_level Low x.timer.level) (Admit x.timer.id index) c.low;
    }

    beside : (soft : Soft) (q : ℕ) → Has q (level_at soft c) → q ≢ x.timer.id
        → level_in (find (is_of q) (put_in x c.cyclics)) ≡ as_level soft
    beside soft q is ne = put_other x c.cyclics q ne ∙ h.known soft q is

    never_there : (soft : Soft) (q : ℕ) → Has q (level_at soft c) → q ≢ x.timer.id
    never_there soft q is e = not_high soft (handler_level_of q c) (ap (λ i. handler_level_of i c) e
        ∙ absent_level x.timer.id c none)
        (h.known soft q is)

    at_level : (soft : Soft) (kind : Level) (q : ℕ) (own : Bool) → same_level kind x.timer.level ≡ own
        → kind ≡ as_level soft
        → Has q (where_own own (Admit x.timer.id index) (level_at soft c))
        → level_in (find (is_of q) (put_in x c.cyclics)) ≡ as_level soft
    at_level soft kind q false at same is = beside soft q is (never_there soft q is)
    at_level soft kind q true at same is = dite (ℕ_discrete q x.timer.id)
        (λ e. ap (λ i. level_in (find (is_of i) (put_in x c.cyclics))) e ∙ put_own x c.cyclics none ∙ own_of kind x.timer.level at
        ∙ same)
        (λ ne. beside soft q (admits true x.timer.id index q (level_at soft c) is ne) ne)

    known : (soft : Soft) (q : ℕ) → Has q (level_at soft (record c {
      cyclics = put_in x c.cyclics;
      lock = where_own (same_level Lock x.timer.level) (Admit x.timer.id index) c.lock;
      low = where_own (same_level Low x.timer.level) (Admit x.timer.id index) c.low;
    })) → level_in (find (is_of q) (put_in x c.cyclics)) ≡ as_level soft
    known soft.Lock q is = at_level soft.Lock Lock q (same_level Lock x.timer.level) refl refl is
    known soft.Low q is = at_level soft.Low Low q (same_level Low x.timer.level) refl refl is

-- ---- a cyclic is marked, and leaves

mark_has : (own : Bool) (id q : ℕ) (l : SoftLevel) → Has q (where_own own (Mark id) l) → Has q l
mark_has true id q l is = is
mark_has false id q l is = is

clear_has : (own : Bool) (id q : ℕ) (l : SoftLevel) → Has q (where_own own (Clear id) l) → Has q l
clear_has true id q l is = gone_has l.cyclics id q is
clear_has false id q l is = is

cleared_none : (id : ℕ) (l : SoftLevel) → Has id (where_own true (Clear id) l) → ⊥
cleared_none id l is = not_none ((after (Clear id) l).cyclics id) is (at_same l.cyclics id (λ _. None))

abbrev pub IsKnown : Cpu → Type 0
IsKnown c = (soft : Soft) (id : ℕ) → Has id (level_at soft c) → handler_level_of id c ≡ as_level soft

marked_known : (id : ℕ) (c : Cpu) → IsKnown c → IsKnown (marked_cpu (handler_level_of id c) id c)
marked_known id c h soft.Lock q is = mapped_level (moment_at id never) q (moment_keeps id never) c.cyclics
    ∙ h soft.Lock q (mark_has (same_level Lock (handler_level_of id c)) id q c.lock is)
marked_known id c h soft.Low q is = mapped_level (moment_at id never) q (moment_keeps id never) c.cyclics
    ∙ h soft.Low q (mark_has (same_level Low (handler_level_of id c)) id q c.low is)

pub mark_known : (n id : ℕ) (c : Cpu) → IsKnown c → IsKnown (mark_here n id c).cpu
mark_known n id c h = subst IsKnown (sym (mark_as n id (handler_level_of id c) c refl)) (marked_known id c h)

pub mark_ties : (n id : ℕ) (c : Cpu) → handler_level_of id c ≢ High → IsKnown c → HasOwn (mark_here n id c).cpu
mark_ties n id c soft_one h = subst HasOwn (sym (mark_as n id (handler_level_of id c) c refl)) (record {
  known = marked_known id c h;
  removed = λ i is high. soft_one (ap (λ j. handler_level_of j c) (same_id i is)
      ∙ sym (mapped_level (moment_at id never) i (moment_keeps id never) c.cyclics) ∙ high);
})
  where
    same_id : (i : ℕ) → Some id ≡ Some i → id ≡ i
    same_id i is = cc

-- what stands at a level from which the id was cleared is another cyclic
cleared_other : (soft : Soft) (kind : Level) (own : Bool) (id q : ℕ) (c : Cpu)
    → same_level kind (handler_level_of id c) ≡ own → kind ≡ as_level soft → IsKnown c
    → Has q (where_own own (Clear id) (level_at soft c)) → q ≢ id
cleared_other soft kind true id q c at same h is e =
    cleared_none id (level_at soft c) (subst (λ i. Has i (where_own true (Clear id) (level_at soft c))) e is)
cleared_other soft kind false id q c at same h is e =
    let level : handler_level_of id c ≡ kind = ap (λ i. handler_level_of i c) (sym e) ∙ h soft q is ∙ sym same in
    let both : true ≡ false = sym (own_same kind) ∙ ap (same_level kind) (sym level) ∙ at in cc
  where
    own_same : (k : Level) → same_level k k ≡ true
    own_same Low = refl
    own_same Lock = refl
    own_same High = refl

gone_known : (soft : Soft) (kind : Level) (id q : ℕ) (c : Cpu) → kind ≡ as_level soft → IsKnown c
    → Has q (where_own (same_level kind (handler_level_of id c)) (Clear id) (level_at soft c))
    → level_in (find (is_of q) (others id c.cyclics)) ≡ as_level soft
gone_known soft kind id q c same h is =
    other_level id q c.cyclics (cleared_other soft kind (same_level kind (handler_level_of id c)) id q c refl same h is)
    ∙ h soft q (clear_has (same_level kind (handler_level_of id c)) id q (level_at soft c) is)

pub clear_ties : (n id : ℕ) (c : Cpu) → IsKnown c → HasOwn (clear_here n id c).cpu
clear_ties n id c h = subst HasOwn (sym (clear_as n id (handler_level_of id c) c refl)) (record {
  known = known;
  removed = λ i is. absurd (let isnt : None ≡ Some i = is in cc);
})
  where
    known : (soft : Soft) (q : ℕ) → Has q (level_at soft (cleared_cpu (handler_level_of id c) id c))
        → level_in (find (is_of q) (others id c.cyclics)) ≡ as_level soft
    known soft.Lock q is = gone_known soft.Lock Lock id q c refl h is
    known soft.Low q is = gone_known soft.Low Low id q c refl h is

pub take_ties : (n id : ℕ) (c : Cpu) → c.removal ≡ None → IsKnown c → HasOwn (take_here n id c).cpu
take_ties n id c still h = subst HasOwn
    (sym (take_as n id (handler_level_of id c) c refl
    ∙ own_cpu (handler_level_of id c) n (Clear id) (without id (own_marked (handler_level_of id c) id c)))) (record {
      known = known;
      removed = λ i is. absurd (let isnt : None ≡ Some i = sym still ∙ is in cc);
    })
  where
    marked : IsKnown (own_marked (handler_level_of id c) id c)
    marked soft.Lock q is = h soft.Lock q (mark_has (same_level Lock (handler_level_of id c)) id q c.lock is)
    marked soft.Low q is = h soft.Low q (mark_has (same_level Low (handler_level_of id c)) id q c.low is)

    known : (soft : Soft) (q : ℕ) → Has q (level_at soft (record (without id (own_marked (handler_level_of id c) id c)) {
      lock = where_own (same_level Lock (handler_level_of id c)) (Clear id) (own_marked (handler_level_of id c) id c).lock;
      low = where_own (same_level Low (handler_level_of id c)) (Clear id) (own_marked (handler_level_of id c) id c).low;
    })) → level_in (find (is_of q) (others id c.cyclics)) ≡ as_level soft
    known soft.Lock q is = gone_known soft.Lock Lock id q (own_marked (handler_level_of id c) id c) refl marked is
    known soft.Low q is = gone_known soft.Low Low id q (own_marked (handler_level_of id c) id c) refl marked is
