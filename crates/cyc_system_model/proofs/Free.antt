-- The index that a cyclic gets is free.
use Rattle.std.proofs.Common.{◌≡◌, ℕ, zero, suc, ◌+◌, ◌==◌, eq-eqb, length, Option, List, [], ◌∷◌, ◌++◌, map, Bool, true, false}
use Rattle.std.proofs.Common.{cond, Some, None, refl, ap, sym, ◌∙◌, subst}
use Rattle.std.specs.Prelude.{⊤, ◌&&◌, is_some}
use Rattle.cyc_types.specs.Firing.{Admits}
use Rattle.cyc_types.specs.Runs.{Goes}
use Rattle.cyc_types.specs.declared.level.Soft.{Soft}
use Rattle.cyc_types.specs.declared.level.Soft.TheVariants as soft
use Rattle.cyc_types.specs.declared.level.Level.{Level}
use Rattle.cyc_types.specs.declared.level.Level.TheVariants.{Low, Lock, High}
use Rattle.cyc_types.specs.declared.moment.When.{When}
use Rattle.cyc_level.specs.declared.Event.{Event}
use Rattle.cyc_level.specs.declared.Event.TheVariants.{Admit, Expire, Lose, Publish, Take, Finish, Mark, Clear, Switch, Follow}
use Rattle.cyc_level.specs.Level.{SoftLevel, count}
use Rattle.cyc_level.specs.Events.{Enabled, after}
use Rattle.cyc_types.specs.Expirations.{Expiration}
use Rattle.cyc_core.specs.Tables.{Tables, level_of}
use Rattle.cyc_timers.specs.Rows.{Cyclic as Timed}
use Rattle.cyc_timers.specs.Acts.{same_level}
use Rattle.cyc_cpu.specs.Cpu.{CpuView, Places}
use Rattle.cyc_cpu.specs.Calls.{AddsHere, added_cyclic}
use Rattle.cyc_cpu.specs.Soft.{raise_tables}
use Rattle.cyc_model.specs.Acts.{Act, At, Call, at_own, same_soft, events_at}
use Rattle.cyc_model.specs.Cpu.{Cpu, nothing_here, then_here, handler_level_of}
use Rattle.cyc_model.specs.Firing.{raised, expiry, expire_here, expire_all, due_here, fire_here}
use Rattle.cyc_model.specs.Serving.{level_after, level_at, looks, look, Interrupt, after_look, serve, serve_here}
use Rattle.cyc_model.specs.Moving.{bank_for, must_grow, switch_here, widen_here, place_here, enter_here, take_here, mark_here}
use Rattle.cyc_model.specs.Moving.{clear_here}
use Rattle.cyc_model.specs.Add.{begun_cyclic}
use Rattle.cyc_model.specs.Free.{CanBeAdmitted, AllCanBeAdmitted}
use Rattle.cyc_model.proofs.Events.{events_append}
use Rattle.cyc_model.proofs.Local.{local_widen}
use Rattle.cyc_system_model.specs.ShownCpu.{shown_cyclic, shown_cpu}
use Rattle.cyc_system_model.proofs.CpuComing.{shown_reserved, widened}

-- ---- acts that put nothing in

abbrev pub IsNoAdmit : Event → Type 0
IsNoAdmit (Admit id index) = ⊥
IsNoAdmit e = ⊤

abbrev pub HasNoAdmit : List Act → Type 0
HasNoAdmit [] = ⊤
HasNoAdmit (At m level e ∷ acts) = IsNoAdmit e × HasNoAdmit acts
HasNoAdmit (Call id ∷ acts) = HasNoAdmit acts

can_none : (e : Event) (l : SoftLevel) → IsNoAdmit e → CanBeAdmitted e l
can_none (Admit id index) l is = absurd is
can_none (Expire id) l is = tt
can_none (Lose id) l is = tt
can_none Publish l is = tt
can_none Take l is = tt
can_none Finish l is = tt
can_none (Mark id) l is = tt
can_none (Clear id) l is = tt
can_none (Switch bank) l is = tt
can_none Follow l is = tt

first_none : (b : Bool) (e : Event) (es : List Event) (l : SoftLevel) → IsNoAdmit e → ((m : SoftLevel) → AllCanBeAdmitted es m)
    → AllCanBeAdmitted (cond b (e ∷ []) [] ++ es) l
first_none true e es l is rest = (can_none e l is, rest (after e l))
first_none false e es l is rest = rest l

pub none_admitted : (acts : List Act) (n : ℕ) (soft : Soft) (l : SoftLevel) → HasNoAdmit acts
    → AllCanBeAdmitted (events_at n soft acts) l
none_admitted [] n soft l none = tt
none_admitted (At m level e ∷ acts) n soft l none =
    first_none ((m == n) && same_soft level soft) e (events_at n soft acts) l none.0 (λ k. none_admitted acts n soft k none.1)
none_admitted (Call id ∷ acts) n soft l none = none_admitted acts n soft l none

pub no_more : (xs ys : List Act) → HasNoAdmit xs → HasNoAdmit ys → HasNoAdmit (xs ++ ys)
no_more [] ys first rest = rest
no_more (At m level e ∷ xs) ys first rest = (first.0, no_more xs ys first.1 rest)
no_more (Call id ∷ xs) ys first rest = no_more xs ys first rest

own_none : (n : ℕ) (level : Level) (e : Event) → IsNoAdmit e → HasNoAdmit (at_own n level e)
own_none n High e is = tt
own_none n Lock e is = (is, tt)
own_none n Low e is = (is, tt)

abbrev AllNone : List Event → Type 0
AllNone [] = ⊤
AllNone (e ∷ es) = IsNoAdmit e × AllNone es

events_none : (n : ℕ) (soft : Soft) (es : List Event) → AllNone es → HasNoAdmit (map (At n soft) es)
events_none n soft [] none = tt
events_none n soft (e ∷ es) none = (none.0, events_none n soft es none.1)

-- ---- each call that puts nothing in

raised_none : (full empty : Bool) (id : ℕ)
    → AllNone (cond full (Lose id ∷ []) (cond empty (Expire id ∷ Publish ∷ []) (Expire id ∷ [])))
raised_none true empty id = (tt, tt)
raised_none false true id = (tt, (tt, tt))
raised_none false false id = (tt, tt)

expiry_none : (n : ℕ) (level : Level) (id : ℕ) (c : Cpu) → HasNoAdmit (expiry n level id c)
expiry_none n High id c = tt
expiry_none n Lock id c = events_none n soft.Lock (raised id c.lock)
    (raised_none (count c.lock id == c.lock.ceiling) (count c.lock id == 0) id)
expiry_none n Low id c = events_none n soft.Low (raised id c.low)
    (raised_none (count c.low id == c.low.ceiling) (count c.low id == 0) id)

pub expire_none : (n : ℕ) (ps : List Expiration) (c : Cpu) → HasNoAdmit (expire_all n ps c).acts
expire_none n [] c = tt
expire_none n (p ∷ ps) c =
    no_more (expire_here n p.id c).acts (expire_all n ps (expire_here n p.id c).cpu).acts
    (expiry_none n (handler_level_of p.id c) p.id c)
    (expire_none n ps (expire_here n p.id c).cpu)

pub fire_none : (n now : ℕ) (c : Cpu) → HasNoAdmit (fire_here n now c).acts
fire_none n now c = expire_none n (due_here now c) c

looks_none : (old new : List ℕ) (followed : Bool) → AllNone (looks old new followed)
looks_none [] [] true = tt
looks_none [] [] false = (tt, tt)
looks_none [] (y ∷ ys) true = (tt, tt)
looks_none [] (y ∷ ys) false = (tt, (tt, tt))
looks_none (x ∷ xs) [] true = tt
looks_none (x ∷ xs) [] false = (tt, tt)
looks_none (x ∷ xs) (y ∷ ys) true = (tt, tt)
looks_none (x ∷ xs) (y ∷ ys) false = (tt, tt)

look_none : (l : SoftLevel) → AllNone (look l)
look_none l = pick (is_some l.drainer_hand)
  where
    pick : (b : Bool) → AllNone (cond b [] (looks l.old_list l.new_list (l.hard_bank == l.soft_bank)))
    pick true = tt
    pick false = looks_none l.old_list l.new_list (l.hard_bank == l.soft_bank)

after_none : (n : ℕ) (soft : Soft) (looked : List Event) (l : SoftLevel) (rest : SoftLevel → Interrupt) → AllNone looked
    → ((m : SoftLevel) → HasNoAdmit (rest m).acts)
    → (hand : Option ℕ) → HasNoAdmit (after_look n soft looked (record l { drainer_hand = hand }) rest).acts
after_none n soft looked l rest none more None = events_none n soft looked none
after_none n soft looked l rest none more (Some id) =
    no_more (map (At n soft) looked) _ (events_none n soft looked none)
    (tt, more (after Finish (record l { drainer_hand = Some id })))

serve_none : (n : ℕ) (soft : Soft) (budget : ℕ) (l : SoftLevel) → HasNoAdmit (serve n soft budget l).acts
serve_none n soft zero l = tt
serve_none n soft (suc budget) l =
    after_none n soft (look l) (level_after (look l) l) (serve n soft budget) (look_none l) (serve_none n soft budget)
    (level_after (look l) l).drainer_hand

pub interrupt_none : (n : ℕ) (soft : Soft) (budget : ℕ) (c : Cpu) → HasNoAdmit (serve_here n soft budget c).acts
interrupt_none n soft budget c = serve_none n soft budget (level_at soft c)

pub widen_none : (n more : ℕ) (c : Cpu) → HasNoAdmit (widen_here n more c).acts
widen_none n more c = pick (must_grow more c)
  where
    pick : (b : Bool) → HasNoAdmit (cond b (switch_here n (bank_for (length c.cyclics + more)) c) (nothing_here c)).acts
    pick true = (tt, (tt, tt))
    pick false = tt

pub mark_none : (n id : ℕ) (c : Cpu) → HasNoAdmit (mark_here n id c).acts
mark_none n id c = own_none n (handler_level_of id c) (Mark id) tt

pub clear_none : (n id : ℕ) (c : Cpu) → HasNoAdmit (clear_here n id c).acts
clear_none n id c = own_none n (handler_level_of id c) (Clear id) tt

pub remove_none : (n id : ℕ) (c : Cpu) → HasNoAdmit (then_here (mark_here n id c) (clear_here n id)).acts
remove_none n id c = no_more (mark_here n id c).acts (clear_here n id (mark_here n id c).cpu).acts (mark_none n id c)
    (clear_none n id (mark_here n id c).cpu)

pub take_none : (n id : ℕ) (c : Cpu) → HasNoAdmit (take_here n id c).acts
take_none n id c = no_more (at_own n (handler_level_of id c) (Mark id)) _ (own_none n (handler_level_of id c) (Mark id) tt)
    (own_none n _ (Clear id) tt)

-- ---- a cyclic that is put in

pub can_append : (xs ys : List Event) (l : SoftLevel) → AllCanBeAdmitted xs l → AllCanBeAdmitted ys (level_after xs l)
    → AllCanBeAdmitted (xs ++ ys) l
can_append [] ys l first rest = rest
can_append (x ∷ xs) ys l first rest = (first.0, can_append xs ys (after x l) first.1 rest)

-- an admission at its end was enabled
enabled_at : (own : Bool) (id index : ℕ) (d e : Tables) → Goes raise_tables d (cond own (Admits id index ∷ []) []) e
    → own ≡ true → Enabled (Admit id index) (level_of d)
enabled_at true id index d e (x, (step, learns), last) is = step.0
enabled_at false id index d e goes is = absurd (let isnt : false ≡ true = is in cc)

own_can : (n id index : ℕ) (level : Level) (soft : Soft) (c : Cpu)
    → (level ≡ Lock → Enabled (Admit id index) c.lock) → (level ≡ Low → Enabled (Admit id index) c.low)
    → AllCanBeAdmitted (events_at n soft (at_own n level (Admit id index))) (level_at soft c)
own_can n id index High soft c lock low = tt
own_can n id index Lock soft.Lock c lock low =
    subst (λ (b : Bool). AllCanBeAdmitted (cond (b && true) (Admit id index ∷ []) [] ++ []) c.lock) (sym (eq-eqb n n refl))
    (lock refl, tt)
own_can n id index Lock soft.Low c lock low =
    subst (λ (b : Bool). AllCanBeAdmitted (cond (b && false) (Admit id index ∷ []) [] ++ []) c.low) (sym (eq-eqb n n refl)) tt
own_can n id index Low soft.Lock c lock low =
    subst (λ (b : Bool). AllCanBeAdmitted (cond (b && false) (Admit id index ∷ []) [] ++ []) c.lock) (sym (eq-eqb n n refl)) tt
own_can n id index Low soft.Low c lock low =
    subst (λ (b : Bool). AllCanBeAdmitted (cond (b && true) (Admit id index ∷ []) [] ++ []) c.low) (sym (eq-eqb n n refl))
    (low refl, tt)

pub place_free : (n : ℕ) (online : Bool) (x : Timed) (soft : Soft) (v w : CpuView Tables) (p : Places raise_tables x v w)
    → AllCanBeAdmitted (events_at n soft (place_here n p.index (shown_cyclic x) (shown_cpu online v)).acts)
    (level_at soft (shown_cpu online v))
place_free n online x soft v w p =
    own_can n x.timer.id p.index x.timer.level soft (shown_cpu online v)
    (λ e. enabled_at (same_level Lock x.timer.level) x.timer.id p.index v.lock w.lock p.lock (ap (same_level Lock) e))
    (λ e. enabled_at (same_level Low x.timer.level) x.timer.id p.index v.low w.low p.low (ap (same_level Low) e))

pub add_free : (n id now : ℕ) (online : Bool) (level : Level) (series : When) (soft : Soft) (v w : CpuView Tables)
    (a : AddsHere raise_tables (added_cyclic id level series now) v w)
    → AllCanBeAdmitted (events_at n soft (enter_here n a.enters.index (begun_cyclic id level series.start series.interval now)
    (shown_cpu online v)).acts) (level_at soft (shown_cpu online v))
add_free n id now online level series soft v w a =
    let c = shown_cpu online v in
    let x = begun_cyclic id level series.start series.interval now in
    let wide = widen_here n 1 c in
    let is : shown_cpu online a.widened ≡ wide.cpu =
    widened n 1 online a.reserved a.widened a.widens
    ∙ ap (λ (d : Cpu). (widen_here n 1 d).cpu) (shown_reserved online 1 v a.reserved a.reserves) in
    let rest = subst (λ (d : Cpu). AllCanBeAdmitted (events_at n soft (place_here n a.enters.index x d).acts) (level_at soft d))
    is
    (place_free n online _ soft a.widened w a.enters) in
    let there = subst (λ l. AllCanBeAdmitted (events_at n soft (place_here n a.enters.index x wide.cpu).acts) l)
    ((local_widen n 1 c).levels soft) rest in
    subst (λ es. AllCanBeAdmitted es (level_at soft c))
    (sym (events_append n soft wide.acts (place_here n a.enters.index x wide.cpu).acts))
    (can_append (events_at n soft wide.acts) _ (level_at soft c)
    (none_admitted wide.acts n soft (level_at soft c) (widen_none n 1 c)) there)
