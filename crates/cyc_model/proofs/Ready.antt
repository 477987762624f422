-- What the firing side does finds all ready for it.
use Rattle.std.proofs.Common.{◌≡◌, ◌≢◌, ℕ, ◌==◌, ◌&&◌, eq-eqb, ne_eqb, Bool, true, false, cond, List, [], ◌∷◌, ◌++◌, map, None}
use Rattle.std.proofs.Common.{sym, subst, refl}
use Rattle.std.specs.Prelude.{⊤, IsSome}
use mathlib.Core.Logic.{dite}
use native.Mathlib.Decide.{ℕ_discrete}
use Rattle.cyc_types.specs.declared.level.Soft.{Soft}
use Rattle.cyc_types.specs.declared.level.Soft.TheVariants.{Low, Lock}
use Rattle.cyc_types.specs.declared.level.Level.{Level}
use Rattle.cyc_types.specs.declared.level.Level.TheVariants as level
use Rattle.cyc_level.specs.declared.Event.{Event}
use Rattle.cyc_level.specs.declared.Event.TheVariants.{Admit, Expire, Lose, Publish, Take, Finish, Mark, Clear, Switch, Follow}
use Rattle.cyc_level.specs.Level.{SoftLevel, count}
use Rattle.cyc_level.specs.Events.{after}
use Rattle.cyc_model.specs.Acts.{Act, At, Call, at_own, same_soft, events_at}
use Rattle.cyc_model.specs.Cpu.{Cpu, handler_level_of}
use Rattle.cyc_model.specs.Firing.{raised, expiry}
use Rattle.cyc_model.specs.Serving.{level_at, level_after, serve}
use Rattle.cyc_types.specs.Levels.{as_level}
use Rattle.cyc_model.specs.Agreement.{StateAgrees, IsReadyToExpire, AllReady}
use Rattle.cyc_model.proofs.Agreement.{AllActs, acts_of_serve}
use Rattle.cyc_model.proofs.Fair.{own_events, switch_events}

pub ready_append : (xs ys : List Event) (l : SoftLevel) → AllReady xs l → AllReady ys (level_after xs l) → AllReady (xs ++ ys) l
ready_append [] ys l first rest = rest
ready_append (x ∷ xs) ys l first rest = (first.0, ready_append xs ys (after x l) first.1 rest)

-- the acts are ready at a CPU that agrees with its levels, whose firer's hands are empty
abbrev pub ReadyAt : ℕ → List Act → Cpu → Type 0
ReadyAt n acts c = StateAgrees c → (soft : Soft) → (level_at soft c).firer_hand ≡ None
    → AllReady (events_at n soft acts) (level_at soft c)

ready_map : (n : ℕ) (from : Soft) (es : List Event) (c : Cpu)
    → ((level_at from c).firer_hand ≡ None → AllReady es (level_at from c)) → (soft : Soft)
    → (level_at soft c).firer_hand ≡ None → AllReady (events_at n soft (map (At n from) es)) (level_at soft c)
ready_map n from es c ready soft free = subst (λ ys. AllReady ys (level_at soft c)) (sym (own_events n from soft es))
    (by from soft ready free)
  where
    by : (a b : Soft) → ((level_at a c).firer_hand ≡ None → AllReady es (level_at a c)) → (level_at b c).firer_hand ≡ None
        → AllReady (cond (same_soft a b) es []) (level_at b c)
    by Low Low f h = f h
    by Lock Lock f h = f h
    by Low Lock f h = tt
    by Lock Low f h = tt

ready_own : (n : ℕ) (l : Level) (e : Event) (c : Cpu)
    → ((soft : Soft) → l ≡ as_level soft → (level_at soft c).firer_hand ≡ None → IsReadyToExpire e (level_at soft c))
    → (soft : Soft)
    → (level_at soft c).firer_hand ≡ None → AllReady (events_at n soft (at_own n l e)) (level_at soft c)
ready_own n level.High e c ready soft free = tt
ready_own n level.Lock e c ready soft free = ready_map n Lock (e ∷ []) c (λ f. (ready Lock refl f, tt)) soft free
ready_own n level.Low e c ready soft free = ready_map n Low (e ∷ []) c (λ f. (ready Low refl f, tt)) soft free

pub ready_admit : (n : ℕ) (l : Level) (id index : ℕ) (c : Cpu) → ReadyAt n (at_own n l (Admit id index)) c
ready_admit n l id index c agrees soft free = ready_own n l (Admit id index) c (λ k is f. f) soft free

pub ready_mark : (n id : ℕ) (c : Cpu) → ReadyAt n (at_own n (handler_level_of id c) (Mark id)) c
ready_mark n id c agrees soft free =
    ready_own n (handler_level_of id c) (Mark id) c (λ k is f. (f, agrees.admitted id k is)) soft free

pub ready_clear : (n : ℕ) (l : Level) (id : ℕ) (c : Cpu) → ReadyAt n (at_own n l (Clear id)) c
ready_clear n l id c agrees soft free = ready_own n l (Clear id) c (λ k is f. f) soft free

pub ready_switch : (n bank : ℕ) (c : Cpu) → ReadyAt n (At n Lock (Switch bank) ∷ At n Low (Switch bank) ∷ []) c
ready_switch n bank c agrees soft free =
    subst (λ es. AllReady es (level_at soft c)) (sym (switch_events n bank soft)) (free, tt)

ready_raised : (id : ℕ) (l : SoftLevel) → IsSome (l.cyclics id) → l.firer_hand ≡ None → AllReady (raised id l) l
ready_raised id l some free = dite (ℕ_discrete (count l id) l.ceiling)
    (λ e. subst
    (λ (b : Bool). AllReady (cond b (Lose id ∷ []) (cond (count l id == 0) (Expire id ∷ Publish ∷ []) (Expire id ∷ []))) l)
    (sym (eq-eqb (count l id) l.ceiling e)) ((free, some, e), tt))
    (λ ne. subst
    (λ (b : Bool). AllReady (cond b (Lose id ∷ []) (cond (count l id == 0) (Expire id ∷ Publish ∷ []) (Expire id ∷ []))) l)
    (sym (ne_eqb (count l id) l.ceiling ne)) (by ne (count l id == 0)))
  where
    by : count l id ≢ l.ceiling → (b : Bool) → AllReady (cond b (Expire id ∷ Publish ∷ []) (Expire id ∷ [])) l
    by ne true = ((free, some, ne), (tt, tt))
    by ne false = ((free, some, ne), tt)

ready_expiry : (n : ℕ) (l : Level) (id : ℕ) (c : Cpu)
    → ((soft : Soft) → l ≡ as_level soft → IsSome ((level_at soft c).cyclics id)) → (soft : Soft)
    → (level_at soft c).firer_hand ≡ None → AllReady (events_at n soft (expiry n l id c)) (level_at soft c)
ready_expiry n level.High id c admitted soft free = tt
ready_expiry n level.Lock id c admitted soft free =
    ready_map n Lock (raised id c.lock) c (ready_raised id c.lock (admitted Lock refl)) soft free
ready_expiry n level.Low id c admitted soft free =
    ready_map n Low (raised id c.low) c (ready_raised id c.low (admitted Low refl)) soft free

pub ready_expire : (n id : ℕ) (c : Cpu) → ReadyAt n (expiry n (handler_level_of id c) id c) c
ready_expire n id c agrees soft free = ready_expiry n (handler_level_of id c) id c (λ k is. agrees.admitted id k is) soft free

-- ---- the soft side

abbrev IsOfSoftSide : Event → Type 0
IsOfSoftSide Take = ⊤
IsOfSoftSide Finish = ⊤
IsOfSoftSide Follow = ⊤
IsOfSoftSide _ = ⊥

ready_soft : (e : Event) (l : SoftLevel) → IsOfSoftSide e → IsReadyToExpire e l
ready_soft (Admit id index) l is = absurd is
ready_soft (Expire id) l is = absurd is
ready_soft (Lose id) l is = absurd is
ready_soft Publish l is = tt
ready_soft Take l is = tt
ready_soft Finish l is = tt
ready_soft (Mark id) l is = absurd is
ready_soft (Clear id) l is = absurd is
ready_soft (Switch bank) l is = absurd is
ready_soft Follow l is = tt

ready_acts : (n : ℕ) (soft : Soft) (acts : List Act) (l : SoftLevel) → AllActs IsOfSoftSide acts
    → AllReady (events_at n soft acts) l
ready_acts n soft [] l h = tt
ready_acts n soft (Call id ∷ acts) l h = ready_acts n soft acts l h.1
ready_acts n soft (At m s e ∷ acts) l h =
    by ((m == n) && same_soft s soft) (ready_acts n soft acts l h.1) (ready_acts n soft acts (after e l) h.1)
  where
    by : (b : Bool) → AllReady (events_at n soft acts) l → AllReady (events_at n soft acts) (after e l)
        → AllReady (cond b (e ∷ []) [] ++ events_at n soft acts) l
    by true one rest = (ready_soft e l h.0, rest)
    by false one rest = one

pub ready_serve : (n : ℕ) (soft : Soft) (budget : ℕ) (c : Cpu) → ReadyAt n (serve n soft budget (level_at soft c)).acts c
ready_serve n soft budget c agrees other free =
    ready_acts n other (serve n soft budget (level_at soft c)).acts (level_at other c)
    (acts_of_serve IsOfSoftSide tt tt tt n soft budget (level_at soft c))
