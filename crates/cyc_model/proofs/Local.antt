-- What is done on one CPU happens there, and is all that its levels see.
use Rattle.std.proofs.Common.{◌≡◌, ◌≢◌, ℕ, zero, suc, ◌+◌, ◌&&◌, eq-eqb, ne_eqb, Bool, true, false, cond, List, [], ◌∷◌, ◌++◌}
use Rattle.std.proofs.Common.{map, Option, Some, None, refl, ap, sym, ◌∙◌, subst}
use Rattle.std.specs.Prelude.{⊤, length}
use Rattle.cyc_types.specs.declared.level.Soft.{Soft}
use Rattle.cyc_types.specs.declared.level.Soft.TheVariants.{Low, Lock}
use Rattle.cyc_types.specs.declared.level.Level.{Level}
use Rattle.cyc_types.specs.declared.level.Level.TheVariants as level
use Rattle.cyc_types.specs.Series.{never}
use Rattle.cyc_level.specs.declared.Event.{Event}
use Rattle.cyc_level.specs.declared.Event.TheVariants.{Admit, Mark, Clear, Finish}
use Rattle.cyc_level.specs.Level.{SoftLevel}
use Rattle.cyc_level.specs.Events.{after}
use Rattle.cyc_types.specs.Expirations.{Expiration}
use Rattle.cyc_model.specs.Acts.{Act, At, Call, at_own, same_soft, event_at, events_at}
use Rattle.cyc_model.specs.Cpu.{
  CyclicState,
  Cpu,
  Here,
  cpu_after,
  happen,
  here,
  nothing_here,
  then_here,
  handler_level_of,
  others,
}
use Rattle.cyc_model.specs.Firing.{raised, expiry, expire_here, expire_all, due_here, fire_here}
use Rattle.cyc_model.specs.Serving.{level_after, look, Interrupt, after_look, serve, serve_here, level_at}
use Rattle.cyc_model.specs.Moving.{bank_for, widen_here, must_grow, place_here, enter_here, take_here, mark_here, clear_here}
use Rattle.cyc_model.specs.Moving.{reprogram_here}
use Rattle.cyc_model.proofs.Events.{level_append, events_append}
use Rattle.cyc_model.specs.Agreement.{StateAgrees, AllReady}
use Rattle.cyc_model.proofs.Agreement.{agrees_expire, agrees_fired, agrees_serve, agrees_switch, agrees_place, agrees_gone}
use Rattle.cyc_model.proofs.Agreement.{agrees_own, agrees_moment}
use Rattle.cyc_model.proofs.Ready.{ReadyAt, ready_append, ready_expire, ready_serve, ready_switch, ready_admit, ready_mark}
use Rattle.cyc_model.proofs.Ready.{ready_clear}
use Rattle.cyc_model.proofs.Fair.{Fair, FairAt, fair_append, fair_own, fair_expiry, fair_serve_at, fair_switch}

-- the act is of the CPU of this number
abbrev pub IsOn : ℕ → Act → Type 0
IsOn n (At m soft event) = m ≡ n
IsOn n (Call id) = ⊤

abbrev pub AllOn : ℕ → List Act → Type 0
AllOn n [] = ⊤
AllOn n (act ∷ acts) = IsOn n act × AllOn n acts

pub on_append : (n : ℕ) (xs ys : List Act) → AllOn n xs → AllOn n ys → AllOn n (xs ++ ys)
on_append n [] ys first rest = rest
on_append n (x ∷ xs) ys first rest = (first.0, on_append n xs ys first.1 rest)

pub on_own : (n : ℕ) (l : Level) (event : Event) → AllOn n (at_own n l event)
on_own n level.High event = tt
on_own n level.Lock event = (refl, tt)
on_own n level.Low event = (refl, tt)

pub on_map : (n : ℕ) (soft : Soft) (es : List Event) → AllOn n (map (At n soft) es)
on_map n soft [] = tt
on_map n soft (e ∷ es) = (refl, on_map n soft es)

own_step : (act : Act) (n : ℕ) (soft : Soft) (c : Cpu) → IsOn n act → level_at soft (cpu_after act c)
    ≡ level_after (event_at n soft act) (level_at soft c)
own_step (Call id) n soft c is = refl
own_step (At m Low e) n Low c is = ap (λ (b : Bool). level_after (cond (b && true) (e ∷ []) []) c.low) (sym (eq-eqb m n is))
own_step (At m Lock e) n Lock c is = ap (λ (b : Bool). level_after (cond (b && true) (e ∷ []) []) c.lock) (sym (eq-eqb m n is))
own_step (At m Low e) n Lock c is = ap (λ (b : Bool). level_after (cond (b && false) (e ∷ []) []) c.lock) (sym (eq-eqb m n is))
own_step (At m Lock e) n Low c is = ap (λ (b : Bool). level_after (cond (b && false) (e ∷ []) []) c.low) (sym (eq-eqb m n is))

-- the levels of a CPU after its acts
pub own_levels : (acts : List Act) (n : ℕ) (soft : Soft) (c : Cpu) → AllOn n acts → level_at soft (happen acts c)
    ≡ level_after (events_at n soft acts) (level_at soft c)
own_levels [] n soft c is = refl
own_levels (a ∷ acts) n soft c is =
    own_levels acts n soft (cpu_after a c) is.1
    ∙ ap (level_after (events_at n soft acts)) (own_step a n soft c is.0)
    ∙ sym (level_append (event_at n soft a) (events_at n soft acts) (level_at soft c))

other_event : (act : Act) (n m : ℕ) (soft : Soft) → IsOn n act → m ≢ n → event_at m soft act ≡ []
other_event (Call id) n m soft is ne = refl
other_event (At k s e) n m soft is ne = ap (λ (b : Bool). cond (b && same_soft s soft) (e ∷ []) [])
    (ne_eqb k m (λ same. ne (sym same ∙ is)))

-- another CPU sees none of them
pub other_events : (acts : List Act) (n m : ℕ) (soft : Soft) → AllOn n acts → m ≢ n → events_at m soft acts ≡ []
other_events [] n m soft is ne = refl
other_events (a ∷ acts) n m soft is ne =
    ap (λ es. es ++ events_at m soft acts) (other_event a n m soft is.0 ne) ∙ other_events acts n m soft is.1 ne

-- what was done on the CPU of this number happened there, and is all that its levels saw
pub record Local (n : ℕ) (c : Cpu) (d : Here) : Type 0 where
  pub on : AllOn n d.acts
  pub levels : (soft : Soft) → level_at soft d.cpu ≡ level_after (events_at n soft d.acts) (level_at soft c)
  pub fair : FairAt n d.acts c
  pub agrees : StateAgrees c → StateAgrees d.cpu
  pub ready : ReadyAt n d.acts c

-- the two have the same levels
abbrev pub SameLevels : Cpu → Cpu → Type 0
SameLevels c d = (soft : Soft) → level_at soft d ≡ level_at soft c

pub local_here : (n : ℕ) (acts : List Act) (c d : Cpu) → AllOn n acts → SameLevels c d → FairAt n acts c
    → (StateAgrees c → StateAgrees (here acts d).cpu) → ReadyAt n acts c → Local n c (here acts d)
local_here n acts c d is same fair agrees ready = record {
  on = is;
  levels = λ soft. own_levels acts n soft d is ∙ ap (level_after (events_at n soft acts)) (same soft);
  fair = fair;
  agrees = agrees;
  ready = ready;
}

pub local_nothing : (n : ℕ) (c d : Cpu) → SameLevels c d → (StateAgrees c → StateAgrees d) → Local n c (nothing_here d)
local_nothing n c d same agrees = record {
  on = tt;
  levels = same;
  fair = λ soft free. (tt, free);
  agrees = agrees;
  ready = λ a soft free. tt;
}

pub local_then : (n : ℕ) (c : Cpu) (d : Here) (f : Cpu → Here) → Local n c d → ((e : Cpu) → Local n e (f e))
    → Local n c (then_here d f)
local_then n c d f first next = record {
  on = on_append n d.acts (f d.cpu).acts first.on (next d.cpu).on;
  levels = λ soft. (next d.cpu).levels soft
      ∙ ap (level_after (events_at n soft (f d.cpu).acts)) (first.levels soft)
      ∙ sym (level_append (events_at n soft d.acts) (events_at n soft (f d.cpu).acts) (level_at soft c))
      ∙ ap (λ es. level_after es (level_at soft c)) (sym (events_append n soft d.acts (f d.cpu).acts));
  fair = λ soft free.
      let one = first.fair soft free in
      let rest = (next d.cpu).fair soft (ap (λ (l : SoftLevel). l.firer_hand) (first.levels soft) ∙ one.1) in
      subst (λ es. Fair es (level_at soft c)) (sym (events_append n soft d.acts (f d.cpu).acts))
      (fair_append (events_at n soft d.acts) (events_at n soft (f d.cpu).acts) (level_at soft c) one.0
      (subst (λ l. Fair (events_at n soft (f d.cpu).acts) l) (first.levels soft) rest));
  agrees = λ h. (next d.cpu).agrees (first.agrees h);
  ready = λ h soft free.
      let rest = (next d.cpu).ready (first.agrees h) soft
      (ap (λ (l : SoftLevel). l.firer_hand) (first.levels soft) ∙ (first.fair soft free).1) in
      subst (λ es. AllReady es (level_at soft c)) (sym (events_append n soft d.acts (f d.cpu).acts))
      (ready_append (events_at n soft d.acts) (events_at n soft (f d.cpu).acts) (level_at soft c) (first.ready h soft free)
      (subst (λ l. AllReady (events_at n soft (f d.cpu).acts) l) (first.levels soft) rest));
}

pub same_low_lock : (c d : Cpu) → d.lock ≡ c.lock → d.low ≡ c.low → SameLevels c d
same_low_lock c d lock low Lock = lock
same_low_lock c d lock low Low = low

local_if : (b : Bool) (n : ℕ) (c : Cpu) (d e : Here) → Local n c d → Local n c e → Local n c (cond b d e)
local_if true n c d e one other = one
local_if false n c d e one other = other

-- ---- each of the calls on one CPU

on_expiry : (n : ℕ) (l : Level) (id : ℕ) (c : Cpu) → AllOn n (expiry n l id c)
on_expiry n level.High id c = (tt, tt)
on_expiry n level.Lock id c = on_map n Lock (raised id c.lock)
on_expiry n level.Low id c = on_map n Low (raised id c.low)

pub local_expire : (n id : ℕ) (c : Cpu) → Local n c (expire_here n id c)
local_expire n id c = local_here n (expiry n (handler_level_of id c) id c) c c (on_expiry n (handler_level_of id c) id c)
    (λ soft. refl)
    (fair_expiry n (handler_level_of id c) id c) (agrees_expire n id c) (ready_expire n id c)

pub local_expire_all : (n : ℕ) (ps : List Expiration) (c : Cpu) → Local n c (expire_all n ps c)
local_expire_all n [] c = local_nothing n c c (λ soft. refl) (λ h. h)
local_expire_all n (p ∷ ps) c = local_then n c (expire_here n p.id c) (expire_all n ps) (local_expire n p.id c)
    (local_expire_all n ps)

retimed : (n : ℕ) (c : Cpu) (d : Here) (cs : List CyclicState) → Local n c d
    → (StateAgrees d.cpu → StateAgrees (record d.cpu { cyclics = cs }))
    → Local n c (record d { cpu = record d.cpu { cyclics = cs } })
retimed n c d cs h agrees = record {
  on = h.on;
  levels = same;
  fair = h.fair;
  agrees = λ a. agrees (h.agrees a);
  ready = h.ready;
}
  where
    same : (soft : Soft) → level_at soft (record d.cpu { cyclics = cs }) ≡ level_after (events_at n soft d.acts) (level_at soft c)
    same Low = h.levels Low
    same Lock = h.levels Lock

pub local_fire : (n now : ℕ) (c : Cpu) → Local n c (fire_here n now c)
local_fire n now c = retimed n c (expire_all n (due_here now c) c) _ (local_expire_all n (due_here now c) c)
    (agrees_fired now (due_here now c) (expire_all n (due_here now c) c).acts (expire_all n (due_here now c) c).cpu)

on_look : (n : ℕ) (soft : Soft) (looked : List Event) (l : SoftLevel) (rest : SoftLevel → Interrupt)
    → ((m : SoftLevel) → AllOn n (rest m).acts)
    → (hand : Option ℕ) → AllOn n (after_look n soft looked (record l { drainer_hand = hand }) rest).acts
on_look n soft looked l rest more None = on_map n soft looked
on_look n soft looked l rest more (Some id) =
    on_append n (map (At n soft) looked) _ (on_map n soft looked)
    (tt, (refl, more (after Finish (record l { drainer_hand = Some id }))))

on_serve : (n : ℕ) (soft : Soft) (budget : ℕ) (l : SoftLevel) → AllOn n (serve n soft budget l).acts
on_serve n soft zero l = tt
on_serve n soft (suc budget) l =
    on_look n soft (look l) (level_after (look l) l) (serve n soft budget) (on_serve n soft budget)
    (level_after (look l) l).drainer_hand

pub local_serve : (n : ℕ) (soft : Soft) (budget : ℕ) (c : Cpu) → Local n c (serve_here n soft budget c)
local_serve n soft budget c =
    local_here n (serve n soft budget (level_at soft c)).acts c c (on_serve n soft budget (level_at soft c)) (λ s. refl)
    (fair_serve_at n soft budget c) (agrees_serve n soft budget c) (ready_serve n soft budget c)

pub local_widen : (n more : ℕ) (c : Cpu) → Local n c (widen_here n more c)
local_widen n more c = local_if (must_grow more c) n c _ (nothing_here c)
    (local_here n _ c _ (refl, (refl, tt)) (same_low_lock c _ refl refl) (fair_switch n (bank_for (length c.cyclics + more)) c)
    (agrees_switch n (bank_for (length c.cyclics + more)) c) (ready_switch n (bank_for (length c.cyclics + more)) c))
    (local_nothing n c c (λ soft. refl) (λ h. h))

pub local_place : (n index : ℕ) (x : CyclicState) (c : Cpu) → Local n c (place_here n index x c)
local_place n index x c = local_here n _ c _ (on_own n x.timer.level _) (same_low_lock c _ refl refl)
    (fair_own n x.timer.level (Admit x.timer.id index) c (λ l free. ((tt, tt), free))) (agrees_place n index x c)
    (ready_admit n x.timer.level x.timer.id index c)

pub local_enter : (n index : ℕ) (x : CyclicState) (c : Cpu) → Local n c (enter_here n index x c)
local_enter n index x c = local_then n c (widen_here n 1 c) (place_here n index x) (local_widen n 1 c) (local_place n index x)

pub local_take : (n id : ℕ) (c : Cpu) → Local n c (take_here n id c)
local_take n id c =
    local_then n c (here (at_own n (handler_level_of id c) (Mark id)) c) _
    (local_here n (at_own n (handler_level_of id c) (Mark id)) c c (on_own n (handler_level_of id c) (Mark id)) (λ soft. refl)
    (fair_own n (handler_level_of id c) (Mark id) c (λ l free. ((tt, tt), free))) (agrees_own n (handler_level_of id c) id c)
    (ready_mark n id c))
    (λ d. local_here n (at_own n (handler_level_of id d) (Clear id)) d (record d { cyclics = others id d.cyclics })
    (on_own n (handler_level_of id d) (Clear id)) (same_low_lock d _ refl refl)
    (fair_own n (handler_level_of id d) (Clear id) d (λ l free. ((tt, tt), free)))
    (agrees_gone n id (handler_level_of id d) d.removal d) (ready_clear n (handler_level_of id d) id d))

pub local_mark : (n id : ℕ) (c : Cpu) → Local n c (mark_here n id c)
local_mark n id c = local_here n _ c _ (on_own n (handler_level_of id c) (Mark id)) (same_low_lock c _ refl refl)
    (fair_own n (handler_level_of id c) (Mark id) c (λ l free. ((tt, tt), free)))
    (λ h. agrees_own n (handler_level_of id c) id _ (agrees_moment id never (Some id) c h)) (ready_mark n id c)

pub local_clear : (n id : ℕ) (c : Cpu) → Local n c (clear_here n id c)
local_clear n id c = local_here n _ c _ (on_own n (handler_level_of id c) (Clear id)) (same_low_lock c _ refl refl)
    (fair_own n (handler_level_of id c) (Clear id) c (λ l free. ((tt, tt), free)))
    (agrees_gone n id (handler_level_of id c) None c) (ready_clear n (handler_level_of id c) id c)

pub local_reprogram : (n id moment : ℕ) (c : Cpu) → Local n c (reprogram_here id moment c)
local_reprogram n id moment c = local_nothing n c _ (same_low_lock c _ refl refl) (agrees_moment id moment c.removal c)
