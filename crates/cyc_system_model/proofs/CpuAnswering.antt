-- What each call answers is what the definition says.
use Rattle.std.proofs.Common.{◌≡◌, ℕ, ◌+◌, ◌<◌, ◌≤◌, ◌⊎◌, inl, inr, List, [], ◌∷◌, length, Bool, true, false, not, ◌==◌, Option}
use Rattle.std.proofs.Common.{Some, None, refl, ap, sym, ◌∙◌, subst, arith}
use Rattle.std.specs.Prelude.{nat_lt, nat_le, ◌&&◌, Ok, Err}
use Rattle.std.proofs.lemmas.Bool.Decides.{nat_tests}
use Rattle.std.proofs.lemmas.List.{length-map}
use Rattle.cyc_types.specs.declared.Calls.{Ghosts as Calls}
use Rattle.cyc_types.specs.Levels.{at_level, as_level, handler_at}
use Rattle.cyc_types.specs.Limits.{cyclics as most_cyclics}
use Rattle.cyc_types.specs.Series.{never}
use Rattle.cyc_types.specs.declared.level.Level.{Level}
use Rattle.cyc_types.specs.declared.level.Level.TheVariants.{Low, Lock, High}
use Rattle.cyc_types.specs.declared.moment.When.{When}
use Rattle.cyc_types.specs.declared.receipt.Receipt.{Receipt}
use Rattle.cyc_types.specs.declared.refusal.Refusal.{Refusal}
use Rattle.cyc_types.specs.declared.refusal.Refusal.TheVariants.{Memory, BadNow, Full, Expanding, Busy, NoCyclic, Pending}
use Rattle.cyc_level.specs.Level.{SoftLevel, count}
use Rattle.cyc_types.specs.Expirations.{expirations}
use Rattle.cyc_core.specs.Tables.{Tables, level_of}
use Rattle.cyc_timers.specs.Rows.{Cyclic as Timed}
use Rattle.cyc_timers.specs.Acts.{same_level}
use Rattle.cyc_cpu.specs.declared.removing.Removal.TheVariants.{Done, Kept}
use Rattle.cyc_cpu.specs.Cpu.{CpuView, Running, IsCyclic, Asks, Looked, HasRoom, WhyNoRoom, WhyNotReserved, Reserves}
use Rattle.cyc_cpu.specs.Removal.{HasCyclic, WhyNotBegun, IsReceipt, WaitsHere}
use Rattle.cyc_cpu.specs.Moving.{WhyNotTaken}
use Rattle.cyc_system_model.specs.Tied.{IsTied}
use Rattle.cyc_cpu.specs.Soft.{raise_tables, firing_at as seen, Interrupts}
use Rattle.cyc_cpu.specs.Calls.{Suspend, Resume}
use Rattle.cyc_cpu.specs.Calls.{CpuCall, Fire, SoftInterrupt, Add, Place, Reprogram, AskPending, AskTotals, AskRoom, Reserve}
use Rattle.cyc_cpu.specs.Calls.{Widen, BeginRemove, PollRemove, TakeNow, AskSettled, CpuChanges, CpuDoes}
use Rattle.cyc_model.specs.Cpu.{has_cyclic}
use Rattle.cyc_model.specs.Questions.{outstanding_here}
use Rattle.cyc_types.specs.Reasons.{first_refusal, or_else, only_if, when, busy, bad_now}
use Rattle.cyc_system_model.specs.ShownCpu.{shown_cyclic, shown_cpu}
use Rattle.cyc_system_model.specs.Here.{IsStopped, IsInTime}
use Rattle.cyc_system_model.specs.Answers.{IsAnswered, IsRefused, IsReceiptFor, why_no_room, why_not_begun, why_not_taken}
use Rattle.cyc_system_model.proofs.Counting.{has_it, has_not, found_as, outstanding_is, loads, marks, ends_at, takes, clears}
use Rattle.cyc_system_model.proofs.Counting.{waits}
use Rattle.cyc_system_model.proofs.Leaving.{level_found}
use Rattle.cyc_system_model.proofs.Levels.{only_looked}
use Rattle.cyc_system_model.proofs.Firing.{fires_here, same_timers}
use Rattle.cyc_system_model.proofs.Interrupting.{serves_here}

-- ---- room

far : (m n : ℕ) → m < n → nat_lt m n ≡ true
far m n less = grind (arith, nat_tests)

near : (m n : ℕ) → n ≤ m → nat_lt m n ≡ false
near m n most = grind (arith, nat_tests)

less_as : (m n : ℕ) → nat_lt m n ≡ true → m < n
less_as m n is = grind (arith, nat_tests)

-- the first reason that holds
abbrev reason : Bool → Bool → Option ℕ → Bool → Option Refusal
reason full grows removal followed = or_else (when full Full)
    (or_else (only_if grows (busy removal)) (or_else (only_if grows (when (not followed) Expanding)) None))

no_reason : (full grows followed : Bool) (removal : Option ℕ) → full ≡ false → (grows ≡ true
    → (removal ≡ None) × (followed ≡ true)) → reason full grows removal followed ≡ None
no_reason true grows followed removal isnt still = absurd (let both : true ≡ false = isnt in cc)
no_reason false false followed removal isnt still = refl
no_reason false true followed removal isnt still =
    ap (λ o. or_else (busy o) (or_else (when (not followed) Expanding) None)) (still refl).0
    ∙ ap (λ b. or_else (when (not b) Expanding) None) (still refl).1

full_reason : (full grows followed : Bool) (removal : Option ℕ) → full ≡ true → reason full grows removal followed ≡ Some Full
full_reason full grows followed removal is = ap (λ b. reason b grows removal followed) is

busy_reason : (id : ℕ) (full grows followed : Bool) (removal : Option ℕ) → full ≡ false → grows ≡ true → removal ≡ Some id
    → reason full grows removal followed ≡ Some (Busy id)
busy_reason id full grows followed removal isnt grown is = λ z. reason (isnt z) (grown z) (is z) followed

expanding_reason : (full grows followed : Bool) (removal : Option ℕ) → full ≡ false → grows ≡ true → removal ≡ None
    → followed ≡ false → reason full grows removal followed ≡ Some Expanding
expanding_reason full grows followed removal isnt grown still behind = λ z. reason (isnt z) (grown z) (still z) (behind z)

and_true : (a b : Bool) → a ≡ true → b ≡ true → (a && b) ≡ true
and_true true b x y = y
and_true false b x y = absurd (let no : false ≡ true = x in cc)

and_false : (a b : Bool) → (a ≡ false) ⊎ (b ≡ false) → (a && b) ≡ false
and_false false b x = refl
and_false true b (inl x) = absurd (let no : true ≡ false = x in cc)
and_false true b (inr y) = y

abbrev is_followed : SoftLevel → SoftLevel → Bool
is_followed lock low = (lock.hard_bank == lock.soft_bank) && (low.hard_bank == low.soft_bank)

-- what the CPU is after it was looked at
record SameLevels (v w : CpuView Tables) : Type 0 where
  cyclics : w.cyclics ≡ v.cyclics
  size : w.size ≡ v.size
  removal : w.removal ≡ v.removal
  lock : level_of w.lock ≡ level_of v.lock
  low : level_of w.low ≡ level_of v.low

of_looked : (v w : CpuView Tables) → Looked raise_tables v w → SameLevels v w
of_looked v w l = record {
  cyclics = l.cyclics;
  size = l.kept.size;
  removal = l.kept.removal;
  lock =
      only_looked v.lock w.lock l.lock;
  low = only_looked v.low w.low l.low;
}

of_reserved : (more : ℕ) (v w : CpuView Tables) → Reserves raise_tables more v w → SameLevels v w
of_reserved more v w r = record {
  cyclics = r.cyclics;
  size = r.size;
  removal = r.removal;
  lock =
      only_looked v.lock w.lock r.lock;
  low = only_looked v.low w.low r.low;
}

abbrev why_in : ℕ → CpuView Tables → Option Refusal
why_in more v = reason (nat_lt most_cyclics (length v.cyclics + more)) (nat_lt v.size (length v.cyclics + more)) v.removal
    (is_followed (level_of v.lock) (level_of v.low))

why_shown : (more : ℕ) (online : Bool) (v w : CpuView Tables) → SameLevels v w
    → why_no_room more (shown_cpu online v) ≡ why_in more w
why_shown more online v w s =
    ap (λ m. reason (nat_lt most_cyclics (m + more)) (nat_lt v.size (m + more)) v.removal
    (is_followed (level_of v.lock) (level_of v.low))) (length-map v.cyclics shown_cyclic)
    ∙ sym (λ z. reason (nat_lt most_cyclics (length (s.cyclics z) + more)) (nat_lt (s.size z) (length (s.cyclics z) + more))
    (s.removal z) (is_followed (s.lock z) (s.low z)))

room_none : (more : ℕ) (w : CpuView Tables) → HasRoom seen more w → why_in more w ≡ None
room_none more w r =
    no_reason _ _ _ w.removal (near most_cyclics (length w.cyclics + more) r.fits)
    (λ grows. let s = r.still (less_as w.size (length w.cyclics + more) grows) in (s.0, and_true _ _ s.1.0 s.1.1))

room_some : (more : ℕ) (e : Refusal) (w : CpuView Tables) → WhyNoRoom seen more w e → why_in more w ≡ Some e
room_some more Full w why = full_reason _ _ _ w.removal (far most_cyclics (length w.cyclics + more) why)
room_some more (Busy id) w (fits, grows, is) =
    busy_reason id _ _ _ w.removal (near most_cyclics (length w.cyclics + more) fits)
    (far w.size (length w.cyclics + more) grows) is
room_some more Expanding w (fits, grows, still, behind) =
    expanding_reason _ _ _ w.removal (near most_cyclics (length w.cyclics + more) fits)
    (far w.size (length w.cyclics + more) grows) still
    (and_false ((level_of w.lock).hard_bank == (level_of w.lock).soft_bank)
    ((level_of w.low).hard_bank == (level_of w.low).soft_bank) behind)
room_some more e w why = absurd why

not_reserved : (more : ℕ) (e : Refusal) (v w : CpuView Tables) → WhyNotReserved seen more v w e → IsRefused e (why_in more w)
not_reserved more Memory v w why = room_none more w why.0
not_reserved more Full v w why = room_some more Full w why
not_reserved more (Busy id) v w why = room_some more (Busy id) w why
not_reserved more Expanding v w why = room_some more Expanding w why
not_reserved more e v w why = absurd why

shown_refused : (e : Refusal) (o p : Option Refusal) → o ≡ p → IsRefused e p → IsRefused e o
shown_refused e o p same is = subst (IsRefused e) (sym same) is

-- ---- add

early : (now : ℕ) (o : Option Refusal) → now < never → or_else (bad_now now) o ≡ o
early now o less = ap (λ b. or_else (when b BadNow) o) (before now less)
  where
    before : (now : ℕ) → now < never → nat_le never now ≡ false
    before now less = grind (arith, nat_tests)

late : (now : ℕ) (o : Option Refusal) → now ≡ never → or_else (bad_now now) o ≡ Some BadNow
late now o is = ap (λ b. or_else (when b BadNow) o) (at now is)
  where
    at : (now : ℕ) → now ≡ never → nat_le never now ≡ true
    at now is = grind (arith, nat_tests)

-- the one list of an add is its moment and then the room
list_of : (a b : Option Refusal) → first_refusal (a ∷ b ∷ []) ≡ or_else a b
list_of None None = refl
list_of None (Some why) = refl
list_of (Some why) b = refl

-- ---- the cyclic

pub asked_outstanding : (id n : ℕ) (online : Bool) (v w : CpuView Tables) → IsTied v
    → (a : Asks raise_tables id n v w) → n ≡ outstanding_here id (shown_cpu online v)
asked_outstanding id n online v w law a =
    let x = a.cyclic in
    outstanding_is id n a.position x online v law a.here a.named a.high
    (λ e. loads (same_level Lock x.timer.level) id n v.lock w.lock a.lock (ap (same_level Lock) e))
    (λ e. loads (same_level Low x.timer.level) id n v.low w.low a.low (ap (same_level Low) e))

-- ---- removals and moves

begun : (has : Bool) (removal : Option ℕ) → has ≡ true → removal ≡ None
    → first_refusal (when (not has) NoCyclic ∷ busy removal ∷ []) ≡ None
begun has removal here still = λ z. first_refusal (when (not (here z)) NoCyclic ∷ busy (still z) ∷ [])

begun_none : (has : Bool) (rest : List (Option Refusal)) → has ≡ false
    → first_refusal (when (not has) NoCyclic ∷ rest) ≡ Some NoCyclic
begun_none has rest absent = ap (λ b. first_refusal (when (not b) NoCyclic ∷ rest)) absent

begun_busy : (id : ℕ) (has : Bool) (removal : Option ℕ) (rest : List (Option Refusal)) → has ≡ true → removal ≡ Some id
    → first_refusal (when (not has) NoCyclic ∷ busy removal ∷ rest) ≡ Some (Busy id)
begun_busy id has removal rest here is = λ z. first_refusal (when (not (here z)) NoCyclic ∷ busy (is z) ∷ rest)

taken_none : (has pending : Bool) (removal : Option ℕ) → has ≡ true → removal ≡ None → pending ≡ false
    → first_refusal (when (not has) NoCyclic ∷ busy removal ∷ when pending Pending ∷ []) ≡ None
taken_none has pending removal here still quiet =
    λ z. first_refusal (when (not (here z)) NoCyclic ∷ busy (still z) ∷ when (quiet z) Pending ∷ [])

taken_pending : (has pending : Bool) (removal : Option ℕ) → has ≡ true → removal ≡ None → pending ≡ true
    → first_refusal (when (not has) NoCyclic ∷ busy removal ∷ when pending Pending ∷ []) ≡ Some Pending
taken_pending has pending removal here still some =
    λ z. first_refusal (when (not (here z)) NoCyclic ∷ busy (still z) ∷ when (some z) Pending ∷ [])

has_at : (id : ℕ) (online : Bool) (v : CpuView Tables) → HasCyclic id v.cyclics → has_cyclic id (shown_cpu online v) ≡ true
has_at id online v (k, x, is, named) = has_it id v.cyclics k x is named

not_begun : (id : ℕ) (online : Bool) (e : Refusal) (v : CpuView Tables) → WhyNotBegun id v e
    → why_not_begun id (shown_cpu online v) ≡ Some e
not_begun id online NoCyclic v why = begun_none _ (busy v.removal ∷ []) (has_not id v.cyclics why)
not_begun id online (Busy removed) v why = begun_busy removed _ v.removal [] (has_at id online v why.0) why.1
not_begun id online e v why = absurd why

not_taken : (id : ℕ) (online : Bool) (e : Refusal) (v w : CpuView Tables) → IsTied v
    → WhyNotTaken raise_tables id v e w → why_not_taken id (shown_cpu online v) ≡ Some e
not_taken id online NoCyclic v w law why =
    begun_none _ (busy v.removal ∷ when (nat_lt 0 (outstanding_here id (shown_cpu online v))) Pending ∷ [])
    (has_not id v.cyclics why.0)
not_taken id online (Busy removed) v w law why =
    begun_busy removed _ v.removal (when (nat_lt 0 (outstanding_here id (shown_cpu online v))) Pending ∷ [])
    (has_at id online v why.0) why.1
not_taken id online Pending v w law (still, some, n, more, asks) =
    let is = asked_outstanding id n online v w law asks in
    taken_pending _ _ v.removal (has_it id v.cyclics asks.position asks.cyclic asks.here asks.named) still
    (far 0 (outstanding_here id (shown_cpu online v)) (omega (arith, is, more)))
not_taken id online e v w law why = absurd why

receipt_of : (id k : ℕ) (online : Bool) (receipt : Receipt) (x : Timed) (v : CpuView Tables) → IsTied v
    → IsCyclic v.cyclics k x → x.timer.id ≡ id → IsReceipt receipt x
    → IsReceiptFor id receipt (shown_cpu online v)
receipt_of id k online receipt x v law is named r =
    (shown_cyclic x, found_as id v.cyclics k x law.rising is named, r.0 ∙ named, r.1, r.2)

-- nothing is outstanding where its end found nothing
none_outstanding : (id k : ℕ) (online : Bool) (x : Timed) (v : CpuView Tables) → IsTied v → IsCyclic v.cyclics k x
    → x.timer.id ≡ id
    → (same_level Lock x.timer.level ≡ true → 0 ≡ count (level_of v.lock) id) → (same_level Low x.timer.level ≡ true
    → 0 ≡ count (level_of v.low) id)
    → outstanding_here id (shown_cpu online v) ≡ 0
none_outstanding id k online x v law is named lock low =
    sym (outstanding_is id 0 k x online v law is named (λ e. refl) (λ e. lock (ap (same_level Lock) e))
    (λ e. low (ap (same_level Low) e)))

-- an end found some outstanding, of a cyclic of a soft level
some_outstanding : (id k n : ℕ) (online : Bool) (x : Timed) (v : CpuView Tables) → IsTied v → IsCyclic v.cyclics k x
    → x.timer.id ≡ id → (x.timer.level ≡ High → ⊥)
    → (same_level Lock x.timer.level ≡ true → n ≡ count (level_of v.lock) id) → (same_level Low x.timer.level ≡ true
    → n ≡ count (level_of v.low) id)
    → n ≡ outstanding_here id (shown_cpu online v)
some_outstanding id k n online x v law is named soft lock low =
    outstanding_is id n k x online v law is named (λ e. absurd (soft e)) (λ e. lock (ap (same_level Lock) e))
    (λ e. low (ap (same_level Low) e))

-- ---- polls

waiting : (id : ℕ) (online : Bool) (v w : CpuView Tables) → IsTied v → v.removal ≡ Some id → WaitsHere raise_tables id v w
    → 0 < outstanding_here id (shown_cpu online v)
waiting id online v w law is_open p = pick p.cyclic.timer.level refl
  where
    soft : p.cyclic.timer.level ≡ High → ⊥
    soft high = (law.own online).removed id is_open (level_found online p.position id p.cyclic v law.rising p.here p.named ∙ high)

    pick : (level : Level) → p.cyclic.timer.level ≡ level → 0 < outstanding_here id (shown_cpu online v)
    pick High at = absurd (soft at)
    pick Lock at = let some = waits (same_level Lock p.cyclic.timer.level) id v.lock w.lock p.goes.0 (ap (same_level Lock) at) in
        omega (arith, some)
    pick Low at = let some = waits (same_level Low p.cyclic.timer.level) id v.low w.low p.goes.1 (ap (same_level Low) at) in
        omega (arith, some)

-- ---- adds that were refused

not_added : (id : ℕ) (level : Level) (series : When) (now : ℕ) (online : Bool) (e : Refusal) (v w : CpuView Tables)
    → now ≤ never
    → CpuChanges raise_tables v (Add id level series now (Err e)) w
    → IsRefused e (first_refusal (bad_now now ∷ why_no_room 1 (shown_cpu online v) ∷ []))
not_added id level series now online BadNow v w most d =
    list_of (bad_now now) (why_no_room 1 (shown_cpu online v)) ∙ late now (why_no_room 1 (shown_cpu online v)) d.1
not_added id level series now online e v w most d =
    shown_refused e _ _
    (list_of (bad_now now) (why_no_room 1 (shown_cpu online v))
    ∙ early now (why_no_room 1 (shown_cpu online v)) (let other = d.1 in omega (arith, most, other))
    ∙ why_shown 1 online v w (of_looked v w d.2))
    (not_reserved 1 e v w d.3)

-- ---- each call

pub answers : {C : Type 0} (handler : Calls C) (n : ℕ) (online : Bool)
    (call : CpuCall) (s t : Running C Tables) → IsTied s.cpu → IsInTime call → (IsStopped call → ⊥)
    → CpuDoes handler raise_tables (Interrupts handler) s call t
    → IsAnswered n call (shown_cpu online s.cpu)
answers handler n online (Fire now (Ok r)) s t law in_time goes (early_now, kept, expired, next, makes) =
    let f = fires_here (at_level handler.called High) handler.count n now r.lost online s.cpu t.cpu s.calls t.calls makes kept in
    (expired ∙ ap (λ ts. length (expirations now ts)) (sym (same_timers s.cpu.cyclics)), f.2)
answers handler n online (Fire now (Err e)) s t law in_time goes does = absurd (goes tt)
answers handler n online (SoftInterrupt level budget (Ok r)) s t law in_time goes (did, kept) =
    let (ran, long, serves, left) = did.served in
    let (most, exactly) = did.within in
    let f = serves_here (handler_at handler (as_level level)) level n budget r.calls r.idle online s.cpu t.cpu
    s.calls
    t.calls ran long serves left most exactly kept in
    (f.2, f.3)
answers handler n online (SoftInterrupt level budget (Err e)) s t law in_time goes does = absurd (goes tt)
answers handler n online (Add id level series now (Ok done)) s t law in_time goes ((absent, early_now, adds), calls) =
    list_of (bad_now now) (why_no_room 1 (shown_cpu online s.cpu))
    ∙ early now (why_no_room 1 (shown_cpu online s.cpu)) (omega (arith, early_now, in_time))
    ∙ why_shown 1 online s.cpu adds.reserved (of_reserved 1 s.cpu adds.reserved adds.reserves)
    ∙ room_none 1 adds.reserved adds.allowed.room
answers handler n online (Add id level series now (Err e)) s t law in_time goes (d, calls) =
    not_added id level series now online e s.cpu t.cpu in_time d
answers handler n online (Place id level interval moment carried) s t law in_time goes does = tt
answers handler n online (Reprogram id moment (Ok done)) s t law in_time goes ((k, x, is, named, still, e), calls) =
    (has_it id s.cpu.cyclics k x is named, still)
answers handler n online (Reprogram id moment (Err e)) s t law in_time goes ((is, inl none, same), calls) =
    (is, inl (has_not id s.cpu.cyclics none))
answers handler n online (Reprogram id moment (Err e)) s t law in_time goes ((is, inr removed, same), calls) =
    (is, inr removed)
answers handler n online (AskPending id (Some m)) s t law in_time goes (d, calls) =
    (has_it id s.cpu.cyclics d.0.position d.0.cyclic d.0.here d.0.named, asked_outstanding id m online s.cpu t.cpu law d.0)
answers handler n online (AskPending id None) s t law in_time goes (d, calls) = has_not id s.cpu.cyclics d.0
answers handler n online (AskTotals id (Some totals)) s t law in_time goes ((a, pend, expired, lost, spared), calls) = (
  shown_cyclic a.cyclic,
  found_as id s.cpu.cyclics a.position a.cyclic law.rising a.here a.named,
  expired,
  lost,
  asked_outstanding id totals.pending online s.cpu t.cpu law a,
)
answers handler n online (AskTotals id None) s t law in_time goes (d, calls) = has_not id s.cpu.cyclics d.0
answers handler n online (AskRoom more (Ok done)) s t law in_time goes (d, calls) =
    why_shown more online s.cpu t.cpu (of_looked s.cpu t.cpu d.0) ∙ room_none more t.cpu d.1
answers handler n online (AskRoom more (Err e)) s t law in_time goes (d, calls) =
    why_shown more online s.cpu t.cpu (of_looked s.cpu t.cpu d.0) ∙ room_some more e t.cpu d.1
answers handler n online (Reserve more (Ok done)) s t law in_time goes (d, calls) =
    why_shown more online s.cpu t.cpu (of_reserved more s.cpu t.cpu d.0) ∙ room_none more t.cpu d.1.room
answers handler n online (Reserve more (Err e)) s t law in_time goes (d, calls) =
    shown_refused e _ _ (why_shown more online s.cpu t.cpu (of_looked s.cpu t.cpu d.0)) (not_reserved more e s.cpu t.cpu d.1)
answers handler n online (Widen more) s t law in_time goes does = tt
answers handler n online (BeginRemove id (Ok (Done receipt))) s t law in_time goes
    ((still, (x, counts, is, polled, leaves)), calls) = (
      begun _ s.cpu.removal (has_it id s.cpu.cyclics leaves.position x leaves.here leaves.named) still,
      none_outstanding id leaves.position online x s.cpu law leaves.here leaves.named
          (ends_at (same_level Lock x.timer.level) id counts s.cpu.lock t.cpu.lock leaves.goes.0)
          (ends_at (same_level Low x.timer.level) id counts s.cpu.low t.cpu.low leaves.goes.1),
      receipt_of id leaves.position online receipt x s.cpu law leaves.here leaves.named is,
    )
answers handler n online (BeginRemove id (Ok (Kept kept))) s t law in_time goes ((still, opens), calls) =
    let x = opens.cyclic in (
      begun _ s.cpu.removal (has_it id s.cpu.cyclics opens.position x opens.here opens.named) still,
      opens.some,
      some_outstanding id opens.position kept online x s.cpu law opens.here opens.named opens.soft
          (marks (same_level Lock x.timer.level) id kept s.cpu.lock t.cpu.lock opens.goes.0)
          (marks (same_level Low x.timer.level) id kept s.cpu.low t.cpu.low opens.goes.1),
    )
answers handler n online (BeginRemove id (Err e)) s t law in_time goes (d, calls) =
    not_begun id online e s.cpu d.0
answers handler n online (PollRemove (Some receipt)) s t law in_time goes (ends, calls) =
    let x = ends.cyclic in
    let l = ends.leaves in (
      ends.was_open,
      none_outstanding receipt.id l.position online x s.cpu law l.here l.named
          (clears (same_level Lock x.timer.level) receipt.id ends.counts s.cpu.lock t.cpu.lock l.goes.0)
          (clears (same_level Low x.timer.level) receipt.id ends.counts s.cpu.low t.cpu.low l.goes.1),
      receipt_of receipt.id l.position online receipt x s.cpu law l.here l.named ends.counted,
    )
answers handler n online (PollRemove None) s t law in_time goes (inl none, calls) = inl none.0
answers handler n online (PollRemove None) s t law in_time goes (inr (id, is_open, w), calls) =
    inr (id, is_open, waiting id online s.cpu t.cpu law is_open w)
answers handler n online (TakeNow id (Ok got)) s t law in_time goes ((still, (x, counts, is, polled, leaves)), calls) =
    let none = none_outstanding id leaves.position online x s.cpu law leaves.here leaves.named
    (takes (same_level Lock x.timer.level) id counts s.cpu.lock t.cpu.lock leaves.goes.0)
    (takes (same_level Low x.timer.level) id counts s.cpu.low t.cpu.low leaves.goes.1) in (
      taken_none _ _ s.cpu.removal (has_it id s.cpu.cyclics leaves.position x leaves.here leaves.named) still
          (near 0 (outstanding_here id (shown_cpu online s.cpu)) (omega (arith, none))),
      (
        shown_cyclic x,
        found_as id s.cpu.cyclics leaves.position x law.rising leaves.here leaves.named,
        is.0,
        is.1,
        is.2,
        is.3,
        is.4,
      ),
    )
answers handler n online (TakeNow id (Err e)) s t law in_time goes (d, calls) =
    not_taken id online e s.cpu t.cpu law d
answers handler n online (AskSettled b) s t law in_time goes does = tt
answers handler n online Suspend s t law in_time goes does = tt
answers handler n online Resume s t law in_time goes does = tt
