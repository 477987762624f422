-- What each call over the border does to the CPU behind the handle.
use Rattle.std.specs.Prelude.{◌≡◌, ℕ, ◌<◌, ◌⊎◌, pos, ◌<ℤ◌, ◌≤ℤ◌, ℤ, Option, Some, None, Result, Ok, Err}
use Rattle.cyc_types.specs.declared.Raise.{Ghosts as Raise}
use Rattle.cyc_level.specs.Lawful.{IsId}
use Rattle.cyc_types.specs.declared.level.Soft.{Soft}
use Rattle.cyc_types.specs.declared.level.Soft.TheVariants.{Low, Lock}
use Rattle.cyc_types.specs.declared.refusal.Refusal.{Refusal}
use Rattle.cyc_types.specs.declared.refusal.Refusal.TheVariants as why
use Rattle.cyc_soft.specs.declared.Ran.{Ran}
use Rattle.cyc_soft.specs.declared.SoftRefused.{SoftRefused}
use Rattle.cyc_timers.specs.declared.fire.Fired.{Fired}
use Rattle.cyc_timers.specs.declared.fire.FireRefused.{FireRefused}
use Rattle.cyc_cpu.specs.declared.hard.Totals.{Totals}
use Rattle.cyc_cpu.specs.declared.removing.Removal.{Removal}
use Rattle.cyc_cpu.specs.Cpu.{CpuView, running}
use Rattle.cyc_cpu.specs.Calls.{CpuChanges, CpuDoes, Add, Reprogram, AskPending, AskTotals, BeginRemove, Fire, SoftInterrupt}
use Rattle.cyc_cpu.specs.Calls.{no_interrupts}
use Rattle.cyc_cpu.specs.Removal.{HasCyclic}
use Rattle.cyc_cpu.specs.Soft.{raise_tables, Interrupts}
use Rattle.cyc_border.specs.Granted.{granted_calls}
use Rattle.cyc_border.specs.Numbers.{number_of_refusal, level_numbered}
use Rattle.cyc_border.specs.declared.calling.Asked.{Asked}
use Rattle.cyc_border.specs.declared.cpu.Cpu.{Cpu}
use Rattle.cyc_border.specs.declared.granted.Granted.{Granted}
use Rattle.cyc_border.specs.declared.granted.Granted.TheVariants.{Nothing, One}
use Rattle.cyc_border.specs.declared.numbers.Denied.{Denied}
use Rattle.cyc_border.specs.declared.numbers.Denied.TheVariants.{Misused, Taken, Refused}

-- a call that came through a handle: a closed one refuses it, and else it was made on what the handle owns, which stays in it
abbrev pub Through : {X : Type 0} → Option X → Option X → ℕ → (X → X → Type 0) → Type 0
Through None m answer made = (answer ≡ number_of_refusal Misused) × (m ≡ None)
Through (Some v) None answer made = ⊥
Through (Some v) (Some w) answer made = made v w

-- the library's answer, as it goes over the border
abbrev pub denied_of : {A : Type 0} → Result A Refusal → Result A Denied
denied_of (Ok a) = Ok a
denied_of (Err e) = Err (Refused e)

-- what was found of a cyclic
abbrev pub found_of : {A : Type 0} → Option A → Result A Denied
found_of (Some a) = Ok a
found_of None = Err (Refused why.NoCyclic)

-- no call of the CPU was made
abbrev pub DeniesCall : {A X : Type 0} → Denied → Result A Denied → X → X → Type 0
DeniesCall e answer v w = (answer ≡ Err e) × (w ≡ v)

-- the numbers of an add, as a caller in C has them
pub record AddNumbers : Type 0 where
  pub id : ℕ
  pub level : ℕ
  pub start : ℤ
  pub interval : ℤ
  pub now : ℤ

abbrev pub add_numbers : ℕ → ℕ → ℤ → ℤ → ℤ → AddNumbers
add_numbers id level start interval now = record { id = id; level = level; start = start; interval = interval; now = now }

-- what the numbers of an add say
abbrev pub IsAsked : ℕ → ℕ → ℤ → ℤ → ℤ → Asked → Type 0
IsAsked id level start interval now a = (level_numbered level ≡ Some a.level) × IsId id × (a.id ≡ id)
    × (pos a.when.start ≡ start) × (pos a.when.interval ≡ interval) × (pos a.now ≡ now)

-- why they say nothing: the level or the id is none, then the start, the interval and at last the moment
abbrev pub WhyNotAsked : ℕ → ℕ → ℤ → ℤ → ℤ → Denied → Type 0
WhyNotAsked id level start interval now Misused = (level_numbered level ≡ None) ⊎ (IsId id → ⊥)
WhyNotAsked id level start interval now (Refused why.BadWhen) =
    (start <ℤ pos 0) ⊎ ((pos 0 ≤ℤ start) × (pos 1 ≤ℤ interval) × (now <ℤ pos 0))
WhyNotAsked id level start interval now (Refused why.BadInterval) = (pos 0 ≤ℤ start) × (interval <ℤ pos 1)
WhyNotAsked id level start interval now e = ⊥

-- what is granted where the caller has called this handler, or none
abbrev pub grant : Option ℕ → Granted
grant None = Nothing
grant (Some id) = One id

-- the high cyclic in front of which a fire stopped
abbrev pub stopped_at : Result Fired FireRefused → Option ℕ
stopped_at (Ok r) = None
stopped_at (Err e) = named e.why where
  named : Refusal → Option ℕ
  named (why.HandlerRefused id) = Some id
  named other = None

-- The high cyclic that is handed out behind a fire: the one in front of which it stopped. One that was refused at once, since the
-- CPU is suspended or the moment is never, leaves the one that was handed out before.
abbrev pub handed_after : Option ℕ → Result Fired FireRefused → Option ℕ
handed_after high (Ok r) = None
handed_after high (Err e) = by_reason e.why where
  by_reason : Refusal → Option ℕ
  by_reason (why.HandlerRefused id) = Some id
  by_reason why.Suspended = high
  by_reason why.BadNow = high
  by_reason other = None

-- the calls of a CPU over any firing ends
module _ {R : Type 0} (firing : Raise R) where
  -- `cyclic_reprogram`: a negative moment is refused, and no cyclic has a number that is no id
  abbrev pub CallsReprogram : ℕ → ℤ → Result (Unit {0}) Denied → CpuView R → CpuView R → Type 0
  CallsReprogram id moment answer v w = ((moment <ℤ pos 0) × DeniesCall (Refused why.BadWhen) answer v w)
      ⊎ ((m : ℕ) × (pos m ≡ moment)
      × (((IsId id → ⊥) × DeniesCall (Refused why.NoCyclic) answer v w)
      ⊎ ((given : Result (Unit {0}) Refusal) × (answer ≡ denied_of given) × CpuChanges firing v (Reprogram id m given) w)))

  abbrev pub AsksPending : ℕ → Result ℕ Denied → CpuView R → CpuView R → Type 0
  AsksPending id answer v w = ((IsId id → ⊥) × DeniesCall (Refused why.NoCyclic) answer v w)
      ⊎ ((found : Option ℕ) × (answer ≡ found_of found) × CpuChanges firing v (AskPending id found) w)

  abbrev pub CallsTotals : ℕ → Result Totals Denied → CpuView R → CpuView R → Type 0
  CallsTotals id answer v w = ((IsId id → ⊥) × DeniesCall (Refused why.NoCyclic) answer v w)
      ⊎ ((found : Option Totals) × (answer ≡ found_of found) × CpuChanges firing v (AskTotals id found) w)

  abbrev pub CallsBeginRemove : ℕ → Result Removal Denied → CpuView R → CpuView R → Type 0
  CallsBeginRemove id answer v w = ((IsId id → ⊥) × DeniesCall (Refused why.NoCyclic) answer v w)
      ⊎ ((given : Result Removal Refusal) × (answer ≡ denied_of given) × CpuChanges firing v (BeginRemove id given) w)

  -- an add: a cyclic here has the id and nothing is done, or it is an add of the CPU
  abbrev pub AddsAsked : Asked → Result (Unit {0}) Denied → CpuView R → CpuView R → Type 0
  AddsAsked a answer v w = (HasCyclic a.id v.cyclics × (answer ≡ Err Taken) × (w ≡ v))
      ⊎ ((given : Result (Unit {0}) Refusal) × (answer ≡ denied_of given)
      × CpuChanges firing v (Add a.id a.level a.when a.now given) w)

  -- `cyclic_add`: the numbers are looked at first
  abbrev pub CallsAdd : AddNumbers → Result (Unit {0}) Denied → CpuView R → CpuView R → Type 0
  CallsAdd n answer v w = ((e : Denied) × WhyNotAsked n.id n.level n.start n.interval n.now e × DeniesCall e answer v w)
      ⊎ ((a : Asked) × IsAsked n.id n.level n.start n.interval n.now a × AddsAsked a answer v w)

  -- One part of a fire: the handler of the one that is handed out has been called, and its call is granted. The fire goes up to
  -- the next high expiration, which is then the one that is handed out.
  abbrev pub FiresPart : ℕ → Result Fired FireRefused → Option ℕ → CpuView R → Option ℕ → CpuView R → Type 0
  FiresPart now answer high v high' w = (left : Granted)
      × CpuDoes granted_calls firing no_interrupts (running (grant high) v) (Fire now answer) (running left w)
      × (high' ≡ handed_after high answer)

-- the same of a CPU on one thread, of which nothing else changes
abbrev pub FiresCpu : ℕ → Result Fired FireRefused → Cpu → Cpu → Type 0
FiresCpu now answer v w = FiresPart raise_tables now answer v.high v.hard w.high w.hard
    × (w ≡ record v { hard = w.hard; high = w.high })

-- the call of a soft level that was taken and is not finished
abbrev pub call_at : Soft → Cpu → Option ℕ
call_at Low v = v.low
call_at Lock v = v.lock

abbrev pub with_call : Soft → Option ℕ → Cpu → Cpu
with_call Low call v = record v { low = call }
with_call Lock call v = record v { lock = call }

-- a soft interrupt of one call at most, with this grant; no other thing changes but the call that is in the caller's hand
abbrev pub Interrupts1 : Soft → Granted → Result Ran SoftRefused → Option ℕ → Cpu → Cpu → Type 0
Interrupts1 level g answer call v w = (left : Granted)
    × CpuDoes granted_calls raise_tables (Interrupts granted_calls) (running g v.hard) (SoftInterrupt level 1 answer)
    (running left w.hard)
    × (w ≡ with_call level call (record v { hard = w.hard }))

-- the call that a soft interrupt stopped in front of
abbrev pub refused_at : Result Ran SoftRefused → Option ℕ
refused_at (Ok r) = None
refused_at (Err e) = Some e.id

-- a take is a soft interrupt whose handlers refuse every call: it stops in front of the one that is next
abbrev pub Takes : Soft → Option ℕ → Cpu → Cpu → Type 0
Takes level found v w = (answer : Result Ran SoftRefused) × (found ≡ refused_at answer)
    × Interrupts1 level Nothing answer found v w

-- what a finish answers: the one call was counted, or nothing was in hand, or another
abbrev pub finish_of : Result Ran SoftRefused → Result (Unit {0}) Denied → Type 0
finish_of (Ok r) answer = ((0 < r.calls) × (answer ≡ Ok tt)) ⊎ ((r.calls ≡ 0) × (answer ≡ Err Misused))
finish_of (Err e) answer = answer ≡ Err (Refused (why.HandlerRefused e.id))

-- a finish is a soft interrupt of one call whose handler grants the call that was taken
abbrev pub Finishes : Soft → Result (Unit {0}) Denied → Cpu → Cpu → Type 0
Finishes level answer v w = ((call_at level v ≡ None) × DeniesCall Misused answer v w)
    ⊎ ((id : ℕ) × (call_at level v ≡ Some id) × (ran : Result Ran SoftRefused) × finish_of ran answer
    × Interrupts1 level (One id) ran None v w)
