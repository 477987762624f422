-- All that can happen to a CPU: its calls, each with its answer, and what each of them does.
use Rattle.std.specs.Prelude.{◌≡◌, ◌≢◌, ℕ, ◌<◌, ◌≤◌, ◌⊎◌, ◌++◌, ◌∷◌, Bool, true, false, List, length, slice_set, Option, Some}
use Rattle.std.specs.Prelude.{None, Result, Ok, Err}
use Rattle.cyc_types.specs.declared.Calls.{Ghosts as Calls}
use Rattle.cyc_types.specs.declared.Raise.{Ghosts as Raise}
use Rattle.cyc_types.specs.Series.{never, first}
use Rattle.cyc_types.specs.declared.firing.Sent.{Sent}
use Rattle.cyc_types.specs.Levels.{at_level}
use Rattle.cyc_types.specs.declared.level.Level.{Level}
use Rattle.cyc_types.specs.declared.level.Level.TheVariants.{High}
use Rattle.cyc_types.specs.declared.level.Soft.{Soft}
use Rattle.cyc_types.specs.declared.moment.When.{When}
use Rattle.cyc_types.specs.declared.receipt.Receipt.{Receipt}
use Rattle.cyc_types.specs.declared.refusal.Refusal.{Refusal}
use Rattle.cyc_types.specs.declared.refusal.Refusal.TheVariants.{BadNow, NoCyclic, Suspended}
use Rattle.cyc_soft.specs.declared.Ran.{Ran}
use Rattle.cyc_soft.specs.declared.SoftRefused.{SoftRefused}
use Rattle.cyc_types.specs.Timers.{earliest}
use Rattle.cyc_types.specs.Expirations.{Expiration, expirations}
use Rattle.cyc_timers.specs.Rows.{Cyclic, timers}
use Rattle.cyc_timers.specs.declared.fire.Fired.{Fired}
use Rattle.cyc_timers.specs.declared.fire.FireRefused.{FireRefused}
use Rattle.cyc_cpu.specs.declared.hard.Totals.{Totals}
use Rattle.cyc_cpu.specs.declared.moving.Taken.{Taken}
use Rattle.cyc_cpu.specs.declared.removing.Removal.{Removal}
use Rattle.cyc_cpu.specs.Cpu.{CpuView, Running, IsCyclic, HasNoCyclic, SameCpu, fired_on, seen_at, with_moment, cyclic_with}
use Rattle.cyc_cpu.specs.Cpu.{Makes, WhyStopped, Asks, Looked, HasRoom, WhyNoRoom, MayWiden, Reserves, WhyNotReserved, Widens}
use Rattle.cyc_cpu.specs.Cpu.{Places, new_cyclic}
use Rattle.cyc_cpu.specs.Losses.{IsSparedAt}
use Rattle.cyc_cpu.specs.Removal.{BeginsHere, WhyNotBegun, Ends, WaitsHere}
use Rattle.cyc_cpu.specs.Moving.{TakesNow, WhyNotTaken, IsSettled, Inquires}
use Rattle.cyc_timers.specs.Acts.{acting}

-- the calls on a CPU that can change anything, each with its parameters and its answer
pub data CpuCall : Type 0 where
  Fire : ℕ → Result Fired FireRefused → CpuCall
  SoftInterrupt : Soft → ℕ → Result Ran SoftRefused → CpuCall
  Add : ℕ → Level → When → ℕ → Result (Unit {0}) Refusal → CpuCall
  Place : ℕ → Level → ℕ → ℕ → Sent → CpuCall
  Reprogram : ℕ → ℕ → Result (Unit {0}) Refusal → CpuCall
  AskPending : ℕ → Option ℕ → CpuCall
  AskTotals : ℕ → Option Totals → CpuCall
  AskRoom : ℕ → Result (Unit {0}) Refusal → CpuCall
  Reserve : ℕ → Result (Unit {0}) Refusal → CpuCall
  Widen : ℕ → CpuCall
  BeginRemove : ℕ → Result Removal Refusal → CpuCall
  PollRemove : Option Receipt → CpuCall
  TakeNow : ℕ → Result Taken Refusal → CpuCall
  AskSettled : Bool → CpuCall
  Suspend : CpuCall
  Resume : CpuCall

-- a cyclic with these counts may be put in: its id is new here, and an index is free
pub record MayPlace {R : Type 0} (id : ℕ) (carried : Sent) (v : CpuView R) : Type 0 where
  pub absent : HasNoCyclic id v.cyclics
  pub free : length v.cyclics < v.size
  pub lost : carried.lost ≤ carried.sent
  pub most : carried.sent ≤ v.most

-- the cyclic that an add brings at this moment
abbrev pub added_cyclic : ℕ → Level → When → ℕ → Cyclic
added_cyclic id level when now = new_cyclic id level when.interval (first when.start when.interval now)

-- this cyclic was added: memory for it was taken, the size grew where it had to and was allowed to, and it was put in
pub record AddsHere {R : Type 0} (firing : Raise R) (c : Cyclic) (v w : CpuView R) : Type 0 where
  -- the CPU with the memory, and then with the size
  pub reserved : CpuView R
  pub widened : CpuView R
  pub reserves : Reserves firing 1 v reserved
  pub allowed : MayWiden firing.view 1 reserved
  pub widens : Widens firing 1 reserved widened
  pub enters : Places firing c widened w

-- what a call does that reaches no handler
abbrev pub CpuChanges : {R : Type 0} → Raise R → CpuView R → CpuCall → CpuView R → Type 0
CpuChanges firing v (Add id level when now (Ok done)) w =
    HasNoCyclic id v.cyclics × (now ≢ never) × AddsHere firing (added_cyclic id level when now) v w
CpuChanges firing v (Add id level when now (Err BadNow)) w = HasNoCyclic id v.cyclics × (now ≡ never) × (w ≡ v)
CpuChanges firing v (Add id level when now (Err e)) w =
    HasNoCyclic id v.cyclics × (now ≢ never) × Looked firing v w × WhyNotReserved firing.view 1 v w e
CpuChanges firing v (Place id level interval moment carried) w =
    MayPlace id carried v × Places firing (cyclic_with id level interval moment carried.sent carried.lost) v w
CpuChanges {R} firing v (Reprogram id moment (Ok done)) w =
    (k : ℕ) × (c : Cyclic) × IsCyclic v.cyclics k c × (c.timer.id ≡ id) × (v.removal ≢ Some id)
    × (w ≡ record v { cyclics = slice_set v.cyclics k (with_moment moment c) })
CpuChanges firing v (Reprogram id moment (Err e)) w = (e ≡ NoCyclic) × (HasNoCyclic id v.cyclics ⊎ (v.removal ≡ Some id))
    × (w ≡ v)
CpuChanges firing v (AskPending id (Some n)) w = Asks firing id n v w × (seen_at firing.view id w ≡ n)
CpuChanges firing v (AskPending id None) w = HasNoCyclic id v.cyclics × (w ≡ v)
CpuChanges firing v (AskTotals id (Some t)) w = (a : Asks firing id t.pending v w) × (seen_at firing.view id w ≡ t.pending)
    × (t.expired ≡ a.cyclic.timer.expired) × (t.lost ≡ a.cyclic.lost) × IsSparedAt firing.view v a.cyclic
CpuChanges firing v (AskTotals id None) w = HasNoCyclic id v.cyclics × (w ≡ v)
CpuChanges firing v (AskRoom more (Ok done)) w = Looked firing v w × HasRoom firing.view more w
CpuChanges firing v (AskRoom more (Err e)) w = Looked firing v w × WhyNoRoom firing.view more w e
CpuChanges firing v (Reserve more (Ok done)) w = Reserves firing more v w × MayWiden firing.view more w
CpuChanges firing v (Reserve more (Err e)) w = Looked firing v w × WhyNotReserved firing.view more v w e
CpuChanges firing v (Widen more) w = MayWiden firing.view more v × Widens firing more v w
CpuChanges firing v (BeginRemove id (Ok removal)) w = (v.removal ≡ None) × BeginsHere firing id v removal w
CpuChanges firing v (BeginRemove id (Err e)) w = WhyNotBegun id v e × (w ≡ v)
CpuChanges firing v (PollRemove (Some receipt)) w = Ends firing receipt v w
CpuChanges firing v (PollRemove None) w =
    ((v.removal ≡ None) × (w ≡ v)) ⊎ ((id : ℕ) × (v.removal ≡ Some id) × WaitsHere firing id v w)
CpuChanges firing v (TakeNow id (Ok taken)) w = (v.removal ≡ None) × TakesNow firing id taken v w
CpuChanges firing v (TakeNow id (Err e)) w = WhyNotTaken firing id v e w
CpuChanges firing v (AskSettled true) w = Inquires firing v w × IsSettled firing.view w
CpuChanges firing v (AskSettled false) w = Inquires firing v w × (IsSettled firing.view w → ⊥)
CpuChanges firing v Suspend w = w ≡ record v { suspended = true }
CpuChanges firing v Resume w = w ≡ record v { suspended = false }
CpuChanges firing v (Fire now answer) w = ⊥
CpuChanges firing v (SoftInterrupt level budget answer) w = ⊥

-- a fire is taken up: the CPU is not suspended, and the moment is not never
pub record MayFire {R : Type 0} (now : ℕ) (v : CpuView R) : Type 0 where
  pub awake : v.suspended ≡ false
  pub early : now ≢ never

-- why a fire is refused at once: while the CPU is suspended nothing else is looked at
abbrev pub WhyNoFire : {R : Type 0} → ℕ → CpuView R → Refusal → Type 0
WhyNoFire now v Suspended = v.suspended ≡ true
WhyNoFire now v BadNow = (v.suspended ≡ false) × (now ≡ never)
WhyNoFire now v e = ⊥

-- a fire was stopped by an expiration that was refused: those before it were made, and no other
pub record Stopped {C R : Type 0} (handler : Calls C) (firing : Raise R) (now : ℕ)
    (e : FireRefused) (s t : Running C R) : Type 0 where
  pub made : List Expiration
  pub last : Expiration
  pub rest : List Expiration
  pub listed : expirations now (timers s.cpu.cyclics) ≡ made ++ last ∷ rest
  pub expired : length made ≡ e.expired
  -- the handlers before the refusal, which changes no count
  pub at : C
  pub makes : Makes (acting (at_level handler.called High) handler.count firing) now made
      (fired_on s.calls s.cpu) (fired_on at t.cpu) e.lost
  pub counted : (id : ℕ) → handler.count t.calls id ≡ handler.count at id
  pub stops : WhyStopped handler.may_refuse s.cpu.most at last (timers t.cpu.cyclics) e.why

-- What each call does to a CPU and its handlers. `handler` has what `Calls` says of these: how a call changes them, how many each
-- id had, and which may be refused. `interrupts` is what a soft interrupt does, which is a call of a CPU alone where one thread
-- has both sides of its levels.
abbrev pub CpuDoes : {C R : Type 0} → Calls C → Raise R
    → (Soft → ℕ → Result Ran SoftRefused → Running C R → Running C R → Type 0) → Running C R → CpuCall → Running C R → Type 0
CpuDoes handler firing interrupts s (Fire now (Ok r)) t = MayFire now s.cpu × SameCpu s.cpu t.cpu
    × (r.expired ≡ length (expirations now (timers s.cpu.cyclics))) × (r.next ≡ earliest (timers t.cpu.cyclics))
    × Makes (acting (at_level handler.called High) handler.count firing) now (expirations now (timers s.cpu.cyclics))
    (fired_on s.calls s.cpu) (fired_on t.calls t.cpu) r.lost
CpuDoes handler firing interrupts s (Fire now (Err e)) t =
    (WhyNoFire now s.cpu e.why × (e ≡ record e { expired = 0; lost = 0 }) × (t ≡ s))
    ⊎ (MayFire now s.cpu × SameCpu s.cpu t.cpu × Stopped handler firing now e s t)
CpuDoes handler firing interrupts s (SoftInterrupt level budget answer) t = interrupts level budget answer s t
CpuDoes handler firing interrupts s call t = CpuChanges firing s.cpu call t.cpu × (t.calls ≡ s.calls)

-- no soft interrupt is a call of the CPU: another thread may have the soft sides
abbrev pub no_interrupts : {C R : Type 0} → Soft → ℕ → Result Ran SoftRefused → Running C R → Running C R → Type 0
no_interrupts level budget answer s t = ⊥
