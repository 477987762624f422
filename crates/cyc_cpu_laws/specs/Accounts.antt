-- What calls on a CPU add up to for each id.
use Rattle.std.specs.Prelude.{◌≡◌, ℕ, ◌+◌, ◌≤◌, cond, take, List, [], ◌∷◌, Result, Ok, Err}
use Rattle.std.specs.List.{FoldsTo}
use Rattle.cyc_types.specs.declared.Raise.{Ghosts as Raise}
use Rattle.cyc_types.specs.Firing.{FiringView}
use Rattle.cyc_types.specs.Levels.{as_level}
use Rattle.cyc_types.specs.declared.firing.Sent.{Sent}
use Rattle.cyc_types.specs.declared.level.Level.{Level}
use Rattle.cyc_types.specs.declared.level.Level.TheVariants.{Low, Lock, High}
use Rattle.cyc_soft.specs.declared.Ran.{Ran}
use Rattle.cyc_soft.specs.declared.SoftRefused.{SoftRefused}
use Rattle.cyc_types.specs.Expirations.{Expiration, expirations}
use Rattle.cyc_types.specs.Counting.{no_counts}
use Rattle.cyc_cpu.specs.Rows.{Cyclic, timers}
use Rattle.cyc_cpu.specs.Acts.{same_level}
use Rattle.cyc_cpu.specs.Shares.{share}
use Rattle.cyc_cpu.specs.Cpu.{CpuView, Running}
use Rattle.cyc_cpu.specs.Calls.{CpuCall, Fire, SoftInterrupt}
use Rattle.cyc_cpu.specs.Carried.{entered_by, left_by, expired_of, lost_of}
use Rattle.cyc_cpu_laws.specs.Passing.{Passes}

-- the expirations that a call made: those of a fire, up to one that was refused
abbrev pub made_by : CpuCall → List Cyclic → List Expiration
made_by (Fire now (Ok fired)) cs = expirations now (timers cs)
made_by (Fire now (Err e)) cs = take e.expired (expirations now (timers cs))
made_by call cs = []

-- the calls of handlers that a soft interrupt's answer tells
abbrev pub calls_told : Result Ran SoftRefused → ℕ
calls_told (Ok ran) = ran.calls
calls_told (Err refused) = refused.calls

-- those that a call tells at each level
abbrev pub served_by : CpuCall → Level → ℕ
served_by (SoftInterrupt soft budget answer) level = cond (same_level level (as_level soft)) (calls_told answer) 0
served_by call level = 0

-- what calls did: the expirations of each id at each level, the calls that soft interrupts tell at each level, and the counts
-- that each id entered with and those that it left with
pub record Account : Type 0 where
  pub fired : Level → ℕ → ℕ
  pub served : Level → ℕ
  pub entered : ℕ → Sent
  pub left : ℕ → Sent

-- no call
abbrev pub no_call_made : Account
no_call_made = record { fired = λ level id. 0; served = λ level. 0; entered = λ id. no_counts; left = λ id. no_counts }

abbrev pub both_counts : (ℕ → Sent) → (ℕ → Sent) → ℕ → Sent
both_counts a b id = record { sent = (a id).sent + (b id).sent; lost = (a id).lost + (b id).lost }

-- some calls and then others
abbrev pub both : Account → Account → Account
both a b = record {
  fired = λ level id. a.fired level id + b.fired level id;
  served = λ level. a.served level + b.served level;
  entered = both_counts a.entered b.entered;
  left = both_counts a.left b.left;
}

-- one call on a CPU with these cyclics: in a fire each id has its share
abbrev pub account_of : CpuCall → List Cyclic → Account
account_of call cs = record {
  fired = λ level id. share level (timers cs) (made_by call cs) id;
  served = served_by call;
  entered = entered_by call;
  left = left_by call;
}

-- the calls of a run
abbrev pub account_in : {C R : Type 0} (D : Running C R → CpuCall → Running C R → Type 0) (s : Running C R) (way : List CpuCall)
    (t : Running C R) → FoldsTo D s way t → Account
account_in D s [] t run = no_call_made
account_in D s (call ∷ way) t run = both (account_of call s.cpu.cyclics) (account_in D run.0 way t run.2)

-- what cyclics have of an id's expirations, with what it left with, is what they had, with what it entered with and what the
-- fires made of it
abbrev pub AccountsAddUp : Account → List Cyclic → List Cyclic → Type 0
AccountsAddUp a cs cs' = (id : ℕ) → expired_of id cs' + (a.left id).sent
    ≡ expired_of id cs + (a.entered id).sent + (a.fired Lock id + a.fired Low id + a.fired High id)

-- so do the losses, with those of the raises at the two ends
abbrev pub LossesAddUp : Account → (ℕ → ℕ) → (ℕ → ℕ) → List Cyclic → List Cyclic → Type 0
LossesAddUp a lock_lost low_lost cs cs' = (id : ℕ) → lost_of id cs' + (a.left id).lost
    ≡ lost_of id cs + (a.entered id).lost + (lock_lost id + low_lost id)

-- the ceilings and what a cyclic may expire at most are the same, and the size, which is that of both banks, is no smaller
pub record KeepsLimits {R : Type 0} (view : R → FiringView) (v w : CpuView R) : Type 0 where
  pub most : w.most ≡ v.most
  pub lock_ceiling : (view w.lock).ceiling ≡ (view v.lock).ceiling
  pub low_ceiling : (view w.low).ceiling ≡ (view v.low).ceiling
  pub grows : v.size ≤ w.size

-- A CPU came from s to t with this account. Each end was raised for its level's expirations, the handlers were called for the
-- high ones, and nothing else was raised or called. The expirations of each id add up, and so do its losses.
pub record Proceeds {C R : Type 0} (count : C → ℕ → ℕ) (firing : Raise R) (a : Account)
    (s t : Running C R) : Type 0 where
  -- the raises that each end lost
  pub lock_lost : ℕ → ℕ
  pub low_lost : ℕ → ℕ
  pub lock : Passes firing (a.fired Lock) lock_lost s.cpu.lock t.cpu.lock
  pub low : Passes firing (a.fired Low) low_lost s.cpu.low t.cpu.low
  pub called : (id : ℕ) → count t.calls id ≡ count s.calls id + a.fired High id
  pub expired : AccountsAddUp a s.cpu.cyclics t.cpu.cyclics
  pub lost : LossesAddUp a lock_lost low_lost s.cpu.cyclics t.cpu.cyclics
  pub limits : KeepsLimits firing.view s.cpu t.cpu
