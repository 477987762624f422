-- What a fire that is made in parts has called: only what was handed out.
use Rattle.std.specs.Prelude.{◌≡◌, ℕ, ◌+◌, ◌⊎◌, false, List, [], ◌∷◌, ◌++◌, length, sum_by, Option, Some, Result, Ok, Err}
use Rattle.std.specs.List.{filter_map}
use Rattle.cyc_types.specs.Counting.{times}
use Rattle.cyc_types.specs.declared.Calls.{Ghosts as Calls}
use Rattle.cyc_types.specs.declared.Raise.{Ghosts as Raise}
use Rattle.cyc_types.specs.declared.level.Level.{Level}
use Rattle.cyc_types.specs.declared.level.Level.TheVariants.{High}
use Rattle.cyc_types.specs.declared.refusal.Refusal.TheVariants as why
use Rattle.cyc_types.specs.Expirations.{Expiration, expirations}
use Rattle.cyc_types.specs.Timers.{Timer}
use Rattle.cyc_timers.specs.Rows.{timers}
use Rattle.cyc_timers.specs.Acts.{ids_at}
use Rattle.cyc_timers.specs.declared.fire.Fired.{Fired}
use Rattle.cyc_timers.specs.declared.fire.FireRefused.{FireRefused}
use Rattle.cyc_cpu.specs.Cpu.{CpuView, running}
use Rattle.cyc_cpu.specs.Calls.{CpuDoes, Fire, Suspend, Resume, CpuChanges, no_interrupts}
use Rattle.cyc_border.specs.Border.{FiresPart, stopped_at}

-- none, or the one that was handed out, once
abbrev pub IsHandedOut : Option ℕ → List ℕ → Type 0
IsHandedOut high ids = (ids ≡ []) ⊎ ((id : ℕ) × (high ≡ Some id) × (ids ≡ id ∷ []))

-- a part of a fire makes the front of the fire's list, or all of it where it is done; and of the high cyclics only the one whose
-- handler was called before it
abbrev pub IsPart : {R : Type 0} → ℕ → Result Fired FireRefused → Option ℕ → CpuView R → Type 0
IsPart now (Ok r) high v = (r.expired ≡ length (expirations now (timers v.cyclics)))
    × IsHandedOut high (ids_at High (timers v.cyclics) (expirations now (timers v.cyclics)))
IsPart now (Err e) high v = (made : List Expiration) × (rest : List Expiration)
    × (expirations now (timers v.cyclics) ≡ made ++ rest) × (e.expired ≡ length made)
    × IsHandedOut high (ids_at High (timers v.cyclics) made)

-- a CPU, and the high cyclic that is handed out
pub record Paused (R : Type 0) : Type 0 where
  pub cpu : CpuView R
  pub high : Option ℕ

abbrev pub paused : {R : Type 0} → Option ℕ → CpuView R → Paused R
paused high cpu = record { cpu = cpu; high = high }

-- a call while a fire is made in parts: a part at a moment with its answer, a suspend, or a resume
pub data PartCall : Type 0 where
  Part : ℕ → Result Fired FireRefused → PartCall
  Suspends : PartCall
  Resumes : PartCall

abbrev pub MakesPart : {R : Type 0} → Raise R → Paused R → PartCall → Paused R → Type 0
MakesPart firing s (Part now answer) t = FiresPart firing now answer s.high s.cpu t.high t.cpu
MakesPart firing s Suspends t = CpuChanges firing s.cpu Suspend t.cpu × (t.high ≡ s.high)
MakesPart firing s Resumes t = CpuChanges firing s.cpu Resume t.cpu × (t.high ≡ s.high)

-- what a fire answers while the CPU is suspended
abbrev pub asleep : Result Fired FireRefused
asleep = Err (record { why = why.Suspended; expired = 0; lost = 0 })

-- a call that makes nothing
abbrev pub IsRest : PartCall → Type 0
IsRest (Part now answer) = answer ≡ asleep
IsRest Suspends = Unit {0}
IsRest Resumes = Unit {0}

-- and one that may be a part at this moment, which stopped in front of a high cyclic
abbrev pub IsPaused : ℕ → PartCall → Type 0
IsPaused now (Part m answer) = ((m ≡ now) × (id : ℕ) × (stopped_at answer ≡ Some id)) ⊎ IsRest (Part m answer)
IsPaused now call = IsRest call

-- what the fires among these calls answered
abbrev pub answers : List PartCall → List (Result Fired FireRefused)
answers [] = []
answers (Part now answer ∷ calls) = answer ∷ answers calls
answers (Suspends ∷ calls) = answers calls
answers (Resumes ∷ calls) = answers calls

-- the CPU where it is not suspended
abbrev pub awake : {R : Type 0} → CpuView R → CpuView R
awake v = record v { suspended = false }

-- the expirations that a part counted
abbrev pub expired_in_part : Result Fired FireRefused → ℕ
expired_in_part (Ok r) = r.expired
expired_in_part (Err e) = e.expired

-- those of them that it lost
abbrev pub lost_in_part : Result Fired FireRefused → ℕ
lost_in_part (Ok r) = r.lost
lost_in_part (Err e) = e.lost

-- the high cyclics that were handed out, in order
abbrev pub handed_out : List (Result Fired FireRefused) → List ℕ
handed_out parts = filter_map stopped_at parts

-- what the parts and the last one counted together
abbrev pub together : List (Result Fired FireRefused) → Fired → Fired
together parts last = record {
  expired = sum_by expired_in_part parts + last.expired;
  lost = sum_by lost_in_part parts + last.lost;
  next = last.next;
}

-- handlers that write down for whom they were called, and never refuse
abbrev pub notes : List ℕ → ℕ → Level → List ℕ → Type 0
notes ids id level more = more ≡ ids ++ id ∷ []

abbrev pub noted_id : List ℕ → ℕ → ℕ
noted_id ids id = times id ids

abbrev pub noting : Calls (List ℕ)
noting = record { count = noted_id; called = notes; may_refuse = λ ids id. ⊥ }

-- The parts are one fire of the CPU, whose handlers were called for those that were handed out, in that order: each expiration
-- that was due is made once, in order, and counted once.
abbrev pub IsOneFire : {R : Type 0} → Raise R → ℕ
    → List (Result Fired FireRefused) → Fired → CpuView R → CpuView R → Type 0
IsOneFire firing now parts last v w = CpuDoes noting firing no_interrupts (running [] v) (Fire now (Ok (together parts last)))
    (running (handed_out parts) w)

-- What was handed out is counted: the fire makes the expiration of this id first, and its handler is the only one that is called.
pub record Counts (now : ℕ) (answer : Result Fired FireRefused) (id : ℕ) (ts : List Timer) : Type 0 where
  pub first : Expiration
  pub more : List Expiration
  pub rest : List Expiration
  pub named : first.id ≡ id
  pub listed : expirations now ts ≡ (first ∷ more) ++ rest
  pub expired : expired_in_part answer ≡ length (first ∷ more)
  pub called : ids_at High ts (first ∷ more) ≡ id ∷ []
