-- What the thread that leads a run does between two steps of its script: calls of the system, and the wait until it has settled.
use Rattle.cyc_agreement.specs.Suspending.{is_suspended}
use Rattle.std.specs.Prelude.{◌≡◌, ◌⊎◌, ℕ, ◌<◌, true, false, List, length, slice_index_or, Option, Some, None, Result, Ok, Err}
use Rattle.std.specs.List.{FoldsTo}
use Rattle.cyc_types.specs.declared.Calls.{Ghosts as Calls}
use Rattle.cyc_types.specs.declared.Raise.{Ghosts as Raise}
use Rattle.cyc_types.specs.declared.receipt.Receipt.{Receipt}
use Rattle.cyc_types.specs.declared.refusal.Refusal.{Refusal}
use Rattle.cyc_timers.specs.declared.fire.Fired.{Fired}
use Rattle.cyc_timers.specs.declared.fire.FireRefused.{FireRefused}
use Rattle.cyc_system_workers.specs.Settled.{AllSettled}
use Rattle.cyc_system_workers.specs.Calls.{SystemCall, Changes, PollRemove}
use Rattle.cyc_system_laws.specs.Sound.{IsSound}
use Rattle.cyc_system_workers.specs.declared.advancing.Advanced.{Advanced}
use Rattle.cyc_system_workers.specs.Advancing.{AllFire}
use Rattle.cyc_system_workers.specs.Settling.{OnlyAsked}
use Rattle.cyc_words.specs.declared.named.Named.TheVariants.{Leaving}
use Rattle.cyc_threads.specs.declared.progress.Progress.{Progress}
use Rattle.cyc_words.specs.Names.{named_at, news, noted, NoneLeaves}

-- there is something to lead each CPU
abbrev pub HasLeads : {C R : Type 0} → Progress R C → Type 0
HasLeads p = length p.side.leads.items ≡ length p.side.system.cpus.cpus

-- the system did this call, for the cyclic of the name of this number, which has what the answer tells; nothing else changed
pub record CallsFor {C R : Type 0} (firing : Raise R) (name : ℕ) (call : SystemCall)
    (s t : Progress R C) : Type 0 where
  pub did : Changes firing s.side.system call t.side.system
  pub told : t.names ≡ noted name (news call) s.names
  pub leads : t.side.leads ≡ s.side.leads
  pub clock : t.clock ≡ s.clock
  pub sound : IsSound firing.view t.side.system

-- a poll of the open removal of a name
pub record Poll : Type 0 where
  pub name : ℕ
  pub id : ℕ
  pub answer : Result (Option Receipt) Refusal

abbrev pub Polls : {C R : Type 0} → Raise R → Progress R C → Poll → Progress R C → Type 0
Polls firing s p t = (named_at s.names p.name ≡ Leaving p.id) × CallsFor firing p.name (PollRemove p.id p.answer) s t

-- every CPU was asked until it had settled, no removal is open, and nothing else was done
pub record SettlesAll {C R : Type 0} (firing : Raise R) (s t : Progress R C) : Type 0 where
  pub asked : OnlyAsked firing s.side t.side
  pub settled : AllSettled firing.view t.side.system.cpus.cpus
  pub none : NoneLeaves t.names
  pub names : t.names ≡ s.names
  pub clock : t.clock ≡ s.clock
  pub sound : IsSound firing.view t.side.system

-- open removals were polled until each had answered, and then the CPUs settled
abbrev pub Waits : {C R : Type 0} → Raise R → Progress R C → Progress R C → Type 0
Waits {C} {R} firing s t =
    (polls : List Poll) × (u : Progress R C) × FoldsTo (Polls firing) s polls u × SettlesAll firing u t

-- why the fire of a CPU was refused: it was not, or the CPU is not online and did not fire
abbrev pub refusal_of_fire : Option (Result Fired FireRefused) → Option Refusal
refusal_of_fire None = None
refusal_of_fire (Some (Ok fired)) = None
refusal_of_fire (Some (Err refused)) = Some refused.why

-- the same of the CPU of a number, by the answers of all CPUs
abbrev pub refusal_at : List (Option (Result Fired FireRefused)) → ℕ → Option Refusal
refusal_at answers n = refusal_of_fire (slice_index_or answers n None)

-- the fire of this CPU was refused so, and that of no CPU with a smaller number
pub record IsFirstRefused (answers : List (Option (Result Fired FireRefused))) (n : ℕ) (why : Refusal) : Type 0 where
  pub here : refusal_at answers n ≡ Some why
  pub first : (m : ℕ) → m < n → refusal_at answers m ≡ None

-- the system was not suspended: all online CPUs fired at this moment, each in a thread of its own, and none was refused; the
-- clock stands at it
pub record Fires {C R : Type 0} (handler : Calls C)
    (firing : Raise R) (now : ℕ) (s t : Progress R C) : Type 0 where
  pub awake : is_suspended s.side.system ≡ false
  pub after : Advanced R C
  pub fired : AllFire handler firing now s.side after
  pub side : t.side ≡ after.side
  pub accepted : (n : ℕ) → refusal_at after.answers.items n ≡ None
  pub names : t.names ≡ s.names
  pub clock : t.clock ≡ now
  pub sound : IsSound firing.view t.side.system

-- an `advance`: while the system is suspended no CPU fires and no thread is started, and the clock alone is set
abbrev pub Advances : {C R : Type 0} → Calls C → Raise R → ℕ → Progress R C → Progress R C → Type 0
Advances handler firing now s t =
    ((is_suspended s.side.system ≡ true) × (t ≡ record s { clock = now })) ⊎ Fires handler firing now s t
