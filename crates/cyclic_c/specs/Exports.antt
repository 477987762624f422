-- What each export does, with its answer as a number.
use Rattle.std.specs.Prelude.{◌≡◌, ◌≢◌, ℕ, ◌<◌, ◌⊎◌, pos, ◌<ℤ◌, ℤ, Option, Some, None, Result, Ok, Err, IfSome, IfNone}
use Rattle.cyc_types.specs.declared.Raise.{Ghosts as Raise}
use Rattle.cyc_types.specs.declared.level.Soft.{Soft}
use Rattle.cyc_types.specs.declared.receipt.Receipt.{Receipt}
use Rattle.cyc_types.specs.declared.refusal.Refusal.TheVariants as why
use Rattle.cyc_timers.specs.declared.fire.Fired.{Fired}
use Rattle.cyc_timers.specs.declared.fire.FireRefused.{FireRefused}
use Rattle.cyc_cpu.specs.declared.hard.Totals.{Totals}
use Rattle.cyc_cpu.specs.declared.removing.Removal.{Removal}
use Rattle.cyc_border.specs.Numbers.{number_of_refusal, answer_of, id_in_refusal, soft_named}
use Rattle.cyc_border.specs.Opening.{IsNewCpu}
use Rattle.cyc_types.specs.Timers.{earliest}
use Rattle.cyc_timers.specs.Rows.{timers}
use Rattle.cyc_core.specs.Tables.{Tables}
use Rattle.cyc_cpu.specs.Cpu.{CpuView}
use Rattle.cyc_cpu.specs.Calls.{PollRemove, Suspend, Resume, CpuChanges}
use Rattle.cyc_cpu.specs.Soft.{end_at, held_at, HasEmptyLists}
use Rattle.cyc_cpu.specs.declared.removing.Removal.TheVariants.{Done, Kept}
use Rattle.cyc_border.specs.Border.{
  AddNumbers,
  CallsReprogram,
  CallsAdd,
  AsksPending,
  CallsTotals,
  CallsBeginRemove,
  Takes,
  Finishes,
}
use Rattle.cyclic_c.specs.Records.{IsFiredRecord, IsRefusedRecord, IsTotals, IsReceiptRecord}
use Rattle.cyclic_c.specs.OutParameters.{LeavesNumber}
use Rattle.cyclic_c.specs.declared.records.CyclicFired.{CyclicFired}
use Rattle.cyclic_c.specs.declared.records.CyclicTotals.{CyclicTotals}
use Rattle.cyclic_c.specs.declared.records.CyclicReceipt.{CyclicReceipt}
use Rattle.cyc_border.specs.declared.cpu.Cpu.{Cpu}
use Rattle.cyc_border.specs.declared.numbers.Denied.{Denied}
use Rattle.cyc_border.specs.declared.numbers.Denied.TheVariants.{Misused, Refused}

-- an open: the handle has a new CPU, or is as it was
abbrev pub OpensHandle : ℕ → ℕ → ℕ → Option Cpu → Option Cpu → Type 0
OpensHandle ceiling most answer m n = ((answer ≡ 0) × (0 < ceiling) × (0 < most) × (m ≡ None) × (v : Cpu) × (n ≡ Some v)
    × IsNewCpu ceiling most v)
    ⊎ ((answer ≡ number_of_refusal Misused) × ((m ≢ None) ⊎ (ceiling ≡ 0) ⊎ (most ≡ 0)) × (n ≡ m))
    ⊎ ((answer ≡ number_of_refusal (Refused why.Memory)) × (0 < ceiling) × (0 < most) × (m ≡ None) × (n ≡ None))

-- a close: nothing is left in the handle
abbrev pub Closes : ℕ → Option Cpu → Option Cpu → Type 0
Closes answer None n = (answer ≡ number_of_refusal Misused) × (n ≡ None)
Closes answer (Some v) n = (answer ≡ 0) × (n ≡ None)

-- the CPU's own part of a call, which changes nothing else
abbrev pub OnHard : (CpuView Tables → CpuView Tables → Type 0) → Cpu → Cpu → Type 0
OnHard made v w = made v.hard w.hard × (w ≡ record v { hard = w.hard })

-- the id that an answer's refusal names
abbrev pub id_named_by : {A : Type 0} → Result A Denied → ℕ
id_named_by (Ok a) = 0
id_named_by (Err e) = id_in_refusal e

-- the number that was found, else 0
abbrev pub found_in : Result ℕ Denied → ℕ
found_in (Ok n) = n
found_in (Err e) = 0

-- the counts that were found go out, and else the parameter stays
abbrev pub WritesTotals : Result Totals Denied → CyclicTotals → CyclicTotals → Type 0
WritesTotals (Ok t) old new = IsTotals t new
WritesTotals (Err e) old new = new ≡ old

-- the receipt, or one of no cyclic
abbrev pub WritesReceipt : Option Receipt → CyclicReceipt → Type 0
WritesReceipt (Some r) out = IsReceiptRecord r out
WritesReceipt None out = out.id ≡ 0

-- the calls that a removal waits for
abbrev pub kept_by : Result Removal Denied → ℕ
kept_by (Ok (Kept n)) = n
kept_by (Ok (Done r)) = 0
kept_by (Err e) = 0

-- what a caller lets an export write: the record before, and after
pub record Written (X : Type 0) : Type 0 where
  pub old : X
  pub new : X

abbrev pub written : {X : Type 0} → X → X → Written X
written old new = record { old = old; new = new }

-- what the begin of a removal writes, with no `busy` where its pointer is null
pub record RemovalOut : Type 0 where
  pub kept : ℕ
  pub receipt : CyclicReceipt
  pub busy : Option ℕ

-- the receipt of a removal that was done at once
abbrev pub IsDoneAtOnce : Result Removal Denied → CyclicReceipt → Type 0
IsDoneAtOnce (Ok (Done r)) out = IsReceiptRecord r out
IsDoneAtOnce (Ok (Kept n)) out = out.id ≡ 0
IsDoneAtOnce (Err e) out = out.id ≡ 0

-- the id, or 0 for none
abbrev pub or_zero : Option ℕ → ℕ
or_zero (Some id) = id
or_zero None = 0

-- the calls of a CPU over any firing ends, as part `on` of what a handle owns
module _ {R X : Type 0} (firing : Raise R)
    (on : (CpuView R → CpuView R → Type 0) → X → X → Type 0) where
  abbrev pub ReprogramsOut : ℕ → ℤ → ℕ → X → X → Type 0
  ReprogramsOut id moment r v w = (answer : Result (Unit {0}) Denied) × (r ≡ answer_of answer)
      × on (CallsReprogram firing id moment answer) v w

  abbrev pub AddsOut : AddNumbers → ℕ → Option ℕ → X → X → Type 0
  AddsOut numbers r busy v w = (answer : Result (Unit {0}) Denied) × (r ≡ answer_of answer)
      × LeavesNumber (id_named_by answer) busy
      × on (CallsAdd firing numbers answer) v w

  abbrev pub PendingOut : ℕ → ℕ → ℕ → X → X → Type 0
  PendingOut id r pending v w = (answer : Result ℕ Denied) × (r ≡ answer_of answer) × (pending ≡ found_in answer)
      × on (AsksPending firing id answer) v w

  abbrev pub TotalsOut : ℕ → ℕ → CyclicTotals → CyclicTotals → X → X → Type 0
  TotalsOut id r old new v w = (answer : Result Totals Denied) × (r ≡ answer_of answer) × WritesTotals answer old new
      × on (CallsTotals firing id answer) v w

  abbrev pub PollsOut : ℕ → CyclicReceipt → X → X → Type 0
  PollsOut r out v w = (r ≡ 0) × (answer : Option Receipt) × WritesReceipt answer out
      × on (λ a b. CpuChanges firing a (PollRemove answer) b) v w

  abbrev pub RemovesOut : ℕ → ℕ → RemovalOut → X → X → Type 0
  RemovesOut id r out v w = (answer : Result Removal Denied) × (r ≡ answer_of answer) × (out.kept ≡ kept_by answer)
      × IsDoneAtOnce answer out.receipt × LeavesNumber (id_named_by answer) out.busy × on (CallsBeginRemove firing id answer) v w

  abbrev pub NextOut : ℕ → ℤ → X → X → Type 0
  NextOut r moment v w = (r ≡ 0) × on (λ a b. (moment ≡ pos (earliest (timers a.cyclics))) × (b ≡ a)) v w

  -- a suspend and a resume: each is done, and changes whether the CPU is suspended, and nothing else
  abbrev pub SuspendsOut : ℕ → X → X → Type 0
  SuspendsOut r v w = (r ≡ 0) × on (λ a b. CpuChanges firing a Suspend b) v w

  abbrev pub ResumesOut : ℕ → X → X → Type 0
  ResumesOut r v w = (r ≡ 0) × on (λ a b. CpuChanges firing a Resume b) v w

-- A take: a number that is no soft level is refused; else the id of the call that is next goes out. Where there is one it is in
-- the hand of its level, and where there is none nothing waits there.
abbrev pub TakesOut : ℕ → ℕ → ℕ → ℕ → Cpu → Cpu → Type 0
TakesOut level r old new v w = ((soft_named level ≡ None) × (r ≡ number_of_refusal Misused) × (new ≡ old) × (w ≡ v))
    ⊎ ((soft : Soft) × (soft_named level ≡ Some soft) × (r ≡ 0) × (found : Option ℕ) × (new ≡ or_zero found)
    × Takes soft found v w
    × IfSome found (λ id. held_at (end_at soft w.hard) ≡ Some id) × IfNone found (HasEmptyLists (end_at soft w.hard)))

abbrev pub FinishesOut : ℕ → ℕ → Cpu → Cpu → Type 0
FinishesOut level r v w = ((soft_named level ≡ None) × (r ≡ number_of_refusal Misused) × (w ≡ v))
    ⊎ ((soft : Soft) × (soft_named level ≡ Some soft) × (answer : Result (Unit {0}) Denied) × (r ≡ answer_of answer)
    × Finishes soft answer v w)

-- the number of a fire's answer
abbrev pub fire_number : Result Fired FireRefused → ℕ
fire_number (Ok r) = 0
fire_number (Err e) = number_of_refusal (Refused e.why)

abbrev pub WritesFired : Result Fired FireRefused → CyclicFired → Type 0
WritesFired (Ok r) out = IsFiredRecord r out
WritesFired (Err e) out = IsRefusedRecord e out

-- a fire: a negative moment is refused; else it is a part of a fire of the CPU
abbrev pub FiresOut : {X : Type 0} → (ℕ → Result Fired FireRefused → X → X → Type 0) → ℤ → ℕ → Written CyclicFired → X → X
    → Type 0
FiresOut part now r out v w = ((now <ℤ pos 0) × (r ≡ number_of_refusal (Refused why.BadWhen)) × (out.new ≡ out.old) × (w ≡ v))
    ⊎ ((m : ℕ) × (pos m ≡ now) × (answer : Result Fired FireRefused) × (r ≡ fire_number answer) × WritesFired answer out.new
    × part m answer v w)

-- what a fire of a suspended CPU answers and writes: no count, and no id
abbrev pub AnswersSuspended : ℕ → CyclicFired → Type 0
AnswersSuspended r f = (r ≡ number_of_refusal (Refused why.Suspended)) × (f.expired ≡ 0) × (f.lost ≡ 0) × (f.next ≡ pos 0)
    × (f.id ≡ 0)
