-- What a cyclic's counts, and with them a receipt or what a move takes, say of the calls that were made.
use Rattle.std.specs.Prelude.{◌≡◌, ◌≢◌, ℕ, ◌+◌, Some, Ok}
use Rattle.cyc_cpu.specs.Level.{count}
use Rattle.cyc_types.specs.declared.firing.Sent.{Sent}
use Rattle.cyc_types.specs.declared.level.Level.{Level}
use Rattle.cyc_types.specs.declared.level.Level.TheVariants.{Low, Lock, High}
use Rattle.cyc_cpu.specs.Rows.{Cyclic}
use Rattle.cyc_cpu.specs.Tables.{Tables, level_of}
use Rattle.cyc_cpu.specs.declared.removing.Removal.TheVariants.{Done}
use Rattle.cyc_cpu.specs.Cpu.{CpuView, IsCyclic}
use Rattle.cyc_cpu.specs.Soft.{done_at}
use Rattle.cyc_cpu.specs.Calls.{CpuCall, BeginRemove, PollRemove, TakeNow}
use Rattle.cyc_cpu.specs.Carried.{left_by}

-- the call's answer has the counts of the id, which leaves by it: its removal is done, or it was taken
abbrev pub Releases : ℕ → CpuCall → Type 0
Releases id (BeginRemove own (Ok (Done receipt))) = own ≡ id
Releases id (PollRemove (Some receipt)) = receipt.id ≡ id
Releases id (TakeNow own (Ok taken)) = own ≡ id
Releases id call = ⊥

-- so many calls were made for these expirations: one for each that was not lost
abbrev pub HasCalls : Sent → ℕ → Type 0
HasCalls counts n = counts.sent ≡ counts.lost + n

-- the calls of the id in its present stay at the end of its level, which were made and finished
abbrev pub done_by : Level → CpuView Tables → ℕ → ℕ
done_by Low v id = done_at v.low id
done_by Lock v id = done_at v.lock id
done_by High v id = 0

-- the calls of the id that are outstanding at its level: pending, in hand or kept for its removal
abbrev pub pending_by : Level → CpuView Tables → ℕ → ℕ
pending_by Low v id = count (level_of v.low) id
pending_by Lock v id = count (level_of v.lock) id
pending_by High v id = 0

-- each expiration of a cyclic of a soft level was lost, or its call is outstanding, or it was made: here, or before the cyclic
-- was carried in
abbrev pub IsBalancedCyclic : CpuView Tables → Cyclic → Type 0
IsBalancedCyclic v c = c.timer.level ≢ High → (n : ℕ) → HasCalls c.carried n →
    c.timer.expired ≡ c.lost + (n + done_by c.timer.level v c.timer.id) + pending_by c.timer.level v c.timer.id

-- what the call answers of the id: the calls that its cyclic carried in, and those that were done here
pub record AnswersCalls (id : ℕ) (call : CpuCall) (v : CpuView Tables) : Type 0 where
  pub position : ℕ
  pub cyclic : Cyclic
  pub here : IsCyclic v.cyclics position cyclic
  pub named : cyclic.timer.id ≡ id
  pub calls : cyclic.timer.level ≢ High → (n : ℕ) → HasCalls cyclic.carried n
      → HasCalls (left_by call id) (n + done_by cyclic.timer.level v id)
