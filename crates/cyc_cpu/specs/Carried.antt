-- With which counts an id comes to a CPU and leaves it by a call, and those that the CPU has of it.
use Rattle.std.specs.Prelude.{ℕ, ◌==◌, cond, List, Some, Ok, sum_by}
use Rattle.cyc_types.specs.declared.firing.Sent.{Sent}
use Rattle.cyc_types.specs.Counting.{no_counts}
use Rattle.cyc_cpu.specs.Rows.{Cyclic}
use Rattle.cyc_cpu.specs.declared.removing.Removal.TheVariants.{Done}
use Rattle.cyc_cpu.specs.Calls.{CpuCall, Place, BeginRemove, PollRemove, TakeNow}

-- these counts for their own id, and none for another
abbrev pub counts_for : ℕ → Sent → ℕ → Sent
counts_for own counts id = cond (own == id) counts no_counts

-- the counts with which a call put in each id: those that a cyclic carries in
abbrev pub entered_by : CpuCall → ℕ → Sent
entered_by (Place own level interval moment carried) id = counts_for own carried id
entered_by call id = no_counts

-- the counts with which each id left by a call: those of the receipt, or of what was taken
abbrev pub left_by : CpuCall → ℕ → Sent
left_by (BeginRemove own (Ok (Done r))) id = counts_for own (record { sent = r.sent; lost = r.lost }) id
left_by (PollRemove (Some r)) id = counts_for r.id (record { sent = r.sent; lost = r.lost }) id
left_by (TakeNow own (Ok taken)) id = counts_for own taken.sent id
left_by call id = no_counts

-- the expirations and the losses that a CPU has of an id, 0 where no cyclic has it
abbrev pub expired_of : ℕ → List Cyclic → ℕ
expired_of id cs = sum_by (λ c. cond (c.timer.id == id) c.timer.expired 0) cs

abbrev pub lost_of : ℕ → List Cyclic → ℕ
lost_of id cs = sum_by (λ c. cond (c.timer.id == id) c.lost 0) cs
