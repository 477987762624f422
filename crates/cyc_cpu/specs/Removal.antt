-- How a cyclic leaves its CPU: a removal, or a move to another CPU.
use Rattle.std.specs.Prelude.{◌≡◌, ◌≢◌, ℕ, ◌+◌, ◌<◌, cond, List, [], ◌∷◌, Some, None, slice_set, remove}
use Rattle.cyc_types.specs.Series.{never}
use Rattle.cyc_types.specs.declared.Raise.{Ghosts as Raise}
use Rattle.cyc_types.specs.Firing.{FiringView, FiringCall, Marks, Polls}
use Rattle.cyc_types.specs.Runs.{Goes}
use Rattle.cyc_types.specs.declared.firing.Sent.{Sent}
use Rattle.cyc_types.specs.declared.level.Level.{Level}
use Rattle.cyc_types.specs.declared.level.Level.TheVariants.{Low, Lock, High}
use Rattle.cyc_types.specs.declared.receipt.Receipt.{Receipt}
use Rattle.cyc_types.specs.declared.refusal.Refusal.{Refusal}
use Rattle.cyc_types.specs.declared.refusal.Refusal.TheVariants as why
use Rattle.cyc_timers.specs.Rows.{Cyclic}
use Rattle.cyc_cpu.specs.declared.removing.Removal.{Removal}
use Rattle.cyc_cpu.specs.declared.removing.Removal.TheVariants.{Done, Kept}
use Rattle.cyc_timers.specs.Acts.{same_level}
use Rattle.cyc_cpu.specs.Losses.{IsSparedAt}
use Rattle.cyc_cpu.specs.Cpu.{CpuView, IsCyclic, HasNoCyclic, SameCpu, with_moment}

-- what an end of this level does, where the cyclic is of its level
abbrev pub calls_at : Level → Level → List FiringCall → List FiringCall
calls_at level own way = cond (same_level level own) way []

-- the end of the cyclic's level went this way, and nothing was done at the other
abbrev pub EndGoes : {R : Type 0} → Raise R → Level → List FiringCall → CpuView R
    → CpuView R → Type 0
EndGoes firing own way v w = Goes firing v.lock (calls_at Lock own way) w.lock
    × Goes firing v.low (calls_at Low own way) w.low

-- this cyclic has left, and no other: the end of its level went this way, and no removal is open
pub record Leaves {R : Type 0} (firing : Raise R) (id : ℕ) (way : List FiringCall)
    (c : Cyclic) (v w : CpuView R) : Type 0 where
  pub position : ℕ
  pub here : IsCyclic v.cyclics position c
  pub named : c.timer.id ≡ id
  pub goes : EndGoes firing c.timer.level way v w
  pub cyclics : w.cyclics ≡ remove v.cyclics position
  pub removal : w.removal ≡ None
  pub size : w.size ≡ v.size
  pub room : w.room ≡ v.room
  pub most : w.most ≡ v.most
  pub suspended : w.suspended ≡ v.suspended

-- the removal of this cyclic is open: so many calls of it are kept, and it never expires
pub record Opens {R : Type 0} (firing : Raise R) (id kept : ℕ)
    (v w : CpuView R) : Type 0 where
  pub position : ℕ
  pub cyclic : Cyclic
  pub here : IsCyclic v.cyclics position cyclic
  pub named : cyclic.timer.id ≡ id
  pub soft : cyclic.timer.level ≢ High
  pub some : 0 < kept
  pub goes : EndGoes firing cyclic.timer.level (Marks id kept ∷ []) v w
  pub cyclics : w.cyclics ≡ slice_set v.cyclics position (with_moment never cyclic)
  pub removal : w.removal ≡ Some id
  pub size : w.size ≡ v.size
  pub room : w.room ≡ v.room
  pub most : w.most ≡ v.most
  pub suspended : w.suspended ≡ v.suspended

-- a cyclic that leaves has the counts that it carried in and, at a soft level, those that the end of its stay answered; and it
-- has lost nothing here where it is spared
pub record HasPolled {R : Type 0} (view : R → FiringView) (counts : Sent) (v : CpuView R) (c : Cyclic) : Type 0 where
  pub polled : c.timer.level ≢ High → (c.timer.expired ≡ c.carried.sent + counts.sent) × (c.lost ≡ c.carried.lost + counts.lost)
  pub spared : IsSparedAt view v c

-- the receipt has the counts of this cyclic
abbrev pub IsReceipt : Receipt → Cyclic → Type 0
IsReceipt receipt c = (receipt.id ≡ c.timer.id) × (receipt.sent ≡ c.timer.expired) × (receipt.lost ≡ c.lost)

-- a removal is done exactly where the mark found nothing outstanding (`cyclic_remove_here`)
abbrev pub BeginsHere : {R : Type 0} → Raise R → ℕ → CpuView R → Removal → CpuView R → Type 0
BeginsHere firing id v (Done receipt) w = (c : Cyclic) × (counts : Sent) × IsReceipt receipt c × HasPolled firing.view counts v c
    × Leaves firing id (Marks id 0 ∷ Polls id (Some counts) ∷ []) c v w
BeginsHere firing id v (Kept kept) w = Opens firing id kept v w

-- the open removal has ended: the poll found nothing outstanding
pub record Ends {R : Type 0} (firing : Raise R) (receipt : Receipt)
    (v w : CpuView R) : Type 0 where
  pub was_open : v.removal ≡ Some receipt.id
  pub cyclic : Cyclic
  pub counts : Sent
  pub counted : IsReceipt receipt cyclic
  pub polled : HasPolled firing.view counts v cyclic
  pub leaves : Leaves firing receipt.id (Polls receipt.id (Some counts) ∷ []) cyclic v w

-- the open removal of this cyclic goes on: the poll found calls outstanding
pub record WaitsHere {R : Type 0} (firing : Raise R) (id : ℕ)
    (v w : CpuView R) : Type 0 where
  pub position : ℕ
  pub cyclic : Cyclic
  pub here : IsCyclic v.cyclics position cyclic
  pub named : cyclic.timer.id ≡ id
  pub goes : EndGoes firing cyclic.timer.level (Polls id None ∷ []) v w
  pub cyclics : w.cyclics ≡ v.cyclics
  pub kept : SameCpu v w

-- a cyclic here has this id
abbrev pub HasCyclic : ℕ → List Cyclic → Type 0
HasCyclic id cs = (k : ℕ) × (c : Cyclic) × IsCyclic cs k c × (c.timer.id ≡ id)

-- why no removal was begun
abbrev pub WhyNotBegun : {R : Type 0} → ℕ → CpuView R → Refusal → Type 0
WhyNotBegun id v why.NoCyclic = HasNoCyclic id v.cyclics
WhyNotBegun id v (why.Busy removed) = HasCyclic id v.cyclics × (v.removal ≡ Some removed)
WhyNotBegun id v e = ⊥
