-- How a cyclic moves from one CPU to another (`cyclic_juggle_one_to`).
use Rattle.std.specs.Prelude.{◌≡◌, ℕ, ◌<◌, [], ◌∷◌, Some, None}
use Rattle.cyc_types.specs.declared.Raise.{Ghosts as Raise}
use Rattle.cyc_types.specs.Firing.{FiringView, Loads, Marks, Polls}
use Rattle.cyc_types.specs.declared.firing.Sent.{Sent}
use Rattle.cyc_types.specs.declared.refusal.Refusal.{Refusal}
use Rattle.cyc_types.specs.declared.refusal.Refusal.TheVariants as why
use Rattle.cyc_timers.specs.Rows.{Cyclic}
use Rattle.cyc_cpu.specs.declared.moving.Taken.{Taken}
use Rattle.cyc_cpu.specs.Cpu.{CpuView, seen_at, HasNoCyclic, Asks, HasFollowed, SameCpu}
use Rattle.cyc_timers.specs.Quiet.{LoadsThenLooks}
use Rattle.cyc_cpu.specs.Removal.{Leaves, HasCyclic, HasPolled}

-- what was taken is all that the CPU has of this cyclic
abbrev pub IsTaken : Taken → Cyclic → Type 0
IsTaken taken c = (taken.level ≡ c.timer.level) × (taken.interval ≡ c.timer.interval) × (taken.moment ≡ c.timer.moment)
    × (taken.sent.sent ≡ c.timer.expired) × (taken.sent.lost ≡ c.lost)

-- the cyclic has left with all its counts: its load found nothing outstanding, and then the mark and the poll
abbrev pub TakesNow : {R : Type 0} → Raise R → ℕ → Taken → CpuView R → CpuView R → Type 0
TakesNow firing id taken v w = (c : Cyclic) × (counts : Sent) × IsTaken taken c × HasPolled firing.view counts v c
    × Leaves firing id (Loads id 0 ∷ Marks id 0 ∷ Polls id (Some counts) ∷ []) c v w

-- why a cyclic was not taken; where calls of it are outstanding it was asked for, and nothing else was done
abbrev pub WhyNotTaken : {R : Type 0} → Raise R → ℕ → CpuView R → Refusal → CpuView R
    → Type 0
WhyNotTaken firing id v why.NoCyclic w = HasNoCyclic id v.cyclics × (w ≡ v)
WhyNotTaken firing id v (why.Busy removed) w = HasCyclic id v.cyclics × (v.removal ≡ Some removed) × (w ≡ v)
WhyNotTaken firing id v why.Pending w = (v.removal ≡ None) × (0 < seen_at firing.view id v) × (n : ℕ) × (0 < n)
    × Asks firing id n v w
WhyNotTaken firing id v e w = ⊥

-- no call is outstanding, both soft sides have followed, and no removal is open
pub record IsSettled {R : Type 0} (view : R → FiringView) (v : CpuView R) : Type 0 where
  pub seen : (id : ℕ) → seen_at view id v ≡ 0
  pub followed : HasFollowed view v
  pub still : v.removal ≡ None

-- the ends were asked for their cyclics, and then at most whether their soft sides have followed
pub record Inquires {R : Type 0} (firing : Raise R) (v w : CpuView R) : Type 0 where
  pub lock : LoadsThenLooks firing v.lock w.lock
  pub low : LoadsThenLooks firing v.low w.low
  pub cyclics : w.cyclics ≡ v.cyclics
  pub kept : SameCpu v w
