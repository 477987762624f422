-- What becomes of the firing sides of a system's CPUs while they are away from it.
use Rattle.std.specs.Prelude.{◌≡◌, ℕ, ◌≤◌, List, Option}
use Rattle.std.specs.Option.{option_map}
use Rattle.cyc_types.specs.Firing.{FiringView}
use Rattle.cyc_types.specs.Pairs.{EachTwo}
use Rattle.cyc_agreement.specs.Rows.{Cyclic}
use Rattle.cyc_cpu.specs.Cpu.{CpuView}
use Rattle.cyc_cpu.specs.Losses.{IsUnder}

-- The cyclic has its id, its level and its interval, and its counts are no smaller. One that had lost nothing has lost nothing
-- yet where its expirations are at most the ceiling of its level.
pub record GoesOn (lock_ceiling low_ceiling : ℕ) (c d : Cyclic) : Type 0 where
  pub id : d.timer.id ≡ c.timer.id
  pub level : d.timer.level ≡ c.timer.level
  pub interval : d.timer.interval ≡ c.timer.interval
  pub expired : c.timer.expired ≤ d.timer.expired
  pub lost : c.lost ≤ d.lost
  pub spared : c.lost ≡ 0 → IsUnder lock_ceiling low_ceiling d.timer.level d.timer.expired → d.lost ≡ 0

-- the index of an id that is admitted at an end
abbrev pub index_admitted : ℕ → FiringView → Option ℕ
index_admitted id v = option_map (λ s. s.index) (v.stays id)

-- the end has its ceiling, and the same ids are admitted, each at its index
pub record IsSameEnd (v w : FiringView) : Type 0 where
  pub ceiling : w.ceiling ≡ v.ceiling
  pub indexes : (id : ℕ) → index_admitted id w ≡ index_admitted id v

-- the firing side of a CPU came back: it has its cyclics, each of which went on, its open removal, its size and its limits
pub record ComesBack {R : Type 0} (view : R → FiringView) (x y : CpuView R) : Type 0 where
  pub cyclics : EachTwo (GoesOn (view x.lock).ceiling (view x.low).ceiling) x.cyclics y.cyclics
  pub removal : y.removal ≡ x.removal
  pub size : y.size ≡ x.size
  pub most : y.most ≡ x.most
  pub suspended : y.suspended ≡ x.suspended
  pub lock : IsSameEnd (view x.lock) (view y.lock)
  pub low : IsSameEnd (view x.low) (view y.low)

-- all of them came back, each at its number
abbrev pub AllComeBack : {R : Type 0} → (R → FiringView) → List (CpuView R) → List (CpuView R) → Type 0
AllComeBack view xs ys = EachTwo (ComesBack view) xs ys
