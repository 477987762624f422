-- One question more.
use Rattle.std.proofs.Common.{[], ◌∷◌, ◌++◌}
use Rattle.std.specs.Prelude.{Bool}
use Rattle.cyc_types.specs.declared.Raise.{Ghosts as Raise}
use Rattle.cyc_types.proofs.Runs.{folds_more}
use Rattle.cyc_cpu.specs.Cpu.{CpuView}
use Rattle.cyc_workers.specs.Settling.{AsksSettled, Settles}

module _ {R : Type 0} (firing : Raise R) where
  pub settles_more : (v w x : CpuView R) (answer : Bool) → Settles firing v w → AsksSettled firing w answer x
      → Settles firing v x
  settles_more v w x answer s a = (s.0 ++ answer ∷ [], folds_more (AsksSettled firing) v s.0 w answer x s.1 a)
