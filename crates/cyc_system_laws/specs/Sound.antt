-- What is true of every system between any two calls.
use Rattle.cyc_types.specs.Firing.{FiringView}
use Rattle.cyc_system.specs.System.{SystemView}
use Rattle.cyc_system.specs.Agreement.{Agrees}
use Rattle.cyc_system.specs.Counts.{IsFit, AreLawful}

-- its CPUs and its records agree, the records' ids rise and each has 16 counts, and each CPU is lawful
pub record IsSound {R : Type 0} (view : R → FiringView) (s : SystemView R) : Type 0 where
  pub agrees : Agrees s
  pub fit : IsFit s
  pub lawful : AreLawful view s
