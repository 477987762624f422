-- A system as a run begins with it.
use Rattle.std.specs.Prelude.{◌≡◌, true, [], length, replicate}
use Rattle.cyc_system_laws.specs.System.{SystemView}

-- No cyclic was given whose removal has not answered, and so no CPU has one; and all CPUs are online. A new system is so.
pub record IsEmpty {R : Type 0} (s : SystemView R) : Type 0 where
  pub records : s.records ≡ []
  pub online : s.cpus.online ≡ replicate (length s.cpus.cpus) true
