-- What becomes of a system in threads whose CPUs are asked whether they have settled.
use Rattle.std.specs.Prelude.{◌≡◌}
use Rattle.cyc_types.specs.declared.Raise.{Ghosts as Raise}
use Rattle.cyc_workers.specs.Settled.{AllAsked}
use Rattle.cyc_system_workers.specs.declared.side.SystemSide.{SystemSide}

-- its CPUs were asked, and nothing else of it changed
pub record OnlyAsked {C R : Type 0} (firing : Raise R)
    (a b : SystemSide R C) : Type 0 where
  pub cpus : AllAsked firing a.system.cpus.cpus b.system.cpus.cpus
  pub online : b.system.cpus.online ≡ a.system.cpus.online
  pub records : b.system.records ≡ a.system.records
  pub last : b.system.last ≡ a.system.last
  pub leads : b.leads ≡ a.leads
