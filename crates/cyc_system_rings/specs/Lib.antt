pub mod Beginning
pub mod ByLevel
pub mod Leading
pub mod Rings
pub mod Events
pub mod Empty
pub use Rattle.cyc_system_laws.specs.System
pub use Rattle.cyc_system_laws.specs.Counts
pub use Rattle.cyc_system_laws.specs.SystemCalls as Calls
pub use Rattle.cyc_system_laws.specs.SystemRemoval
pub use Rattle.cyc_system_workers.specs.declared.side.SystemSide
pub use Rattle.cyc_system_laws.specs.Sound
pub use Rattle.cyc_ring.specs.declared.ends.RaiseEnd
pub use Rattle.cyc_ring.specs.Ends
pub use Rattle.cyc_system_workers.specs.declared.advancing.Advanced
pub use Rattle.cyc_system_workers.specs.Advancing
pub use Rattle.cyc_system_workers.specs.WorkersSettling as Settling
pub use Rattle.cyc_system_laws.specs.Laws
pub use Rattle.cyc_system_workers.specs.Refusals
pub use Rattle.cyc_system_workers.specs.Settling as SystemWorkersSettling
pub use Rattle.cyc_system_laws.specs.Keeping
pub use Rattle.cyc_system_laws.specs.Polling
pub use Rattle.cyc_system_workers.specs.Adding
pub use Rattle.cyc_system_laws.specs.Removing
pub use Rattle.cyc_system_workers.specs.Binding
pub use Rattle.cyc_system_laws.specs.Counting
pub use Rattle.cyc_system.specs.declared.turning.Turn
pub use Rattle.cyc_system.specs.Juggling
pub use Rattle.cyc_agreement.specs.Omni
pub use Rattle.cyc_agreement.specs.Online
