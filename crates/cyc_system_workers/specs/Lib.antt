pub mod Advancing
pub mod Fires
pub mod Settling
pub mod Starting
pub use Rattle.cyc_workers.specs.declared.settling.Lead
pub use Rattle.cyc_workers.specs.Serving
pub use Rattle.cyc_agreement.specs.Adding
pub use Rattle.cyc_workers.specs.Settling as WorkersSettling
pub use Rattle.cyc_workers.specs.Settled
pub use Rattle.cyc_agreement.specs.Refusals
pub use Rattle.cyc_agreement.specs.Binding
pub use Rattle.cyc_agreement.specs.System
pub use Rattle.cyc_system.specs.Calls
pub use Rattle.cyc_system.specs.Splitting
pub use Rattle.cyc_workers.specs.Refusals as WorkersRefusals
pub use Rattle.cyc_agreement.specs.Agreement
