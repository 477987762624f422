pub mod Worded
mod Ready
mod Taking
mod Refusing
mod Telling
pub mod Quiet
pub mod Following
pub mod KeepingSeats
pub mod Seats
pub mod First
pub mod Workers
pub mod Playing
pub mod Texts
pub mod Fires
pub mod Expiring
pub mod Played
pub mod Ran
pub use Rattle.cyc_system_laws.proofs.Spots
pub use Rattle.cyc_system_laws.proofs.Lists
pub use Rattle.cyc_system_laws.proofs.Pieces
pub use Rattle.cyc_system_laws.proofs.Lengths
pub use Rattle.cyc_system_laws.proofs.Recording
pub use Rattle.cyc_system_laws.proofs.Answering
pub use Rattle.cyc_system_laws.proofs.Sums
pub use Rattle.cyc_system_laws.proofs.Counts
pub use Rattle.cyc_system_laws.proofs.Stills
pub use Rattle.cyc_system_workers.proofs.Beginning
pub use Rattle.cyc_system_laws.proofs.Looked
pub use Rattle.cyc_system_laws.proofs.Folds
pub use Rattle.cyc_system_laws.proofs.Others
pub use Rattle.cyc_system_laws.proofs.Where
pub use Rattle.cyc_system_laws.proofs.Staying
pub use Rattle.cyc_system_workers.proofs.Presence
pub use Rattle.cyc_system_workers.proofs.FirstReason
pub use Rattle.cyc_system_laws.proofs.Settles
