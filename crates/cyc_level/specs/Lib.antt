pub mod Level
pub mod Lawful
pub mod Events
pub mod Runs
pub mod Conservation
pub use Rattle.cyc_types.specs.Limits
