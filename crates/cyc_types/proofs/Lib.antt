pub mod Facts
pub mod TallyLemmas
pub mod Runs
pub mod RunStays
pub mod Order
pub mod Dues
pub mod Firings
pub mod Laws
