pub mod Sorted
pub mod Halving
pub mod Indexes
pub mod Keys
pub mod Slots
pub mod Shown
