pub mod Asleep
pub mod Values
pub mod Seals
pub mod Passing
pub mod OutValues
pub mod OutCalls
