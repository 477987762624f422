pub mod Draining
pub mod Serving
pub mod Settling
pub mod Settled
pub mod Refusals
