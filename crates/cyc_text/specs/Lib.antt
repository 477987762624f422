pub mod Puts
pub mod Lines
pub mod Turns
pub mod Status
