pub mod Tick
pub mod Ring
pub mod System
