pub mod Making
pub mod Asking
pub mod Asked
pub mod Reading
pub mod Seating
pub mod Joining
