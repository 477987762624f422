mod Worked
pub mod Moves
pub mod Seen
pub mod Counts
pub mod Fires
pub mod Stopped
pub mod Running
pub mod Spread
pub mod Unmoved
pub mod Components
pub mod Goes
pub mod Everywhere
pub mod Ups
pub mod Naming
pub mod Follows
pub mod Whole
pub mod Lines
