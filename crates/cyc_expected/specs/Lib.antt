pub mod Course
pub mod Expected
pub mod Calm
pub mod Way
pub mod Told
pub mod Expired
