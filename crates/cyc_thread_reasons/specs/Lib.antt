pub mod Known
pub mod Reasons
pub mod Explained
