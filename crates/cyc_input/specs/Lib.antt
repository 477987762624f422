pub mod Turns
pub mod Input
