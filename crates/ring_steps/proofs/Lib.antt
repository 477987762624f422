pub mod Telling
pub mod Masks
pub mod Closing
