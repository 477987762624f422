pub mod Ticking
pub mod Serving
pub mod Raising
pub mod Closing
pub mod Keeping
