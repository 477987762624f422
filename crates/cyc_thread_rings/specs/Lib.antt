pub mod Laid
pub mod Rings
pub mod Working
pub mod Preparing
pub mod Refusing
