pub mod Composing
pub mod Expiring
pub mod HandedOut
pub mod HandingOut
pub mod Resting
pub mod Taking
pub mod WholeFire
