pub mod Border
pub mod Granted
pub mod Held
pub mod Numbers
pub mod Opening
pub mod Pair
pub mod Parts
pub mod Seats
