pub mod Log
pub mod Words
pub mod Apart
pub mod Seats
pub mod Stays
pub mod Now
pub mod Opens
pub mod Parts
pub mod Books
pub mod Stands
pub mod Truths
pub mod Removals
mod Admits
mod LoadsToRaise
mod Adds
mod Stores
mod Publishes
mod RemovalSteps
mod Banks
mod Looks
mod Takes
mod Subtracts
