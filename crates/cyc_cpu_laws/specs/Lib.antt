pub mod Runs
pub mod Passing
pub mod Accounts
pub mod Cores
pub mod Settled
pub mod Absence
pub mod Suspension
pub mod Receipts
