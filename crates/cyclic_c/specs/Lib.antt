pub mod Owns
pub mod Records
pub mod OutParameters
pub mod Exports
pub mod PairOut
pub mod Lending
