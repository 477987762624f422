pub mod RisingIds
pub mod Runs
pub mod Few
pub mod Entries
pub mod Here
pub mod Packing
pub mod Walks
pub mod Coming
