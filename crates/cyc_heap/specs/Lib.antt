pub mod Heap
pub mod Tournament
pub mod Few
