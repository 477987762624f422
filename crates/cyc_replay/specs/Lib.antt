pub mod Machine
pub mod Words
pub mod Runs
pub mod Beginning
pub mod Replay
pub mod Advancing
pub mod Interrupting
pub mod WordLines
