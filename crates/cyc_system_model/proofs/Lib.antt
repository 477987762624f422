mod CpuLists
pub mod Levels
mod CpuComing
mod Leaving
mod Raising
mod Firing
mod Interrupting
pub mod Free
mod Counting
pub mod CpuAnswering
mod Tying
mod Rising
pub mod Law
pub mod Tied
pub mod Stopping
mod Lists
pub mod Cpus
mod Asking
mod Destinations
mod Entering
pub mod SystemAdding
pub mod Reprogramming
pub mod Replacing
mod SystemRunning
pub mod Binding
mod Sums
mod Half
mod Ending
mod Coming
mod SystemRemoving
mod Answering
pub mod Removals
pub mod Polling
mod SystemCounting
mod Going
pub mod Spreading
pub mod Returning
pub mod Rooms
mod Records
mod Agreeing
pub mod Keeping
pub mod Suspensions
pub mod SystemSuspending
mod Turning
pub mod Juggling
pub mod SystemOffline
mod SystemBeginning
pub mod SystemAdvancing
