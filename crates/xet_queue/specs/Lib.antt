pub mod Calls
pub mod Pieces
pub mod Queues
pub mod Sequential
pub mod Unordered
pub mod Waits
pub mod steps
