pub mod Calls
pub mod Queues
pub mod Sequential
pub mod steps
