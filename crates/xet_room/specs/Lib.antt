pub mod Ends
pub mod Inputs
pub mod LaterFlushes
pub mod Numbers
pub mod Outcome
pub mod Reading
pub mod Texts
