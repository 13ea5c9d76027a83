pub mod Bench
pub mod Running
pub mod steps
