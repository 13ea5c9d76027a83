pub mod Limits
pub mod Waitings
