pub mod Compact
pub mod steps
