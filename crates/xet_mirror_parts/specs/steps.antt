pub mod Gathered
pub mod Kept
