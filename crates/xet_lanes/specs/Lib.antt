pub mod Rounds
pub mod steps
