pub mod Plan
pub mod Told
pub mod Answers
pub mod Laws
pub mod Offsets
pub mod Places
pub mod Worked
pub mod Written
