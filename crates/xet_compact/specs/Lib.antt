pub mod Compacts
pub mod Documents
pub mod Laws
pub mod Refusals
pub mod steps
