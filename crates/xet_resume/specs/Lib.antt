pub mod Errors
pub mod Fetches
pub mod Fills
pub mod Holding
pub mod Laws
pub mod steps
