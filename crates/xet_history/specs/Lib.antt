pub mod Laws
pub mod Queries
pub mod TrueHistory
