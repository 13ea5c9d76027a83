pub mod Lent
pub mod Completeness
pub mod Laws
pub mod Ran
pub mod steps
pub mod ToFile
