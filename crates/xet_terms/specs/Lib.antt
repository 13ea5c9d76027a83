pub mod Laws
pub mod Managers
pub mod NextTerms
pub mod Queries
pub mod Settings
