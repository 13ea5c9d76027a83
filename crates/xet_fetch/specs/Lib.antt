pub mod CachedBlocks
pub mod Fetches
pub mod Laws
pub mod Providers
pub mod Refreshes
pub mod RetrieveData
pub mod steps
