pub mod Taps
pub mod MapCaches
pub mod MemBlocks
pub mod MemPlans
pub mod MemUrls
pub mod Parts
pub mod Refusals
pub mod steps
