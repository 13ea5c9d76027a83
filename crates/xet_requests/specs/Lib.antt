pub mod Asks
pub mod Refreshes
