pub mod Cleaners
pub mod FileEnds
pub mod Laws
pub mod Records
pub mod Showing
pub mod steps
