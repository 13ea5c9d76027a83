pub mod Calls
pub mod Laws
pub mod Mirrored
pub mod steps
