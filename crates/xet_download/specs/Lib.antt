pub mod Bounds
pub mod Calls
pub mod Downloads
pub mod Laws
pub mod Streams
pub mod Telling
