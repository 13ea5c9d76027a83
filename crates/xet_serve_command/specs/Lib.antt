pub mod Serve
pub mod steps
