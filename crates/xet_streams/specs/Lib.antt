pub mod AnyOrder
pub mod Parts
pub mod Places
pub mod steps
