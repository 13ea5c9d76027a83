pub mod Copying
pub mod Errors
pub mod Looked
pub mod Moments
pub mod steps
