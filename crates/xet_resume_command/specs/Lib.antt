pub mod Resume
pub mod Words
pub mod steps
