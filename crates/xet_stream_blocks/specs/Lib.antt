pub mod BlockParts
pub mod Providing
pub mod steps
