-- Working words of private functions.
pub mod Ascending
pub mod Kept
pub mod Reaches
pub mod Writes
