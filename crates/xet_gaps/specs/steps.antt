-- Working words of private functions.
pub mod Reading
pub mod Touching
