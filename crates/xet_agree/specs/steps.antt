-- Working words of private functions.
pub mod Alike
pub mod Walks
