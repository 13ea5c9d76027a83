-- Working words of private functions.
pub mod Ahead
pub mod Pulling
pub mod Stepping
pub mod Working
