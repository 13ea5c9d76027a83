-- Working words of private functions.
pub mod Awaiting
pub mod Dues
pub mod Giving
pub mod Pulling
pub mod Waiting
