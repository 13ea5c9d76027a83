-- Working words of private functions.
pub mod Cuts
pub mod TakenIn
