-- Working words of private functions.
pub mod Filling
pub mod Printing
