-- Working words of private functions.
pub mod Documents
pub mod Ends
pub mod Printing
