-- Working words of private functions.
pub mod OwnTaps
pub mod PrintedDigits
pub mod Printing
pub mod TapRuns
