-- Working words of private functions.
pub mod Indexed
pub mod Listed
pub mod Parts
pub mod Records
pub mod Tables
pub mod Terms
