pub mod Ends
pub mod Fetches
pub mod JoinErrors
