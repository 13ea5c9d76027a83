-- Working words of private functions.
pub mod Answering
pub mod Errors
pub mod Fetching
pub mod Shorts
pub mod Turning
