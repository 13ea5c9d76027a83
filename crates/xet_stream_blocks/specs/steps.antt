-- Working words of private functions.
pub mod FetchParts
pub mod Fetching
pub mod Looking
