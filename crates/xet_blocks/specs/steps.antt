-- The words of private functions.
pub mod BlockKeys
pub mod Planning
pub mod TermPlaces
