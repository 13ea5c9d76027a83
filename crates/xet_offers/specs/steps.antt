-- The words of private functions.
pub mod Ascents
pub mod OfferLists
pub mod Reached
