pub mod Listings
pub mod SessionSteps
