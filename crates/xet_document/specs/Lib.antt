pub mod Document
pub mod Listings
pub mod steps
