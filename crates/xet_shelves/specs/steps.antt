pub mod HashPlaces
pub mod Indexes
pub mod Tries
