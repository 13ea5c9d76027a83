pub mod Interfaces
pub mod Fillings
pub mod Puts
