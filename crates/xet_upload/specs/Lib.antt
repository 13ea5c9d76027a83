pub mod Cuts
pub mod DataErrors
pub mod FileDatas
pub mod Laws
pub mod Metrics
pub mod Orders
pub mod Standing
pub mod Waitings
