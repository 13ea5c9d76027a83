pub mod CallerLemmas
pub mod Fillings
pub mod Puts
mod Searches
pub mod ShardOrders
pub mod Splits
mod Staging
mod StoreCalls
