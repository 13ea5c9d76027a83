pub mod CallerLemmas
mod Differences
mod Refreshing
