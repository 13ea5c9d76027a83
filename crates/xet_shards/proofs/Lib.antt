pub mod CallerLemmas
pub mod Runs
