pub mod Runs
pub mod Shards
