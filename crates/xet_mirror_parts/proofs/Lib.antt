mod Afters
pub mod CallerLemmas
mod Copyings
mod Files
mod Finds
mod Gathers
mod LookCalls
mod Moments
mod Stored
mod Terms
