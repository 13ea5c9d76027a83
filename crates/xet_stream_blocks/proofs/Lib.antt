mod Answered
mod BlockCounts
pub mod CallerLemmas
mod Calls
mod Expiring
mod FetchFailing
mod FetchedBlocks
mod Keeps
mod LaneAsks
mod Looking
mod ProvideFailing
mod ProvidedBlocks
