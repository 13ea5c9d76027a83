mod CachedTerms
pub mod CallerLemmas
mod Fetchable
mod Fetching
mod HonestEntries
mod HonestRefreshes
mod Requestable
mod TermRows
