pub mod CallerLemmas
pub mod SentConnections
pub mod TapConnections
