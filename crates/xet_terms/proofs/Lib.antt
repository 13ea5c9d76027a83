mod Asking
pub mod CallerLemmas
mod Looking
mod Managing
mod Newest
