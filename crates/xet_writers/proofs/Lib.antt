pub mod CallerLemmas
mod Ends
mod Ready
mod Stops
mod Windows
