pub mod CallerLemmas
mod HeldWalk
mod Reached
