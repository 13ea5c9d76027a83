pub mod CallerLemmas
mod Kept
mod Rooms
mod Steps
