pub mod CallerLemmas
mod CutNotes
mod Hashes
mod Tracked
mod TrackerCalls
mod Walks
