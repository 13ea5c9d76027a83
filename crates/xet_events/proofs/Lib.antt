pub mod CallerLemmas
mod BlockMarks
mod Bounds
mod Counts
mod Ends
mod Facts
mod Histories
mod Kept
mod Plans
mod Push
mod Scripts
mod Walks
