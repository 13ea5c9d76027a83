pub mod CallerLemmas
mod Reached
mod TruePieces
