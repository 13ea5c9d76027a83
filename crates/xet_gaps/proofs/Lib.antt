pub mod CallerLemmas
mod GapBytes
mod GapCounts
mod GapLists
mod Halves
mod ListParts
mod Marked
mod TextPieces
mod TextsRead
