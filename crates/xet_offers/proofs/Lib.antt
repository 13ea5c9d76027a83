mod AscendingOffsets
mod AscendingSearch
mod ChunkNumbers
mod ChunkRuns
mod EntryOffers
mod EntryTests
mod EqualBlocks
mod FirstFailures
mod Lookups
mod NearXorbs
mod OfferOrder
mod ReachedSums
mod TermEnds
mod TermOffers
mod WholeSizes
pub mod CallerLemmas
