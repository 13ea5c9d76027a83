pub mod AfterStores
pub mod ByteCounts
pub mod CallerLemmas
pub mod GrownLists
pub mod HashNotes
pub mod LogIndexes
pub mod RefusedPuts
pub mod Takings
pub mod TriedStores
mod Walks
pub mod WholeXorbs
