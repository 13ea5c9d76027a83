mod BlockNumbers
mod BlockReferences
mod BlockUrls
mod BlockWalk
mod ChainSums
mod ChainsExist
mod HonestBlockTests
mod HonestBlocks
mod HonestPlanTests
mod JoinedPieces
mod KnownSizes
mod PlacedTerms
mod ServedChunks
mod TermBlockAnswers
mod TermChunks
mod TrimmedTerms
pub mod CallerLemmas
