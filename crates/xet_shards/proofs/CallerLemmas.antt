-- What proofs of the crates above may cite of this crate's words.

-- what a search finds: a record with the first hash at its place
pub use Rattle.xet_shards.proofs.Runs.{FoundAt, find_in-at}
