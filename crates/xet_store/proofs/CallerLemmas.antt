-- What proofs of the crates above may cite of this crate's words.

-- what is known of the files of a valid store, and of walks over their terms
pub use Rattle.xet_store.proofs.StoredFiles.{found_terms, found_short, found_walk, found_within, walk_same}
pub use Rattle.xet_store.proofs.PlannedTerms.{bytes_none, walk_of, walk_place, walk_start, walk_within}
-- a block of the store's is one of every store that holds the same
pub use Rattle.xet_store.proofs.HonestBlocks.{honest_by}
-- the log of a connection may go to another thread
pub use Rattle.xet_store.proofs.SentLogs.{client_log_send}
-- what a store that accepts xorbs and files holds
pub use Rattle.xet_store.proofs.AcceptedTerms.{accepted_terms}
pub use Rattle.xet_store.proofs.GrownStores.{valid_with_file, valid_with_xorb}
-- places in order, each where a chunk ends
pub use Rattle.xet_store.proofs.JoinedParts.{ends-le}
