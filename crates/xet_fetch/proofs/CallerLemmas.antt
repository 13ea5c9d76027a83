-- What proofs of the crates above may cite of this crate's words.

-- over a valid store: honest answers to a refresh are not refused, honest entries are no misses, honest data is an entry
pub use Rattle.xet_fetch.proofs.HonestRefreshes.{honest_tables}
pub use Rattle.xet_fetch.proofs.HonestEntries.{entries_return, honest_entries_pass}
-- terms in entries that pass the tests of their blocks
pub use Rattle.xet_fetch.proofs.CachedTerms.{cached_terms_pass}
