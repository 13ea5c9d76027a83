-- What proofs of the crates above may cite of this crate's words.

-- what the store after a log has, and what looks tell of it
pub use Rattle.xet_shelves.proofs.AfterStores.{after-append, after_finds_files, after_finds_xorbs}
pub use Rattle.xet_shelves.proofs.AfterStores.{has_file-after, has_xorb-after}
-- its lists: each grows by what it lacks
pub use Rattle.xet_shelves.proofs.AfterStores.{after-files, after-xorbs, file_key, xorb_key}
pub use Rattle.xet_shelves.proofs.GrownLists.{all-finds, grown, grown-finds, with_key}
-- the file records of two logs, one behind the other
pub use Rattle.xet_shelves.proofs.LogIndexes.{files_in-append}
