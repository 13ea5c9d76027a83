-- What proofs of the crates above may cite of this crate's words.

-- what a search among records of xorbs finds
pub use Rattle.xet_uploader.proofs.ChunkFinds.{IsFirstIn, first_with-is, xorbs_in-append}
-- what the store after a log finds
pub use Rattle.xet_uploader.proofs.AfterLogs.{after_finds_xorbs, after_finds_files}
