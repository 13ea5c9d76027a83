-- What proofs of the crates above may cite of this crate's words.

-- a queue whose terms are all ready, with one more
pub use Rattle.xet_writers.proofs.Ready.{ready_more}
-- the test of an open writer
pub use Rattle.xet_writers.proofs.Ready.{open_writer}
