-- What proofs of the crates above may cite of this crate's words.

-- a count that is within its total, and a sum that fits
pub use Rattle.xet_progress_state.proofs.Looked.{past_total_no, too_great_no}
-- what is true of every item is true of the one that is found
pub use Rattle.xet_progress_state.proofs.Sums.{found_is}
