-- What proofs of the crates above may cite of this crate's words.

-- the bytes of ranges, of gaps less a range, and of parts
pub use Rattle.xet_gaps.proofs.GapBytes.{in_parts, is_after, is_before, is_inside, less_exact, parts_exact}
pub use Rattle.xet_gaps.proofs.GapBytes.{none_below}
-- how many they are
pub use Rattle.xet_gaps.proofs.GapCounts.{parts_counted}
-- lists of gaps
pub use Rattle.xet_gaps.proofs.GapLists.{less_gaps, parts_are}
