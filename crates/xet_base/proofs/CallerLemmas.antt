-- What proofs of the crates above may cite of this crate's words.

-- equality of hashes, as a test that computes
pub use Rattle.xet_base.proofs.Finds.{hash_eq-true, eq-hash_eq, hash_eq-own, hash_eq-chain}
-- what `find`, `position` and the place of an element answer
pub use Rattle.xet_base.proofs.Finds.{find_some, position_some, position_no, place_none, place_within}
pub use Rattle.xet_base.proofs.Lookups.{find_none-position}
-- the first of elements that are the same, and a walk that keeps them with each element's place
pub use Rattle.xet_base.proofs.Finds.{firsts-push, firsts_keeps, place, AllFound, IsWalked, walked_found, walked_new}
-- parts of lists, joined lists, windows
pub use Rattle.xet_base.proofs.Parts.{take-append, drop-append, take-nil, drop-nil}
pub use Rattle.xet_base.proofs.Joined.{concat_more}
pub use Rattle.xet_base.proofs.Windows.{slice_range-join, length-slice_range, window_length}
-- numbers of eight bytes compare as these do
pub use Rattle.xet_base.proofs.Words.{numbers_cmp, settled, split}
-- what `?` answers of an error
pub use Rattle.xet_base.proofs.Residuals.{err-of}
