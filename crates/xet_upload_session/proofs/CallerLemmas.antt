-- What proofs of the crates above may cite of this crate's words.

-- what a call keeps, and that a backed session stays backed
pub use Rattle.xet_upload_session.proofs.Keeping.{keeps-both, keeps-refl, keeps-still, later-both, later-same, stores-later, stands-at}
pub use Rattle.xet_upload_session.proofs.Keeping.{repeats-both, repeats-same}
pub use Rattle.xet_upload_session.proofs.Ends.{backs-finalized, backs-kept, new-backed, new-listed, ordered-grown, backs-same, waits-same}
-- a failure that is kept stays
pub use Rattle.xet_upload_session.proofs.Completions.{unfailed}
-- xorbs of a world
pub use Rattle.xet_upload_session.proofs.Sounding.{agree-before, stored-of}
-- the type's facts
pub use Rattle.xet_upload_session.proofs.Tests.{has-listed}
-- a list that grows
pub use Rattle.xet_upload_session.proofs.Listing.{listed-more}
-- what a given xorb leaves
pub use Rattle.xet_upload_session.proofs.Tracking.{told-err, told-ok}
-- what a call puts of the xorbs that it made
pub use Rattle.xet_upload_session.proofs.Putting.{puts-any, puts-both, puts-cut, puts-failed, puts-moved, puts-none, puts-registered}
pub use Rattle.xet_upload_session.proofs.Putting.{puts-nothing, puts-taken}
