-- What proofs of the crates above may cite of this crate's words.

-- a hash is among some exactly where the test finds it
pub use Rattle.xet_upload_parts.proofs.Hashes.{contains-has, has-contains}
-- some calls of a tracker are accepted
pub use Rattle.xet_upload_parts.proofs.TrackerCalls.{called-all, called-first, called-none}
-- a hash is not among some where the test doesn't find it
pub use Rattle.xet_upload_parts.proofs.Tracked.{has-not}
