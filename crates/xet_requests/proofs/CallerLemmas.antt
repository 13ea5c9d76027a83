-- What proofs of the crates above may cite of this crate's words.

-- what an accepted plan's blocks have of their xorbs, and what refuses a refresh by it
pub use Rattle.xet_requests.proofs.Refreshing.{extents_are, refused_after}
