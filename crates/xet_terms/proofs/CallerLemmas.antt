-- What proofs of the crates above may cite of this crate's words.

-- where all queries are answered up to the known end, they reach the range's end, or an answer was past it
pub use Rattle.xet_terms.proofs.Managing.{reaches_end}
-- the first queries of some that cut a range cut it
pub use Rattle.xet_terms.proofs.Managing.{cuts-take}
-- a manager that looked ahead, and where it has asked the whole range
pub use Rattle.xet_terms.proofs.Managing.{covered, looked_goes_on, looked_same}
