-- What proofs of the crates above may cite of this crate's words.

-- own terms that lie within some chunks lie within more of them
pub use Rattle.xet_waiting.proofs.Kept.{counted-more}
-- a list that is changed in place, element by element: one step, and the end
pub use Rattle.xet_waiting.proofs.Kept.{written}
pub use Rattle.xet_waiting.proofs.Steps.{mapped_step}
