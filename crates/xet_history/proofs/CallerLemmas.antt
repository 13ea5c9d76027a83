-- What proofs of the crates above may cite of this crate's words.

-- the laws
pub use Rattle.xet_history.proofs.TruePieces.{all_sized, pieces_cover, pieces_are_prefix}
pub use Rattle.xet_history.proofs.Reached.{pieces_reach}
