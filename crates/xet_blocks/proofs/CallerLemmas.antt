-- What proofs of the crates above may cite of this crate's words.

-- an honest plan: it is accepted, its blocks and terms pass their tests, and its pieces join to the window
pub use Rattle.xet_blocks.proofs.HonestPlanTests.{honest_accepted}
pub use Rattle.xet_blocks.proofs.HonestBlockTests.{IsHonestTerm, honest_block_passes, honest_terms, whole_terms}
pub use Rattle.xet_blocks.proofs.JoinedPieces.{pieces_join, pieces_sized}
-- the sizes that its terms tell of its blocks
pub use Rattle.xet_blocks.proofs.KnownSizes.{known_sizes, length_passes, sized_passes}
-- its chunks, where its blocks were served
pub use Rattle.xet_blocks.proofs.ServedChunks.{served_chunks}
-- the tests that an accepted plan passes
pub use Rattle.xet_blocks.proofs.TrimmedTerms.{tested}
