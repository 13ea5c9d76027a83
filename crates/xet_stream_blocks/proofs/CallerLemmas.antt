-- What proofs of the crates above may cite of this crate's words.

pub use Rattle.xet_stream_blocks.proofs.BlockCounts.{block_part, counts_block}
pub use Rattle.xet_stream_blocks.proofs.ProvideFailing.{nothing_provided}
pub use Rattle.xet_stream_blocks.proofs.ProvidedBlocks.{no_looks, no_offers}
