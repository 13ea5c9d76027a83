-- What proofs of the crates above may cite of this crate's words.

-- equal blocks, and equal lists of ranges
pub use Rattle.xet_offers.proofs.EqualBlocks.{eq-same_block, same_block-true, same_block-own, same_block-chain}
pub use Rattle.xet_offers.proofs.OfferOrder.{any_by_chunks, eq-same_ranges, same_ranges-true}
-- what `find` and `position` answer of lists that are mapped or joined
pub use Rattle.xet_offers.proofs.Lookups.{any-map, find-append, find-map, find_passes, firsts_all, position-map}
-- the offer in which a term lies: its block, its start in that, and what tells it from others
pub use Rattle.xet_offers.proofs.TermOffers.{block_of_offer, candidate_of, found_candidate, places_tell}
pub use Rattle.xet_offers.proofs.OfferOrder.{numbers_tell, offer_ascends, offer_starts}
-- the first failed test of a walk, and the ends of terms
pub use Rattle.xet_offers.proofs.FirstFailures.{first_here, first_more, first_never, refuses}
pub use Rattle.xet_offers.proofs.TermEnds.{sizes_from-zero, too_far}
-- where chains of terms lead
pub use Rattle.xet_offers.proofs.ReachedSums.{IsSome_term, final, final_is, pick, size}
