-- What proofs of the crates above may cite of this crate's words.

-- an answer belongs to its own request: what one call adds to the lists that are told, and what calls in a row add
pub use Rattle.xet_outside.proofs.RequestAnswers.{added_both, added_none, bytes_both, plans_both}
pub use Rattle.xet_outside.proofs.RequestAnswers.{paired_both, answer_before, answer_after}
pub use Rattle.xet_outside.proofs.RequestAnswers.{query_after}
-- what several writes took together
pub use Rattle.xet_outside.proofs.TakenBytes.{prefix_after, prefix_front, prefix_more, rest_is, took_both, took_more}
pub use Rattle.xet_outside.proofs.TakenBytes.{whole_prefix}
-- bytes at a place of a content
pub use Rattle.xet_outside.proofs.PutBytes.{full, put_more}
-- the ranges of a set of numbers
pub use Rattle.xet_outside.proofs.NumberRanges.{runs_ascend, runs_cover}
-- a store's plan: its terms, their chunks and bytes, its offset, and where the touched chunks end
pub use Rattle.xet_outside.proofs.PlanTerms.{IsPlanTerm, plan_terms_are}
pub use Rattle.xet_outside.proofs.TermChunks.{Full, keeps, skips, skips-keeps, skips_past, sum_lengths, term_bytes, touched_past}
pub use Rattle.xet_outside.proofs.TermChunks.{count_by-cons, count_by-no, count_by-yes}
pub use Rattle.xet_outside.proofs.PlanWindows.{full_chunks_of, has_chunks, planned_window}
pub use Rattle.xet_outside.proofs.PlanOffsets.{FirstFits, offset_fits, offset_skip}
pub use Rattle.xet_outside.proofs.TouchedEnds.{file_short, last_length, plan_within}
