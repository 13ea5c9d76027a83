-- What proofs of the crates above may cite of this crate's words.

pub use Rattle.xet_stream_terms.proofs.AdmittedTerms.{empties_are}
pub use Rattle.xet_stream_terms.proofs.HandedTerms.{goes_wrote, next_task, refused_cause, unkept}
pub use Rattle.xet_stream_terms.proofs.Marking.{marks_on}
pub use Rattle.xet_stream_terms.proofs.PlanCounts.{plan_part}
pub use Rattle.xet_stream_terms.proofs.TermSizes.{piece_sized}
pub use Rattle.xet_stream_terms.proofs.Wanting.{next_missing, term_missing}
