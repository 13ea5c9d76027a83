-- What proofs of the crates above may cite of this crate's words.

-- the query that is due
pub use Rattle.xet_parts.proofs.Dues.{cancelled_due_ties, none_due_ties, one_due_ties}
-- a plan that was asked for, and a query that isn't recorded
pub use Rattle.xet_parts.proofs.AskTies.{asked_ties}
-- and why it isn't
pub use Rattle.xet_parts.proofs.AskCauses.{AskedCause, ask_cause}
pub use Rattle.xet_parts.proofs.AskCauses.{none_passes, query_within}
-- admissions
pub use Rattle.xet_parts.proofs.AdmitTies.{admits_counted, admits_planned}
pub use Rattle.xet_parts.proofs.AdmitTies.{admitted_ties}
-- looks and offers
pub use Rattle.xet_parts.proofs.OfferTies.{look_tells, offer_block_ties, offer_tells}
-- refreshes
pub use Rattle.xet_parts.proofs.RefreshTies.{refreshed_ties}
pub use Rattle.xet_parts.proofs.RefreshCauses.{refresh_cause}
-- the end
pub use Rattle.xet_parts.proofs.StopTies.{stopped_cause, stopped_leaves, stopped_ties}
