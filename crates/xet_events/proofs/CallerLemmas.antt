-- What proofs of the crates above may cite of this crate's words.

-- a history with one event more
pub use Rattle.xet_events.proofs.Push.{count_by-push, any-push, flat-push, planned-push, written-push, error-push, stale-push, end-push}
pub use Rattle.xet_events.proofs.Push.{first_some-push, last_of-append}
-- inductions over allowed histories
pub use Rattle.xet_events.proofs.Histories.{kept_along, allowed_push}
-- what holds of every allowed history: its admissions, writes and places
pub use Rattle.xet_events.proofs.Facts.{facts, ends, adjoin_sums, admitted-same, admitted-more, next_in, may_write}
pub use Rattle.xet_events.proofs.Kept.{same_numbers}
