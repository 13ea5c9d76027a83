-- What proofs of the crates above may cite of this crate's words.

pub use Rattle.xet_stages.proofs.Measures.{PlansNone, measure_expired, measure_fetched, measure_finished, measure_rest, none_rises}
