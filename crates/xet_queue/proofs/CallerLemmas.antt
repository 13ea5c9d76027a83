-- What proofs of the crates above may cite of this crate's words.

-- an end that no wanted term fails
pub use Rattle.xet_queue.proofs.Terms.{none_wanted}
