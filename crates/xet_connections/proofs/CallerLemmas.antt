-- What proofs of the crates above may cite of this crate's words.

-- behind a tap: the answers to queries are those of the store, and a link names the tap and the store
pub use Rattle.xet_connections.proofs.TapConnections.{honest_answer, same_link}
-- the log of the connection behind a tap, and what the tap gave and tells after one call more
pub use Rattle.xet_connections.proofs.TapConnections.{given_none, given_plan, given_block, with_plan, with_block}
pub use Rattle.xet_connections.proofs.TapConnections.{honest_none, honest_plan, honest_block, said_grew}
-- a connection to a store in memory may go to another thread
pub use Rattle.xet_connections.proofs.SentConnections.{mem_client_send}
