-- The words of queues that are cited above.
pub use Rattle.xet_queue.specs.declared.queued_term.QueuedTerm.{QueuedTerm}
pub use Rattle.xet_queue.specs.Queues.{ready, ready_bytes, wanted}
