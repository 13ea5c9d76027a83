-- The words of a writer's calls that are cited above.
pub use Rattle.xet_queue.specs.Calls.{SinkCause, closed_by, finish_fault}
