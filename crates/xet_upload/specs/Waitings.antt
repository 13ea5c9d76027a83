-- The words of data that waits, which are cited above.
pub use Rattle.xet_waiting.specs.Waitings.{Waiting, no_waiting, IsWithin, LiesIn, IsCounted, AreCounted, HaveBytes}
pub use Rattle.xet_waiting.specs.Waitings.{IsKept, file_shifted, merged, xorb_of_chunks, record_of_file, own_bytes}
pub use Rattle.xet_waiting.specs.Waitings.{IsPending}
