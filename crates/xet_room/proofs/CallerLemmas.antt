-- What proofs of the crates above may cite of this crate's words.

-- two texts, one after the other, of which the first may not be written whole, or none after it
pub use Rattle.xet_room.proofs.TwoTexts.{finished_err, finished_more}
pub use Rattle.xet_room.proofs.Stops.{finished_short}
-- what a status says of the output where a write stopped, and after a piece that was written
pub use Rattle.xet_room.proofs.Stops.{short_after, stopped_flushed, stopped_short, stopped_unfailed, unfailed_after}
-- an input that was read to its end
pub use Rattle.xet_room.proofs.WholeInputs.{IsWhole, read_to_end}
