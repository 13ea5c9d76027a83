-- What two texts print, one after the other.
use Rattle.std.proofs.Common.{ℕ, ◌≤◌, List, ◌++◌, Err, refl, arith, inl, inr}
use Rattle.xet_outside.specs.declared.sink.SinkError.{SinkError}
use Rattle.xet_outside.specs.declared.sink.SinkError.TheVariants as sink_error
use Rattle.xet_outside.specs.Told.{SinkTold, Took}
use Rattle.xet_outside.specs.Written.{WroteAll}
use Rattle.xet_outside.proofs.CallerLemmas.{prefix_after, prefix_front, took_both}
use Rattle.xet_room.specs.declared.status.Status.{Status}
use Rattle.xet_room.specs.Outcome.{Finished, status_of}

-- a first text, and then a second one
pub finished_more : (b m n : SinkTold) (xs ys : List ℕ) (whole status : Status) → Took b.took m.took xs → b.faults ≤ m.faults → Finished ys whole m n status → Finished (xs ++ ys) whole b n status
finished_more b m n xs ys whole status t l (inl h) = inl (h.0, took_both b.took m.took n.took xs ys t h.1)
finished_more b m n xs ys whole status t l (inr (inl h)) = inr (inl (h.0, let r = h.1 in omega arith, prefix_after b.took m.took n.took xs ys t h.2))
finished_more b m n xs ys whole status t l (inr (inr h)) = inr (inr (h.0, prefix_after b.took m.took n.took xs ys t h.1))

-- the first of two texts was not written whole
pub finished_err : (b n : SinkTold) (xs ys : List ℕ) (whole : Status) (e : SinkError) → WroteAll b n xs (Err e) → Finished (xs ++ ys) whole b n (status_of e)
finished_err b n xs ys whole sink_error.OutOfMemory h = inr (inr (refl, prefix_front b.took n.took xs ys h.prefix))
finished_err b n xs ys whole sink_error.Failed h = inr (inl (refl, h.failed refl, prefix_front b.took n.took xs ys h.prefix))
