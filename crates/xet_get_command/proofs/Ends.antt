-- That what was taken is flushed, and that no call of the output failed, as a status says it.
use Rattle.std.proofs.Common.{◌≡◌, List, ℕ, refl, ◌∙◌, inl, inr}
use Rattle.xet_outside.specs.declared.sink.SinkError.{SinkError}
use Rattle.xet_outside.specs.declared.sink.SinkError.TheVariants as sink_error
use Rattle.xet_outside.specs.Told.{SinkTold}
use Rattle.xet_room.specs.declared.status.Status.{Status}
use Rattle.xet_room.specs.declared.status.Status.TheVariants.{NoMemory}
use Rattle.xet_room.specs.Outcome.{Finished, IsFlushed, IsUnfailed, status_of}

-- no call failed before either
pub unfailed_more : (b m n : SinkTold) (status : Status) → m.faults ≡ b.faults → IsUnfailed status m n → IsUnfailed status b n
unfailed_more b m n status same (inl h) = inl (h ∙ same)
unfailed_more b m n status same (inr h) = inr h

-- memory ended, or the write of its line failed
pub memory_unfailed : (b m n : SinkTold) (xs : List ℕ) (status : Status) → Finished xs NoMemory m n status → IsUnfailed status b n
memory_unfailed b m n xs status (inl h) = inr (inr h.0)
memory_unfailed b m n xs status (inr (inl h)) = inr (inl h.0)
memory_unfailed b m n xs status (inr (inr h)) = inr (inr h.0)

-- a write stopped
pub stopped_flushed : (n : SinkTold) (e : SinkError) → IsFlushed (status_of e) n
stopped_flushed n sink_error.OutOfMemory = inr (inr refl)
stopped_flushed n sink_error.Failed = inr (inl refl)

pub stopped_unfailed : (b n : SinkTold) (e : SinkError) → IsUnfailed (status_of e) b n
stopped_unfailed b n sink_error.OutOfMemory = inr (inr refl)
stopped_unfailed b n sink_error.Failed = inr (inl refl)
