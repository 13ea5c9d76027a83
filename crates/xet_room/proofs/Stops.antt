-- What a status says of the output where a write stopped, and after a piece that was written.
use Rattle.std.proofs.Common.{◌≡◌, ℕ, List, ◌++◌, refl, ◌∙◌, inl, inr}
use Rattle.xet_outside.specs.declared.sink.SinkError.{SinkError}
use Rattle.xet_outside.specs.declared.sink.SinkError.TheVariants as sink_error
use Rattle.xet_outside.specs.Told.{SinkTold, Took}
use Rattle.xet_outside.proofs.CallerLemmas.{prefix_front, whole_prefix}
use Rattle.xet_room.specs.declared.status.Status.{Status}
use Rattle.xet_room.specs.declared.status.Status.TheVariants.{NoMemory}
use Rattle.xet_room.specs.Outcome.{Finished, IsFlushed, IsUnfailed, TellsFault, status_of}

-- memory ended after a first piece, and nothing more is written
pub finished_short : (b n : SinkTold) (xs ys : List ℕ) (whole : Status) → Took b.took n.took xs → Finished (xs ++ ys) whole b n NoMemory
finished_short b n xs ys whole t = inr (inr (refl, prefix_front b.took n.took xs ys (whole_prefix b.took n.took xs t)))

-- a write stopped
pub stopped_flushed : (n : SinkTold) (e : SinkError) → IsFlushed (status_of e) n
stopped_flushed n sink_error.OutOfMemory = inr (inr refl)
stopped_flushed n sink_error.Failed = inr (inl refl)

pub stopped_unfailed : (b n : SinkTold) (e : SinkError) → IsUnfailed (status_of e) b n
stopped_unfailed b n sink_error.OutOfMemory = inr (inr refl)
stopped_unfailed b n sink_error.Failed = inr (inl refl)

pub stopped_short : (b n : SinkTold) (e : SinkError) → (e ≡ sink_error.OutOfMemory → n.faults ≡ b.faults) → TellsFault (status_of e) b n
stopped_short b n sink_error.OutOfMemory same = inl (same refl)
stopped_short b n sink_error.Failed same = inr refl

-- no call failed before
pub unfailed_after : (b m n : SinkTold) (status : Status) → m.faults ≡ b.faults → IsUnfailed status m n → IsUnfailed status b n
unfailed_after b m n status same (inl h) = inl (h ∙ same)
unfailed_after b m n status same (inr h) = inr h

pub short_after : (b m n : SinkTold) (status : Status) → m.faults ≡ b.faults → TellsFault status m n → TellsFault status b n
short_after b m n status same (inl h) = inl (h ∙ same)
short_after b m n status same (inr h) = inr h
