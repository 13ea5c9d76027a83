-- What an error says of the writer's count of faults.
use Rattle.std.proofs.Common.{◌≡◌, ℕ, Err, sym, subst, inl, inr}
use Rattle.xet_error.specs.declared.error.FileReconstructionError.{FileReconstructionError}
use Rattle.xet_error.specs.declared.error.FileReconstructionError.TheVariants as error
use Rattle.xet_writers.specs.Calls.{SinkCause}
use Rattle.xet_parts.specs.Stops.{IsStopped}
use Rattle.xet_events.specs.declared.event.Event.{Event}
use Rattle.xet_ties.specs.RunCalls.{Unfailed}
use Rattle.std.specs.Prelude.{List}

-- where the count is as before, any error may be answered
pub any_unfailed : (b n : ℕ) (e : FileReconstructionError) → n ≡ b → Unfailed b n (Err e)
any_unfailed b n error.OutOfMemory h = tt
any_unfailed b n error.ClientError h = h
any_unfailed b n error.FileNotFound h = h
any_unfailed b n error.UrlExpired h = h
any_unfailed b n error.IoError h = tt
any_unfailed b n (error.CorruptedReconstruction k) h = h
any_unfailed b n (error.ConfigurationError s) h = h
any_unfailed b n error.Cancelled h = h
any_unfailed b n (error.InternalWriterError w) h = h

-- the writer's own error, and want of memory, say nothing of it
pub memory_unfailed : (b n : ℕ) (e : FileReconstructionError) → e ≡ error.OutOfMemory → Unfailed b n (Err e)
memory_unfailed b n e h = subst (λ (x : FileReconstructionError). Unfailed b n (Err x)) (sym h) tt

pub sink_unfailed : (b n before after : ℕ) (e : FileReconstructionError) → SinkCause before after e
    → Unfailed b n (Err e)
sink_unfailed b n before after e (inl h) = memory_unfailed b n e h.0
sink_unfailed b n before after e (inr h) = subst (λ (x : FileReconstructionError). Unfailed b n (Err x)) (sym h.0) tt

-- after the error was recorded, or memory was wanting for that
pub stopped_unfailed : (b n : ℕ) (es fs : List Event) (e x : FileReconstructionError) → IsStopped es fs e x
    → Unfailed b n (Err e) → Unfailed b n (Err x)
stopped_unfailed b n es fs e x (inl h) u = subst (λ (y : FileReconstructionError). Unfailed b n (Err y)) (sym h.0) u
stopped_unfailed b n es fs e x (inr h) u = memory_unfailed b n x h.0
