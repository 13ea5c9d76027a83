-- How a call at the edge counts its faults.
use Rattle.std.specs.Prelude.{ℕ, ◌≡◌, ◌+◌, ◌-◌, ◌^◌, min, Result, Ok, Err, MatchResult}
use Rattle.xet_outside.specs.declared.sink.SinkError.{SinkError}
use Rattle.xet_outside.specs.declared.sink.SinkError.TheVariants as sink_error

-- an Ok leaves the count, and an error makes it one more, or leaves it at its last value
abbrev pub CountsFault : {A E : Type 0} → ℕ → ℕ → Result A E → Type 0
CountsFault before after answer =
    MatchResult answer (λ _. after ≡ before) (λ _. after ≡ min (before + 1) (2 ^ 64 - 1))

-- an Ok and want of memory leave the count, and a fault makes it one more, or leaves it at its last value
abbrev pub CountsFailed : {A : Type 0} → ℕ → ℕ → Result A SinkError → Type 0
CountsFailed before after (Ok _) = after ≡ before
CountsFailed before after (Err sink_error.OutOfMemory) = after ≡ before
CountsFailed before after (Err sink_error.Failed) = after ≡ min (before + 1) (2 ^ 64 - 1)
