-- Where the piece of a pull stands in the file, and that it comes only where there is room for it.
use Rattle.std.specs.Prelude.{ℕ, ◌≡◌, ◌++◌, Bool, true, List, [], ◌∷◌, length, Some, None, Ok, Err}
use Rattle.xet_events.specs.declared.event.Event.{Event}
use Rattle.xet_events.specs.declared.event.Event.TheVariants.{Wrote}
use Rattle.xet_events.specs.Events.{Task}
use Rattle.xet_stream_rules.specs.declared.step.Step.TheVariants.{Pending, Ready}
use Rattle.xet_stream_rules.specs.Pulls.{Answer}
use Rattle.xet_stream_rules.specs.Streams.{next_term}

-- the piece is of the next term of the history before it, which starts there in the file
pub record Placed (fs : List Event) (start : ℕ) (piece : List ℕ) : Type 0 where
  pub before : List Event
  pub last : fs ≡ before ++ Wrote (length piece) ∷ []
  pub term : Task
  pub next : next_term before ≡ Some term
  pub at : start ≡ term.term.byte_range.start

-- so where there is a piece
abbrev pub IsPlaced : List Event → ℕ → Answer → Type 0
IsPlaced fs start (Ok (Ready (Some piece))) = Placed fs start piece
IsPlaced fs start (Ok (Ready None)) = Unit {0}
IsPlaced fs start (Ok Pending) = Unit {0}
IsPlaced fs start (Err e) = Unit {0}

-- a piece comes only where there is room for it
abbrev pub IsFit : Bool → Answer → Type 0
IsFit room (Ok (Ready (Some piece))) = room ≡ true
IsFit room (Ok (Ready None)) = Unit {0}
IsFit room (Ok Pending) = Unit {0}
IsFit room (Err e) = Unit {0}
