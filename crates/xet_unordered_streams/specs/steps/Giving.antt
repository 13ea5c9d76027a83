-- What giving a due term does.
use Rattle.std.specs.Prelude.{ℕ, ◌≡◌, ◌⊎◌, ◌+◌, ◌<◌, ◌++◌, Bool, true, false, [], ◌∷◌, slice_get, Option, Some}
use Rattle.std.specs.Prelude.{None, Result, Ok, Err}
use Rattle.xet_error.specs.declared.error.FileReconstructionError.{FileReconstructionError}
use Rattle.xet_error.specs.declared.error.FileReconstructionError.TheVariants as error
use Rattle.xet_leader.specs.Led.{Led}
use Rattle.xet_stream_rules.specs.Pulls.{IsTold}
use Rattle.xet_stream_rules.specs.Streams.{StreamView}
use Rattle.xet_stream_rules.specs.Unordered.{ItemAnswer, UnorderedView, offset_of}
use Rattle.xet_leader.specs.LedTerms.{IsPieceIn, PlanTerm, ahead, task_of}
use Rattle.xet_streams.specs.AnyOrder.{StandsOn}
use Rattle.xet_unordered_streams.specs.declared.due_terms.Due.{Due}
use Rattle.xet_unordered_streams.specs.Items.{DueCorrupted, GivesNow, IsDue, NoneIsDue}
use Rattle.xet_unordered_streams.specs.steps.Dues.{NoneDue, SomeDue, SomeRefused}

-- whatever is told, the stream stands as before
abbrev pub KeepsOn : UnorderedView → UnorderedView → Type 0
KeepsOn b n = StandsOn b.stream n.stream

-- ---- what is found, by a stream's leader

pub record FoundDue (v : StreamView) (early : ℕ → Bool) (d : Due) : Type 0 where
  pub led : Led
  pub is_led : v.led ≡ Some led
  pub due : SomeDue led early v.setup.range.start d

pub record FoundRefused (v : StreamView) (early : ℕ → Bool) (e : FileReconstructionError) : Type 0 where
  pub led : Led
  pub is_led : v.led ≡ Some led
  pub refused : SomeRefused led early e

abbrev pub HintView : StreamView → (ℕ → Bool) → Result (Option Due) FileReconstructionError → Type 0
HintView v early (Ok (Some d)) = FoundDue v early d
HintView v early (Ok None) = Unit {0}
HintView v early (Err e) = FoundRefused v early e

abbrev pub AnyView : StreamView → (ℕ → Bool) → Result (Option Due) FileReconstructionError → Type 0
AnyView v early (Ok (Some d)) = FoundDue v early d
AnyView v early (Ok None) = ((l : Led) → v.led ≡ Some l → NoneDue l early) × (v.led ≡ None → v.events ≡ [])
AnyView v early (Err e) = FoundRefused v early e

-- ---- what is given

-- a due term of the stream, of this number and at this place
pub record PlaceFor (v : UnorderedView) (number place : ℕ) : Type 0 where
  pub led : Led
  pub is_led : v.stream.led ≡ Some led
  pub skip : ℕ
  pub numbered : number ≡ led.finished + skip
  pub opens : led.finished + skip < led.admitted
  pub term : PlanTerm
  pub there : slice_get (ahead led) skip ≡ Some term
  pub due : IsDue v (task_of term)
  pub at : place ≡ offset_of v.stream.setup.range (task_of term)

-- with its bytes
pub record DueFor (v : UnorderedView) (d : Due) : Type 0 where
  pub at : PlaceFor v d.number d.place
  pub bytes : IsPieceIn at.term d.bytes

-- or memory was wanting for one, or it fails a test
abbrev pub DueFails : UnorderedView → FileReconstructionError → Type 0
DueFails v e = (e ≡ error.OutOfMemory) ⊎ DueCorrupted v e

-- one call of `find_known`, which may pass over a due term
abbrev pub KnownDue : UnorderedView → Result (Option Due) FileReconstructionError → Type 0
KnownDue v (Ok (Some d)) = DueFor v d
KnownDue v (Ok None) = Unit {0}
KnownDue v (Err e) = DueFails v e

-- one call of `find_any`
abbrev pub AnyDue : UnorderedView → Result (Option Due) FileReconstructionError → Type 0
AnyDue v (Ok (Some d)) = DueFor v d
AnyDue v (Ok None) = NoneIsDue v
AnyDue v (Err e) = DueFails v e

-- its place is added, or nothing changes
abbrev pub AddsPlace : UnorderedView → UnorderedView → ℕ → Bool → Type 0
AddsPlace b n place true = n ≡ record b { delivered = b.delivered ++ place ∷ [] }
AddsPlace b n place false = n ≡ b

-- an error is told
pub record FailsSo (b n : UnorderedView) (cause e : FileReconstructionError) : Type 0 where
  pub told : IsTold b.stream n.stream cause e
  pub rest : n ≡ record b { stream = n.stream }

-- one call of `give_known`
abbrev pub KnownCall : UnorderedView → UnorderedView → Option ItemAnswer → Type 0
KnownCall b n None = n ≡ b
KnownCall b n (Some answer) = GivesNow b n answer
