-- What an unordered stream keeps between two pulls.
use Rattle.std.specs.Prelude.{ℕ, ◌≡◌, ◌<◌, ◌≤◌, Bool, true, false, List, All, length, filter, take}
use Rattle.std.specs.Prelude.{slice_get, slice_index_or, Some}
use Rattle.xet_base.specs.declared.cas_types.FileRange.{FileRange}
use Rattle.xet_events.specs.declared.event.Event.{Event}
use Rattle.xet_events.specs.Allowed.{IsAllowedHistory}
use Rattle.xet_events.specs.Events.{Task, admitted, is_kept, planned}
use Rattle.xet_ties.specs.Saids.{has_bytes, some_of}
use Rattle.xet_stream_rules.specs.Streams.{Stands, StreamView, delivered, nobody}
use Rattle.xet_stream_rules.specs.Unordered.{IsIn, offset_of}
use Rattle.xet_unordered_streams.specs.declared.early_terms.EarlyTerms.{EarlyTerms}

-- the planned term of this number is among these
abbrev pub is_early : EarlyTerms → ℕ → Bool
is_early e number = slice_index_or e.given.items number false

-- a place of a planned term with bytes: it is recorded as written, or it is early, and then it is admitted and its
-- block is kept
pub record IsGiven (r : FileRange) (es : List Event) (early : ℕ → Bool) (o : ℕ) : Type 0 where
  pub term : Task
  pub number : ℕ
  pub planned_at : slice_get (planned es) number ≡ Some term
  pub place : ℕ
  pub at : slice_get (some_of es) place ≡ Some term
  pub is : o ≡ offset_of r term
  pub late : early number ≡ false → place < delivered es
  pub kept : early number ≡ true → is_kept es term.plan term.term.block ≡ true
  pub opens : early number ≡ true → place < length (filter has_bytes (admitted es))

-- the place of the planned term of this number was given
pub record WasGiven (r : FileRange) (es : List Event) (places : List ℕ) (number : ℕ) : Type 0 where
  pub term : Task
  pub at : slice_get (planned es) number ≡ Some term
  pub given : IsIn (offset_of r term) places

-- the places that were given: each is such a one, those of the early terms are among them, and so are those of the
-- terms that are recorded as written
pub record AreGiven (r : FileRange) (es : List Event) (early : ℕ → Bool) (places : List ℕ) : Type 0 where
  pub each : (o : ℕ) → IsIn o places → IsGiven r es early o
  pub there : (n : ℕ) → early n ≡ true → WasGiven r es places n
  pub passed : All (λ t. IsIn (offset_of r t) places) (take (delivered es) (some_of es))
  pub few : delivered es ≤ length (some_of es)

-- what an unordered stream keeps
pub record IsPlacing (v : StreamView) (places : List ℕ) (early : EarlyTerms) : Type 0 where
  pub allowed : IsAllowedHistory v.events
  pub stands : Stands nobody v
  pub given : AreGiven v.setup.range v.events (is_early early) places
