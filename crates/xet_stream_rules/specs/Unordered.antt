-- An unordered stream as plain values, and its items together.
use Rattle.std.specs.Prelude.{ℕ, ◌≡◌, ◌⊎◌, ◌-◌, ◌<◌, ◌++◌, Bool, true, false, not, List, [], ◌∷◌, All, length, map}
use Rattle.std.specs.Prelude.{take}
use Rattle.std.specs.Prelude.{drop, filter, Option, Some, None, Result, Ok, Err}
use Rattle.std.specs.List.{flat_map}
use Rattle.xet_base.specs.declared.cas_types.FileRange.{FileRange}
use Rattle.xet_base.specs.Store.{Store, IsValid, window}
use Rattle.xet_outside.specs.Told.{CacheTold, ClientTold}
use Rattle.xet_error.specs.declared.error.FileReconstructionError.{FileReconstructionError}
use Rattle.xet_events.specs.declared.event.Event.{Event}
use Rattle.xet_events.specs.declared.event.Event.TheVariants.{Wrote}
use Rattle.xet_events.specs.Limits.{LimitTold}
use Rattle.xet_events.specs.Events.{Task, is_kept, unfinished}
use Rattle.xet_ties.specs.Setup.{CacheTells, IsOver, Setup}
use Rattle.xet_stream_rules.specs.declared.step.Step.{Step}
use Rattle.xet_stream_rules.specs.declared.step.Step.TheVariants.{Pending, Ready}
use Rattle.xet_stream_rules.specs.Streams.{IsOpen, StreamView, new_stream, next_term}
use Rattle.xet_stream_rules.specs.Pulls.{Answer, PullCall}
use Rattle.xet_stream_rules.specs.StreamLaws.{MayCancel}

-- ---- the stream

-- an ordered stream whose history is told to proofs alone, the offsets that were delivered, and whether None was
-- answered
pub record UnorderedView : Type 0 where
  pub stream : StreamView
  pub delivered : List ℕ
  pub ended : Bool

-- an item: the offset from the range's start, and the bytes
abbrev pub Item : Type 0
Item = ℕ × List ℕ

-- a stream of which nothing was pulled
abbrev pub new_unordered : Setup → LimitTold → UnorderedView
new_unordered g limits = record { stream = new_stream g limits; delivered = []; ended = false }

abbrev pub IsIn : {A : Type 0} → A → List A → Type 0
IsIn x [] = ⊥
IsIn x (y ∷ ys) = (x ≡ y) ⊎ IsIn x ys

-- ---- items

-- what a pull answers
abbrev pub ItemAnswer : Type 0
ItemAnswer = Result (Step (Option Item)) FileReconstructionError

-- where a term starts in the range
abbrev pub offset_of : FileRange → Task → ℕ
offset_of r t = t.term.byte_range.start - r.start

-- ---- readers

-- the admitted terms that have bytes, weren't delivered and whose block isn't kept
abbrev pub awaited : List Event → List Task
awaited es = filter (λ t. not (is_kept es t.plan t.term.block))
    (map (λ (c : ℕ × Task). c.1) (unfinished es))

-- ---- items together

abbrev pub items_in : ItemAnswer → List Item
items_in (Ok (Ready (Some item))) = item ∷ []
items_in (Ok (Ready None)) = []
items_in (Ok Pending) = []
items_in (Err e) = []

-- the items so far
abbrev pub items_of : List ItemAnswer → List Item
items_of answers = flat_map items_in answers

-- an item is the window's bytes at its place
pub record IsPlaced (s : Store) (g : Setup) (item : Item) : Type 0 where
  pub some : 0 < length item.1
  pub bytes : item.1 ≡ take (length item.1) (drop item.0 (window s g.file g.range))

-- no number stands twice
abbrev pub Differ : List ℕ → Type 0
Differ [] = Unit {0}
Differ (x ∷ xs) = (IsIn x xs → ⊥) × Differ xs

-- each number is below the next
abbrev pub Ascend : List ℕ → Type 0
Ascend [] = Unit {0}
Ascend (x ∷ []) = Unit {0}
Ascend (x ∷ y ∷ ys) = (x < y) × Ascend (y ∷ ys)

-- the same items, by ascending offsets
pub record IsSortedOf (items sorted : List Item) : Type 0 where
  pub ascends : Ascend (map (λ (x : Item). x.0) sorted)
  pub from : (x : Item) → IsIn x sorted → IsIn x items
  pub to : (x : Item) → IsIn x items → IsIn x sorted

-- whatever the pulls answered, each item is the window's bytes at its place, and no place comes twice
pub record ArePlaced (s : Store) (g : Setup) (items : List Item) : Type 0 where
  pub each : All (IsPlaced s g) items
  pub once : Differ (map (λ (x : Item). x.0) items)
