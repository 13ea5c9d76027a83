-- The window of a leader's next terms that a writer is given.
use Rattle.std.specs.Prelude.{ℕ, ◌≡◌, ◌⊎◌, ◌+◌, ◌≤◌, ◌++◌, true, List, [], ◌∷◌, length, map, filter, take}
use Rattle.std.specs.Prelude.{slice_get, Option, Some, None, Result, Ok, Err, OnOk, IfOk, IfErr}
use Rattle.std.specs.List.{AllZip}
use Rattle.xet_error.specs.declared.error.Corruption.{Corruption}
use Rattle.xet_error.specs.declared.error.FileReconstructionError.{FileReconstructionError}
use Rattle.xet_error.specs.declared.error.FileReconstructionError.TheVariants as error
use Rattle.xet_writers.specs.Calls.{closed_by}
use Rattle.xet_writers.specs.Sequential.{Sequential, told_of}
use Rattle.xet_leader.specs.LedTerms.{IsPieceIn, OneFails, PlanTerm, TermRefused, kept_in, size_in, some_in}

-- ---- pieces

-- a writer whose queue has one more piece
abbrev pub with_piece : {S : Type 0} → Sequential S → List ℕ → Sequential S
with_piece w p = record w {
  queue = w.queue ++ record {
    byte_range = record { start = w.expected; end = w.expected + length p };
    admission = None;
    bytes = Some p;
  } ∷ [];
  expected = w.expected + length p;
}

-- these more
abbrev pub with_pieces : {S : Type 0} → Sequential S → List (List ℕ) → Sequential S
with_pieces w [] = w
with_pieces w (p ∷ ps) = with_pieces (with_piece w p) ps

-- ---- the window

-- of these terms the first ones, by their lengths, are given to a writer that is open, each with its bytes, but those
-- that have none. The next one, if there is one, has bytes and its block keeps nothing
pub record WindowMade {S : Type 0} (ts : List PlanTerm) (v w : Sequential S) (lengths : List ℕ) : Type 0 where
  pub within : length lengths ≤ length ts
  pub lengths_are : lengths ≡ map size_in (take (length lengths) ts)
  pub pieces : List (List ℕ)
  pub each : AllZip IsPieceIn (filter some_in (take (length lengths) ts)) pieces
  pub stops : (t : PlanTerm) → slice_get ts (length lengths) ≡ Some t → (some_in t ≡ true) × (kept_in t ≡ None)
  pub writer : closed_by (told_of v) ≡ None → w ≡ with_pieces v pieces

-- memory was refused, or one of the terms fails a test
abbrev pub WindowFails : List PlanTerm → FileReconstructionError → Type 0
WindowFails ts e = (e ≡ error.OutOfMemory)
    ⊎ ((k : Corruption) × (e ≡ error.CorruptedReconstruction k) × OneFails ts k)

-- one call that makes a window of these terms
pub record WindowTurn {S : Type 0} (ts : List PlanTerm) (v w : Sequential S)
    (answer : Result (List ℕ) FileReconstructionError) : Type 0 where
  pub ok : IfOk answer (WindowMade ts v w)
  pub err : IfErr answer (λ e. closed_by (told_of v) ≡ None → WindowFails ts e × (w.sink ≡ v.sink))

-- ---- one term

-- some bytes were given to a writer that is open
pub record PieceQueued {S : Type 0} (v w : Sequential S) (piece : List ℕ)
    (answer : Result (Unit {0}) FileReconstructionError) : Type 0 where
  pub done : closed_by (told_of v) ≡ None → OnOk answer (w ≡ with_piece v piece)
  pub memory : closed_by (told_of v) ≡ None → IfErr answer (λ e. (e ≡ error.OutOfMemory) × (w ≡ v))

-- the term is empty, or a writer that is open was given its bytes
pub record TermQueued {S : Type 0} (t : PlanTerm) (v w : Sequential S) : Type 0 where
  pub pieces : List (List ℕ)
  pub each : AllZip IsPieceIn (filter some_in (t ∷ [])) pieces
  pub writer : closed_by (told_of v) ≡ None → w ≡ with_pieces v pieces

-- one call that gives a writer a term, if its block keeps something
abbrev pub TermTurn : {S : Type 0} → PlanTerm → Sequential S → Sequential S
    → Result (Option ℕ) FileReconstructionError → Type 0
TermTurn t v w (Ok None) = (some_in t ≡ true) × (kept_in t ≡ None) × (w ≡ v)
TermTurn t v w (Ok (Some n)) = (n ≡ size_in t) × TermQueued t v w
TermTurn t v w (Err e) = closed_by (told_of v) ≡ None → TermRefused t e × (w ≡ v)
