-- The writer that gives terms out in the order of completion.
use Rattle.std.specs.Prelude.{ℕ, ◌≡◌, ◌+◌, ◌-◌, ◌^◌, ◌++◌, min, length, List, [], ◌∷◌, map, Bool, true, Option, Some}
use Rattle.std.specs.Prelude.{None, Result, Ok}
use Rattle.xet_base.specs.declared.cas_types.FileRange.{FileRange}
use Rattle.xet_run.specs.Budgets.{Admission}
use Rattle.xet_blocks.specs.declared.reconstruction_terms.file_term.DataSource.{DataSource}
use Rattle.xet_blocks.specs.declared.reconstruction_terms.file_term.DataSource.TheVariants.{Ready, Wanted}
use Rattle.xet_error.specs.declared.error.FileReconstructionError.{FileReconstructionError}
use Rattle.xet_queue.specs.declared.completed_term.CompletedTerm.{CompletedTerm}
use Rattle.xet_queue.specs.declared.completed_term.WantedTerm.{WantedTerm}
use Rattle.xet_queue.specs.Calls.{WriterTold, WriterSums, Refused, Accepted, closed_by, set_fault, supply_fault}
use Rattle.xet_queue.specs.Calls.{finish_fault}
use Rattle.xet_queue.specs.Waits.{first_with, without_first}

-- what contracts see of it: the terms that wait for bytes, in the order in which they came; the completed terms that
-- were not taken, in the order of completion; the bytes of all terms that were completed
pub record Unordered : Type 0 where
  pub wanted : List WantedTerm
  pub completed : List CompletedTerm
  pub total : ℕ
  pub kept : Option FileReconstructionError
  pub finished : Bool

abbrev pub range_of : WantedTerm → FileRange
range_of t = t.byte_range

-- what it tells as every writer does: no place is tested
abbrev pub told_of : Unordered → WriterTold
told_of w = record { next = None; wanted = map range_of w.wanted; kept = w.kept; finished = w.finished }

-- the lengths of some terms, summed
abbrev pub total_length : List WantedTerm → ℕ
total_length [] = 0
total_length (t ∷ ts) = (t.byte_range.end - t.byte_range.start) + total_length ts

-- what it adds up as every writer does: the completed terms and the wanted ones, and it has no sink
abbrev pub sums_of : Unordered → WriterSums
sums_of w = record { bytes = min (w.total + total_length w.wanted) (2 ^ 64 - 1); faults = 0 }

abbrev pub keeping : Unordered → Option FileReconstructionError → Unordered
keeping w e = record w { kept = e }

-- a term is completed
abbrev pub completed_with : Unordered → FileRange → List ℕ → Option Admission → Unordered
completed_with w r bytes a = record w {
  completed = w.completed ++ record { byte_range = r; bytes = bytes; admission = a } ∷ [];
  total = min (w.total + length bytes) (2 ^ 64 - 1);
}

-- a term comes
abbrev pub set_in : Unordered → FileRange → Option Admission → DataSource → Unordered
set_in w r a (Ready bytes) = completed_with w r bytes a
set_in w r a (Wanted block) = record w { wanted = w.wanted ++ record { byte_range = r; admission = a } ∷ [] }

-- where a term starts
abbrev pub start_of : WantedTerm → ℕ
start_of t = t.byte_range.start

-- this term gets its bytes
abbrev pub complete : Unordered → ℕ → List ℕ → Option WantedTerm → Unordered
complete w start bytes None = w
complete w start bytes (Some t) = completed_with (record w { wanted = without_first start_of start w.wanted })
    t.byte_range bytes t.admission

-- one call of `set_next_term_data_source`
pub record SetUnordered (before after : Unordered) (range : FileRange) (admission : Option Admission)
    (source : DataSource) (answer : Result (Unit {0}) FileReconstructionError) : Type 0 where
  pub refused : Refused told_of keeping before after (set_fault None range source) answer
  pub accepted : Accepted told_of before after (set_fault None range source)
      (set_in before range admission source) answer

-- one call of `supply`
pub record SupplyUnordered (before after : Unordered) (start : ℕ) (bytes : List ℕ)
    (answer : Result (Unit {0}) FileReconstructionError) : Type 0 where
  pub refused : Refused told_of keeping before after (supply_fault (map range_of before.wanted) start bytes) answer
  pub accepted : Accepted told_of before after (supply_fault (map range_of before.wanted) start bytes)
      (complete before start bytes (first_with start_of start before.wanted)) answer

-- one call of `finish`, which needs no memory
pub record FinishUnordered (before after : Unordered) (answer : Result ℕ FileReconstructionError) : Type 0 where
  pub refused : Refused told_of keeping before after (finish_fault (map range_of before.wanted)) answer
  pub done : closed_by (told_of before) ≡ None → finish_fault (map range_of before.wanted) ≡ None
      → (answer ≡ Ok before.total) × (after ≡ record before { finished = true })

-- the oldest completed term
abbrev pub Taken : Unordered → Unordered → Option CompletedTerm → Type 0
Taken before after None = (before.completed ≡ []) × (after ≡ before)
Taken before after (Some t) = (before.completed ≡ t ∷ after.completed)
    × (after ≡ record before { completed = after.completed })
