-- The calls of a writer: their tests in order, and what they leave.
use Rattle.std.specs.Prelude.{ℕ, ◌≡◌, ◌⊎◌, ◌+◌, ◌-◌, ◌^◌, ◌≤◌, ◌==◌, ◌++◌, min, nat_lt, cond, if◌then◌else◌, length}
use Rattle.std.specs.Prelude.{List, [], ◌∷◌, Bool, true, Option, Some, None, option_map, Result, Ok, Err, OnOk, IfOk}
use Rattle.std.specs.Prelude.{IfErr}
use Rattle.std.specs.Option.{option_or}
use Rattle.xet_base.specs.declared.cas_types.FileRange.{FileRange}
use Rattle.xet_blocks.specs.declared.reconstruction_terms.file_term.DataSource.{DataSource}
use Rattle.xet_blocks.specs.declared.reconstruction_terms.file_term.DataSource.TheVariants.{Ready, Wanted}
use Rattle.xet_error.specs.declared.error.FileReconstructionError.{FileReconstructionError}
use Rattle.xet_error.specs.declared.error.FileReconstructionError.TheVariants as error
use Rattle.xet_error.specs.declared.error.WriterFault.{WriterFault}
use Rattle.xet_error.specs.declared.error.WriterFault.TheVariants as fault
use Rattle.xet_outside.specs.Told.{Rose}

-- what every writer tells: where the next term must start, if that is tested; the ranges of the terms that wait for
-- bytes, in order; the error that it keeps; and whether it was finished
pub record WriterTold : Type 0 where
  pub next : Option ℕ
  pub wanted : List FileRange
  pub kept : Option FileReconstructionError
  pub finished : Bool

-- what every writer adds up: the bytes of all terms that it took, a sum that stops at u64::MAX, and the faults of the
-- sink that it writes into, if it has one
pub record WriterSums : Type 0 where
  pub bytes : ℕ
  pub faults : ℕ

-- ---- tests

-- the error of every call from now on: the kept one, else that of a finished writer
abbrev pub closed_by : WriterTold → Option FileReconstructionError
closed_by w = option_or w.kept (cond w.finished (Some (error.InternalWriterError fault.Finished)) None)

abbrev pub reversed_fault : FileRange → Option WriterFault
reversed_fault r = if nat_lt r.end r.start then Some (fault.Reversed r.start r.end) else None

abbrev pub order_fault : Option ℕ → FileRange → Option WriterFault
order_fault None r = None
order_fault (Some place) r = if r.start == place then None else Some (fault.NotSequential place r.start)

abbrev pub length_fault : FileRange → List ℕ → Option WriterFault
length_fault r bytes = if length bytes == r.end - r.start then None
    else Some (fault.Length (r.end - r.start) (length bytes))

abbrev pub source_fault : FileRange → DataSource → Option WriterFault
source_fault r (Ready bytes) = length_fault r bytes
source_fault r (Wanted block) = None

-- the first test that a new term fails
abbrev pub set_fault : Option ℕ → FileRange → DataSource → Option WriterFault
set_fault next r s = option_or (reversed_fault r) (option_or (order_fault next r) (source_fault r s))

-- the first test that bytes fail which are supplied for a start
abbrev pub supply_fault : List FileRange → ℕ → List ℕ → Option WriterFault
supply_fault [] start bytes = Some (fault.NotWanted start)
supply_fault (r ∷ rs) start bytes = cond (r.start == start) (length_fault r bytes) (supply_fault rs start bytes)

-- the test that the end fails
abbrev pub finish_fault : List FileRange → Option WriterFault
finish_fault [] = None
finish_fault (r ∷ rs) = Some (fault.StillWanted r.start)

-- the error that is kept after a fault
abbrev pub kept_fault : WriterFault → Option FileReconstructionError
kept_fault (fault.Reversed start end) = None
kept_fault (fault.NotSequential expected start) = None
kept_fault (fault.Length expected actual) = Some (error.InternalWriterError (fault.Length expected actual))
kept_fault fault.Finished = None
kept_fault (fault.StillWanted start) = None
kept_fault (fault.NotWanted start) = None

-- ---- calls

-- the ranges that wait after a new term
abbrev pub wanted_with : List FileRange → FileRange → DataSource → List FileRange
wanted_with rs r (Ready bytes) = rs
wanted_with rs r (Wanted block) = rs ++ r ∷ []

-- the ranges that wait once the first one with this start has its bytes
abbrev pub wanted_without : ℕ → List FileRange → List FileRange
wanted_without start [] = []
wanted_without start (r ∷ rs) = cond (r.start == start) rs (r ∷ wanted_without start rs)

-- a refused call of a writer: a closed one stays as it is, and a test that fails leaves all but the kept error
pub record Refused {W T : Type 0} (told : W → WriterTold) (keeping : W → Option FileReconstructionError → W)
    (before after : W) (failed : Option WriterFault) (answer : Result T FileReconstructionError) : Type 0 where
  pub closed : (e : FileReconstructionError) → closed_by (told before) ≡ Some e → (answer ≡ Err e) × (after ≡ before)
  pub refused : (f : WriterFault) → closed_by (told before) ≡ None → failed ≡ Some f
      → (answer ≡ Err (error.InternalWriterError f)) × (after ≡ keeping before (kept_fault f))

-- a call that isn't refused, and whose only error is want of memory, which changes nothing
pub record Accepted {W T : Type 0} (told : W → WriterTold) (before after : W) (failed : Option WriterFault)
    (changed : W) (answer : Result T FileReconstructionError) : Type 0 where
  pub done : closed_by (told before) ≡ None → failed ≡ None → OnOk answer (after ≡ changed)
  pub memory : closed_by (told before) ≡ None → failed ≡ None
      → IfErr answer (λ e. (e ≡ error.OutOfMemory) × (after ≡ before))

-- of what every writer tells
abbrev pub as_told : WriterTold → WriterTold
as_told w = w

abbrev pub keeping_told : WriterTold → Option FileReconstructionError → WriterTold
keeping_told w e = record w { kept = e }

-- what is told after a new term
abbrev pub told_with : WriterTold → FileRange → DataSource → WriterTold
told_with w r s = record w { next = option_map (λ _. r.end) w.next; wanted = wanted_with w.wanted r s }

-- one call that queues a term
pub record SetCall (before after : WriterTold) (range : FileRange) (source : DataSource)
    (answer : Result (Unit {0}) FileReconstructionError) : Type 0 where
  pub refused : Refused as_told keeping_told before after (set_fault before.next range source) answer
  pub accepted : Accepted as_told before after (set_fault before.next range source)
      (told_with before range source) answer

-- one call that gives a wanted term its bytes
pub record SupplyCall (before after : WriterTold) (start : ℕ) (bytes : List ℕ)
    (answer : Result (Unit {0}) FileReconstructionError) : Type 0 where
  pub refused : Refused as_told keeping_told before after (supply_fault before.wanted start bytes) answer
  pub accepted : Accepted as_told before after (supply_fault before.wanted start bytes)
      (record before { wanted = wanted_without start before.wanted }) answer

-- the bytes of a term were added, where it was taken
abbrev pub SetSums : WriterSums → WriterSums → FileRange → Result (Unit {0}) FileReconstructionError → Type 0
SetSums before after r (Ok u) =
    after ≡ record before { bytes = min (before.bytes + (r.end - r.start)) (2 ^ 64 - 1) }
SetSums before after r (Err e) = after ≡ before

-- the sink found no memory, and its faults are as before, or it failed, which they tell
abbrev pub SinkCause : ℕ → ℕ → FileReconstructionError → Type 0
SinkCause before after e = ((e ≡ error.OutOfMemory) × (after ≡ before)) ⊎ ((e ≡ error.IoError) × Rose before after)

-- an end that fails: an allocation of the writer was refused, or an error of the sink is kept
abbrev pub FailedEnd : WriterTold → WriterTold → ℕ → ℕ → FileReconstructionError → Type 0
FailedEnd before after faults more e = ((e ≡ error.OutOfMemory) × (after ≡ before))
    ⊎ ((after ≡ keeping_told before (Some e)) × SinkCause faults more e)

-- an end answers the bytes of all terms that were taken
abbrev pub DoneEnd : WriterTold → WriterTold → WriterSums → ℕ → Type 0
DoneEnd before after sums count = (after ≡ record before { finished = true }) × (count ≡ sums.bytes)

-- one call that ends the writer
pub record FinishCall (before after : WriterTold) (sums more : WriterSums)
    (answer : Result ℕ FileReconstructionError) : Type 0 where
  pub refused : Refused as_told keeping_told before after (finish_fault before.wanted) answer
  pub done : closed_by before ≡ None → finish_fault before.wanted ≡ None → IfOk answer (DoneEnd before after sums)
  pub failed : closed_by before ≡ None → finish_fault before.wanted ≡ None
      → IfErr answer (FailedEnd before after sums.faults more.faults)
  pub bytes : more.bytes ≡ sums.bytes
  pub faults : sums.faults ≤ more.faults
  pub unfailed : OnOk answer (more.faults ≡ sums.faults)
