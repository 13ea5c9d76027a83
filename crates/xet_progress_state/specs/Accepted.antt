-- The tests of a call over a list of accepted calls, and what it answers.
use Rattle.std.specs.Prelude.{ℕ, ◌+◌, ◌^◌, ◌≡◌, cond, nat_eq, nat_le, nat_lt, List, [], ◌∷◌, ◌++◌, map, length}
use Rattle.std.specs.Prelude.{slice_get, Option, Some, None, unwrap_or, Result, IfOk, IfErr}
use Rattle.std.specs.List.{sum_by}
use Rattle.xet_base.specs.declared.merklehash.MerkleHash.{MerkleHash}
use Rattle.xet_base.specs.Lists.{first_some}
use Rattle.xet_base.specs.declared.invalid.Invalid.{Invalid}
use Rattle.xet_base.specs.declared.invalid.Invalid.TheVariants.{UnknownFile, UnknownXorb, OtherSize, PastTotal}
use Rattle.xet_base.specs.declared.invalid.Invalid.TheVariants.{XorbCompleted, SumTooGreat}
use Rattle.xet_progress_state.specs.declared.error.ProgressError.{ProgressError}
use Rattle.xet_progress_state.specs.declared.error.ProgressError.TheVariants.{OutOfMemory, InvalidOperation}
use Rattle.xet_progress_state.specs.declared.step.FileXorbDependency.{FileXorbDependency}
use Rattle.xet_progress_state.specs.declared.step.TrackerStep.{TrackerStep}
use Rattle.xet_progress_state.specs.declared.step.TrackerStep.TheVariants.{RegisterNewFile, IncrementFileSize}
use Rattle.xet_progress_state.specs.declared.step.TrackerStep.TheVariants.{RegisterNewXorb, RegisterDependencies}
use Rattle.xet_progress_state.specs.declared.step.TrackerStep.TheVariants.{RegisterXorbUploadCompletion}
use Rattle.xet_progress_state.specs.declared.step.TrackerStep.TheVariants.{RegisterXorbUploadProgress}
use Rattle.xet_progress_state.specs.declared.step.TrackerStep.TheVariants.{RegisterXorbUploadProgressBackground}
use Rattle.xet_progress_state.specs.Counts.{sizes, total_of, size_of, registered, of_file, is_completed, progress}
use Rattle.xet_progress_state.specs.Counts.{all_total}
use Rattle.xet_progress_state.specs.Counts.{all_sizes}

-- a sum that passes the greatest number of 64 bits
abbrev pub too_great : ℕ → ℕ → Option Invalid
too_great have add = cond (nat_lt (have + add) (2 ^ 64)) None (Some (SumTooGreat have add))

-- a count that passes its total
abbrev pub past_total : ℕ → ℕ → ℕ → Option Invalid
past_total total counted increment = cond (nat_le (counted + increment) total) None
    (Some (PastTotal total counted increment))

-- growth of a file, given its fixed size where it is there
abbrev pub growth_test : List TrackerStep → ℕ → ℕ → Option (Option ℕ) → Option Invalid
growth_test cs f k None = Some (UnknownFile f)
growth_test cs f k (Some (Some n)) = None
growth_test cs f k (Some None) = too_great (all_total cs) k

-- registration of a xorb, given its size where it was registered before
abbrev pub xorb_test : List TrackerStep → ℕ → Option ℕ → Option Invalid
xorb_test cs s None = too_great (all_sizes cs) s
xorb_test cs s (Some t) = cond (nat_eq t s) None (Some (OtherSize t s))

-- a dependency that names no file
abbrev pub unknown_file : List TrackerStep → FileXorbDependency → Option Invalid
unknown_file cs d = cond (nat_lt d.file_id (length (sizes cs))) None (Some (UnknownFile d.file_id))

-- the total of the file of an id
abbrev pub total_at : List TrackerStep → ℕ → ℕ
total_at cs f = total_of cs (f, unwrap_or (slice_get (sizes cs) f) None)

-- the test of a dependency after others of its list
abbrev pub part_test : List TrackerStep → List FileXorbDependency → FileXorbDependency → Option Invalid
part_test cs before d = past_total (total_at cs d.file_id)
    (registered cs d.file_id + sum_by (of_file d.file_id) before) d.n_bytes

-- the first of two, where it is there, else the second
abbrev pub or_else : {A : Type 0} → Option A → Option A → Option A
or_else None o = o
or_else (Some x) o = Some x

-- the tests of the dependencies of a list, each after those before it: the first that fails
abbrev pub part_tests : List TrackerStep → List FileXorbDependency → List FileXorbDependency → Option Invalid
part_tests cs before [] = None
part_tests cs before (d ∷ ds) = or_else (part_test cs before d) (part_tests cs (before ++ d ∷ []) ds)

-- completion of a xorb, given its size where it was registered
abbrev pub completion_test : MerkleHash → Option ℕ → Option Invalid
completion_test h None = Some (UnknownXorb h)
completion_test h (Some s) = None

-- progress of a xorb, given its size where it was registered, and what a completed one answers
abbrev pub progress_test : List TrackerStep → MerkleHash → ℕ → Option Invalid → Option ℕ → Option Invalid
progress_test cs h k late None = Some (UnknownXorb h)
progress_test cs h k late (Some s) = cond (is_completed cs h) late (past_total s (progress cs h) k)

-- the refusal of a call after a list of accepted calls: the first of its tests that fails
abbrev pub refusal_of : List TrackerStep → TrackerStep → Option Invalid
refusal_of cs (RegisterNewFile n) = too_great (all_total cs) (unwrap_or n 0)
refusal_of cs (IncrementFileSize f k) = growth_test cs f k (slice_get (sizes cs) f)
refusal_of cs (RegisterNewXorb h s) = xorb_test cs s (size_of cs h)
refusal_of cs (RegisterDependencies ds) = or_else (first_some (map (unknown_file cs) ds)) (part_tests cs [] ds)
refusal_of cs (RegisterXorbUploadCompletion h) = completion_test h (size_of cs h)
refusal_of cs (RegisterXorbUploadProgress h k) = progress_test cs h k (Some (XorbCompleted h)) (size_of cs h)
refusal_of cs (RegisterXorbUploadProgressBackground h k) = progress_test cs h k None (size_of cs h)
refusal_of cs _ = None

-- why a call that did not answer Ok was not accepted
abbrev pub Refused : List TrackerStep → TrackerStep → ProgressError → Type 0
Refused cs c OutOfMemory = Unit {0}
Refused cs c (InvalidOperation why) = refusal_of cs c ≡ Some why

-- one call over the accepted calls before and after it: it answers by its tests, and joins the list where they pass
pub record CallOf {A : Type 0} (before now : List TrackerStep) (c : TrackerStep) (reply : A)
    (answer : Result A ProgressError) : Type 0 where
  pub accepted : IfOk answer (λ a. (refusal_of before c ≡ None) × (a ≡ reply) × (now ≡ before ++ c ∷ []))
  pub refused : IfErr answer (λ e. Refused before c e × (now ≡ before))
