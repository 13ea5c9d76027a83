-- Uploads as jobs: what a job is, and what its calls do.
use Rattle.std.specs.Prelude.{ℕ, ◌≡◌, ◌≤◌, ◌⊎◌, ◌++◌, Bool, false, List, [], ◌∷◌, length, Option, Some, None, IfSome}
use Rattle.std.specs.Prelude.{option_map, unwrap_or, Result, Ok, Err, OnOk, OnErr, IfOk, IfErr}
use Rattle.std.specs.List.{concat}
use Rattle.xet_base.specs.declared.item_id.UniqueID.{UniqueID}
use Rattle.xet_base.specs.declared.merklehash.MerkleHash.{MerkleHash}
use Rattle.xet_outside.specs.Told.{Rose, SourceTold}
use Rattle.xet_pointer.specs.declared.xet_file_info.XetFileInfo.{XetFileInfo}
use Rattle.xet_progress_state.specs.declared.step.TrackerStep.{TrackerStep}
use Rattle.xet_upload.specs.declared.data_error.DataError.{DataError}
use Rattle.xet_upload.specs.declared.data_error.DataError.TheVariants as data_error
use Rattle.xet_upload.specs.declared.metrics.DeduplicationMetrics.{DeduplicationMetrics}
use Rattle.xet_upload.specs.declared.sha256_policy.Sha256Policy.{Sha256Policy}
use Rattle.xet_upload_session.specs.Calls.{Backs}
use Rattle.xet_upload_session.specs.Sessions.{HasListed, SessionTold}
use Rattle.xet_upload_session.specs.Trackings.{StartsFile}
use Rattle.xet_clean_parts.specs.FileCalls.{GrowsFirst, IsFor, IsPartOf, RefusedOf, TellsOf}
use Rattle.xet_clean_parts.specs.Places.{Telling}
use Rattle.xet_clean_parts.specs.Pointers.{pointer_to, recorded_sha256}
use Rattle.xet_clean_parts.specs.SessionCalls.{Calls}
use Rattle.xet_clean.specs.Cleaners.{AddsData, Cleaner, Finishes, IsEndError, IsFed, IsNewCleaner, IsOwnError}
use Rattle.xet_clean.specs.FileEnds.{EndsFile}
use Rattle.xet_upload_files.specs.Uploads.{TakesOff}

-- a job: its source, its cleaner, and the piece that was read and that no step took. A job that has ended has no
-- cleaner
pub record JobTold : Type 0 where
  pub source : SourceTold
  pub cleaner : Option Cleaner
  pub ready : Option (List ℕ)

-- what is seen of a session: what it tells, and the calls that its tracker accepted
pub record Seen : Type 0 where
  pub session : SessionTold
  pub calls : List TrackerStep

-- ---- new jobs

-- a job of which nothing was read, with a new cleaner of a file of this size
pub record IsNewJob (j : JobTold) (source : SourceTold) (size : ℕ) (policy : Sha256Policy) (tell : Telling)
    : Type 0 where
  pub source_is : j.source ≡ source
  pub ready : j.ready ≡ None
  pub own : Cleaner
  pub cleaner : j.cleaner ≡ Some own
  pub is_new : IsNewCleaner own (Some size) policy tell

-- the number of a job's file
abbrev pub file_of : JobTold → ℕ
file_of j = unwrap_or (option_map (λ c. c.file_id) j.cleaner) 0

-- a file was begun for a job, or memory for its piece was wanting and nothing changed
abbrev pub Spawns : List TrackerStep → List TrackerStep → ℕ → ℕ → Bool → Option ℕ → Result (UniqueID × ℕ) DataError
    → Type 0
Spawns before after next_id later_id ended size answer =
    StartsFile before after next_id later_id ended size answer
    ⊎ ((ended ≡ false) × (answer ≡ Err data_error.OutOfMemory) × (after ≡ before) × (later_id ≡ next_id))

-- ---- reading

-- how many bytes are read at once
abbrev pub piece_size : ℕ
piece_size = 65536

-- a piece came off the front of the source, which did not fail; an empty one only where nothing is left
pub record Fills (j m : JobTold) (piece : List ℕ) : Type 0 where
  pub same : m ≡ record j { source = m.source; ready = Some piece }
  pub taken : TakesOff j.source m.source piece
  pub short : length piece ≤ piece_size
  pub end : piece ≡ [] → IfSome j.source.left (λ left. left ≡ [])
  pub unfailed : m.source.faults ≡ j.source.faults

-- one call of `fill`; an error ends the job, and only the source makes one
pub record FillCall (j m : JobTold) (answer : Result (Unit {0}) DataError) : Type 0 where
  pub ok : OnOk answer ((piece : List ℕ) × Fills j m piece)
  pub ended : OnErr answer (m ≡ record j { source = m.source; cleaner = None })
  pub kept : OnErr answer (m.source.left ≡ j.source.left)
  pub why : IfErr answer (λ e. (e ≡ data_error.IOError) × Rose j.source.faults m.source.faults)

-- ---- steps

-- what the end of a file answers: its pointer record and the counts of its chunks
abbrev pub Ended : Type 0
Ended = XetFileInfo × DeduplicationMetrics

-- a piece was fed to a cleaner in one call of `add_data`
pub record FeedsPiece (now : ℕ) (b n : Seen) (c : Cleaner) (piece : List ℕ) (d : Cleaner)
    (answer : Result (Unit {0}) DataError) : Type 0 where
  pub adds : AddsData b.session n.session c piece d answer
  pub tells : TellsOf (IsFor c.file_id c.size (length piece)) (IsOwnError b.session.finalized c piece) b.calls n.calls
      answer
  pub grows : OnOk answer (GrowsFirst c.file_id c.size (length piece) b.calls n.calls)
  pub calls : Calls now b.session n.session

-- a cleaner's file ended in one call of `finish`
pub record EndsJob (now : ℕ) (b n : Seen) (c : Cleaner) (answer : Result Ended DataError) : Type 0 where
  pub finishes : Finishes b.session n.session c answer
  pub refused : RefusedOf (IsPartOf c.file_id) (IsEndError b.session c) b.calls n.calls answer
  pub so : EndsFile b.session n.session c now b.calls n.calls answer

-- a step by the piece that it takes: some bytes are fed, and the cleaner stays but where this failed; at an empty piece
-- the file ends, and no cleaner is left
abbrev pub Steps : ℕ → Seen → Seen → Cleaner → List ℕ → Option Cleaner → Result (Option Ended) DataError → Type 0
Steps now b n c (x ∷ xs) kept (Ok None) = (d : Cleaner) × FeedsPiece now b n c (x ∷ xs) d (Ok tt) × (kept ≡ Some d)
Steps now b n c (x ∷ xs) kept (Ok (Some r)) = ⊥
Steps now b n c (x ∷ xs) kept (Err e) = (d : Cleaner) × FeedsPiece now b n c (x ∷ xs) d (Err e) × (kept ≡ None)
Steps now b n c [] kept (Ok None) = ⊥
Steps now b n c [] kept (Ok (Some r)) = EndsJob now b n c (Ok r) × (kept ≡ None)
Steps now b n c [] kept (Err e) = EndsJob now b n c (Err e) × (kept ≡ None)

-- one call of `step`: the source stays, and the piece is taken
pub record StepCall (now : ℕ) (b n : Seen) (j m : JobTold) (answer : Result (Option Ended) DataError) : Type 0 where
  pub own : Cleaner
  pub cleaner : j.cleaner ≡ Some own
  pub piece : List ℕ
  pub ready : j.ready ≡ Some piece
  pub source : m.source ≡ j.source
  pub taken : m.ready ≡ None
  pub steps : Steps now b n own piece m.cleaner answer

-- ---- a run over a session that threads share

-- a step under one hold of the lock: over some session, of which what its type keeps is true. Where the session was
-- backed it stays so, and what the hold put is in order
pub record HeldStep (now : ℕ) (j m : JobTold) (answer : Result (Option Ended) DataError) : Type 0 where
  pub found : Seen
  pub left : Seen
  pub listed : HasListed found.session
  pub call : StepCall now found left j m answer
  pub backs : Backs found.session left.session

-- a piece was read, and then came a step
pub record Turn (now : ℕ) (j m : JobTold) (piece : List ℕ) (answer : Result (Option Ended) DataError) : Type 0 where
  pub filled : JobTold
  pub fills : Fills j filled piece
  pub held : HeldStep now filled m answer

-- a turn was made, or the source failed before its step
abbrev pub Turns : ℕ → JobTold → JobTold → Result (Option Ended) DataError → Type 0
Turns now j m answer = ((piece : List ℕ) × Turn now j m piece answer)
    ⊎ ((e : DataError) × (answer ≡ Err e) × FillCall j m (Err e))

-- turns that fed these pieces, one after another
abbrev pub FeedsAll : ℕ → List (List ℕ) → JobTold → JobTold → Type 0
FeedsAll now [] j m = m ≡ j
FeedsAll now (p ∷ ps) j m = (k : JobTold) × Turn now j k p (Ok None) × FeedsAll now ps k m

-- the answer of the last turn
abbrev pub ends_with : Result Ended DataError → Result (Option Ended) DataError
ends_with (Ok r) = Ok (Some r)
ends_with (Err e) = Err e

-- these are all bytes that the source had, which did not fail; the pointer is of those that the cleaner was fed before
-- and of these
pub record UploadsAll (j m : JobTold) (bytes : List ℕ) (info : XetFileInfo) : Type 0 where
  pub taken : TakesOff j.source m.source bytes
  pub end : IfSome m.source.left (λ rest. rest ≡ [])
  pub unfailed : m.source.faults ≡ j.source.faults
  pub own : Cleaner
  pub cleaner : j.cleaner ≡ Some own
  pub hash : MerkleHash
  pub pointer : (before : List ℕ) → IsFed own before
      → info ≡ pointer_to hash (length (before ++ bytes)) (recorded_sha256 own.policy (before ++ bytes))

-- why a run fails: the source failed, or a step under the lock did
abbrev pub RunFails : ℕ → JobTold → JobTold → DataError → Type 0
RunFails now j m e = ((e ≡ data_error.IOError) × Rose j.source.faults m.source.faults)
    ⊎ ((k : JobTold) × HeldStep now k m (Err e))

-- a job ran to its end: turns fed these pieces, and then came the last one. On Ok the pieces are all that the source
-- had
pub record RunsJob (now : ℕ) (j m : JobTold) (answer : Result Ended DataError) : Type 0 where
  pub pieces : List (List ℕ)
  pub middle : JobTold
  pub fed : FeedsAll now pieces j middle
  pub last : Turns now middle m (ends_with answer)
  pub ended : m.cleaner ≡ None
  pub all : IfOk answer (λ r. UploadsAll j m (concat pieces) r.0)
  pub why : IfErr answer (RunFails now j m)
