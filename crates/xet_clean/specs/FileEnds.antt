-- How a cleaner's file ends: which calls of the session it makes, and what data the session takes.
use Rattle.std.specs.Prelude.{ℕ, ◌≡◌, ◌⊎◌, true, List, [], ◌∷◌, ◌++◌, All, Result, Ok, Err, OnOk, OnErr}
use Rattle.xet_base.specs.Digests.{file_hash_of}
use Rattle.xet_base.specs.Store.{Store}
use Rattle.xet_progress_state.specs.declared.step.TrackerStep.{TrackerStep}
use Rattle.xet_upload.specs.Waitings.{Waiting}
use Rattle.xet_upload.specs.declared.data_error.DataError.{DataError}
use Rattle.xet_waiting.specs.declared.waiting.WaitingFile.{WaitingFile}
use Rattle.xet_upload_session.specs.Completions.{TakesFile}
use Rattle.xet_clean_parts.specs.SessionCalls.{with_counts}
use Rattle.xet_upload_session.specs.Sessions.{SessionTold}
use Rattle.xet_upload_session.specs.Trackings.{TracksFile}
use Rattle.xet_clean_parts.specs.FileCalls.{IsPartOf}
use Rattle.xet_clean_parts.specs.Pointers.{recorded_sha256}
use Rattle.xet_clean_parts.specs.SessionCalls.{Calls}
use Rattle.xet_clean.specs.Cleaners.{Cleaner, CleanerStands, CutsChunks, IsFed, cleaned_file}
use Rattle.xet_clean.specs.Records.{WaitsFor}

-- the answer without its value
abbrev pub unit_of : {A : Type 0} → Result A DataError → Result (Unit {0}) DataError
unit_of (Ok a) = Ok tt
unit_of (Err e) = Err e

-- the session took the data of one file, and then the cleaner's counts were added, or it refused them, at this moment.
-- The data are the cleaner's own chunks with this one record, which stands for the bytes that the cleaner stood for
pub record TookFile {A : Type 0} (b n : SessionTold) (c : Cleaner) (now : ℕ) (before after : List TrackerStep)
    (answer : Result A DataError) : Type 0 where
  pub taken : Waiting
  pub one : WaitingFile
  pub chunks : taken.chunks ≡ c.parts.own.chunks
  pub files : taken.files ≡ one ∷ []
  pub number : one.file_id ≡ c.file_id
  pub hash : one.hash ≡ file_hash_of c.parts.infos
  pub sha256 : (bytes : List ℕ) → IsFed c bytes → one.sha256 ≡ recorded_sha256 c.policy bytes
  pub stands : (s : Store) (bytes : List ℕ) → CleanerStands s c bytes → WaitsFor s taken (cleaned_file c one.hash bytes)
  pub later : SessionTold
  pub takes : TakesFile b later taken now (unit_of answer)
  pub tracks : TracksFile b later taken before after (unit_of answer)
  pub counted : OnOk answer (n ≡ with_counts later c.counts)
  pub uncounted : OnErr answer (n ≡ later)

-- nothing changed, and the tracker was told nothing
abbrev pub IsSame : SessionTold → SessionTold → List TrackerStep → List TrackerStep → Type 0
IsSame b n before after = (n ≡ b) × (after ≡ before)

-- chunks of a cleaner were cut, and then the session took its data
pub record CutsAndTakes {A : Type 0} (b m n : SessionTold) (c d : Cleaner) (now : ℕ) (told after : List TrackerStep)
    (answer : Result A DataError) : Type 0 where
  pub cuts : CutsChunks true b m c d
  pub took : TookFile m n d now told after answer

-- a cleaner's file ended: chunks were cut, and then the session took its data; an error may come before
pub record EndsFile {A : Type 0} (b n : SessionTold) (c : Cleaner) (now : ℕ) (before after : List TrackerStep)
    (answer : Result A DataError) : Type 0 where
  pub middle : SessionTold
  pub ended : Cleaner
  pub calls : Calls now b middle
  pub told : List TrackerStep
  pub parts : List TrackerStep
  pub accepted : told ≡ before ++ parts
  pub are_parts : All (IsPartOf c.file_id) parts
  pub ok : OnOk answer (CutsAndTakes b middle n c ended now told after answer)
  pub err : OnErr answer (IsSame middle n told after ⊎ CutsAndTakes b middle n c ended now told after answer)
