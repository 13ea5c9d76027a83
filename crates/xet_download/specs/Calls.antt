-- What one call of a download session does.
use Rattle.std.specs.Prelude.{ℕ, ◌≡◌, ◌+◌, ◌⊎◌, true, Option, Some, None, Result, Ok, Err, IfOk, IfErr}
use Rattle.xet_base.specs.declared.cas_types.FileRange.{FileRange}
use Rattle.xet_base.specs.declared.item_id.UniqueID.{UniqueID}
use Rattle.xet_base.specs.declared.merklehash.MerkleHash.{MerkleHash}
use Rattle.xet_base.specs.HashText.{hash_of_text}
use Rattle.xet_outside.specs.Told.{SinkTold}
use Rattle.xet_pointer.specs.declared.xet_file_info.XetFileInfo.{XetFileInfo}
use Rattle.xet_error.specs.declared.error.FileReconstructionError.{FileReconstructionError}
use Rattle.xet_events.specs.Limits.{LimitTold}
use Rattle.xet_terms.specs.declared.reconstruction_config.ReconstructionConfig.{ReconstructionConfig}
use Rattle.xet_ties.specs.Legal.{Legal}
use Rattle.xet_ties.specs.Setup.{RunTold, Setup, setup_of}
use Rattle.xet_reconstruct.specs.Ran.{RanUnder}
use Rattle.xet_reconstruct.specs.ToFile.{ToFileCall}
use Rattle.xet_upload.specs.declared.data_error.DataError.{DataError}
use Rattle.xet_upload.specs.declared.data_error.DataError.TheVariants as data_error
pub use Rattle.xet_download_rules.specs.Answers.{answer_of}
use Rattle.xet_download.specs.Downloads.{DownloadsTold, begin_refusal, expected_of, lent, range_or_whole}
use Rattle.xet_download.specs.Downloads.{refusal_of, run_for}

-- ---- runs

-- memory was wanting before anything was asked
abbrev pub AsksNothing : RunTold → RunTold → Result ℕ DataError → Type 0
AsksNothing before after answer = (answer ≡ Err data_error.OutOfMemory) × (after ≡ before)

-- a run to a writer, which is legal and has some allowed history, and what was answered for it
pub record RunsToWriter (limits : LimitTold) (g : Setup) (expected : Option ℕ) (before after : RunTold)
    (answer : Result ℕ DataError) : Type 0 where
  pub run : Result ℕ FileReconstructionError
  pub legal : Legal g before after run
  pub ran : RanUnder limits g before after run
  pub answer_is : answer ≡ answer_of expected run

-- a run into a file that is emptied first, from its start on, and what was answered for it
pub record RunsToFile (limits : LimitTold) (g : Setup) (expected : Option ℕ) (before after : RunTold)
    (answer : Result ℕ DataError) : Type 0 where
  pub run : Result ℕ FileReconstructionError
  pub call : ToFileCall limits g true g.range.start before after run
  pub answer_is : answer ≡ answer_of expected run

abbrev pub WriterRun : LimitTold → Setup → Option ℕ → RunTold → RunTold → Result ℕ DataError → Type 0
WriterRun limits g expected before after answer =
    AsksNothing before after answer ⊎ RunsToWriter limits g expected before after answer

abbrev pub FileRun : LimitTold → Setup → Option ℕ → RunTold → RunTold → Result ℕ DataError → Type 0
FileRun limits g expected before after answer =
    AsksNothing before after answer ⊎ RunsToFile limits g expected before after answer

-- ---- jobs

-- a download that was begun: the file, the range, the settings and the limits of its run, how many bytes are expected,
-- and its item
pub record JobTold : Type 0 where
  pub file : MerkleHash
  pub range : Option FileRange
  pub config : ReconstructionConfig
  pub limits : LimitTold
  pub expected : Option ℕ
  pub id : UniqueID

-- what its run is for
abbrev pub job_setup : JobTold → Setup
job_setup j = setup_of j.file (range_or_whole j.range) j.config

-- the next id
abbrev pub next_id : DownloadsTold → UniqueID
next_id t = record { 0 = t.ids }

-- an id was drawn
abbrev pub drawn : DownloadsTold → DownloadsTold
drawn t = record t { ids = t.ids + 1 }

-- the job of this range of the file with this pointer record
pub record IsJobFor (t : DownloadsTold) (info : XetFileInfo) (range : Option FileRange) (j : JobTold) : Type 0 where
  pub file : hash_of_text info.hash ≡ Some j.file
  pub range_is : j.range ≡ range
  pub config : j.config ≡ t.config
  pub limits : j.limits ≡ t.limits
  pub expected : j.expected ≡ expected_of range info.file_size
  pub id : j.id ≡ next_id t

-- an answer by what its value tells
abbrev pub with_job : {A B : Type 0} → (A → B) → Result A DataError → Result B DataError
with_job f (Ok a) = Ok (f a)
with_job f (Err e) = Err e

-- a download of this refusal, if any, was begun, with the next id; it is refused by that alone, or for want of memory
pub record Begins (refusal : Option DataError) (b n : DownloadsTold) (info : XetFileInfo) (range : Option FileRange)
    (answer : Result (UniqueID × JobTold) DataError) : Type 0 where
  pub refused : (e : DataError) → refusal ≡ Some e → (answer ≡ Err e) × (n ≡ b)
  pub begun : refusal ≡ None → n ≡ drawn b
  pub memory : refusal ≡ None → IfErr answer (λ e. e ≡ data_error.OutOfMemory)
  pub ok : IfOk answer (λ r. (r.0 ≡ next_id b) × IsJobFor b info range r.1)

-- in an open session
abbrev pub BeginCall : DownloadsTold → DownloadsTold → XetFileInfo → Option FileRange
    → Result (UniqueID × JobTold) DataError → Type 0
BeginCall b n info range answer = Begins (begin_refusal b info) b n info range answer

-- `download_file_background`: a job of the whole file is begun, and nothing is asked
abbrev pub BackgroundCall : DownloadsTold → DownloadsTold → XetFileInfo → Result (UniqueID × JobTold) DataError
    → Type 0
BackgroundCall b n info answer = Begins (refusal_of b (Ok None) info) b n info None answer

-- ---- downloads

-- the answer without the id
abbrev pub count_of : Result (UniqueID × ℕ) DataError → Result ℕ DataError
count_of (Ok r) = Ok r.1
count_of (Err e) = Err e

-- nothing is asked, taken or drawn
abbrev pub IsUnchanged : DownloadsTold → DownloadsTold → SinkTold → SinkTold → Type 0
IsUnchanged b n before after = (n ≡ b) × (after ≡ before)

-- a download of this session: an id was drawn for its item, and it ran over the session's connections and cache
pub record Downloads (Run : LimitTold → Setup → Option ℕ → RunTold → RunTold → Result ℕ DataError → Type 0)
    (b n : DownloadsTold) (before after : SinkTold) (info : XetFileInfo) (range : Option FileRange)
    (answer : Result (UniqueID × ℕ) DataError) : Type 0 where
  pub file : MerkleHash
  pub file_is : hash_of_text info.hash ≡ Some file
  pub same : n ≡ record (drawn b) { clients = n.clients; cache = n.cache }
  pub id : IfOk answer (λ r. r.0 ≡ next_id b)
  pub runs : Run b.limits (run_for b file range) (expected_of range info.file_size) (lent b before) (lent n after)
      (count_of answer)

-- `download_to_writer` for these bounds' range: refused in the order of the refusals, and then nothing changes; else
-- it ran
pub record DownloadToWriterCall (b n : DownloadsTold) (before after : SinkTold) (info : XetFileInfo)
    (range : Result (Option FileRange) DataError) (answer : Result (UniqueID × ℕ) DataError) : Type 0 where
  pub refused : (e : DataError) → refusal_of b range info ≡ Some e → (answer ≡ Err e) × IsUnchanged b n before after
  pub runs : refusal_of b range info ≡ None
      → IfOk range (λ r. Downloads WriterRun b n before after info r answer)

-- `download_file`
pub record DownloadFileCall (b n : DownloadsTold) (before after : SinkTold) (info : XetFileInfo)
    (answer : Result (UniqueID × ℕ) DataError) : Type 0 where
  pub refused : (e : DataError) → refusal_of b (Ok None) info ≡ Some e
      → (answer ≡ Err e) × IsUnchanged b n before after
  pub runs : refusal_of b (Ok None) info ≡ None → Downloads FileRun b n before after info None answer
