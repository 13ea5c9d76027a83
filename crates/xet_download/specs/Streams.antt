-- Streams of a download session.
use Rattle.std.specs.Prelude.{◌≡◌, cond, if◌then◌else◌, nat_lt, List, [], ◌∷◌, Option, Some, None, Result, Ok, Err}
use Rattle.std.specs.Prelude.{IfOk, IfErr}
use Rattle.std.specs.Ordering.{match_ordering}
use Rattle.xet_base.specs.declared.cas_types.FileRange.{FileRange}
use Rattle.xet_base.specs.declared.invalid.Invalid.TheVariants as invalid
use Rattle.xet_base.specs.declared.item_id.UniqueID.{UniqueID}
use Rattle.xet_base.specs.declared.merklehash.MerkleHash.{MerkleHash}
use Rattle.xet_base.specs.HashText.{hash_of_text}
use Rattle.xet_events.specs.Limits.{LimitTold}
use Rattle.xet_pointer.specs.declared.xet_file_info.XetFileInfo.{XetFileInfo}
use Rattle.xet_progress_state.specs.Group.{id_cmp, is_id}
use Rattle.xet_ties.specs.Setup.{Setup}
use Rattle.xet_upload.specs.declared.data_error.DataError.{DataError}
use Rattle.xet_upload.specs.declared.data_error.DataError.TheVariants as data_error
use Rattle.xet_download.specs.Calls.{Begins, JobTold, drawn, next_id}
use Rattle.xet_download.specs.Downloads.{DownloadsTold, refusal_of, run_for}

-- ---- ids of streams

-- ids in order, with this one
abbrev pub with_id : List UniqueID → UniqueID → List UniqueID
with_id [] k = k ∷ []
with_id (i ∷ is) k = match_ordering (id_cmp k i) (k ∷ i ∷ is) (i ∷ is) (i ∷ with_id is k)

-- ids without this one
abbrev pub without_id : List UniqueID → UniqueID → List UniqueID
without_id [] k = []
without_id (i ∷ is) k = cond (is_id k i) is (i ∷ without_id is k)

-- the flag of a stream with this id is registered
abbrev pub with_flag : DownloadsTold → UniqueID → DownloadsTold
with_flag t k = record t { streams = with_id t.streams k }

-- it isn't
abbrev pub without_flag : DownloadsTold → UniqueID → DownloadsTold
without_flag t k = record t { streams = without_id t.streams k }

-- ---- ranges

-- a range, or that it starts after its end
abbrev pub forward_of : Option FileRange → Result (Option FileRange) DataError
forward_of None = Ok None
forward_of (Some r) = if nat_lt r.end r.start
    then Err (data_error.InvalidOperation (invalid.ReversedRange r.start r.end))
    else Ok (Some r)

-- the range of a call, where it isn't reversed
abbrev pub range_in : Result (Option FileRange) DataError → Option FileRange
range_in (Ok r) = r
range_in (Err e) = None

-- ---- calls

-- the stream that `new` makes of a range of the file with this pointer record, under the session's settings and limits
pub record IsStreamFor {A : Type 0} (new : Setup → LimitTold → A) (t : DownloadsTold) (info : XetFileInfo)
    (range : Option FileRange) (s : A) : Type 0 where
  pub file : MerkleHash
  pub file_is : hash_of_text info.hash ≡ Some file
  pub stream_is : s ≡ new (run_for t file range) t.limits

-- a stream of this range is refused in the order of the refusals, and then nothing changes. Else an id was drawn, and
-- the stream has it and its flag is registered under it, or memory was wanting
pub record StreamCall {A : Type 0} (new : Setup → LimitTold → A) (b n : DownloadsTold) (info : XetFileInfo)
    (range : Result (Option FileRange) DataError) (answer : Result (UniqueID × A) DataError) : Type 0 where
  pub refused : (e : DataError) → refusal_of b range info ≡ Some e → (answer ≡ Err e) × (n ≡ b)
  pub memory : refusal_of b range info ≡ None → IfErr answer (λ e. (e ≡ data_error.OutOfMemory) × (n ≡ drawn b))
  pub ok : IfOk answer (λ r. (r.0 ≡ next_id b) × (n ≡ with_flag (drawn b) (next_id b))
      × IsStreamFor new b info (range_in range) r.1)

-- a job of this range was begun
abbrev pub OpenCall : DownloadsTold → DownloadsTold → XetFileInfo → Result (Option FileRange) DataError
    → Result (UniqueID × JobTold) DataError → Type 0
OpenCall b n info range answer = Begins (refusal_of b range info) b n info (range_in range) answer
