-- What a source is fed to, and what one upload leaves.
use Rattle.std.specs.Prelude.{ℕ, ◌≡◌, ◌⊎◌, ◌≤◌, List, [], ◌++◌, length, map, take, drop, None, Result, Ok, IfOk}
use Rattle.std.specs.Prelude.{IfErr, OnOk, OnErr}
use Rattle.std.specs.List.{concat}
use Rattle.xet_base.specs.declared.merklehash.MerkleHash.{MerkleHash}
use Rattle.xet_base.specs.Digests.{file_hash_of, infos_of}
use Rattle.xet_base.specs.Store.{Store}
use Rattle.xet_outside.specs.Told.{SourceTold}
use Rattle.xet_pointer.specs.declared.xet_file_info.XetFileInfo.{XetFileInfo}
use Rattle.xet_upload.specs.Metrics.{no_counts}
use Rattle.xet_upload.specs.declared.data_error.DataError.{DataError}
use Rattle.xet_upload.specs.declared.metrics.DeduplicationMetrics.{DeduplicationMetrics}
use Rattle.xet_upload_session.specs.Calls.{Backs, CountsSent, Keeps, Says}
use Rattle.xet_upload_session.specs.Sessions.{HasListed, SessionTold, Tells}
use Rattle.xet_clean.specs.Cleaners.{Cleaner, Counts, CountsChunks, Feeds}
use Rattle.xet_clean_parts.specs.Cleanings.{ChunkFails, Leaves}
use Rattle.xet_clean_parts.specs.Made.{IsPickedFrom, PutsMade, PutsNone, PutsSome, PutsToEnd, StayOne}
use Rattle.xet_clean_parts.specs.Places.{CutFile, CutPieces}
use Rattle.xet_clean_parts.specs.Pointers.{pointer_to, recorded_sha256}
use Rattle.xet_clean_parts.specs.Premises.{HashesAgree, IsOpen, IsSteady, NoClash}
use Rattle.xet_clean.specs.Records.{CleanedFile, HasRecord}
use Rattle.xet_upload_files.specs.Uploads.{EndsUpload, FileTold, SessionFails, SourceFails, StopsUpload, TakesOff}
use Rattle.xet_upload_files.specs.Uploads.{Upload, file_after}

-- the cleaner stands for these bytes too, which came in pieces, and chunks were cut where the cutter says so
pub record FeedsPieces (b n : SessionTold) (c : Cleaner) (bytes : List ℕ) (d : Cleaner) : Type 0 where
  pub feeds : Feeds b n c bytes d
  pub pieces : List (List ℕ)
  pub bytes_are : bytes ≡ concat pieces
  pub places : CutPieces c.tell pieces c.pending feeds.cut d.pending

-- bytes came off a source and were fed to a cleaner
pub record Poured (b n : SessionTold) (s t : SourceTold) (c d : Cleaner) (bytes : List ℕ) : Type 0 where
  pub leaves : Leaves b n
  pub taken : TakesOff s t bytes
  pub fed : FeedsPieces b n c bytes d
  pub unfailed : d.failed ≡ None

-- so many bytes of a source were fed, or only some were read
pub record Pours (b n : SessionTold) (s t : SourceTold) (c d : Cleaner) (size : ℕ)
    (answer : Result (Unit {0}) DataError) : Type 0 where
  pub leaves : Leaves b n
  pub bytes : List ℕ
  pub taken : TakesOff s t bytes
  pub most : length bytes ≤ size
  pub whole : OnOk answer (length bytes ≡ size)
  pub fed : OnOk answer (FeedsPieces b n c bytes d)
  pub puts : PutsSome b n c.parts.own.chunks (c.pending ++ bytes) d.parts.own.chunks answer
  pub unfailed : OnOk answer (d.failed ≡ None)
  pub why : IfErr answer (λ e. SourceFails s t size bytes e ⊎ ChunkFails b n e)

-- what the session records of a file of these bytes
abbrev pub uploaded : FileTold → MerkleHash → List ℕ → CleanedFile
uploaded f hash bytes = record { hash = hash; sha256 = recorded_sha256 f.policy bytes; bytes = bytes }

-- a file was uploaded, whose source is left as `s`: what other records stand for is kept, and the session has a record
-- of the bytes that were read
pub record UploadsFile (b n : SessionTold) (f : FileTold) (s : SourceTold)
    (answer : Result XetFileInfo DataError) : Type 0 where
  pub keeps : Keeps b n
  pub backs : HasListed b → Backs b n
  pub cut : List (List ℕ)
  pub puts : Tells b → PutsMade b n (b.waiting.chunks ++ cut) n.waiting.chunks
  pub turn : Tells b → OnOk answer (PutsToEnd b n [] cut)
  pub full : StayOne b cut → PutsNone b n
  pub thresholds : n.thresholds ≡ b.thresholds
  pub waits : IsPickedFrom n.waiting.chunks (b.waiting.chunks ++ cut)
  pub bytes : List ℕ
  pub rest : List ℕ
  pub bytes_are : bytes ≡ concat cut ++ rest
  pub all : OnOk answer (rest ≡ [])
  pub places : OnOk answer (CutFile f.tell bytes cut)
  pub hash : MerkleHash
  pub hash_is : OnOk answer (hash ≡ file_hash_of (infos_of cut))
  pub unfailed : OnOk answer (n.failed ≡ b.failed)
  pub said : b.failed ≡ None → Says n answer
  pub uncounted : OnErr answer (CountsSent b n)
  pub counts : OnOk answer ((counts : DeduplicationMetrics) × CountsChunks no_counts cut counts × Counts b n counts)
  pub taken : TakesOff f.source s bytes
  pub most : length bytes ≤ f.size
  pub whole : OnOk answer (length bytes ≡ f.size)
  pub holds : (k : Store) (g : CleanedFile) → IsSteady k b → IsOpen n → HashesAgree k n → HasRecord k b g
      → HasRecord k n g
  pub stands : (k : Store) → IsSteady k b → IsOpen n → NoClash k n cut
      → OnOk answer (HasRecord k n (uploaded f hash bytes))
  pub pointer : IfOk answer (λ info. info ≡ pointer_to hash f.size (recorded_sha256 f.policy bytes))
  pub why : HasListed b → IfErr answer (λ e. SourceFails f.source s f.size bytes e ⊎ SessionFails b n e)

-- a file was uploaded, and nothing was called of the session but what it needs
pub record UploadsAlone (now : ℕ) (b n : SessionTold) (f : FileTold) (s : SourceTold)
    (answer : Result XetFileInfo DataError) : Type 0 where
  pub file : UploadsFile b n f s answer
  pub ended : OnOk answer (EndsUpload now b n f file.bytes (Ok tt))
  pub stopped : IfErr answer (λ e. StopsUpload now b n f file.bytes e)

-- the first i files were uploaded, and those behind them are as they were
pub record Progress (before after : List FileTold) (done : List Upload) (i : ℕ) : Type 0 where
  pub taken : take i before ≡ map (λ u. u.file) done
  pub left : take i after ≡ map file_after done
  pub rest : drop i after ≡ drop i before
