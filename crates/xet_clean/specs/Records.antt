-- What the records of a session stand for: those of waiting files, and those of finished ones.
use Rattle.std.specs.Prelude.{ℕ, ◌≡◌, ◌⊎◌, List, [], map, Contains, Option}
use Rattle.std.specs.List.{concat}
use Rattle.xet_base.specs.declared.merklehash.MerkleHash.{MerkleHash}
use Rattle.xet_base.specs.declared.mdb_shard.MDBFileInfo.{MDBFileInfo}
use Rattle.xet_base.specs.declared.mdb_shard.ShardRecord.{ShardRecord}
use Rattle.xet_base.specs.Digests.{file_hash_of, infos_of}
use Rattle.xet_base.specs.Store.{Store}
use Rattle.xet_uploader.specs.declared.uploader.Put.{Put}
use Rattle.xet_uploader.specs.declared.uploader.Put.TheVariants as put
use Rattle.xet_upload.specs.Standing.{Stand, term_of, world}
use Rattle.xet_upload.specs.Waitings.{Waiting}
use Rattle.xet_waiting.specs.declared.waiting.WaitingFile.{WaitingFile}
use Rattle.xet_upload_session.specs.Sessions.{SessionTold, log_of}

-- a file that was cleaned: its hash, the SHA-256 that is recorded of it, and its bytes
pub record CleanedFile : Type 0 where
  pub hash : MerkleHash
  pub sha256 : Option MerkleHash
  pub bytes : List ℕ

-- the file has these chunks
pub record HasChunks (f : CleanedFile) (chunks : List (List ℕ)) : Type 0 where
  pub hash : f.hash ≡ file_hash_of (infos_of chunks)
  pub bytes : f.bytes ≡ concat chunks

-- the file waits, and its terms stand for its bytes
pub record WaitsFor (s : Store) (w : Waiting) (f : CleanedFile) : Type 0 where
  pub file : WaitingFile
  pub is_there : Contains w.files file
  pub hash : file.hash ≡ f.hash
  pub sha256 : file.sha256 ≡ f.sha256
  pub chunks : List (List ℕ)
  pub has : HasChunks f chunks
  pub stand : Stand s w.chunks file.terms chunks

-- a record of the file is among these, and its terms stand for the file's bytes
pub record IsRecorded (s : Store) (infos : List MDBFileInfo) (f : CleanedFile) : Type 0 where
  pub info : MDBFileInfo
  pub is_there : Contains infos info
  pub hash : info.hash ≡ f.hash
  pub sha256 : info.sha256 ≡ f.sha256
  pub chunks : List (List ℕ)
  pub has : HasChunks f chunks
  pub stand : Stand s [] (map term_of info.entries) chunks

-- over the known xorbs of k, the session has a record of the file that stands for its bytes
abbrev pub HasRecord : Store → SessionTold → CleanedFile → Type 0
HasRecord k t f = WaitsFor (world k (log_of t)) t.waiting f ⊎ IsRecorded (world k (log_of t)) t.finished f

-- a shard of the log has a record of the file that stands for its bytes
pub record IsAccepted (k : Store) (log : List Put) (f : CleanedFile) : Type 0 where
  pub shard : ShardRecord
  pub is_there : Contains log (put.Shard shard)
  pub recorded : IsRecorded (world k log) shard.files f
