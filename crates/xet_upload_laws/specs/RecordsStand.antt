-- Records and waiting files that stand for the bytes of a file.
use Rattle.std.specs.Prelude.{ℕ, ◌^◌, ◌<◌, ◌≡◌, List, [], length, map, All}
use Rattle.std.specs.List.{concat}
use Rattle.xet_base.specs.declared.mdb_shard.MDBFileInfo.{MDBFileInfo}
use Rattle.xet_base.specs.Digests.{file_hash_of, infos_of}
use Rattle.xet_base.specs.Store.{Store}
use Rattle.xet_upload.specs.Standing.{Stand, term_of}
use Rattle.xet_upload.specs.Waitings.{Waiting}
use Rattle.xet_waiting.specs.declared.waiting.WaitingFile.{WaitingFile}

-- the terms of the record stand for the chunks of a file, whose hash it has, and which has fewer than 2^64 bytes
pub record IsRecord (s : Store) (r : MDBFileInfo) : Type 0 where
  pub chunks : List (List ℕ)
  pub hash : r.hash ≡ file_hash_of (infos_of chunks)
  pub stand : Stand s [] (map term_of r.entries) chunks
  pub short : length (concat chunks) < 2 ^ 64

-- the same of each of these records
abbrev pub AreRecords : Store → List MDBFileInfo → Type 0
AreRecords s rs = All (IsRecord s) rs

-- the same of a file that waits beside these chunks
pub record IsWaiting (s : Store) (own : List (List ℕ)) (f : WaitingFile) : Type 0 where
  pub chunks : List (List ℕ)
  pub hash : f.hash ≡ file_hash_of (infos_of chunks)
  pub stand : Stand s own f.terms chunks
  pub short : length (concat chunks) < 2 ^ 64

-- the same of each file of data that waits
abbrev pub AreWaiting : Store → Waiting → Type 0
AreWaiting s w = All (IsWaiting s w.chunks) w.files
