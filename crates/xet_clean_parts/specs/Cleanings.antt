-- What chunks of a file become in a session: places in known xorbs, or chunks that wait.
use Rattle.std.specs.Prelude.{ℕ, ◌≡◌, ◌+◌, ◌<◌, ◌⊎◌, true, List, ◌∷◌, ◌++◌, length, All, Contains}
use Rattle.std.specs.Prelude.{Option, IfSome, Result, IfOk, slice_index_or}
use Rattle.std.specs.List.{concat, flat_map}
use Rattle.xet_base.specs.declared.invalid.Invalid.{Invalid}
use Rattle.xet_base.specs.declared.merklehash.MerkleHash.{MerkleHash}
use Rattle.xet_base.specs.declared.mdb_shard.ChunkInfo.{ChunkInfo}
use Rattle.xet_base.specs.declared.mdb_shard.FileDataSequenceEntry.{FileDataSequenceEntry}
use Rattle.xet_base.specs.declared.mdb_shard.MDBXorbInfo.{MDBXorbInfo}
use Rattle.xet_base.specs.Store.{Store}
use Rattle.xet_upload.specs.FileDatas.{Parts, PartsStand}
use Rattle.xet_upload.specs.Standing.{world}
use Rattle.xet_upload.specs.declared.data_error.DataError.{DataError}
use Rattle.xet_upload.specs.declared.data_error.DataError.TheVariants as data_error
use Rattle.xet_waiting.specs.declared.waiting.WaitingTerm.{WaitingTerm}
use Rattle.xet_upload_session.specs.Calls.{Backs, CountsSent, Keeps, PutsFail, finalized_error}
use Rattle.xet_upload_session.specs.Sessions.{HasListed, SessionTold, Tells, log_of, named_by}
use Rattle.xet_upload_session.specs.Sounds.{searched}
use Rattle.xet_clean_parts.specs.Made.{CutInto}
use Rattle.xet_clean_parts.specs.Premises.{IsOpen, IsSteady, NoClash}

-- a call that leaves what waits and what is finished
pub record Leaves (b n : SessionTold) : Type 0 where
  pub keeps : Keeps b n
  pub backs : HasListed b → Backs b n
  pub waiting : n.waiting ≡ b.waiting
  pub finished : n.finished ≡ b.finished
  pub thresholds : n.thresholds ≡ b.thresholds
  pub counts : CountsSent b n

-- no put failed in the call, and the uploader's faults are as before
abbrev pub NoFault : SessionTold → SessionTold → Type 0
NoFault b n = (n.failed ≡ b.failed) × (n.uploader.faults ≡ b.uploader.faults)

-- why a call fails that searches or puts: the session is finalized, or a search or a put failed
abbrev pub CleanFails : SessionTold → SessionTold → DataError → Type 0
CleanFails b n e = ((e ≡ finalized_error) × (b.finalized ≡ true)) ⊎ PutsFail b n e

-- the tracker refuses a call, or finds no memory for it
abbrev pub TrackFails : DataError → Type 0
TrackFails e = (e ≡ data_error.OutOfMemory) ⊎ ((why : Invalid) × (e ≡ data_error.InvalidOperation why))

-- why a call fails that adds chunks and tells the tracker of them
abbrev pub ChunkFails : SessionTold → SessionTold → DataError → Type 0
ChunkFails b n e = CleanFails b n e ⊎ TrackFails e

-- the stored xorbs that terms name
abbrev pub term_names : List WaitingTerm → List MerkleHash
term_names ts = flat_map (λ t. named_by t.xorb) ts

-- each of them is on the list
abbrev pub AreNamed : List MerkleHash → List WaitingTerm → Type 0
AreNamed listed ts = All (Contains listed) (term_names ts)

-- the first xorb that these terms name and that is not on the list
pub record IsFirstUnlisted (listed : List MerkleHash) (terms : List WaitingTerm) (hash : MerkleHash) : Type 0 where
  pub front : List MerkleHash
  pub rest : List MerkleHash
  pub split : term_names terms ≡ front ++ hash ∷ rest
  pub before : All (Contains listed) front
  pub missing : Contains listed hash → ⊥

-- chunks were cut, and the parts of the file stand for them too
pub record Cleans (b n : SessionTold) (p q : Parts) (cut : List (List ℕ)) : Type 0 where
  pub into : CutInto p q cut
  pub failed : n.failed ≡ b.failed
  pub stands : (k : Store) (bytes : List ℕ) → IsSteady k b → IsOpen n → NoClash k n cut
      → PartsStand (world k (log_of b)) p bytes → PartsStand (world k (log_of n)) q (bytes ++ concat cut)
  pub named : HasListed b → IsOpen n → AreNamed b.listed p.terms → AreNamed n.listed q.terms

-- ---- searches

-- one of these records has the hash at a place
pub record IsAt (records : List MDBXorbInfo) (hash xorb : MerkleHash) (place : ℕ) : Type 0 where
  pub holder : MDBXorbInfo
  pub is_there : Contains records holder
  pub named : xorb ≡ holder.hash
  pub within : place < length holder.chunks
  pub hash_is : (d : ChunkInfo) → (slice_index_or holder.chunks place d).hash ≡ hash

-- a search for a chunk: what is found stands in a record, and its xorb is on the list afterwards
pub record FoundChunk (b n : SessionTold) (hash : MerkleHash)
    (answer : Result (Option FileDataSequenceEntry) DataError) : Type 0 where
  pub log : log_of n ≡ log_of b
  pub repeated : n.repeated ≡ b.repeated
  pub failed : n.failed ≡ b.failed
  pub found : Tells b → IfOk answer (λ o. IfSome o (λ e. IsAt (searched b) hash e.xorb e.from))
  pub one : IfOk answer (λ o. IfSome o (λ e. e.from + 1 ≡ e.to))
  pub on_list : IfOk answer (λ o. IfSome o (λ e. Contains n.listed e.xorb))
  pub lists : (h : MerkleHash) → Contains b.listed h → Contains n.listed h
