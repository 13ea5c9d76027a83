-- What an upload session tells, and when it is backed.
use Rattle.std.specs.Prelude.{◌≡◌, Bool, false, List, [], ◌∷◌, map, All, Contains, IsSome, Option, None}
use Rattle.std.specs.List.{flat_map}
use Rattle.xet_base.specs.declared.merklehash.MerkleHash.{MerkleHash}
use Rattle.xet_base.specs.declared.mdb_shard.MDBFileInfo.{MDBFileInfo}
use Rattle.xet_base.specs.declared.mdb_shard.Xorb.{Xorb}
use Rattle.xet_outside.specs.declared.client.ClientError.{ClientError}
use Rattle.xet_uploader.specs.declared.uploader.Put.{Put}
use Rattle.xet_uploader.specs.Uploads.{UploaderTold}
use Rattle.xet_shard_interface.specs.Interfaces.{InterfaceTold, StoresTell, known_told, known_xorbs, records_of}
use Rattle.xet_shard_interface.specs.Puts.{puts_of}
use Rattle.xet_upload.specs.Orders.{IsBacked, names_of}
use Rattle.xet_upload.specs.Waitings.{Waiting}
use Rattle.xet_upload.specs.declared.metrics.DeduplicationMetrics.{DeduplicationMetrics}
use Rattle.xet_waiting.specs.declared.waiting.TermXorb.{TermXorb}
use Rattle.xet_waiting.specs.declared.waiting.TermXorb.TheVariants.{Own, Stored}
use Rattle.xet_waiting.specs.declared.waiting.WaitingFile.{WaitingFile}
use Rattle.xet_upload_parts.specs.Storable.{IsStorable}
use Rattle.xet_upload_parts.specs.declared.cut_thresholds.CutThresholds.{CutThresholds}

-- what the session's uploader and stores tell, and its own data
pub record SessionTold : Type 0 where
  pub uploader : UploaderTold
  pub shards : InterfaceTold
  pub waiting : Waiting
  pub finished : List MDBFileInfo
  -- the xorbs that were put, and those that a query found
  pub listed : List MerkleHash
  -- the xorbs that were put
  pub registered : List MerkleHash
  -- the xorbs that were not put, since one of their hash was put before
  pub repeated : List Xorb
  pub metrics : DeduplicationMetrics
  -- the first put that failed
  pub failed : Option ClientError
  pub finalized : Bool
  -- whether the uploader may be asked for records
  pub queries : Bool
  -- up to where the data of a file and what waits stay one
  pub thresholds : CutThresholds

-- uploader and stores tell
pub record Tells (t : SessionTold) : Type 0 where
  pub puts : IsSome t.uploader.puts
  pub shards : StoresTell t.shards

abbrev pub log_of : SessionTold → List Put
log_of t = puts_of t.uploader

-- the xorbs that the records of the resumed store and of the cache know
abbrev pub known_of : SessionTold → List MerkleHash
known_of t = map (λ r. r.hash) (known_xorbs (known_told t.shards))

-- ---- lists

-- the xorb that a term names, where it is stored
abbrev pub named_by : TermXorb → List MerkleHash
named_by Own = []
named_by (Stored h) = h ∷ []

-- the stored xorbs that terms of waiting files name
abbrev pub waiting_names : List WaitingFile → List MerkleHash
waiting_names fs = flat_map (λ f. flat_map (λ t. named_by t.xorb) f.terms) fs

-- each xorb that the record of a finished or waiting file names is on the list, or is part of the waiting data; so is
-- each that was put
pub record IsListed (t : SessionTold) : Type 0 where
  pub finished : All (Contains t.listed) (names_of t.finished)
  pub waiting : All (Contains t.listed) (waiting_names t.waiting.files)
  pub put : All (Contains t.listed) t.registered

-- what the type keeps of its own data: all is listed, unless a failed put is kept or the session is finalized; and a
-- xorb of what waits can be stored
pub record HasListed (t : SessionTold) : Type 0 where
  pub all : t.failed ≡ None → t.finalized ≡ false → IsListed t
  pub waits : IsStorable t.waiting.chunks

-- ---- backed sessions

-- each xorb that is on the list, or that a record of the session describes or names, was put or is known
abbrev pub Stands : SessionTold → Type 0
Stands t = IsBacked (log_of t) (known_of t) t.listed (records_of t.shards.session)

-- the session is backed: a failed put is kept, or it is finalized, or all stands
abbrev pub IsBackedSession : SessionTold → Type 0
IsBackedSession t = t.failed ≡ None → t.finalized ≡ false → Stands t
