-- One content that is sent to a store in memory.
use Rattle.std.specs.Prelude.{ℕ, ◌≡◌, ◌⊎◌, false, List, [], ◌∷◌, ◌++◌, length, Contains, IfSome, None, Some}
use Rattle.std.specs.Prelude.{IsSome, Ok, Option, slice_range}
use Rattle.xet_base.specs.declared.cas_types.FileRange.{FileRange}
use Rattle.xet_base.specs.declared.mdb_shard.Xorb.{Xorb}
use Rattle.xet_base.specs.declared.merklehash.MerkleHash.{MerkleHash}
use Rattle.xet_base.specs.Digests.{file_hash_of, infos_of}
use Rattle.xet_base.specs.Store.{Store, file_of, window, xorb_of}
use Rattle.xet_outside.specs.Told.{SourceTold}
use Rattle.xet_pointer.specs.declared.xet_file_info.XetFileInfo.{XetFileInfo}
use Rattle.xet_uploader.specs.StoresAfter.{store_after}
use Rattle.xet_uploader.specs.Uploads.{UploaderTold}
use Rattle.xet_shards.specs.Shards.{ShardsTold, no_records}
use Rattle.xet_shard_interface.specs.Interfaces.{InterfaceTold}
use Rattle.xet_upload.specs.Waitings.{IsWithin}
use Rattle.xet_upload.specs.declared.metrics.DeduplicationMetrics.{DeduplicationMetrics}
use Rattle.xet_upload.specs.declared.sha256_policy.Sha256Policy.TheVariants.{Skip}
use Rattle.xet_waiting.specs.Limits.{most_xorb_bytes, most_xorb_chunks}
use Rattle.xet_upload_session.specs.Calls.{Finalizes, new_session}
use Rattle.xet_upload_session.specs.Puts.{made_of}
use Rattle.xet_upload_session.specs.Sessions.{SessionTold, log_of}
use Rattle.xet_clean_parts.specs.Made.{AreMadeInTurn}
use Rattle.xet_clean_parts.specs.Places.{IsInChunks, fixed_telling}
use Rattle.xet_clean_parts.specs.Pointers.{pointer_to}
use Rattle.xet_upload_files.specs.Uploads.{FileTold, UploadsFiles}
use Rattle.xet_upload_laws.specs.Clashes.{HasNoClash}

-- ---- what is sent

-- so many bytes that came off the front of what a source had, and their chunks, which are cut by one size
pub record IsContent (source : SourceTold) (size chunk : ℕ) (bytes : List ℕ) (chunks : List (List ℕ)) : Type 0 where
  pub came : IfSome source.left (λ left. (rest : List ℕ) × (left ≡ bytes ++ rest))
  pub count : length bytes ≡ size
  pub cut : IsInChunks chunk bytes chunks

-- the pointer record of a content that has these chunks
abbrev pub content_pointer : ℕ → List (List ℕ) → XetFileInfo
content_pointer size chunks = pointer_to (file_hash_of (infos_of chunks)) size None

-- some xorbs alone
abbrev pub store_of : List Xorb → Store
store_of xs = record { xorbs = xs; files = [] }

-- these xorbs are made of the chunks, one after the other, each since the next chunk didn't fit, and the last of those
-- that were left
pub record AreMade (chunks : List (List ℕ)) (made : List Xorb) : Type 0 where
  pub front : List Xorb
  pub left : List (List ℕ)
  pub so : AreMadeInTurn [] chunks left front
  pub are : made ≡ front ++ made_of left

-- ---- the session

-- a store of nothing
abbrev pub no_store : Store
no_store = store_of []

-- an uploader to it
abbrev pub empty_uploader : UploaderTold
empty_uploader = record { first = Some no_store; puts = Some []; asked = Some []; answered = Some []; faults = 0 }

abbrev pub empty_shards : ShardsTold
empty_shards = record { records = Some no_records; faults = 0 }

-- stores without records
abbrev pub empty_stores : InterfaceTold
empty_stores = record {
  resumed = None;
  session = empty_shards;
  cache = empty_shards;
  staging = empty_shards;
  staged = [];
  flushed = 0;
  rules = record { dry_run = false; flush_interval = 60; flush_max_count = 1000; shard_max_target_size = 1048576 };
}

-- a session over these, which cuts nothing of what fits one xorb
abbrev pub memory_session : SessionTold
memory_session = new_session empty_uploader empty_stores false (record {
  bytes = most_xorb_bytes;
  chunks = most_xorb_chunks;
})

-- the chunks fit one xorb, or equal hashes mean equal contents, of the made xorbs and of parts of the bytes
abbrev pub IsSafe : List (List ℕ) → List Xorb → List ℕ → Type 0
IsSafe chunks made bytes = IsWithin chunks ⊎ HasNoClash (store_of made) memory_session [] (bytes ∷ [])

-- ---- what was sent

-- the store has the content under the hash of its chunks, and gives each range of it
pub record Gives (s : Store) (chunks : List (List ℕ)) (bytes : List ℕ) : Type 0 where
  pub stored : IsSome (file_of s (file_hash_of (infos_of chunks)))
  pub ranges : (range : FileRange)
      → window s (file_hash_of (infos_of chunks)) range ≡ slice_range bytes range.start range.end

-- a content was sent: the pointer record is that of its chunks, each stored xorb was made of them, and the store gives
-- the content, if its chunks fit one xorb, or equal hashes mean equal contents of the made xorbs and of its parts
pub record Sends (source : SourceTold) (size chunk : ℕ) (info : XetFileInfo) (store : Store) : Type 0 where
  pub bytes : List ℕ
  pub chunks : List (List ℕ)
  pub content : IsContent source size chunk bytes chunks
  pub pointer : info ≡ content_pointer size chunks
  pub made : List Xorb
  pub are : AreMade chunks made
  pub stored : (h : MerkleHash) → IfSome (xorb_of store h) (Contains made)
  pub gives : IsSafe chunks made bytes → Gives store chunks bytes

-- nothing was sent, since different contents have one hash, of the xorbs that were made of a content's chunks
pub record Clashes (source : SourceTold) (size chunk : ℕ) : Type 0 where
  pub bytes : List ℕ
  pub chunks : List (List ℕ)
  pub content : IsContent source size chunk bytes chunks
  pub made : List Xorb
  pub are : AreMade chunks made
  pub clash : IsSafe chunks made bytes → ⊥

-- ---- the calls

-- the file of the content
abbrev pub content_file : SourceTold → ℕ → ℕ → FileTold
content_file source size chunk = record {
  name = [];
  source = source;
  size = size;
  policy = Skip;
  tell = fixed_telling chunk;
}

-- one file was uploaded
pub record UploadsOne (b n : SessionTold) (f : FileTold) (info : XetFileInfo) : Type 0 where
  pub after : List FileTold
  pub uploads : UploadsFiles 0 b n (f ∷ []) after (Ok (info ∷ []))

-- one file was uploaded, and then the session ended
pub record UploadsAll (b n : SessionTold) (f : FileTold) (info : XetFileInfo) : Type 0 where
  pub middle : SessionTold
  pub one : UploadsOne b middle f info
  pub counts : DeduplicationMetrics
  pub ends : Finalizes middle n 0 (Ok counts)

-- this is the store after a session's log, if there is one
pub record HasAfter (t : SessionTold) (answer : Option Store) : Type 0 where
  pub first : Store
  pub first_is : t.uploader.first ≡ Some first
  pub after : answer ≡ store_after first (log_of t)
