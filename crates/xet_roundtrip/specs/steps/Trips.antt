-- The made file in a store, and out of it.
use Rattle.std.specs.Prelude.{ℕ, ◌≡◌, false, length, List, Some, IsSome}
use Rattle.xet_base.specs.declared.merklehash.MerkleHash.{MerkleHash}
use Rattle.xet_base.specs.Digests.{file_hash_of, infos_of}
use Rattle.xet_base.specs.HashText.{hash_of_text}
use Rattle.xet_base.specs.Store.{Store, file_of, window}
use Rattle.xet_outside.specs.Told.{SinkTold, Took}
use Rattle.xet_ties.specs.Setup.{CacheTells, IsOver}
use Rattle.xet_clean_parts.specs.Places.{IsInChunks}
use Rattle.xet_pointer.specs.declared.xet_file_info.XetFileInfo.{XetFileInfo}
use Rattle.xet_terms.specs.Settings.{first_config}
use Rattle.xet_upload_laws.specs.Sending.{content_pointer}
use Rattle.xet_download.specs.Downloads.{DownloadsTold, whole}
use Rattle.xet_pattern.specs.Patterns.{pattern}

-- the pointer record is that of the file of so many bytes, which the store has and gives
pub record GivesBack (size : ℕ) (info : XetFileInfo) (store : Store) : Type 0 where
  pub chunks : List (List ℕ)
  pub cut : IsInChunks 1000 (pattern size) chunks
  pub pointer : info ≡ content_pointer size chunks
  pub stored : IsSome (file_of store (file_hash_of (infos_of chunks)))
  pub gives : window store (file_hash_of (infos_of chunks)) whole ≡ pattern size

-- the record is of some such file
abbrev pub IsSent : XetFileInfo → Store → Type 0
IsSent info store = (size : ℕ) × GivesBack size info store

-- a new session, whose one connection and whose cache tell this store
pub record IsOverStore (s : Store) (t : DownloadsTold) : Type 0 where
  pub over : IsOver s t.clients
  pub cache : CacheTells s t.cache
  pub one : length t.clients ≡ 1
  pub config : t.config ≡ first_config
  pub ids : t.ids ≡ 1
  pub unfinalized : t.finalized ≡ false

-- a writer took the whole file of a pointer record
abbrev pub Downloaded : Store → XetFileInfo → SinkTold → SinkTold → Type 0
Downloaded store info before after =
    (hash : MerkleHash) → hash_of_text info.hash ≡ Some hash → Took before.took after.took (window store hash whole)
