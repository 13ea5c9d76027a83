-- The order of a log: no file record before the xorbs that it names.
use Rattle.std.specs.Prelude.{ℕ, ◌≡◌, ◌<◌, ◌≤◌, ◌⊎◌, List, length, map, take, All, Contains, slice_index_or}
use Rattle.std.specs.List.{flat_map}
use Rattle.xet_base.specs.declared.merklehash.MerkleHash.{MerkleHash}
use Rattle.xet_base.specs.declared.mdb_shard.MDBFileInfo.{MDBFileInfo}
use Rattle.xet_base.specs.declared.mdb_shard.ShardRecord.{ShardRecord}
use Rattle.xet_uploader.specs.declared.uploader.Put.{Put}
use Rattle.xet_uploader.specs.declared.uploader.Put.TheVariants as put
use Rattle.xet_uploader.specs.Uploads.{xorbs_in}

-- the hashes of the xorbs that were put
abbrev pub put_hashes : List Put → List MerkleHash
put_hashes ps = map (λ x. x.hash) (xorbs_in ps)

-- the xorbs that file records name
abbrev pub names_of : List MDBFileInfo → List MerkleHash
names_of fs = flat_map (λ f. map (λ e. e.xorb) f.entries) fs

-- the xorb was put, or is known
abbrev pub IsThere : List Put → List MerkleHash → MerkleHash → Type 0
IsThere ps known h = Contains (put_hashes ps) h ⊎ Contains known h

-- for each shard that stands at place `first` or later, each xorb that one of its file records names was put at an
-- earlier place, or is known
abbrev pub IsOrdered : List Put → ℕ → List MerkleHash → Type 0
IsOrdered log first known =
    (i : ℕ) (r : ShardRecord) → first ≤ i → i < length log
    → slice_index_or log i (put.Shard r) ≡ put.Shard r → All (IsThere (take i log) known) (names_of r.files)

-- each xorb on a session's list, and each that a record of its session store describes or names, was put or is known
pub record IsBacked (log : List Put) (known listed : List MerkleHash) (records : ShardRecord) : Type 0 where
  pub on_list : All (IsThere log known) listed
  pub described : All (λ r. IsThere log known r.hash) records.xorbs
  pub named : All (IsThere log known) (names_of records.files)
