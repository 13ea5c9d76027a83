-- How the records of a file's xorbs are gathered.
use Rattle.std.specs.Prelude.{◌≡◌, List}
use Rattle.xet_base.specs.declared.merklehash.MerkleHash.{MerkleHash}
use Rattle.xet_base.specs.declared.mdb_shard.MDBXorbInfo.{MDBXorbInfo}
use Rattle.xet_base.specs.Hashes.{hash_eq}
use Rattle.xet_base.specs.Lists.{firsts}
use Rattle.xet_mirror_parts.specs.declared.copied.LookedXorb.{LookedXorb}
use Rattle.xet_mirror_parts.specs.Looked.{looked_records}

-- these are the different hashes of a list, and the records of the xorbs that they name
pub record IsGathered (xs : List LookedXorb) (hs found : List MerkleHash) (infos : List MDBXorbInfo) : Type 0 where
  pub named : found ≡ firsts hash_eq hs
  pub records : infos ≡ looked_records xs hs
