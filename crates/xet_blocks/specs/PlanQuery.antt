-- What one call of `retrieve_file_term_block` asks.
use Rattle.std.specs.Prelude.{Bool}
use Rattle.xet_base.specs.declared.cas_types.FileRange.{FileRange}
use Rattle.xet_base.specs.declared.merklehash.MerkleHash.{MerkleHash}
use Rattle.xet_base.specs.declared.unique_id.UniqueId.{UniqueId}

-- a file, a half-open range of its bytes, whether an entry is one block of all its ranges, and the id that the URLs get
pub record PlanQuery : Type 0 where
  pub file : MerkleHash
  pub range : FileRange
  pub multirange : Bool
  pub id : UniqueId
