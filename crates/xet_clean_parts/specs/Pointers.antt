-- What is recorded of a file and its bytes.
use Rattle.std.specs.Prelude.{ℕ, List, Option, None, Some, option_map}
use Rattle.hex.specs.Hex.{encode_lower}
use Rattle.sha2.specs.Sha256.{sha256}
use Rattle.xet_base.specs.declared.merklehash.MerkleHash.{MerkleHash}
use Rattle.xet_pointer.specs.declared.xet_file_info.XetFileInfo.{XetFileInfo}
use Rattle.xet_upload.specs.declared.sha256_policy.Sha256Policy.{Sha256Policy}
use Rattle.xet_upload.specs.declared.sha256_policy.Sha256Policy.TheVariants.{Compute, Provided, Skip}

-- the SHA-256 that is recorded of a file
abbrev pub recorded_sha256 : Sha256Policy → List ℕ → Option MerkleHash
recorded_sha256 Compute bytes = Some (record { 0 = sha256 bytes })
recorded_sha256 (Provided hash) bytes = Some hash
recorded_sha256 Skip bytes = None

-- the pointer record of a file
abbrev pub pointer_to : MerkleHash → ℕ → Option MerkleHash → XetFileInfo
pointer_to hash size sha = record {
  hash = encode_lower hash.0;
  file_size = Some size;
  sha256 = option_map (λ h. encode_lower h.0) sha;
}
