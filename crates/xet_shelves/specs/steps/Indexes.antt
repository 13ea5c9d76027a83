-- What a log of puts has beside it.
use Rattle.std.specs.Prelude.{◌≡◌, List, map}
use Rattle.xet_base.specs.declared.merklehash.MerkleHash.{MerkleHash}
use Rattle.xet_uploader.specs.StoresAfter.{files_in}
use Rattle.xet_uploader.specs.Uploads.{xorbs_in}
use Rattle.xet_uploader.specs.declared.uploader.Put.{Put}

-- the hashes of the xorbs that were put, and those of the file records, in the order of the log
pub record IsIndexed (log : List Put) (xorbs files : List MerkleHash) : Type 0 where
  pub xorbs_are : xorbs ≡ map (λ x. x.hash) (xorbs_in log)
  pub files_are : files ≡ map (λ f. f.hash) (files_in log)
