-- What mirroring over several lanes says.
use Rattle.std.specs.Prelude.{Bool, List, Option, MatchOption, Result}
use Rattle.xet_base.specs.declared.merklehash.MerkleHash.{MerkleHash}
use Rattle.xet_uploader.specs.Uploads.{UploaderTold}
use Rattle.xet_shelves.specs.Shelves.{ShelfTold}
use Rattle.xet_mirror_parts.specs.declared.report.MirrorError.{MirrorError}
use Rattle.xet_mirror_parts.specs.declared.report.MirrorReport.{MirrorReport}
use Rattle.xet_mirror.specs.Calls.{MirrorCall}

-- the lane has an answer, and ended as one call over its own pair does with this answer
abbrev pub LaneMirrored : Bool → List MerkleHash → ShelfTold → ShelfTold → UploaderTold → UploaderTold
    → Option (Result MirrorReport MirrorError) → Type 0
LaneMirrored verify files sb sa tb ta result = MatchOption result ⊥ (MirrorCall verify files sb sa tb ta)
