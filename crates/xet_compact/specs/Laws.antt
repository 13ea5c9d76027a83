-- Laws of compacted stores and of documents.
use Rattle.std.specs.Prelude.{◌≡◌}
use Rattle.xet_base.specs.Store.{IsValid, Store}
use Rattle.xet_audit.specs.Raws.{Lists}
use Rattle.xet_compact.specs.Compacts.{IsCompacted, Serves}
use Rattle.xet_compact.specs.Documents.{IsInOrder, IsListable, document_data}

-- what a valid store is compacted to serves the same files
abbrev pub CompactedServes : Type 0
CompactedServes = (s t : Store) → IsValid s → IsCompacted s t → Serves s t

-- two stores that one is compacted to are the same
abbrev pub CompactedAlike : Type 0
CompactedAlike = (s t u : Store) → IsCompacted s t → IsCompacted s u → t ≡ u

-- so what a compacted store is compacted to is that store
abbrev pub CompactedAgain : Type 0
CompactedAgain = (s t u : Store) → IsValid s → IsCompacted s t → IsCompacted t u → u ≡ t

-- the document of a store in order lists it
abbrev pub DocumentLists : Type 0
DocumentLists = (s : Store) → IsListable s → IsInOrder s → Lists (document_data s) s
