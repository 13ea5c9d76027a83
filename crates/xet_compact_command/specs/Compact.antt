-- What the command `compact` prints.
use Rattle.std.specs.Prelude.{ℕ, ◌≡◌, ◌≢◌, ◌⊎◌, ◌++◌, List, [], ◌∷◌, length, codes}
use Rattle.std.specs.Fmt.{decimal}
use Rattle.xet_base.specs.declared.merklehash.MerkleHash.{MerkleHash}
use Rattle.xet_base.specs.Store.{Store}
use Rattle.xet_audit.specs.Findings.{faults}
use Rattle.xet_audit.specs.Raws.{HasRaw, NoRaw}
use Rattle.xet_compact.specs.Compacts.{Clashes, IsCompacted, dropped_count}
use Rattle.xet_compact.specs.Documents.{document_text}
use Rattle.xet_room.specs.declared.status.Status.{Status}
use Rattle.xet_room.specs.declared.status.Status.TheVariants.{BadHash, BadStore, Done}
use Rattle.xet_room.specs.Texts.{hash_line, line}

-- the last line of a compacted store: how many xorbs it has, and how many chunks of the first store were dropped
abbrev pub kept_line : Store → Store → List ℕ
kept_line s t = codes "ok " ++ decimal (length t.xorbs) ++ codes " " ++ decimal (dropped_count s) ++ 10 ∷ []

-- ---- by the status

-- 0: nothing of kinds 1 to 7 is wrong with the store, and this is the document of its compacted store, which reads as a
-- value that lists that store, a line end, and the last line
pub record CompactDone (s : Store) (whole : List ℕ) : Type 0 where
  pub faultless : faults s ≡ []
  pub compacted : Store
  pub is : IsCompacted s compacted
  pub reads : HasRaw (document_text compacted) compacted
  pub whole_is : whole ≡ document_text compacted ++ 10 ∷ kept_line s compacted

-- 2, `error hash`: nothing is wrong, and two lists of kept chunks that differ would stand under this hash
pub record CompactClash (s : Store) (whole : List ℕ) : Type 0 where
  pub faultless : faults s ≡ []
  pub hash : MerkleHash
  pub clash : Clashes s hash
  pub whole_is : whole ≡ hash_line hash.0

-- the text lists a store with which something of kinds 1 to 7 is wrong
pub record HasFaults (text : List ℕ) : Type 0 where
  pub store : Store
  pub has : HasRaw text store
  pub some : faults store ≢ []

-- 0 and 2: by the store that the text lists, or, where it lists none or one that isn't valid, `error store`
abbrev pub CompactPrints : List ℕ → Status → List ℕ → Type 0
CompactPrints text Done whole = (s : Store) × HasRaw text s × CompactDone s whole
CompactPrints text BadHash whole = (s : Store) × HasRaw text s × CompactClash s whole
CompactPrints text BadStore whole = (NoRaw text ⊎ HasFaults text) × (whole ≡ line BadStore)
CompactPrints text _ whole = ⊥
