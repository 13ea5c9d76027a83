-- The input of `mirror`: two stores that agree, and a list of files.
use Rattle.std.specs.Prelude.{ℕ, ◌≡◌, List, [], ◌∷◌, Option, Some, codes, option_and_then, option_map}
use Rattle.serde_json.specs.Data.{Data, Items, no_items, item}
use Rattle.serde_json.specs.Find.{as_array, as_str, get}
use Rattle.xet_base.specs.declared.merklehash.MerkleHash.{MerkleHash}
use Rattle.xet_base.specs.HashText.{hash_of_text}
use Rattle.xet_base.specs.Store.{Store}
use Rattle.xet_document.specs.Document.{IsDocumentOf, Reads}
use Rattle.xet_shelves.specs.After.{Agree}

-- the listed hashes, where all have the form
abbrev pub hashes_of_items : Items → Option (List MerkleHash)
hashes_of_items no_items = Some []
hashes_of_items (item d ds) =
    option_and_then (λ h. option_map (λ hs. h ∷ hs) (hashes_of_items ds)) (option_and_then hash_of_text (as_str d))

-- the hashes of an array, where the value is one of such
abbrev pub hashes_of_data : Data → Option (List MerkleHash)
hashes_of_data d = option_and_then hashes_of_items (as_array d)

-- the value has two documents of stores, under `source` and `target`, which agree, and an array of hashes under
-- `files`; other keys are passed over
pub record IsMirrorOf (d : Data) (s t : Store) (files : List MerkleHash) : Type 0 where
  pub source : Data
  pub source_is : get (codes "source") d ≡ Some source
  pub source_of : IsDocumentOf source s
  pub target : Data
  pub target_is : get (codes "target") d ≡ Some target
  pub target_of : IsDocumentOf target t
  pub files_are : option_and_then hashes_of_data (get (codes "files") d) ≡ Some files
  pub agree : Agree s t

-- it has no such
abbrev pub IsNoMirror : Data → Type 0
IsNoMirror d = (s t : Store) (files : List MerkleHash) → IsMirrorOf d s t files → ⊥

-- the text reads as a value with these stores and files
pub record HasMirror (text : List ℕ) (s t : Store) (files : List MerkleHash) : Type 0 where
  pub data_of : Data
  pub reads : Reads text data_of
  pub is : IsMirrorOf data_of s t files

-- it reads as no such value
abbrev pub NoMirror : List ℕ → Type 0
NoMirror text = (s t : Store) (files : List MerkleHash) → HasMirror text s t files → ⊥
