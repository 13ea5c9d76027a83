-- The store that a JSON value lists, valid or not.
use Rattle.std.specs.Prelude.{ℕ, ◌≡◌, false, map, List, [], ◌∷◌, Option, Some, All, codes, option_and_then}
use Rattle.std.specs.Prelude.{option_map}
use Rattle.std.specs.Result.{result_ok}
use Rattle.hex.specs.Hex.{decode_of}
use Rattle.serde_json.specs.Data.{Data, Items, no_items, item, Members, no_members, member}
use Rattle.serde_json.specs.Find.{as_array, as_object, as_str, get}
use Rattle.serde_json.specs.Written.{has_float}
use Rattle.xet_base.specs.declared.mdb_shard.Xorb.{Xorb}
use Rattle.xet_base.specs.declared.stored.StoredFile.{StoredFile}
use Rattle.xet_base.specs.HashText.{hash_of_text}
use Rattle.xet_base.specs.Store.{Store}
use Rattle.xet_store.specs.Refusals.{stored_term}
use Rattle.xet_document.specs.Document.{Reads, files_of_members}
use Rattle.xet_audit.specs.declared.raw_store.RawFile.{RawFile}
use Rattle.xet_audit.specs.declared.raw_store.RawStore.{RawStore}

-- ---- a raw store as a store

-- a file, without its terms' counts of bytes
abbrev pub file_of_raw : RawFile → StoredFile
file_of_raw f = record { hash = f.hash; terms = map stored_term f.terms }

-- the store of a raw one, which may not be valid
abbrev pub store_of_raw : RawStore → Store
store_of_raw raw = record { xorbs = raw.xorbs; files = map file_of_raw raw.files }

-- no term has a count of bytes
abbrev pub IsUncounted : RawStore → Type 0
IsUncounted raw = All (λ f. All (λ t. t.bytes ≡ 0) f.terms) raw.files

-- ---- what a value lists

-- a chunk: a text of an even number of hexadecimal digits, which may be none
abbrev pub chunk_of : Data → Option (List ℕ)
chunk_of d = option_and_then (λ text. result_ok (decode_of text)) (as_str d)

-- the chunks of a xorb, where all have the form
abbrev pub chunks_of_items : Items → Option (List (List ℕ))
chunks_of_items no_items = Some []
chunks_of_items (item d ds) = option_and_then (λ c. option_map (λ cs. c ∷ cs) (chunks_of_items ds)) (chunk_of d)

-- an object's member that lists a xorb: its hash, and its chunks
abbrev pub xorb_of_member : List ℕ → Data → Option Xorb
xorb_of_member k d =
    option_and_then (λ h. option_map (λ cs. record { hash = h; chunks = cs })
    (option_and_then chunks_of_items (as_array d))) (hash_of_text k)

-- the listed xorbs, where all have the form
abbrev pub xorbs_of_members : Members → Option (List Xorb)
xorbs_of_members no_members = Some []
xorbs_of_members (member k d ms) =
    option_and_then (λ x. option_map (λ xs. x ∷ xs) (xorbs_of_members ms)) (xorb_of_member k d)

-- the xorbs and files that a value lists, in the order of its keys
abbrev pub raw_listed : Data → Option Store
raw_listed d =
    option_and_then (λ xs. option_map (λ fs. record { xorbs = xs; files = fs })
    (option_and_then files_of_members (option_and_then as_object (get (codes "files") d))))
    (option_and_then xorbs_of_members (option_and_then as_object (get (codes "xorbs") d)))

-- the value lists this store, and holds no float anywhere
pub record Lists (d : Data) (s : Store) : Type 0 where
  pub listed : raw_listed d ≡ Some s
  pub no_float : has_float d ≡ false

-- the value lists none
abbrev pub ListsNone : Data → Type 0
ListsNone d = (s : Store) → Lists d s → ⊥

-- ---- as the text of an input

-- the text reads as a value that lists this store
pub record HasRaw (text : List ℕ) (s : Store) : Type 0 where
  pub data_of : Data
  pub reads : Reads text data_of
  pub lists : Lists data_of s

-- the text lists none
abbrev pub NoRaw : List ℕ → Type 0
NoRaw text = (s : Store) → HasRaw text s → ⊥
