-- The store that a JSON value lists.
use Rattle.std.specs.Prelude.{ℕ, ◌≡◌, ◌⊎◌, ◌^◌, false, cond, nat_lt, List, [], ◌∷◌, Option, Some, None, option_and_then}
use Rattle.std.specs.Prelude.{option_map, codes}
use Rattle.std.specs.Result.{result_ok}
use Rattle.std.specs.Str.{IsUtf8}
use Rattle.hex.specs.Hex.{decode_of}
use Rattle.serde_json.specs.Data.{Data, Items, no_items, item, Members, no_members, member}
use Rattle.serde_json.specs.Find.{as_array, as_number, as_object, as_str, as_u64, get}
use Rattle.serde_json.specs.Read.{read}
use Rattle.serde_json.specs.Written.{has_float}
use Rattle.xet_base.specs.declared.mdb_shard.Xorb.{Xorb}
use Rattle.xet_base.specs.declared.stored.StoredFile.{StoredFile}
use Rattle.xet_base.specs.declared.stored.StoredTerm.{StoredTerm}
use Rattle.xet_base.specs.HashText.{hash_of_text}
use Rattle.xet_base.specs.Store.{Store, IsValid}

-- bytes, where there are some
abbrev pub some_bytes : List ℕ → Option (List ℕ)
some_bytes [] = None
some_bytes (x ∷ xs) = Some (x ∷ xs)

-- the bytes of a nonempty even number of hexadecimal digits
abbrev pub chunk_of_text : List ℕ → Option (List ℕ)
chunk_of_text text = option_and_then some_bytes (result_ok (decode_of text))

-- a chunk: a text of a nonempty even number of hexadecimal digits
abbrev pub chunk_of : Data → Option (List ℕ)
chunk_of d = option_and_then chunk_of_text (as_str d)

-- the chunks of a xorb, where all have the form
abbrev pub chunks_of_items : Items → Option (List (List ℕ))
chunks_of_items no_items = Some []
chunks_of_items (item d ds) = option_and_then (λ c. option_map (λ cs. c ∷ cs) (chunks_of_items ds)) (chunk_of d)

-- an object's member that lists a xorb: its hash, and its chunks
abbrev pub xorb_of_member : List ℕ → Data → Option Xorb
xorb_of_member k d =
    option_and_then (λ h. option_map (λ cs. record { hash = h; chunks = cs })
    (option_and_then chunks_of_items (as_array d))) (hash_of_text k)

-- the listed xorbs, where all have the form
abbrev pub xorbs_of_members : Members → Option (List Xorb)
xorbs_of_members no_members = Some []
xorbs_of_members (member k d ms) =
    option_and_then (λ x. option_map (λ xs. x ∷ xs) (xorbs_of_members ms)) (xorb_of_member k d)

-- a whole number below 2 ^ 32
abbrev pub number_of_data : Data → Option ℕ
number_of_data d =
    option_and_then (λ n. cond (nat_lt n (2 ^ 32)) (Some n) None) (option_and_then as_u64 (as_number d))

-- a term: a xorb's hash, and the numbers of its first chunk and of the one after its last
abbrev pub term_of_items : Items → Option StoredTerm
term_of_items (item x (item a (item b no_items))) =
    option_and_then (λ h. option_and_then (λ from. option_map (λ to. record { xorb = h; from = from; to = to })
    (number_of_data b)) (number_of_data a)) (option_and_then hash_of_text (as_str x))
term_of_items _ = None

-- the terms of a file, where all have the form
abbrev pub terms_of_items : Items → Option (List StoredTerm)
terms_of_items no_items = Some []
terms_of_items (item d ds) =
    option_and_then (λ t. option_map (λ ts. t ∷ ts) (terms_of_items ds)) (option_and_then term_of_items (as_array d))

-- an object's member that lists a file: its hash, and its terms
abbrev pub file_of_member : List ℕ → Data → Option StoredFile
file_of_member k d =
    option_and_then (λ h. option_map (λ ts. record { hash = h; terms = ts })
    (option_and_then terms_of_items (as_array d))) (hash_of_text k)

-- the listed files, where all have the form
abbrev pub files_of_members : Members → Option (List StoredFile)
files_of_members no_members = Some []
files_of_members (member k d ms) =
    option_and_then (λ f. option_map (λ fs. f ∷ fs) (files_of_members ms)) (file_of_member k d)

-- the xorbs and files that a document lists, valid or not
abbrev pub listed_store : Data → Option Store
listed_store d =
    option_and_then (λ xs. option_map (λ fs. record { xorbs = xs; files = fs })
    (option_and_then files_of_members (option_and_then as_object (get (codes "files") d))))
    (option_and_then xorbs_of_members (option_and_then as_object (get (codes "xorbs") d)))

-- the value is a document of this store: it lists it, holds no float anywhere, and the store is valid
pub record IsDocumentOf (d : Data) (s : Store) : Type 0 where
  pub listed : listed_store d ≡ Some s
  pub no_float : has_float d ≡ false
  pub valid : IsValid s

-- it is a document of no store
abbrev pub IsNoDocument : Data → Type 0
IsNoDocument d = (s : Store) → IsDocumentOf d s → ⊥

-- ---- as the text of an input

-- the text reads as a JSON value
pub record Reads (text : List ℕ) (d : Data) : Type 0 where
  pub utf8 : IsUtf8 text
  pub value : read text ≡ Some d

-- the text does not read as a JSON value
abbrev pub NoData : List ℕ → Type 0
NoData text = (d : Data) → Reads text d → ⊥

-- the text reads as a value without a float that lists this store, valid or not
pub record HasListing (text : List ℕ) (s : Store) : Type 0 where
  pub data_of : Data
  pub reads : Reads text data_of
  pub listed : listed_store data_of ≡ Some s
  pub no_float : has_float data_of ≡ false

-- the text reads as a value that has no object of xorbs, or none of files
pub record LacksPart (text : List ℕ) : Type 0 where
  pub data_of : Data
  pub value : read text ≡ Some data_of
  pub lacks : (option_and_then as_object (get (codes "xorbs") data_of) ≡ None)
      ⊎ (option_and_then as_object (get (codes "files") data_of) ≡ None)

-- the text is a document of this store
pub record HasStore (text : List ℕ) (s : Store) : Type 0 where
  pub data_of : Data
  pub reads : Reads text data_of
  pub store : IsDocumentOf data_of s

-- it is a document of no store
abbrev pub NoStore : List ℕ → Type 0
NoStore text = (s : Store) → HasStore text s → ⊥
