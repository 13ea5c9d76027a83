-- A store as a JSON document.
use Rattle.std.specs.Prelude.{ℕ, ◌≡◌, ◌^◌, ◌<◌, List, [], ◌∷◌, length, map, All, Some, codes}
use Rattle.std.specs.List.Sorted.{IsStrictlySortedBy}
use Rattle.hex.specs.Hex.{encode_lower}
use Rattle.serde_json.specs.Data.{Data, array, number, object, string, unsigned, Items, no_items, item, Members}
use Rattle.serde_json.specs.Data.{no_members, put}
use Rattle.serde_json.specs.Written.{compact_text}
use Rattle.xet_base.specs.declared.mdb_shard.Xorb.{Xorb}
use Rattle.xet_base.specs.declared.stored.StoredFile.{StoredFile}
use Rattle.xet_base.specs.declared.stored.StoredTerm.{StoredTerm}
use Rattle.xet_base.specs.declared.merklehash.MerkleHash.{MerkleHash}
use Rattle.xet_base.specs.Store.{Store}
use Rattle.xet_audit.specs.Findings.{hash_cmp}

-- ---- the value

-- the text of a hash, of a chunk: two lower-case digits for each byte
abbrev pub digits : List ℕ → Data
digits bytes = string (encode_lower bytes)

abbrev pub chunk_items : List (List ℕ) → Items
chunk_items [] = no_items
chunk_items (c ∷ cs) = item (digits c) (chunk_items cs)

-- a term: a xorb's hash, and the numbers of its first chunk and of the one after its last
abbrev pub term_data : StoredTerm → Data
term_data t = array (item (digits t.xorb.0) (item (number (unsigned t.from)) (item (number (unsigned t.to)) no_items)))

abbrev pub term_items : List StoredTerm → Items
term_items [] = no_items
term_items (t ∷ ts) = item (term_data t) (term_items ts)

-- the members of the two objects, by ascending key; of two xorbs with one hash the first stays, and of two files
abbrev pub xorb_members : List Xorb → Members
xorb_members [] = no_members
xorb_members (x ∷ xs) = put (encode_lower x.hash.0) (array (chunk_items x.chunks)) (xorb_members xs)

abbrev pub file_members : List StoredFile → Members
file_members [] = no_members
file_members (f ∷ fs) = put (encode_lower f.hash.0) (array (term_items f.terms)) (file_members fs)

abbrev pub document_data : Store → Data
document_data s =
    object (put (codes "files") (object (file_members s.files))
    (put (codes "xorbs") (object (xorb_members s.xorbs)) no_members))

-- the text with no space
abbrev pub document_text : Store → List ℕ
document_text s = compact_text (document_data s)

-- ---- stores that a document can list

-- 32 bytes
pub record IsHash (h : MerkleHash) : Type 0 where
  pub count : length h.0 ≡ 32
  pub bytes : All (λ b. b < 256) h.0

-- a term whose xorb's hash is a hash, and whose numbers of chunks are below 2^32
abbrev pub IsListableTerm : StoredTerm → Type 0
IsListableTerm t = IsHash t.xorb × (t.from < 2 ^ 32) × (t.to < 2 ^ 32)

-- a xorb whose hash is a hash, and whose chunks have bytes
abbrev pub IsListableXorb : Xorb → Type 0
IsListableXorb x = IsHash x.hash × All (λ c. All (λ b. b < 256) c) x.chunks

-- a file whose hash is a hash, with such terms
abbrev pub IsListableFile : StoredFile → Type 0
IsListableFile f = IsHash f.hash × All IsListableTerm f.terms

-- all xorbs and files are such
pub record IsListable (s : Store) : Type 0 where
  pub xorbs : All IsListableXorb s.xorbs
  pub files : All IsListableFile s.files

-- xorbs and files stand by ascending hash, each hash once
pub record IsInOrder (s : Store) : Type 0 where
  pub xorbs : IsStrictlySortedBy hash_cmp (map (λ x. x.hash) s.xorbs)
  pub files : IsStrictlySortedBy hash_cmp (map (λ f. f.hash) s.files)
