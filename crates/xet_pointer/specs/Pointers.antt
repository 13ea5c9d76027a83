-- The text of a pointer record, and which record a text is.
use Rattle.std.specs.Prelude.{ℕ, List, Option, Some, None, option_map, option_and_then, codes}
use Rattle.serde_json.specs.Data.{Data, null, boolean, number, string, array, object, unsigned, Members, no_members}
use Rattle.serde_json.specs.Data.{member}
use Rattle.serde_json.specs.Find.{get, as_number, as_str, as_u64}
use Rattle.serde_json.specs.Read.{read}
use Rattle.serde_json.specs.Written.{compact_text}
use Rattle.xet_pointer.specs.declared.xet_file_info.XetFileInfo.{XetFileInfo}

-- ---- how a record is written

-- the field of a SHA-256, left out where there is none
abbrev pub sha256_field : Option (List ℕ) → Members
sha256_field None = no_members
sha256_field (Some text) = member (codes "sha256") (string text) no_members

-- the field of a size, left out where there is none, and the fields after it
abbrev pub size_field : Option ℕ → Members → Members
size_field None more = more
size_field (Some size) more = member (codes "file_size") (number (unsigned size)) more

-- the object of a record: its hash, its size and its SHA-256, in this order
abbrev pub pointer_data : XetFileInfo → Data
pointer_data info =
    object (member (codes "hash") (string info.hash) (size_field info.file_size (sha256_field info.sha256)))

-- the text of a pointer file: that object with no space, as serde_json writes it
abbrev pub pointer_text : XetFileInfo → List ℕ
pointer_text info = compact_text (pointer_data info)

-- ---- how a record is read

-- a field that may be absent or null; else it is what the function takes it for
abbrev pub optional : {A : Type 0} → (Data → Option A) → Option Data → Option (Option A)
optional takes None = Some None
optional takes (Some null) = Some None
optional takes (Some (boolean b)) = option_map Some (takes (boolean b))
optional takes (Some (number n)) = option_map Some (takes (number n))
optional takes (Some (string s)) = option_map Some (takes (string s))
optional takes (Some (array ds)) = option_map Some (takes (array ds))
optional takes (Some (object ms)) = option_map Some (takes (object ms))

-- a whole number below 2 ^ 64
abbrev pub whole_of : Data → Option ℕ
whole_of value = option_and_then as_u64 (as_number value)

-- the text at `hash`, where the value is an object and has one there
abbrev pub hash_of : Data → Option (List ℕ)
hash_of value = option_and_then as_str (get (codes "hash") value)

-- the number at `file_size`, which may be absent or null
abbrev pub size_of : Data → Option (Option ℕ)
size_of value = optional whole_of (get (codes "file_size") value)

-- the text at `sha256`, which may be absent or null
abbrev pub sha256_of : Data → Option (Option (List ℕ))
sha256_of value = optional as_str (get (codes "sha256") value)

-- the record of a value, where its three fields have their forms; other keys are passed over
abbrev pub info_of : Data → Option XetFileInfo
info_of value =
    option_and_then (λ h. option_and_then (λ n. option_map (λ s. record { hash = h; file_size = n; sha256 = s })
    (sha256_of value)) (size_of value)) (hash_of value)

-- the record of a pointer file's text, as serde_json reads it
abbrev pub pointer_of : List ℕ → Option XetFileInfo
pointer_of text = option_and_then info_of (read text)
