-- What the members of a document list.
use Rattle.std.specs.Prelude.{ℕ, ◌≡◌, All, Bool, List, None, Option, Some, cond, option_and_then, option_map}
use Rattle.serde_json.specs.Data.{Members}
use Rattle.xet_base.specs.Store.{Store}
use Rattle.xet_document.specs.Document.{files_of_members}
use Rattle.xet_audit.specs.declared.raw_store.RawFile.{RawFile}
use Rattle.xet_audit.specs.Raws.{xorbs_of_members}

-- the store of listed xorbs and files, where all have the form
abbrev pub store_of_members : Members → Members → Option Store
store_of_members xs fs =
    option_and_then (λ xorbs. option_map (λ files. record { xorbs = xorbs; files = files }) (files_of_members fs))
    (xorbs_of_members xs)

-- the chunks, where all have the form
abbrev pub all_or_none : Bool → List (List ℕ) → Option (List (List ℕ))
all_or_none all cs = cond all (Some cs) None

-- no term of the file has a count of bytes
abbrev pub HasNoBytes : RawFile → Type 0
HasNoBytes f = All (λ t. t.bytes ≡ 0) f.terms

-- nor has one of these files
abbrev pub AreUncounted : List RawFile → Type 0
AreUncounted fs = All HasNoBytes fs
