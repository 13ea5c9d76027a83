-- What a reader of tokens reads, in the words of the grammar.
use Rattle.std.specs.Prelude.{ℕ, ◌≡◌, ⊤, All, Bool, List, [], ◌∷◌, codes, false, length, map, true}
use Rattle.std.specs.Prelude.{None, Option, Some, MatchOption}
use Rattle.std.specs.BTreeMap.{BTreeMap}
use Rattle.json.specs.Token.{Token}
use Rattle.json.specs.Json as json
use Rattle.json.specs.Json.{value, items, members}
use Rattle.serde_json.specs.Data.{Data, Num, object, Items, Members, no_members, member, put}
use Rattle.serde_json.specs.Find.{get_member, is_float}
use Rattle.serde_json.specs.Read.{number_of, of_json, of_items, of_members, read}
use Rattle.serde_json.specs.Written.{members_have_float}
use Rattle.xet_base.specs.declared.mdb_shard.Xorb.{Xorb}
use Rattle.xet_base.specs.declared.stored.StoredFile.{StoredFile}
use Rattle.xet_base.specs.Store.{Store, IsValid}
use Rattle.xet_document.specs.Document.{file_of_member, xorb_of_member}
pub use Rattle.xet_document.specs.Listings.{stored_file}
use Rattle.xet_document.specs.declared.joined_chunks.JoinedChunks.{JoinedChunks}
use Rattle.xet_document.specs.declared.joined_chunks.XorbPlace.{XorbPlace}
use Rattle.xet_document.specs.declared.plain_files.ListedFile.{ListedFile}
use Rattle.xet_document.specs.declared.plain_store.Found.{Found}
use Rattle.xet_document.specs.declared.plain_store.Listed.{Listed}
use Rattle.xet_document.specs.declared.plain_xorbs.ListedXorbs.{ListedXorbs}
use Rattle.xet_document.specs.declared.text_key.TextKey.{TextKey}
use Rattle.xet_document.specs.steps.AddedMembers.{with_files, with_xorbs}
use Rattle.xet_document.specs.steps.Placed.{IsPlaced, placed_xorb}

-- the tokens give this value, which nests no deeper than the number, and these are left
pub record ReadsValue (depth : ℕ) (before : List Token) (d : Data) (after : List Token) : Type 0 where
  pub found : json.Json
  pub reads : value depth before ≡ Some (found, after)
  pub is : of_json found ≡ Some d

-- an array was opened: the tokens give these items and the bracket that closes it
pub record ReadsItems (depth : ℕ) (before : List Token) (ds : Items) (after : List Token) : Type 0 where
  pub found : json.Items
  pub reads : items (value depth) (length before) before ≡ Some (found, after)
  pub are : of_items found ≡ Some ds

-- an object was opened: the tokens give these members and the brace that closes it
pub record ReadsMembers (depth : ℕ) (before : List Token) (ms : Members) (after : List Token) : Type 0 where
  pub found : json.Members
  pub reads : members (value depth) (length before) before ≡ Some (found, after)
  pub are : of_members found no_members ≡ Some ms

-- each member lists the entry beside it under the entry's key
abbrev pub Lists : {K V : Type 0} → (K → List ℕ) → (List ℕ → Data → V → Type 0) → Members → List (K × V) → Type 0
Lists text_of IsListed no_members [] = ⊤
Lists text_of IsListed no_members (e ∷ es) = ⊥
Lists text_of IsListed (member k d ms) [] = ⊥
Lists text_of IsListed (member k d ms) (e ∷ es) =
    (k ≡ text_of e.0) × IsListed k d e.1 × Lists text_of IsListed ms es

-- the member lists the xorb whose chunks stand at this place
abbrev pub ListsXorb : JoinedChunks → List ℕ → Data → XorbPlace → Type 0
ListsXorb joined k d p = IsPlaced joined.bytes.items joined.ends.items p
    × (xorb_of_member k d ≡ Some (placed_xorb joined.bytes.items joined.ends.items p))

-- the member lists this file, whose terms have no counts of bytes
abbrev pub ListsFile : List ℕ → Data → ListedFile → Type 0
ListsFile k d f = (file_of_member k d ≡ Some (stored_file f)) × All (λ t. t.bytes ≡ 0) f.terms

-- the number is whole and of 64 bits, so that it isn't kept as a float
abbrev pub IsWhole : List ℕ → Type 0
IsWhole text = (n : Num) × (number_of text ≡ Some n) × (is_float n ≡ false)

-- the members list these xorbs
abbrev pub ListsXorbs : Members → ListedXorbs → Type 0
ListsXorbs ms l = Lists (λ k. k.text.now) (ListsXorb l.joined) ms l.places.entries

-- the members list these files
abbrev pub ListsFiles : Members → BTreeMap TextKey ListedFile → Type 0
ListsFiles ms files = Lists (λ k. k.text.now) ListsFile ms files.entries

-- nothing stands under the key and nothing was found, or an object that lists what was found
abbrev pub Holds : {F : Type 0} → List ℕ → (Members → F → Type 0) → Members → Option F → Type 0
Holds key IsListed ms o = MatchOption o (get_member key ms ≡ None)
    (λ f. (own : Members) × (get_member key ms ≡ Some (object own)) × IsListed own f)

-- of these members the xorbs and the files were found, and no float stands in them
pub record IsFound (ms : Members) (found : Found) : Type 0 where
  pub xorbs : Holds (codes "xorbs") ListsXorbs ms found.xorbs
  pub files : Holds (codes "files") ListsFiles ms found.files
  pub no_float : members_have_float ms ≡ false

-- the tokens give a value, and what was found of some members is found anew where the key has that value too
abbrev pub Finds : List ℕ → List Token → List Token → Found → Found → Type 0
Finds key before after old new =
    (d : Data) × ReadsValue 126 before d after × ((ms : Members) → IsFound ms old → IsFound (put key d ms) new)

-- the text reads as a document, whose members list these xorbs and files
pub record IsRead (text : List ℕ) (listed : Listed) : Type 0 where
  pub document : Members
  pub reads : read text ≡ Some (object document)
  pub found : IsFound document (record { xorbs = Some listed.xorbs; files = Some listed.files })

-- the listed xorbs as a store has them
abbrev pub stored_xorbs : ListedXorbs → List Xorb
stored_xorbs l = map (λ e. placed_xorb l.joined.bytes.items l.joined.ends.items e.1) l.places.entries

-- the same of files
abbrev pub stored_files : BTreeMap TextKey ListedFile → List StoredFile
stored_files files = map (λ e. stored_file e.1) files.entries

-- what is listed was added, and the store is valid; or there is no valid store with it
abbrev pub Takes : Store → Listed → Bool → Store → Type 0
Takes s l true t = (t ≡ with_files (with_xorbs s (stored_xorbs l.xorbs)) (stored_files l.files)) × IsValid t
Takes s l false t = IsValid (with_files (with_xorbs s (stored_xorbs l.xorbs)) (stored_files l.files)) → ⊥
