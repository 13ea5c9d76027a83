-- A document, and the store that it lists.
use Rattle.std.proofs.Common.{◌≡◌, ℕ, List, [], ◌∷◌, ◌∙◌, codes, false, true, inl, inr, map, refl, ap, sym, subst, arith}
use Rattle.std.specs.Prelude.{◌⊎◌, All, Option, Some, None, IsUtf8, MatchOption, option_and_then, option_map}
use Rattle.std.proofs.lemmas.List.Elements.{All-map, All-same}
use Rattle.json.specs.Token.{Token}
use Rattle.json.specs.Lex.{tokens}
use Rattle.serde_json.specs.Data.{Data, null, boolean, number, string, array, object, Num, unsigned, negative, float, Items, no_items, item, Members, no_members, member}
use Rattle.serde_json.specs.Find.{as_array, as_object, as_str, as_u64, get, get_member}
use Rattle.serde_json.specs.Read.{read}
use Rattle.serde_json.specs.Written.{has_float, items_have_float, members_have_float}
use Rattle.xet_base.specs.HashText.{hash_of_text}
use Rattle.xet_base.specs.declared.mdb_shard.Xorb.{Xorb}
use Rattle.xet_base.specs.declared.stored.StoredFile.{StoredFile}
use Rattle.xet_base.specs.declared.stored.StoredTerm.{StoredTerm}
use Rattle.xet_base.specs.Store.{Store, IsValid}
use Rattle.xet_document.specs.Document.{HasListing, HasStore, LacksPart, NoStore, chunk_of, chunks_of_items, file_of_member, files_of_members, listed_store, number_of_data, term_of_items, terms_of_items, xorb_of_member, xorbs_of_members}
use Rattle.xet_document.specs.declared.joined_chunks.JoinedChunks.{JoinedChunks}
use Rattle.xet_document.specs.declared.joined_chunks.XorbPlace.{XorbPlace}
use Rattle.xet_document.specs.declared.plain_files.ListedFile.{ListedFile}
use Rattle.xet_document.specs.declared.plain_store.Found.{Found}
use Rattle.xet_document.specs.declared.plain_store.Listed.{Listed}
use Rattle.xet_document.specs.steps.AddedMembers.{no_store, with_files, with_xorbs}
use Rattle.xet_document.specs.steps.Placed.{placed_xorb}
use Rattle.xet_document.specs.steps.Reads.{IsFound, IsRead, Lists, ListsFile, ListsXorb, ReadsMembers, Takes, stored_file, stored_files, stored_xorbs}
use Rattle.xet_document.specs.Listings.{listing_store}
use Rattle.xet_document.specs.declared.listing.Listing.{Listing}
use Rattle.xet_document.proofs.Listings.{lists_all}
use Rattle.xet_document.proofs.Objects.{reads_object}

-- ---- what is listed

module _ {K : Type 0} (text_of : K → List ℕ) where
  xorbs_listed : (j : JoinedChunks) (ms : Members) (es : List (K × XorbPlace)) → Lists text_of (ListsXorb j) ms es
      → xorbs_of_members ms ≡ Some (map (λ e. placed_xorb j.bytes.items j.ends.items e.1) es)
  xorbs_listed j no_members [] h = refl
  xorbs_listed j no_members (e ∷ es) h = absurd h
  xorbs_listed j (member k d ms) [] h = absurd h
  xorbs_listed j (member k d ms) (e ∷ es) h = rw (h.1.1, xorbs_listed j ms es h.2) refl

  files_listed : (ms : Members) (es : List (K × ListedFile)) → Lists text_of ListsFile ms es → files_of_members ms ≡ Some (map (λ e. stored_file e.1) es)
  files_listed no_members [] h = refl
  files_listed no_members (e ∷ es) h = absurd h
  files_listed (member k d ms) [] h = absurd h
  files_listed (member k d ms) (e ∷ es) h = rw (h.1.0, files_listed ms es h.2) refl

-- ---- no float is listed

-- what follows a value that is there
inside : {A B : Type 0} (f : A → Option B) (o : Option A) (b : B) → option_and_then f o ≡ Some b → (a : A) × (o ≡ Some a) × (f a ≡ Some b)
inside f None b e = absurd (cc)
inside f (Some a) b e = (a, refl, e)

under : {A B : Type 0} (f : A → B) (o : Option A) (b : B) → option_map f o ≡ Some b → (a : A) × (o ≡ Some a)
under f None b e = absurd (cc)
under f (Some a) b e = (a, refl)

string_no_float : (d : Data) (s : List ℕ) → as_str d ≡ Some s → has_float d ≡ false
string_no_float null s e = absurd (cc)
string_no_float (boolean b) s e = absurd (cc)
string_no_float (number n) s e = absurd (cc)
string_no_float (string t) s e = refl
string_no_float (array ds) s e = absurd (cc)
string_no_float (object ms) s e = absurd (cc)

unsigned_no_float : (n : Num) (v : ℕ) → as_u64 n ≡ Some v → has_float (number n) ≡ false
unsigned_no_float (unsigned n) v e = refl
unsigned_no_float (negative z) v e = absurd (cc)
unsigned_no_float (float x) v e = absurd (cc)

number_no_float : (d : Data) (v : ℕ) → number_of_data d ≡ Some v → has_float d ≡ false
number_no_float null v e = absurd (cc)
number_no_float (boolean b) v e = absurd (cc)
number_no_float (number n) v e = let found = inside _ (as_u64 n) v e in unsigned_no_float n found.0 found.1
number_no_float (string s) v e = absurd (cc)
number_no_float (array ds) v e = absurd (cc)
number_no_float (object ms) v e = absurd (cc)

chunks_no_float : (ds : Items) (cs : List (List ℕ)) → chunks_of_items ds ≡ Some cs → items_have_float ds ≡ false
chunks_no_float no_items cs e = refl
chunks_no_float (item d ds) cs e =
    let first = inside _ (chunk_of d) cs e in
    let text = inside _ (as_str d) first.0 first.1 in
    let rest = under _ (chunks_of_items ds) cs first.2 in
    rw (string_no_float d text.0 text.1) (chunks_no_float ds rest.0 rest.1)

-- an array has no float where its items have none
array_no_float : (d : Data) (ds : Items) → as_array d ≡ Some ds → items_have_float ds ≡ false → has_float d ≡ false
array_no_float null ds e f = absurd (cc)
array_no_float (boolean b) ds e f = absurd (cc)
array_no_float (number n) ds e f = absurd (cc)
array_no_float (string s) ds e f = absurd (cc)
array_no_float (array cs) ds e f = let same : cs ≡ ds = cc in rw same f
array_no_float (object ms) ds e f = absurd (cc)

term_no_float : (ds : Items) (t : StoredTerm) → term_of_items ds ≡ Some t → items_have_float ds ≡ false
term_no_float no_items t e = absurd (cc)
term_no_float (item x no_items) t e = absurd (cc)
term_no_float (item x (item a no_items)) t e = absurd (cc)
term_no_float (item x (item a (item b (item c ds)))) t e = absurd (cc)
term_no_float (item x (item a (item b no_items))) t e =
    let hash = inside _ (option_and_then hash_of_text (as_str x)) t e in
    let text = inside hash_of_text (as_str x) hash.0 hash.1 in
    let from = inside _ (number_of_data a) t hash.2 in
    let to = under _ (number_of_data b) t from.2 in
    rw (string_no_float x text.0 text.1, number_no_float a from.0 from.1, number_no_float b to.0 to.1) refl

terms_no_float : (ds : Items) (ts : List StoredTerm) → terms_of_items ds ≡ Some ts → items_have_float ds ≡ false
terms_no_float no_items ts e = refl
terms_no_float (item d ds) ts e =
    let first = inside _ (option_and_then term_of_items (as_array d)) ts e in
    let own = inside term_of_items (as_array d) first.0 first.1 in
    let rest = under _ (terms_of_items ds) ts first.2 in
    rw (array_no_float d own.0 own.1 (term_no_float own.0 first.0 own.2)) (terms_no_float ds rest.0 rest.1)

xorb_no_float : (k : List ℕ) (d : Data) (x : Xorb) → xorb_of_member k d ≡ Some x → has_float d ≡ false
xorb_no_float k d x e =
    let hash = inside _ (hash_of_text k) x e in
    let chunks = under _ (option_and_then chunks_of_items (as_array d)) x hash.2 in
    let own = inside chunks_of_items (as_array d) chunks.0 chunks.1 in
    array_no_float d own.0 own.1 (chunks_no_float own.0 chunks.0 own.2)

file_no_float : (k : List ℕ) (d : Data) (f : StoredFile) → file_of_member k d ≡ Some f → has_float d ≡ false
file_no_float k d f e =
    let hash = inside _ (hash_of_text k) f e in
    let terms = under _ (option_and_then terms_of_items (as_array d)) f hash.2 in
    let own = inside terms_of_items (as_array d) terms.0 terms.1 in
    array_no_float d own.0 own.1 (terms_no_float own.0 terms.0 own.2)

xorbs_no_float : (ms : Members) (xs : List Xorb) → xorbs_of_members ms ≡ Some xs → members_have_float ms ≡ false
xorbs_no_float no_members xs e = refl
xorbs_no_float (member k d ms) xs e =
    let first = inside _ (xorb_of_member k d) xs e in
    let rest = under _ (xorbs_of_members ms) xs first.2 in
    rw (xorb_no_float k d first.0 first.1) (xorbs_no_float ms rest.0 rest.1)

files_no_float : (ms : Members) (fs : List StoredFile) → files_of_members ms ≡ Some fs → members_have_float ms ≡ false
files_no_float no_members fs e = refl
files_no_float (member k d ms) fs e =
    let first = inside _ (file_of_member k d) fs e in
    let rest = under _ (files_of_members ms) fs first.2 in
    rw (file_no_float k d first.0 first.1) (files_no_float ms rest.0 rest.1)

-- what is listed has no float
module _ {K : Type 0} (text_of : K → List ℕ) where
  pub xorbs_free : (j : JoinedChunks) (ms : Members) (es : List (K × XorbPlace)) → Lists text_of (ListsXorb j) ms es → members_have_float ms ≡ false
  xorbs_free j ms es h = xorbs_no_float ms _ (xorbs_listed text_of j ms es h)

  pub files_free : (ms : Members) (es : List (K × ListedFile)) → Lists text_of ListsFile ms es → members_have_float ms ≡ false
  files_free ms es h = files_no_float ms _ (files_listed text_of ms es h)

-- ---- the whole

same_data : (x y : Data) → ◌≡◌ {A = Option Data} (Some x) (Some y) → x ≡ y
same_data x y e = cc

same_store : (x y : Store) → ◌≡◌ {A = Option Store} (Some x) (Some y) → x ≡ y
same_store x y e = cc

-- the tokens of a document
pub document_read : (text : List ℕ) (t : List Token) (ms : Members) → tokens text ≡ Token.begin_object ∷ t → ReadsMembers 126 t ms [] → read text ≡ Some (object ms)
document_read text t ms opens e =
    let whole = reads_object 127 t [] ms (omega arith) e in
    rw (opens, whole.reads) whole.is

abbrev no_store_of : List Xorb → Option Store
no_store_of xs = None

-- where a key is missing the text lacks a part
lacks : (text : List ℕ) (ms : Members) (found : Found) → read text ≡ Some (object ms) → IsFound ms found → (found.xorbs ≡ None) ⊎ (found.files ≡ None) → LacksPart text
lacks text ms found reads is (inl none) =
    let absent : get_member (codes "xorbs") ms ≡ None = rw none at is.xorbs in
    record { data_of = object ms; value = reads; lacks = inl (ap (option_and_then as_object) absent) }
lacks text ms found reads is (inr none) =
    let absent : get_member (codes "files") ms ≡ None = rw none at is.files in
    record { data_of = object ms; value = reads; lacks = inr (ap (option_and_then as_object) absent) }

-- and a text that lacks one is a document of no store
pub no_part : (text : List ℕ) → LacksPart text → NoStore text
no_part text l s has = go l.lacks
  where
    same : has.data_of ≡ l.data_of
    same = same_data has.data_of l.data_of (sym has.reads.value ∙ l.value)

    listed : listed_store l.data_of ≡ Some s
    listed = rw same at has.store.listed

    nothing : None ≡ Some s → ⊥
    nothing e = cc

    nor : (o : Option (List Xorb)) → option_and_then no_store_of o ≡ Some s → ⊥
    nor None e = cc
    nor (Some xs) e = cc

    go : (option_and_then as_object (get (codes "xorbs") l.data_of) ≡ None) ⊎ (option_and_then as_object (get (codes "files") l.data_of) ≡ None) → ⊥
    go (inl none) = nothing (rw none at listed)
    go (inr none) = nor (option_and_then xorbs_of_members (option_and_then as_object (get (codes "xorbs") l.data_of))) (rw none at listed)

-- where both were found it reads as a document with them
pub both_read : (text : List ℕ) (found : Found) (o : Option Listed) (ms : Members) → MatchOption o ((found.xorbs ≡ None) ⊎ (found.files ≡ None)) (λ l. found ≡ record { xorbs = Some l.xorbs; files = Some l.files })
    → read text ≡ Some (object ms) → IsFound ms found → MatchOption o (LacksPart text) (IsRead text)
both_read text found None ms none reads is = lacks text ms found reads is none
both_read text found (Some l) ms same reads is = record { document = ms; reads = reads; found = subst (IsFound ms) same is }

-- the store that it lists
listed : (text : List ℕ) (l : Listed) (r : IsRead text l) → listed_store (object r.document) ≡ Some (with_files (with_xorbs no_store (stored_xorbs l.xorbs)) (stored_files l.files))
listed text l r =
    let own = r.found.xorbs in
    let others = r.found.files in
    let xs = xorbs_listed (λ k. k.text.now) l.xorbs.joined own.0 l.xorbs.places.entries own.2 in
    let fs = files_listed (λ k. k.text.now) others.0 l.files.entries others.2 in
    rw (own.1, others.1, xs, fs) refl

-- the store of what was read, where it is valid
pub stored : (text : List ℕ) (l : Listed) (o : Option Store) → IsUtf8 text → IsRead text l → MatchOption o (Takes no_store l false no_store) (Takes no_store l true) → MatchOption o (NoStore text) (HasStore text)
stored text l None utf8 r refused = λ s has.
    let same = same_data has.data_of (object r.document) (sym has.reads.value ∙ r.reads) in
    let is = same_store s _ (sym (rw same at has.store.listed) ∙ listed text l r) in
    refused (subst IsValid is has.store.valid)
stored text l (Some s) utf8 r taken = record {
  data_of = object r.document;
  reads = record { utf8 = utf8; value = r.reads };
  store = record { listed = listed text l r ∙ ap Some (sym taken.0); no_float = r.found.no_float; valid = taken.1 };
}

-- the listing of what was read
pub listing_has : (text : List ℕ) (l : Listed) (made : Listing) → IsUtf8 text → IsRead text l → made.xorbs ≡ stored_xorbs l.xorbs
    → made.files ≡ map (λ e. e.1) l.files.entries → HasListing text (listing_store made)
listing_has text l made utf8 r xorbs files =
    let stored : map stored_file made.files ≡ stored_files l.files = ap (map stored_file) files ∙ map-map stored_file (λ e. e.1) l.files.entries in
    record {
      data_of = object r.document;
      reads = record { utf8 = utf8; value = r.reads };
      listed = rw (xorbs, stored) (listed text l r);
      no_float = r.found.no_float;
    }
  where
    map-map : {A B C : Type 0} (g : B → C) (f : A → B) (xs : List A) → map g (map f xs) ≡ map (λ x. g (f x)) xs
    map-map g f [] = refl
    map-map g f (x ∷ xs) = ap (λ ys. g (f x) ∷ ys) (map-map g f xs)

-- no term of it has a count of bytes
pub listed_all : (text : List ℕ) (l : Listed) (made : Listing) → IsRead text l → made.files ≡ map (λ e. e.1) l.files.entries
    → All (λ (f : ListedFile). All (λ t. t.bytes ≡ 0) f.terms) made.files
listed_all text l made r files =
    let own = r.found.files in
    let each = lists_all (λ k. k.text.now) ListsFile (λ e. All (λ t. t.bytes ≡ 0) e.1.terms) (λ k d e h. h.1) own.0 l.files.entries own.2 in
    All-same (λ (f : ListedFile). All (λ t. t.bytes ≡ 0) f.terms) made.files (map (λ e. e.1) l.files.entries) files
    (All-map (λ (f : ListedFile). All (λ t. t.bytes ≡ 0) f.terms) (λ e. e.1) l.files.entries each)
