-- What is written token by token is the document of a store in order.
use Rattle.std.proofs.Common.{◌≡◌, ℕ, ◌+◌, ◌<◌, ◌≤◌, List, [], ◌∷◌, ◌++◌, length, map, get_or, take, refl, sym, ◌∙◌, ap, subst, arith, append_assoc, append-nil, All, Less, Greater, Ordering, Option, Some, codes, nat_cmp, flat_map}
use Rattle.std.specs.Prelude.{decimal, option_and_then, option_map}
use Rattle.std.specs.Cmp.Lexicographic.{slice_cmp}
use Rattle.std.specs.Str.{IsUtf8}
use Rattle.std.specs.List.{AllByRecursion}
use Rattle.std.specs.List.Sorted.{IsStrictlySortedBy}
use Rattle.std.specs.Ordering.{match_ordering, ordering_reverse}
use Rattle.std.proofs.lemmas.Cmp.{nat_list_cmp_total}
use Rattle.std.proofs.lemmas.List.{flat_map_more, take_all, take_more}
use Rattle.std.proofs.lemmas.List.Elements.{All-head, All-tail}
use Rattle.std.proofs.lemmas.Map.Keys.{sorted_head, sorted_tail}
use Rattle.hex.specs.Hex.{encode_lower}
use Rattle.json.specs.Token.{Token, begin_array, begin_object, end_array, end_object, key, string}
use Rattle.json.specs.Lex.{tokens}
use Rattle.json.specs.Print.{print}
use Rattle.json.specs.Written.{Written}
use Rattle.json.specs.Json as json
use Rattle.json.specs.Tree as tree
use Rattle.json.proofs.Printed.Trees.{value-json_tokens}
use Rattle.serde_json.specs.Data.{Data, Num, array, item, no_items, object, Members, member, no_members, number, put, unsigned}
use Rattle.serde_json.specs.Read.{max_depth, number_of, of_items, of_json, of_members, read}
use Rattle.serde_json.specs.Written.{compact_text, items_outline, members_outline, outline}
use Rattle.serde_json.proofs.Numbers.{number_of-decimal}
use Rattle.serde_json.proofs.Texts.{print-outline}
use Rattle.xet_base.specs.declared.merklehash.MerkleHash.{MerkleHash}
use Rattle.xet_base.specs.declared.mdb_shard.Xorb.{Xorb}
use Rattle.xet_base.specs.declared.stored.StoredFile.{StoredFile}
use Rattle.xet_base.specs.declared.stored.StoredTerm.{StoredTerm}
use Rattle.xet_base.specs.Store.{Store}
use Rattle.xet_audit.specs.Findings.{hash_cmp}
use Rattle.xet_compact.specs.Documents.{IsInOrder, IsListable, IsListableFile, IsListableTerm, IsListableXorb}
use Rattle.xet_compact.specs.Documents.{chunk_items, digits, document_data, document_text, term_data, term_items, xorb_members}
use Rattle.xet_compact.specs.steps.Writes.{Adds, chunk_tokens, file_tokens, store_tokens, term_tokens, within_tokens, xorb_tokens}
use Rattle.xet_compact.proofs.Listing.{encode_less, file_row, files_in_row, xorb_row, xorbs_in_row}

-- ---- one after another

pub adds_none : (a : Written) → Adds a a []
adds_none a = record { before = refl; tokens = sym (append-nil a.tokens) }

pub adds_one : {a b : Written} {t : Token} → b.before ≡ a.before → b.tokens ≡ a.tokens ++ t ∷ [] → Adds a b (t ∷ [])
adds_one before ts = record { before = before; tokens = ts }

pub adds_more : {a b c : Written} {ts us : List Token} → Adds a b ts → Adds b c us → Adds a c (ts ++ us)
adds_more {a} {b} {c} {ts} {us} x y = record {
  before = y.before ∙ x.before;
  tokens = y.tokens ∙ ap (λ (l : List Token). l ++ us) x.tokens ∙ append_assoc a.tokens ts us;
}

pub adds_next : {A : Type 0} {a b c : Written} (f : A → List Token) (xs : List A) (i : ℕ) (x : A) → i < length xs
    → x ≡ get_or xs i x → Adds a b (flat_map f (take i xs)) → Adds b c (f x) → Adds a c (flat_map f (take (i + 1) xs))
adds_next {A} {a} {b} {c} f xs i x h is w y =
    let more : take (i + 1) xs ≡ take i xs ++ x ∷ [] = take_more xs i x h ∙ ap (λ (d : A). take i xs ++ d ∷ []) (sym is) in
    record {
      before = y.before ∙ w.before;
      tokens = y.tokens ∙ ap (λ (l : List Token). l ++ f x) w.tokens ∙ flat_map_more f a.tokens (take i xs) x
          ∙ ap (λ (l : List A). a.tokens ++ flat_map f l) (sym more);
    }

-- ---- the tokens of the value

pub chunk_items_tokens : (cs : List (List ℕ)) → tree.items_tokens (items_outline (chunk_items cs)) ≡ flat_map chunk_tokens cs ++ end_array ∷ []
chunk_items_tokens [] = refl
chunk_items_tokens (c ∷ cs) = ap (λ (ts : List Token). string (encode_lower c) ∷ ts) (chunk_items_tokens cs)

pub term_items_tokens : (ts : List StoredTerm) → tree.items_tokens (items_outline (term_items ts)) ≡ flat_map term_tokens ts ++ end_array ∷ []
term_items_tokens [] = refl
term_items_tokens (t ∷ ts) = ap (λ (us : List Token). term_tokens t ++ us) (term_items_tokens ts)

xorb_row_tokens : (xs : List Xorb) → tree.members_tokens (members_outline (xorb_row xs)) ≡ flat_map xorb_tokens xs ++ end_object ∷ []
xorb_row_tokens [] = refl
xorb_row_tokens (x ∷ xs) =
    ap (λ (ts : List Token). key (encode_lower x.hash.0) ∷ begin_array ∷ (ts ++ tree.members_tokens (members_outline
    (xorb_row xs)))) (chunk_items_tokens x.chunks)
    ∙ ap (λ (ts : List Token). xorb_tokens x ++ ts) (xorb_row_tokens xs)
    ∙ sym (append_assoc (xorb_tokens x) (flat_map xorb_tokens xs) (end_object ∷ []))

file_row_tokens : (fs : List StoredFile) → tree.members_tokens (members_outline (file_row fs)) ≡ flat_map file_tokens fs ++ end_object ∷ []
file_row_tokens [] = refl
file_row_tokens (f ∷ fs) =
    ap (λ (ts : List Token). key (encode_lower f.hash.0) ∷ begin_array ∷ (ts ++ tree.members_tokens (members_outline
    (file_row fs)))) (term_items_tokens f.terms)
    ∙ ap (λ (ts : List Token). file_tokens f ++ ts) (file_row_tokens fs)
    ∙ sym (append_assoc (file_tokens f) (flat_map file_tokens fs) (end_object ∷ []))

-- the value, with its members in a row
abbrev row_data : Store → Data
row_data s =
    object (member (codes "files") (object (file_row s.files)) (member (codes "xorbs") (object (xorb_row s.xorbs)) no_members))

row_is : (s : Store) → IsListable s → IsInOrder s → document_data s ≡ row_data s
row_is s can order =
    ap (λ (ms : Members). object (put (codes "files") (object ms) (put (codes "xorbs") (object (xorb_members s.xorbs)) no_members)))
    (files_in_row s.files can.files order.files)
    ∙ ap (λ (ms : Members). object (put (codes "files") (object (file_row s.files)) (put (codes "xorbs") (object ms) no_members)))
    (xorbs_in_row s.xorbs can.xorbs order.xorbs)

row_tokens : (s : Store) → tree.json_tokens (outline (row_data s)) ≡ store_tokens s
row_tokens s =
    ap (λ (ts : List Token). begin_object ∷ key (codes "files") ∷ begin_object ∷ (ts ++ key (codes "xorbs") ∷ begin_object
    ∷ (tree.members_tokens (members_outline (xorb_row s.xorbs)) ++ end_object ∷ []))) (file_row_tokens s.files)
    ∙ ap (λ (ts : List Token). begin_object ∷ (within_tokens (codes "files") (flat_map file_tokens s.files)
    ++ key (codes "xorbs") ∷ begin_object ∷ (ts ++ end_object ∷ []))) (xorb_row_tokens s.xorbs)

-- ---- values read back from their outlines

chunks_back : (cs : List (List ℕ)) → of_items (items_outline (chunk_items cs)) ≡ Some (chunk_items cs)
chunks_back [] = refl
chunks_back (c ∷ cs) = ap (option_map (item (digits c))) (chunks_back cs)

-- what a term's outline reads as, by what its two numbers do
abbrev term_read : List ℕ → Option Num → Option Num → Option Data
term_read x from to =
    option_map array (option_map (item (digits x)) (option_and_then (λ (d : Data). option_map (item d) (option_and_then
    (λ (e : Data). option_map (item e) (Some no_items)) (option_map number to))) (option_map number from)))

term_back : (t : StoredTerm) → IsListableTerm t → of_json (outline (term_data t)) ≡ Some (term_data t)
term_back t is =
    let from = number_of-decimal t.from (omega (arith, is.1)) in
    let to = number_of-decimal t.to (omega (arith, is.2)) in
    ap (λ (o : Option Num). term_read t.xorb.0 o (number_of (decimal t.to))) from
    ∙ ap (λ (o : Option Num). term_read t.xorb.0 (Some (unsigned t.from)) o) to

terms_back : (ts : List StoredTerm) → All IsListableTerm ts → of_items (items_outline (term_items ts)) ≡ Some (term_items ts)
terms_back [] all = refl
terms_back (t ∷ ts) all =
    ap (λ (o : Option Data). option_and_then (λ (d : Data). option_map (item d) (of_items (items_outline (term_items ts)))) o)
    (term_back t (All-head IsListableTerm t ts all))
    ∙ ap (option_map (item (term_data t))) (terms_back ts (All-tail IsListableTerm t ts all))

-- ---- members read back, where their keys ascend

abbrev behind : Members → Members → Members
behind no_members ms = ms
behind (member k d ks) ms = member k d (behind ks ms)

-- each value reads back
abbrev AllBack : Members → Type 0
AllBack no_members = Unit {0}
AllBack (member k d ms) = (of_json (outline d) ≡ Some d) × AllBack ms

-- the key is above all of these, below all of these
abbrev IsAbove : List ℕ → Members → Type 0
IsAbove k no_members = Unit {0}
IsAbove k (member l d ms) = (slice_cmp nat_cmp k l ≡ Greater) × IsAbove k ms

abbrev IsBelow : List ℕ → Members → Type 0
IsBelow k no_members = Unit {0}
IsBelow k (member l d ms) = (slice_cmp nat_cmp l k ≡ Greater) × IsBelow k ms

-- keys ascend, and stand above others
abbrev Ascend : Members → Type 0
Ascend no_members = Unit {0}
Ascend (member k d ms) = IsBelow k ms × Ascend ms

abbrev AreAbove : Members → Members → Type 0
AreAbove found no_members = Unit {0}
AreAbove found (member k d ms) = IsAbove k found × AreAbove found ms

put_behind : (k : List ℕ) (d : Data) (ms : Members) → IsAbove k ms → put k d ms ≡ behind ms (member k d no_members)
put_behind k d no_members h = refl
put_behind k d (member l e ms) h =
    ap (λ (o : Ordering). match_ordering o (member k d (member l e ms)) (member l d ms) (member l e (put k d ms))) h.0
    ∙ ap (member l e) (put_behind k d ms h.1)

above_more : (k l : List ℕ) (d : Data) (ms : Members) → IsAbove k ms → slice_cmp nat_cmp k l ≡ Greater
    → IsAbove k (behind ms (member l d no_members))
above_more k l d no_members h more = (more, tt)
above_more k l d (member m e ms) h more = (h.0, above_more k l d ms h.1 more)

are_above_more : (found ms : Members) (k : List ℕ) (d : Data) → AreAbove found ms → IsBelow k ms
    → AreAbove (behind found (member k d no_members)) ms
are_above_more found no_members k d a b = tt
are_above_more found (member l e ms) k d a b = (above_more l k d found a.0 b.0, are_above_more found ms k d a.1 b.1)

behind_none : (ms : Members) → behind ms no_members ≡ ms
behind_none no_members = refl
behind_none (member k d ms) = ap (member k d) (behind_none ms)

behind_behind : (a b c : Members) → behind (behind a b) c ≡ behind a (behind b c)
behind_behind no_members b c = refl
behind_behind (member k d a) b c = ap (member k d) (behind_behind a b c)

members_back : (ms found : Members) → AllBack ms → Ascend ms → AreAbove found ms
    → of_members (members_outline ms) found ≡ Some (behind found ms)
members_back no_members found all up above = ap Some (sym (behind_none found))
members_back (member k d ms) found all up above =
    ap (λ (o : Option Data). option_and_then (λ (e : Data). of_members (members_outline ms) (put k e found)) o) all.0
    ∙ ap (λ (ks : Members). of_members (members_outline ms) ks) (put_behind k d found above.0)
    ∙ members_back ms (behind found (member k d no_members)) all.1 up.1 (are_above_more found ms k d above.1 up.0)
    ∙ ap Some (behind_behind found (member k d no_members) ms)

object_back : (ms : Members) → AllBack ms → Ascend ms → of_json (outline (object ms)) ≡ Some (object ms)
object_back ms all up = ap (option_map object) (members_back ms no_members all up (none ms))
  where
    none : (ks : Members) → AreAbove no_members ks
    none no_members = tt
    none (member k d ks) = (tt, none ks)

greater : (a b : List ℕ) → slice_cmp nat_cmp a b ≡ Less → slice_cmp nat_cmp b a ≡ Greater
greater a b h = nat_list_cmp_total.antisymm b a ∙ ap ordering_reverse h

-- ---- rows

xorb_below : (x : Xorb) (xs : List Xorb) → All IsListableXorb xs
    → AllByRecursion (λ h. hash_cmp x.hash h ≡ Less) (map (λ (y : Xorb). y.hash) xs)
    → IsBelow (encode_lower x.hash.0) (xorb_row xs)
xorb_below x [] all h = tt
xorb_below x (y ∷ ys) all h = (
  greater (encode_lower x.hash.0) (encode_lower y.hash.0) (encode_less x.hash.0 y.hash.0 (All-head IsListableXorb y ys all).0.bytes h.0),
  xorb_below x ys (All-tail IsListableXorb y ys all) h.1,
)

xorb_row_ascends : (xs : List Xorb) → All IsListableXorb xs → IsStrictlySortedBy hash_cmp (map (λ (x : Xorb). x.hash) xs)
    → Ascend (xorb_row xs)
xorb_row_ascends [] all h = tt
xorb_row_ascends (x ∷ xs) all h =
    let rest = All-tail IsListableXorb x xs all in
    let hs = map (λ (y : Xorb). y.hash) xs in
    (xorb_below x xs rest (sorted_head hash_cmp x.hash hs h), xorb_row_ascends xs rest (sorted_tail hash_cmp x.hash hs h))

xorb_row_back : (xs : List Xorb) → AllBack (xorb_row xs)
xorb_row_back [] = tt
xorb_row_back (x ∷ xs) = (ap (option_map array) (chunks_back x.chunks), xorb_row_back xs)

file_below : (f : StoredFile) (fs : List StoredFile) → All IsListableFile fs
    → AllByRecursion (λ h. hash_cmp f.hash h ≡ Less) (map (λ (g : StoredFile). g.hash) fs)
    → IsBelow (encode_lower f.hash.0) (file_row fs)
file_below f [] all h = tt
file_below f (g ∷ gs) all h = (
  greater (encode_lower f.hash.0) (encode_lower g.hash.0) (encode_less f.hash.0 g.hash.0 (All-head IsListableFile g gs all).0.bytes h.0),
  file_below f gs (All-tail IsListableFile g gs all) h.1,
)

file_row_ascends : (fs : List StoredFile) → All IsListableFile fs
    → IsStrictlySortedBy hash_cmp (map (λ (f : StoredFile). f.hash) fs) → Ascend (file_row fs)
file_row_ascends [] all h = tt
file_row_ascends (f ∷ fs) all h =
    let rest = All-tail IsListableFile f fs all in
    let hs = map (λ (g : StoredFile). g.hash) fs in
    (file_below f fs rest (sorted_head hash_cmp f.hash hs h), file_row_ascends fs rest (sorted_tail hash_cmp f.hash hs h))

file_row_back : (fs : List StoredFile) → All IsListableFile fs → AllBack (file_row fs)
file_row_back [] all = tt
file_row_back (f ∷ fs) all = (
  ap (option_map array) (terms_back f.terms (All-head IsListableFile f fs all).1),
  file_row_back fs (All-tail IsListableFile f fs all),
)

row_back : (s : Store) → IsListable s → IsInOrder s → of_json (outline (row_data s)) ≡ Some (row_data s)
row_back s can order =
    let files = object_back (file_row s.files) (file_row_back s.files can.files) (file_row_ascends s.files can.files order.files) in
    let xorbs = object_back (xorb_row s.xorbs) (xorb_row_back s.xorbs) (xorb_row_ascends s.xorbs can.xorbs order.xorbs) in
    object_back (member (codes "files") (object (file_row s.files)) (member (codes "xorbs") (object (xorb_row s.xorbs)) no_members))
    (files, (xorbs, tt)) ((refl, tt), (tt, tt))

-- ---- how deep

depth_chunks : (cs : List (List ℕ)) → tree.items_depth (items_outline (chunk_items cs)) ≤ 0
depth_chunks [] = omega arith
depth_chunks (c ∷ cs) = let rest = depth_chunks cs in omega (arith, rest)

depth_terms : (ts : List StoredTerm) → tree.items_depth (items_outline (term_items ts)) ≤ 1
depth_terms [] = omega arith
depth_terms (t ∷ ts) = let rest = depth_terms ts in omega (arith, rest)

depth_xorbs : (xs : List Xorb) → tree.members_depth (members_outline (xorb_row xs)) ≤ 2
depth_xorbs [] = omega arith
depth_xorbs (x ∷ xs) = let flat = depth_chunks x.chunks in let rest = depth_xorbs xs in omega (arith, flat, rest)

depth_files : (fs : List StoredFile) → tree.members_depth (members_outline (file_row fs)) ≤ 2
depth_files [] = omega arith
depth_files (f ∷ fs) = let flat = depth_terms f.terms in let rest = depth_files fs in omega (arith, flat, rest)

row_depth : (s : Store) → tree.depth (outline (row_data s)) ≤ max_depth
row_depth s = let xs = depth_xorbs s.xorbs in let fs = depth_files s.files in omega (arith, xs, fs)

-- ---- the text

module _ (s : Store) (ts : List Token) (can : IsListable s) (order : IsInOrder s) (are : ts ≡ store_tokens s) where
  same_tokens : ts ≡ tree.json_tokens (outline (row_data s))
  same_tokens = are ∙ sym (row_tokens s)

  pub written_text : print ts ≡ document_text s
  written_text = ap print same_tokens ∙ print-outline (row_data s) ∙ ap compact_text (sym (row_is s can order))

  pub written_reads : tokens (print ts) ≡ ts → read (print ts) ≡ Some (document_data s)
  written_reads back =
      let j = outline (row_data s) in
      let value : json.value max_depth (tokens (print ts)) ≡ Some (j, []) = ap (json.value max_depth) (back ∙ same_tokens
      ∙ sym (append-nil (tree.json_tokens j))) ∙ value-json_tokens j max_depth [] (row_depth s) in
      ap (λ (o : Option (json.Json × List Token)). option_and_then of_json (option_and_then (λ p. json.if_last p.0 p.1) o)) value
      ∙ row_back s can order
      ∙ ap Some (sym (row_is s can order))

-- ---- what a writer that began empty gives back

module _ {a b : Written} {ts : List Token} (items : List ℕ) (empty : a.before ≡ []) (adds : Adds a b ts)
    (given : items ≡ b.before ++ print b.tokens) where
  printed : items ≡ print b.tokens
  printed = given ∙ ap (λ (l : List ℕ). l ++ print b.tokens) (adds.before ∙ empty)

  pub utf8_made : IsUtf8 (print b.tokens) → IsUtf8 items
  utf8_made is = subst IsUtf8 (sym printed) is

pub text_made : (s : Store) {a b : Written} (items : List ℕ) → IsListable s → IsInOrder s → a.before ≡ [] → a.tokens ≡ []
    → Adds a b (store_tokens s) → items ≡ b.before ++ print b.tokens → tokens (print b.tokens) ≡ b.tokens
    → (items ≡ document_text s) × (read items ≡ Some (document_data s))
text_made s {a} {b} items can order empty none adds given back =
    let are : b.tokens ≡ store_tokens s = adds.tokens ∙ ap (λ (l : List Token). l ++ store_tokens s) none in
    let same = printed items empty adds given in (
      same ∙ written_text s b.tokens can order are,
      ap read same ∙ written_reads s b.tokens can order are back,
    )
