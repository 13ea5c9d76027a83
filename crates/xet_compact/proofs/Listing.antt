-- The document of a store in order lists that store.
use Rattle.std.proofs.Common.{◌≡◌, ℕ, zero, suc, ◌+◌, ◌<◌, ◌≤◌, ◌/◌, ◌%◌, ◌*◌, ◌^◌, Bool, true, false, cond, List, [], ◌∷◌, length, map, get_or, refl, sym, ◌∙◌, ap, arith, ⊎_elim, ◌⊎◌, Less, Equal, Greater, Ordering, Some, None, Ok, Option, Result, All, eqb, eq-eqb, eqb-true, le-ltb, lt-ltb, ltb, ltb-false, ltb-true, ne_eqb, nat_cmp, option_map, option_and_then, codes}
use Rattle.std.specs.Prelude.{nat_lt, slice_index}
use Rattle.std.specs.Result.{result_ok}
use Rattle.std.specs.Ordering.{match_ordering, ordering_then}
use Rattle.std.specs.Cmp.Lexicographic.{slice_cmp}
use Rattle.std.specs.List.{AllByRecursion}
use Rattle.std.specs.List.Sorted.{IsStrictlySortedBy}
use Rattle.std.proofs.lemmas.Bool.{agree_below, agree_below_at, cases_lt, cases_order}
use Rattle.std.proofs.lemmas.List.{get_or_past}
use Rattle.std.proofs.lemmas.List.Elements.{All-head, All-tail}
use Rattle.std.proofs.lemmas.Map.Keys.{sorted_head, sorted_tail}
use Rattle.hex.specs.declared.error.FromHexError.{FromHexError}
use Rattle.hex.specs.Hex.{IsBytes, decode_of, decode_sized, encode_lower, encode_with, lower_digits}
use Rattle.hex.proofs.HexLemmas.{decode_of-encode_lower, decode_sized-encode_lower}
use Rattle.serde_json.specs.Data.{Data, array, Items, item, no_items, Members, member, no_members, number, put, unsigned}
use Rattle.xet_base.specs.declared.merklehash.MerkleHash.{MerkleHash}
use Rattle.xet_base.specs.declared.mdb_shard.Xorb.{Xorb}
use Rattle.xet_base.specs.declared.stored.StoredFile.{StoredFile}
use Rattle.xet_base.specs.declared.stored.StoredTerm.{StoredTerm}
use Rattle.xet_base.specs.HashText.{hash_of_text}
use Rattle.xet_base.specs.Store.{Store}
use Rattle.xet_document.specs.Document.{file_of_member, files_of_members, number_of_data, term_of_items, terms_of_items}
use Rattle.xet_audit.specs.Findings.{hash_cmp}
use Rattle.xet_audit.specs.Raws.{Lists, chunk_of, chunks_of_items, raw_listed, xorb_of_member, xorbs_of_members}
use Rattle.xet_compact.specs.Documents.{IsHash, IsInOrder, IsListable, IsListableFile, IsListableTerm, IsListableXorb}
use Rattle.xet_compact.specs.Documents.{chunk_items, digits, document_data, file_members, term_data, term_items, xorb_members}
use Rattle.xet_compact.proofs.DocumentValues.{document_no_float}

-- ---- digits ascend with bytes

digit_value : (i : ℕ) → i < 16 → get_or lower_digits i 0 ≡ cond (ltb i 10) (48 + i) (87 + i)
digit_value i h =
    eqb-true (get_or lower_digits i 0) (cond (ltb i 10) (48 + i) (87 + i)) (agree_below_at (λ k. eqb
    (get_or lower_digits k 0) (cond (ltb k 10) (48 + k) (87 + k))) (λ k. true) 16 i refl h)

digit_less : (i j : ℕ) → i < j → j < 16 → get_or lower_digits i 0 < get_or lower_digits j 0
digit_less i j less within =
    let a = digit_value i (omega arith) in
    let b = digit_value j within in
    let c = value_less i j less in
    omega (arith, a, b, c)
  where
    value_less : (i j : ℕ) → i < j → cond (ltb i 10) (48 + i) (87 + i) < cond (ltb j 10) (48 + j) (87 + j)
    value_less i j less = go (ltb i 10) refl (ltb j 10) refl
      where
        go : (b : Bool) → ltb i 10 ≡ b → (c : Bool) → ltb j 10 ≡ c → cond b (48 + i) (87 + i) < cond c (48 + j) (87 + j)
        go true e true f = omega arith
        go true e false f = omega arith
        go false e false f = omega arith
        go false e true f = let x = ltb-false i 10 e in let y = ltb-true j 10 f in absurd (omega (arith, x, y))

nat_less : (x y : ℕ) → x < y → nat_cmp x y ≡ Less
nat_less x y h = ap (λ (b : Bool). cond b Less (cond (eqb x y) Equal Greater)) (lt-ltb x y h)

nat_equal : (x : ℕ) → nat_cmp x x ≡ Equal
nat_equal x =
    ap (λ (b : Bool). cond b Less (cond (eqb x x) Equal Greater)) (le-ltb x x (omega arith))
    ∙ ap (λ (b : Bool). cond b Equal Greater) (eq-eqb x x refl)

nat_greater : (x y : ℕ) → y < x → nat_cmp x y ≡ Greater
nat_greater x y h =
    ap (λ (b : Bool). cond b Less (cond (eqb x y) Equal Greater)) (le-ltb x y (omega arith))
    ∙ ap (λ (b : Bool). cond b Equal Greater) (ne_eqb x y (λ e. omega (arith, e)))

-- the digits of a byte and of a larger one
pair_less : (x y : ℕ) (o : Ordering) → x < y → y < 256
    → ordering_then (nat_cmp (get_or lower_digits (x / 16) 0) (get_or lower_digits (y / 16) 0)) (ordering_then (nat_cmp
    (get_or lower_digits (x % 16) 0) (get_or lower_digits (y % 16) 0)) o) ≡ Less
pair_less x y o less within =
    ⊎_elim
    (λ (high : x / 16 < y / 16). ap (λ (r : Ordering). ordering_then r (ordering_then (nat_cmp (get_or lower_digits
    (x % 16) 0) (get_or lower_digits (y % 16) 0)) o)) (nat_less (get_or lower_digits (x / 16) 0) (get_or lower_digits
    (y / 16) 0) (digit_less (x / 16) (y / 16) high (omega arith))))
    (λ (other : y / 16 ≤ x / 16).
    let same : x / 16 ≡ y / 16 = omega arith in
    let low : x % 16 < y % 16 = omega arith in
    ap (λ (n : ℕ). ordering_then (nat_cmp (get_or lower_digits n 0) (get_or lower_digits (y / 16) 0)) (ordering_then
    (nat_cmp (get_or lower_digits (x % 16) 0) (get_or lower_digits (y % 16) 0)) o)) same
    ∙ ap (λ (r : Ordering). ordering_then r (ordering_then (nat_cmp (get_or lower_digits (x % 16) 0)
    (get_or lower_digits (y % 16) 0)) o)) (nat_equal (get_or lower_digits (y / 16) 0))
    ∙ ap (λ (r : Ordering). ordering_then r o) (nat_less (get_or lower_digits (x % 16) 0) (get_or lower_digits (y % 16) 0)
    (digit_less (x % 16) (y % 16) low (omega arith))))
    (cases_lt (x / 16) (y / 16))

pub encode_less : (xs ys : List ℕ) → All (λ b. b < 256) ys → slice_cmp nat_cmp xs ys ≡ Less
    → slice_cmp nat_cmp (encode_lower xs) (encode_lower ys) ≡ Less
unfolding encode_with
encode_less [] [] all h = h
encode_less [] (y ∷ ys) all h = refl
encode_less (x ∷ xs) [] all h = let clash : Greater ≡ Less = h in cc
encode_less (x ∷ xs) (y ∷ ys) all h =
    ⊎_elim
    (λ (same : x ≡ y).
    let rest : slice_cmp nat_cmp xs ys ≡ Less = sym (ap (λ (r : Ordering). ordering_then r (slice_cmp nat_cmp xs ys))
    (ap (λ (z : ℕ). nat_cmp z y) same ∙ nat_equal y)) ∙ h in
    let more = encode_less xs ys (All-tail (λ b. b < 256) y ys all) rest in
    ap (λ (z : ℕ). ordering_then (nat_cmp (get_or lower_digits (z / 16) 0) (get_or lower_digits (y / 16) 0))
    (ordering_then (nat_cmp (get_or lower_digits (z % 16) 0) (get_or lower_digits (y % 16) 0)) (slice_cmp nat_cmp
    (encode_lower xs) (encode_lower ys)))) same
    ∙ ap (λ (r : Ordering). ordering_then r (ordering_then (nat_cmp (get_or lower_digits (y % 16) 0) (get_or lower_digits
    (y % 16) 0)) (slice_cmp nat_cmp (encode_lower xs) (encode_lower ys)))) (nat_equal (get_or lower_digits (y / 16) 0))
    ∙ ap (λ (r : Ordering). ordering_then r (slice_cmp nat_cmp (encode_lower xs) (encode_lower ys))) (nat_equal
    (get_or lower_digits (y % 16) 0))
    ∙ more)
    (λ (other : (x < y) ⊎ (y < x)). ⊎_elim
    (λ (less : x < y). pair_less x y (slice_cmp nat_cmp (encode_lower xs) (encode_lower ys)) less (All-head
    (λ b. b < 256) y ys all))
    (λ (more : y < x). let clash : Greater ≡ Less = sym (ap (λ (r : Ordering). ordering_then r (slice_cmp nat_cmp xs ys))
    (nat_greater x y more)) ∙ h in cc)
    other)
    (cases_order x y)

-- ---- members in order

-- a member whose key is below the first one goes first
abbrev IsBelowFirst : List ℕ → Members → Type 0
IsBelowFirst k no_members = Unit {0}
IsBelowFirst k (member l d ms) = slice_cmp nat_cmp k l ≡ Less

put_first : (k : List ℕ) (d : Data) (ms : Members) → IsBelowFirst k ms → put k d ms ≡ member k d ms
put_first k d no_members h = refl
put_first k d (member l e ms) h =
    ap (λ (o : Ordering). match_ordering o (member k d (member l e ms)) (member l d ms) (member l e (put k d ms))) h

-- the members of xorbs and files, in a row
abbrev pub xorb_row : List Xorb → Members
xorb_row [] = no_members
xorb_row (x ∷ xs) = member (encode_lower x.hash.0) (array (chunk_items x.chunks)) (xorb_row xs)

abbrev pub file_row : List StoredFile → Members
file_row [] = no_members
file_row (f ∷ fs) = member (encode_lower f.hash.0) (array (term_items f.terms)) (file_row fs)

below_xorb : (x : Xorb) (xs : List Xorb) → All IsListableXorb xs
    → AllByRecursion (λ h. hash_cmp x.hash h ≡ Less) (map (λ (y : Xorb). y.hash) xs)
    → IsBelowFirst (encode_lower x.hash.0) (xorb_row xs)
below_xorb x [] all h = tt
below_xorb x (y ∷ ys) all h = encode_less x.hash.0 y.hash.0 (All-head IsListableXorb y ys all).0.bytes h.0

below_file : (f : StoredFile) (fs : List StoredFile) → All IsListableFile fs
    → AllByRecursion (λ h. hash_cmp f.hash h ≡ Less) (map (λ (g : StoredFile). g.hash) fs)
    → IsBelowFirst (encode_lower f.hash.0) (file_row fs)
below_file f [] all h = tt
below_file f (g ∷ gs) all h = encode_less f.hash.0 g.hash.0 (All-head IsListableFile g gs all).0.bytes h.0

pub xorbs_in_row : (xs : List Xorb) → All IsListableXorb xs → IsStrictlySortedBy hash_cmp (map (λ (x : Xorb). x.hash) xs)
    → xorb_members xs ≡ xorb_row xs
xorbs_in_row [] all h = refl
xorbs_in_row (x ∷ xs) all h =
    let rest_all = All-tail IsListableXorb x xs all in
    let keys = map (λ (y : Xorb). y.hash) xs in
    ap (λ (ms : Members). put (encode_lower x.hash.0) (array (chunk_items x.chunks)) ms) (xorbs_in_row xs rest_all
    (sorted_tail hash_cmp x.hash keys h))
    ∙ put_first (encode_lower x.hash.0) (array (chunk_items x.chunks)) (xorb_row xs) (below_xorb x xs rest_all
    (sorted_head hash_cmp x.hash keys h))

pub files_in_row : (fs : List StoredFile) → All IsListableFile fs → IsStrictlySortedBy hash_cmp (map (λ (f : StoredFile). f.hash) fs)
    → file_members fs ≡ file_row fs
files_in_row [] all h = refl
files_in_row (f ∷ fs) all h =
    let rest_all = All-tail IsListableFile f fs all in
    let keys = map (λ (g : StoredFile). g.hash) fs in
    ap (λ (ms : Members). put (encode_lower f.hash.0) (array (term_items f.terms)) ms) (files_in_row fs rest_all
    (sorted_tail hash_cmp f.hash keys h))
    ∙ put_first (encode_lower f.hash.0) (array (term_items f.terms)) (file_row fs) (below_file f fs rest_all
    (sorted_head hash_cmp f.hash keys h))

-- ---- what reads back

are_bytes : (xs : List ℕ) → All (λ b. b < 256) xs → IsBytes xs
are_bytes xs all = λ i. ⊎_elim
    (λ (within : i < length xs). all i 0 within)
    (λ (past : length xs ≤ i). let zero_there = get_or_past xs i 0 past in omega (arith, zero_there))
    (cases_lt i (length xs))

hash_back : (h : MerkleHash) → IsHash h → hash_of_text (encode_lower h.0) ≡ Some h
hash_back h is = ap (λ (r : Result (List ℕ) FromHexError). option_map (λ (bytes : List ℕ). let m : MerkleHash = record { 0 = bytes } in m)
    (result_ok r)) (decode_sized-encode_lower h.0 32 is.count (are_bytes h.0 is.bytes))

chunk_back : (c : List ℕ) → All (λ b. b < 256) c → chunk_of (digits c) ≡ Some c
chunk_back c all = ap result_ok (decode_of-encode_lower c (are_bytes c all))

chunks_back : (cs : List (List ℕ)) → All (λ c. All (λ b. b < 256) c) cs → chunks_of_items (chunk_items cs) ≡ Some cs
chunks_back [] all = refl
chunks_back (c ∷ cs) all =
    let here = chunk_back c (All-head (λ c. All (λ b. b < 256) c) c cs all) in
    let rest = chunks_back cs (All-tail (λ c. All (λ b. b < 256) c) c cs all) in
    ap (λ (o : Option (List ℕ)). option_and_then (λ (d : List ℕ). option_map (λ (ds : List (List ℕ)). d ∷ ds)
    (chunks_of_items (chunk_items cs))) o) here
    ∙ ap (λ (o : Option (List (List ℕ))). option_map (λ (ds : List (List ℕ)). c ∷ ds) o) rest

xorbs_back : (xs : List Xorb) → All IsListableXorb xs → xorbs_of_members (xorb_row xs) ≡ Some xs
xorbs_back [] all = refl
xorbs_back (x ∷ xs) all =
    let is = All-head IsListableXorb x xs all in
    let rest = xorbs_back xs (All-tail IsListableXorb x xs all) in
    let here : xorb_of_member (encode_lower x.hash.0) (array (chunk_items x.chunks)) ≡ Some x =
    ap (λ (o : Option MerkleHash). option_and_then (λ (h : MerkleHash). option_map (λ (cs : List (List ℕ)).
    let y : Xorb = record { hash = h; chunks = cs } in y) (chunks_of_items (chunk_items x.chunks))) o)
    (hash_back x.hash is.0)
    ∙ ap (λ (o : Option (List (List ℕ))). option_map (λ (cs : List (List ℕ)). let y : Xorb = record { hash = x.hash; chunks = cs } in y) o)
    (chunks_back x.chunks is.1) in
    ap (λ (o : Option Xorb). option_and_then (λ (y : Xorb). option_map (λ (ys : List Xorb). y ∷ ys) (xorbs_of_members
    (xorb_row xs))) o) here
    ∙ ap (λ (o : Option (List Xorb)). option_map (λ (ys : List Xorb). x ∷ ys) o) rest

term_back : (t : StoredTerm) → IsListableTerm t
    → term_of_items (item (digits t.xorb.0) (item (number (unsigned t.from)) (item (number (unsigned t.to)) no_items))) ≡ Some t
term_back t is =
    let from : number_of_data (number (unsigned t.from)) ≡ Some t.from = ap (λ (b : Bool). cond b (Some t.from) None)
    (lt-ltb t.from (2 ^ 32) is.1) in
    let to : number_of_data (number (unsigned t.to)) ≡ Some t.to = ap (λ (b : Bool). cond b (Some t.to) None)
    (lt-ltb t.to (2 ^ 32) is.2) in
    ap (λ (o : Option MerkleHash). option_and_then (λ (h : MerkleHash). option_and_then (λ (a : ℕ). option_map (λ (b : ℕ).
    let r : StoredTerm = record { xorb = h; from = a; to = b } in r) (number_of_data (number (unsigned t.to))))
    (number_of_data (number (unsigned t.from)))) o) (hash_back t.xorb is.0)
    ∙ ap (λ (o : Option ℕ). option_and_then (λ (a : ℕ). option_map (λ (b : ℕ). let r : StoredTerm = record
    { xorb = t.xorb; from = a; to = b } in r) (number_of_data (number (unsigned t.to)))) o) from
    ∙ ap (λ (o : Option ℕ). option_map (λ (b : ℕ). let r : StoredTerm = record { xorb = t.xorb; from = t.from; to = b } in
    r) o) to

terms_back : (ts : List StoredTerm) → All IsListableTerm ts → terms_of_items (term_items ts) ≡ Some ts
terms_back [] all = refl
terms_back (t ∷ ts) all =
    let here = term_back t (All-head IsListableTerm t ts all) in
    let rest = terms_back ts (All-tail IsListableTerm t ts all) in
    ap (λ (o : Option StoredTerm). option_and_then (λ (r : StoredTerm). option_map (λ (rs : List StoredTerm). r ∷ rs)
    (terms_of_items (term_items ts))) o) here
    ∙ ap (λ (o : Option (List StoredTerm)). option_map (λ (rs : List StoredTerm). t ∷ rs) o) rest

files_back : (fs : List StoredFile) → All IsListableFile fs → files_of_members (file_row fs) ≡ Some fs
files_back [] all = refl
files_back (f ∷ fs) all =
    let is = All-head IsListableFile f fs all in
    let rest = files_back fs (All-tail IsListableFile f fs all) in
    let here : file_of_member (encode_lower f.hash.0) (array (term_items f.terms)) ≡ Some f =
    ap (λ (o : Option MerkleHash). option_and_then (λ (h : MerkleHash). option_map (λ (ts : List StoredTerm).
    let g : StoredFile = record { hash = h; terms = ts } in g) (terms_of_items (term_items f.terms))) o)
    (hash_back f.hash is.0)
    ∙ ap (λ (o : Option (List StoredTerm)). option_map (λ (ts : List StoredTerm). let g : StoredFile = record { hash = f.hash; terms = ts } in g) o)
    (terms_back f.terms is.1) in
    ap (λ (o : Option StoredFile). option_and_then (λ (g : StoredFile). option_map (λ (gs : List StoredFile). g ∷ gs)
    (files_of_members (file_row fs))) o) here
    ∙ ap (λ (o : Option (List StoredFile)). option_map (λ (gs : List StoredFile). f ∷ gs) o) rest

listed_back : (s : Store) → IsListable s → IsInOrder s → raw_listed (document_data s) ≡ Some s
listed_back s can order =
    let xs : xorbs_of_members (xorb_members s.xorbs) ≡ Some s.xorbs = ap xorbs_of_members (xorbs_in_row s.xorbs can.xorbs
    order.xorbs) ∙ xorbs_back s.xorbs can.xorbs in
    let fs : files_of_members (file_members s.files) ≡ Some s.files = ap files_of_members (files_in_row s.files can.files
    order.files) ∙ files_back s.files can.files in
    ap (λ (o : Option (List Xorb)). option_and_then (λ (a : List Xorb). option_map (λ (b : List StoredFile).
    let r : Store = record { xorbs = a; files = b } in r) (files_of_members (file_members s.files))) o) xs
    ∙ ap (λ (o : Option (List StoredFile)). option_map (λ (b : List StoredFile). let r : Store = record
    { xorbs = s.xorbs; files = b } in r) o) fs

pub document_lists : (s : Store) → IsListable s → IsInOrder s → Lists (document_data s) s
document_lists s can order = record { listed = listed_back s can order; no_float = document_no_float s }
