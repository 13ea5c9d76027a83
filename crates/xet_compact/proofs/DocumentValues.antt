-- Values of stores: their items, that they hold no float, and how deep they nest.
use Rattle.std.proofs.Common.{◌≡◌, ℕ, zero, suc, ◌+◌, ◌≤◌, max, Bool, true, false, ◌||◌, List, [], ◌∷◌, map, refl, sym, ◌∙◌, ap, arith, Less, Equal, Greater, Ordering, codes, nat_cmp}
use Rattle.std.specs.Ordering.{match_ordering}
use Rattle.std.specs.Cmp.Lexicographic.{slice_cmp}
use Rattle.std.proofs.lemmas.Bool.{or_from}
use Rattle.hex.specs.Hex.{encode_lower}
use Rattle.serde_json.specs.Data.{Data, array, object, Items, item, no_items, Members, member, no_members, put, depth}
use Rattle.serde_json.specs.Data.{items_depth, members_depth}
use Rattle.serde_json.specs.Read.{max_depth}
use Rattle.serde_json.specs.View.{items_of}
use Rattle.serde_json.specs.Written.{has_float, items_have_float, members_have_float}
use Rattle.xet_base.specs.declared.mdb_shard.Xorb.{Xorb}
use Rattle.xet_base.specs.declared.stored.StoredFile.{StoredFile}
use Rattle.xet_base.specs.declared.stored.StoredTerm.{StoredTerm}
use Rattle.xet_base.specs.Store.{Store}
use Rattle.xet_compact.specs.Documents.{chunk_items, digits, document_data, file_members, term_data, term_items, xorb_members}

-- ---- items as lists

pub chunk_items-map : (cs : List (List ℕ)) → items_of (map digits cs) ≡ chunk_items cs
chunk_items-map [] = refl
chunk_items-map (c ∷ cs) = ap (λ (r : Items). item (digits c) r) (chunk_items-map cs)

pub term_items-map : (ts : List StoredTerm) → items_of (map term_data ts) ≡ term_items ts
term_items-map [] = refl
term_items-map (t ∷ ts) = ap (λ (r : Items). item (term_data t) r) (term_items-map ts)

-- ---- no float

float-put : (k : List ℕ) (d : Data) (ms : Members) → has_float d ≡ false → members_have_float ms ≡ false
    → members_have_float (put k d ms) ≡ false
float-put k d no_members a b = or_from (has_float d) false a refl
float-put k d (member l e ms) a b =
    go (slice_cmp nat_cmp k l) (float-put k d ms a (rest (has_float e) (members_have_float ms) b))
  where
    first : (x y : Bool) → (x || y) ≡ false → x ≡ false
    first false y h = refl
    first true y h = h

    rest : (x y : Bool) → (x || y) ≡ false → y ≡ false
    rest false y h = h
    rest true y h = let clash : true ≡ false = h in cc

    go : (o : Ordering) → members_have_float (put k d ms) ≡ false
        → members_have_float (match_ordering o (member k d (member l e ms)) (member l d ms) (member l e (put k d ms))) ≡ false
    go Less h = or_from (has_float d) (has_float e || members_have_float ms) a b
    go Equal h = or_from (has_float d) (members_have_float ms) a (rest (has_float e) (members_have_float ms) b)
    go Greater h = or_from (has_float e) (members_have_float (put k d ms)) (first (has_float e) (members_have_float ms) b) h

float-chunks : (cs : List (List ℕ)) → items_have_float (chunk_items cs) ≡ false
float-chunks [] = refl
float-chunks (c ∷ cs) = float-chunks cs

float-terms : (ts : List StoredTerm) → items_have_float (term_items ts) ≡ false
float-terms [] = refl
float-terms (t ∷ ts) = float-terms ts

float-xorbs : (xs : List Xorb) → members_have_float (xorb_members xs) ≡ false
float-xorbs [] = refl
float-xorbs (x ∷ xs) =
    float-put (encode_lower x.hash.0) (array (chunk_items x.chunks)) (xorb_members xs) (float-chunks x.chunks) (float-xorbs xs)

float-files : (fs : List StoredFile) → members_have_float (file_members fs) ≡ false
float-files [] = refl
float-files (f ∷ fs) =
    float-put (encode_lower f.hash.0) (array (term_items f.terms)) (file_members fs) (float-terms f.terms) (float-files fs)

pub document_no_float : (s : Store) → has_float (document_data s) ≡ false
document_no_float s =
    float-put (codes "files") (object (file_members s.files)) (put (codes "xorbs") (object (xorb_members s.xorbs)) no_members)
    (float-files s.files) (float-put (codes "xorbs") (object (xorb_members s.xorbs)) no_members (float-xorbs s.xorbs) refl)

-- ---- how deep

depth-put : (k : List ℕ) (d : Data) (ms : Members) (n : ℕ) → depth d ≤ n → members_depth ms ≤ n
    → members_depth (put k d ms) ≤ n
depth-put k d no_members n a b = omega arith
depth-put k d (member l e ms) n a b = go (slice_cmp nat_cmp k l) (depth-put k d ms n a (omega arith))
  where
    go : (o : Ordering) → members_depth (put k d ms) ≤ n
        → members_depth (match_ordering o (member k d (member l e ms)) (member l d ms) (member l e (put k d ms))) ≤ n
    go Less h = omega (arith, a, b)
    go Equal h = omega (arith, a, b)
    go Greater h = omega (arith, a, b, h)

depth-chunks : (cs : List (List ℕ)) → items_depth (chunk_items cs) ≤ 0
depth-chunks [] = omega arith
depth-chunks (c ∷ cs) = let rest = depth-chunks cs in omega (arith, rest)

depth-terms : (ts : List StoredTerm) → items_depth (term_items ts) ≤ 1
depth-terms [] = omega arith
depth-terms (t ∷ ts) = let rest = depth-terms ts in omega (arith, rest)

depth-xorbs : (xs : List Xorb) → members_depth (xorb_members xs) ≤ 2
depth-xorbs [] = omega arith
depth-xorbs (x ∷ xs) =
    let flat = depth-chunks x.chunks in
    depth-put (encode_lower x.hash.0) (array (chunk_items x.chunks)) (xorb_members xs) 2 (omega (arith, flat)) (depth-xorbs xs)

depth-files : (fs : List StoredFile) → members_depth (file_members fs) ≤ 2
depth-files [] = omega arith
depth-files (f ∷ fs) =
    let flat = depth-terms f.terms in
    depth-put (encode_lower f.hash.0) (array (term_items f.terms)) (file_members fs) 2 (omega (arith, flat)) (depth-files fs)

pub document_depth : (s : Store) → depth (document_data s) ≤ max_depth
document_depth s =
    let xs = depth-xorbs s.xorbs in
    let fs = depth-files s.files in
    let inner = depth-put (codes "xorbs") (object (xorb_members s.xorbs)) no_members 3 (omega (arith, xs)) (omega arith) in
    let all = depth-put (codes "files") (object (file_members s.files)) (put (codes "xorbs") (object
    (xorb_members s.xorbs)) no_members) 3 (omega (arith, fs)) inner in
    omega (arith, all)
