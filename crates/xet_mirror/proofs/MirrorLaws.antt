-- Laws of mirrored files.
use Rattle.std.proofs.Common.{◌≡◌, Bool, true, false, cond, not, ◌||◌, List, [], ◌∷◌, length, get_or, refl, sym, ◌∙◌, ap, subst}
use Rattle.std.specs.Prelude.{Option, Some, None, IsSome, ◌&&◌, find, filter, is_none, is_some, nat_lt, nat_le, option_map, slice_range, unwrap_or, All}
use Rattle.std.specs.List.{flat_map, list_any}
use Rattle.std.proofs.lemmas.Bool.{false≢true, true≢false, lt-ltb, le-leb}
use Rattle.std.proofs.lemmas.Option.{get_or_from_slice_get, slice_get_within}
use Rattle.std.proofs.lemmas.List.Elements.{All-contains, All-map}
use Rattle.xet_base.specs.declared.merklehash.MerkleHash.{MerkleHash}
use Rattle.xet_base.specs.declared.stored.StoredFile.{StoredFile}
use Rattle.xet_base.specs.declared.stored.StoredTerm.{StoredTerm}
use Rattle.xet_base.specs.Store.{IsTermIn, IsValid, Store, bytes_of, chunks_of, file_of, terms_of_file, xorb_of}
use Rattle.xet_store.specs.Refusals.{is_term_in}
use Rattle.xet_store.proofs.CallerLemmas.{found_terms}
use Rattle.xet_shelves.proofs.CallerLemmas.{after_finds_files, after_finds_xorbs}
use Rattle.xet_mirror.specs.Laws.{MirroredAgrees, MirroredGives, NoneBad, NoneMissing}
use Rattle.xet_base.specs.declared.mdb_shard.MDBFileInfo.{MDBFileInfo}
use Rattle.xet_base.specs.declared.mdb_shard.Xorb.{Xorb}
use Rattle.xet_base.specs.Hashes.{hash_eq}
use Rattle.xet_base.specs.Lists.{firsts}
use Rattle.xet_base.proofs.CallerLemmas.{hash_eq-true}
use Rattle.xet_uploader.specs.StoresAfter.{file_of_record, files_in}
use Rattle.xet_uploader.specs.Uploads.{xorbs_in}
use Rattle.xet_uploader.specs.declared.uploader.Put.{Put}
use Rattle.xet_shelves.specs.After.{Agree, after}
use Rattle.xet_mirror_parts.specs.Copying.{IsSentFrom}
use Rattle.xet_mirror_parts.proofs.CallerLemmas.{any-map, any_contained, found_all, found_passes, is_some-found}
use Rattle.xet_mirror.specs.Mirrored.{copied_files, named_xorbs, names_of_file}
use Rattle.xet_mirror.proofs.Finals.{bytes-kept, or-left, or-right}
use Rattle.std.proofs.lemmas.Option.{same_Some}
use Rattle.std.proofs.lemmas.List.Elements.{All-append, All-cons, All-filter, All-head, All-nil, All-tail}

-- ---- elements

all-firsts : (P : MerkleHash → Type 0) (hs : List MerkleHash) → All P hs → All P (firsts hash_eq hs)
all-firsts P [] a = All-nil P
all-firsts P (h ∷ hs) a =
    All-cons P h (filter (λ y. not (hash_eq h y)) (firsts hash_eq hs)) (All-head P h hs a)
    (All-filter (λ y. not (hash_eq h y)) P (firsts hash_eq hs) (all-firsts P hs (All-tail P h hs a)))

all-lists : {A : Type 0} (P : MerkleHash → Type 0) (f : A → List MerkleHash) → ((x : A) → All P (f x)) → (xs : List A) → All P (flat_map f xs)
all-lists P f each [] = All-nil P
all-lists P f each (x ∷ xs) = All-append P (f x) (flat_map f xs) (each x) (all-lists P f each xs)

-- what passes in a part passes in the whole
any-sub : (p t : MerkleHash → Bool) (hs : List MerkleHash) → list_any p (filter t hs) ≡ true → list_any p hs ≡ true
any-sub p t [] h = h
any-sub p t (x ∷ xs) h = go (p x) (t x) h (any-sub p t xs)
  where
    go : (b c : Bool) → list_any p (cond c (x ∷ filter t xs) (filter t xs)) ≡ true → (list_any p (filter t xs) ≡ true → list_any p xs ≡ true) → (p x || list_any p xs) ≡ true
    go b true h next = keep (p x) h
      where
        keep : (d : Bool) → (d || list_any p (filter t xs)) ≡ true → (d || list_any p xs) ≡ true
        keep true h = refl
        keep false h = next h
    go b false h next = late (p x)
      where
        late : (d : Bool) → (d || list_any p xs) ≡ true
        late true = refl
        late false = next h

any-firsts : (p : MerkleHash → Bool) (hs : List MerkleHash) → list_any p (firsts hash_eq hs) ≡ true → list_any p hs ≡ true
any-firsts p [] h = h
any-firsts p (x ∷ xs) h = go (p x) h (λ k. any-firsts p xs k)
  where
    go : (b : Bool) → (b || list_any p (filter (λ y. not (hash_eq x y)) (firsts hash_eq xs))) ≡ true → (list_any p (firsts hash_eq xs) ≡ true → list_any p xs ≡ true)
        → (b || list_any p xs) ≡ true
    go true h next = refl
    go false h next = next (any-sub p (λ y. not (hash_eq x y)) (firsts hash_eq xs) h)

-- ---- terms of a valid store

pub terms-all : (s : Store) → IsValid s → (f : MerkleHash) → All (IsTermIn s) (terms_of_file s f)
terms-all s v f = go (file_of s f) refl
  where
    go : (o : Option StoredFile) → file_of s f ≡ o → All (IsTermIn s) (unwrap_or (option_map (λ x. x.terms) o) [])
    go None e = All-nil (IsTermIn s)
    go (Some x) e = found_terms s v f x x.terms (sym e) refl

and-true : (a b : Bool) → a ≡ true → b ≡ true → (a && b) ≡ true
and-true true b h k = k
and-true false b h k = h

pub term-test : (s : Store) (t : StoredTerm) → IsTermIn s t → is_term_in s t ≡ true
term-test s t i =
    and-true (nat_lt t.from t.to && is_some (xorb_of s t.xorb)) (nat_le t.to (length (chunks_of s t.xorb)))
    (and-true (nat_lt t.from t.to) (is_some (xorb_of s t.xorb)) (lt-ltb t.from t.to i.some) i.stored) (le-leb t.to (length (chunks_of s t.xorb)) i.inside)

pub none-bad : NoneBad
none-bad s t files p e v bad =
    let ts = terms_of_file s bad.file in
    let at : get_or ts e bad.term ≡ bad.term = get_or_from_slice_get ts e bad.term bad.term bad.term_at in
    let within = slice_get_within ts e bad.term bad.term_at in
    let is : IsTermIn s bad.term = subst (IsTermIn s) at (terms-all s v bad.file e bad.term within) in
    false≢true (sym bad.outside ∙ term-test s bad.term is)

pub none-missing : NoneMissing
none-missing s t files x v missing =
    let P : MerkleHash → Type 0 = λ h. IsSome (xorb_of s h) in
    let each : (f : MerkleHash) → All P (names_of_file s f) = λ f. All-map P (λ (t : StoredTerm). t.xorb) (terms_of_file s f)
    (λ n d l. (terms-all s v f n d l).stored) in
    let all : All P (named_xorbs s (copied_files t files)) = all-firsts P (flat_map (names_of_file s) (copied_files t files)) (all-lists P (names_of_file s) each (copied_files t files)) in
    let some = All-contains P (named_xorbs s (copied_files t files)) x all missing.named in
    true≢false (sym some ∙ missing.missing.0)

-- ---- agreement

pub map-some : {A B : Type 0} (f : A → B) (o : Option A) → is_some (option_map f o) ≡ is_some o
map-some f None = refl
map-some f (Some x) = refl

-- a put xorb is the shelf's, and another the target's own
pub xorbs-agree : (s t : Store) (puts : List Put) → Agree s t → All (IsSentFrom s t) (xorbs_in puts)
    → (h : MerkleHash) (x y : Xorb) → xorb_of s h ≡ Some x → xorb_of (after t puts) h ≡ Some y → x.chunks ≡ y.chunks
xorbs-agree s t puts agree sent h x y a b = go (is_some (xorb_of t h)) refl
  where
    go : (c : Bool) → is_some (xorb_of t h) ≡ c → x.chunks ≡ y.chunks
    go true e = agree.xorbs h x y a (sym (or-left (xorb_of t h) (find (λ z. hash_eq z.hash h) (xorbs_in puts)) e) ∙ sym (after_finds_xorbs t puts h) ∙ b)
    go false e =
        let found : find (λ (z : Xorb). hash_eq z.hash h) (xorbs_in puts) ≡ Some y =
        sym (or-right (xorb_of t h) (find (λ z. hash_eq z.hash h) (xorbs_in puts)) e) ∙ sym (after_finds_xorbs t puts h) ∙ b in
        let own = found_all (IsSentFrom s t) (λ (z : Xorb). hash_eq z.hash h) (xorbs_in puts) y sent found in
        let hash = hash_eq-true y.hash h (found_passes (λ (z : Xorb). hash_eq z.hash h) (xorbs_in puts) y found) in
        ap (λ (z : Xorb). z.chunks) (same_Some x y (sym a ∙ ap (xorb_of s) (sym hash) ∙ own.stored))

pub mirrored-agrees : MirroredAgrees
mirrored-agrees s t files puts report from to agree sent done = record { xorbs = xorbs-agree s t puts agree sent; files = same }
  where
    same : (f : MerkleHash) → IsSome (file_of s f) → IsSome (file_of (after t puts) f) → bytes_of s f ≡ bytes_of (after t puts) f
    same f a b = go (is_some (file_of t f)) refl
      where
        records : Option MDBFileInfo
        records = find (λ r. hash_eq r.hash f) (files_in puts)

        go : (c : Bool) → is_some (file_of t f) ≡ c → bytes_of s f ≡ bytes_of (after t puts) f
        go true e = agree.files f a e ∙ sym (bytes-kept t puts to f e)
        go false e =
            let some : is_some (option_map file_of_record records) ≡ true =
            ap is_some (sym (or-right (file_of t f) (option_map file_of_record records) e) ∙ sym (after_finds_files t puts f)) ∙ b in
            let any : list_any (λ g. hash_eq g f) (copied_files t files) ≡ true =
            ap (list_any (λ g. hash_eq g f)) (sym done.recorded) ∙ any-map (λ g. hash_eq g f) (λ (r : MDBFileInfo). r.hash) (files_in puts)
            ∙ sym (is_some-found (λ r. hash_eq r.hash f) (files_in puts)) ∙ sym (map-some file_of_record records) ∙ some in
            let listed = any_contained files f (any-sub (λ g. hash_eq g f) (λ g. is_none (file_of t g)) files (any-firsts (λ g. hash_eq g f) (filter (λ g. is_none (file_of t g)) files) any)) in
            sym (All-contains (λ f. IsSome (file_of s f) → bytes_of (after t puts) f ≡ bytes_of s f) files f done.bytes listed a)

pub mirrored-gives : MirroredGives
mirrored-gives s t files puts report done r n d l some = ap (λ bs. slice_range bs r.start r.end) (done.bytes n d l some)
