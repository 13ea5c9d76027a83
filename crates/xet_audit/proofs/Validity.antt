-- A store without findings of kinds 1 to 7 is valid, and no other is.
use Rattle.std.proofs.Common.{◌≡◌, ℕ, zero, suc, ◌+◌, ◌<◌, ◌^◌, ◌==◌, Bool, true, false, cond, not, ◌&&◌, List, [], ◌∷◌, ◌++◌, length, map, take, get_or, refl, sym, ◌∙◌, ap, arith, subst, Option, Some, None, length-append}
use Rattle.std.specs.Prelude.{AllPairs, IsFalse, filter, is_none, is_some, nat_le, nat_lt, option_map, unwrap_or}
use Rattle.std.specs.List.{concat, enumerate_from, flat_map, list_any, sum_by}
use Rattle.std.proofs.lemmas.Bool.{eqb-false, eqb-true, false≢true, false_from_ne_true, le-leb, leb-false, leb-true, lt-leb, lt-ltb, ltb-true, or_parts}
use Rattle.std.proofs.lemmas.List.{get_or-take, get_or_default, length-take-le}
use Rattle.std.proofs.lemmas.List.Folds.{concat-append, list_any_none}
use Rattle.std.proofs.lemmas.List.FromFn.{get_or-enumerate_from, length-enumerate_from}
use Rattle.std.proofs.lemmas.List.Sums.{list_all-from_AllPass, sum_by-cons}
use Rattle.xet_base.specs.declared.mdb_shard.Xorb.{Xorb}
use Rattle.xet_base.specs.declared.merklehash.MerkleHash.{MerkleHash}
use Rattle.xet_base.specs.declared.stored.StoredFile.{StoredFile}
use Rattle.xet_base.specs.declared.stored.StoredTerm.{StoredTerm}
use Rattle.xet_base.specs.Hashes.{hash_eq}
use Rattle.xet_base.specs.Store.{IsTermIn, IsValid, IsValidXorb, Store, bytes_of, chunks_of, chunks_of_term, file_of, xorb_of}
use Rattle.xet_base.proofs.CallerLemmas.{hash_eq-own}
use Rattle.xet_store.specs.Refusals.{is_term_in, term_length}
use Rattle.xet_findings.specs.declared.finding.Finding.{Finding}
use Rattle.xet_audit.specs.Findings.{each_at, each_part, each_within, faults, finding, is_later_file, is_later_xorb, is_outside, is_too_large, is_too_long, resolves}
use Rattle.xet_audit.proofs.Tables.{any_at, find_first}

-- ---- lists without elements

parts_nil : {A : Type 0} (xs ys : List A) → xs ++ ys ≡ [] → (xs ≡ []) × (ys ≡ [])
parts_nil [] ys e = (refl, e)
parts_nil (x ∷ xs) ys e = absurd cc

map_nil : {A B : Type 0} (f : A → B) (xs : List A) → map f xs ≡ [] → xs ≡ []
map_nil f [] e = refl
map_nil f (x ∷ xs) e = absurd cc

filter_nil : {A : Type 0} (p : A → Bool) (xs : List A) → filter p xs ≡ [] → (k : ℕ) (d : A) → k < length xs → p (get_or xs k d) ≡ false
filter_nil p [] e k d l = absurd (omega arith)
filter_nil {A} p (x ∷ xs) e k d l = go (p x) refl e (λ f j m. filter_nil p xs f j d m) k l
  where
    go : (b : Bool) → p x ≡ b → cond b (x ∷ filter p xs) (filter p xs) ≡ [] → (filter p xs ≡ [] → (j : ℕ) → j < length xs → p (get_or xs j d) ≡ false)
        → (k : ℕ) → k < suc (length xs) → p (get_or (x ∷ xs) k d) ≡ false
    go true f g again k l = absurd cc
    go false f g again zero l = f
    go false f g again (suc k) l = again g k (omega arith)

flat_nil : {A B : Type 0} (f : A → List B) (xs : List A) → flat_map f xs ≡ [] → (k : ℕ) (d : A) → k < length xs → f (get_or xs k d) ≡ []
flat_nil f [] e k d l = absurd (omega arith)
flat_nil f (x ∷ xs) e zero d l = (parts_nil (f x) (flat_map f xs) e).0
flat_nil f (x ∷ xs) e (suc k) d l = flat_nil f xs (parts_nil (f x) (flat_map f xs) e).1 k d (omega arith)

-- ---- no findings of a kind

numbered : {A : Type 0} (xs : List A) (k : ℕ) (d : A) → k < length xs → get_or (enumerate_from 0 xs) k (0, d) ≡ (k, get_or xs k d)
numbered {A} xs k d l =
    get_or-enumerate_from 0 xs k (0, d) l ∙ (let zero_add : 0 + k ≡ k = omega arith in ap (λ (n : ℕ). let p : ℕ × A = (n, get_or xs k d) in p) zero_add)

at_none : {A : Type 0} (kind : ℕ) (test : ℕ → A → Bool) (xs : List A) → each_at kind test xs ≡ [] → (k : ℕ) (d : A) → k < length xs → test k (get_or xs k d) ≡ false
at_none {A} kind test xs e k d l =
    let none = filter_nil (λ (p : ℕ × A). test p.0 p.1) (enumerate_from 0 xs) (map_nil (λ (p : ℕ × A). finding kind p.0 0) _ e) k (0, d) (omega (arith, length-enumerate_from 0 xs)) in
    ap (λ (p : ℕ × A). test p.0 p.1) (sym (numbered xs k d l)) ∙ none

part_none : {B : Type 0} (kind : ℕ) (test : B → Bool) (a : ℕ) (ys : List B) → each_part kind test a ys ≡ [] → (k : ℕ) (d : B) → k < length ys → test (get_or ys k d) ≡ false
part_none {B} kind test a ys e k d l =
    let none = filter_nil (λ (p : ℕ × B). test p.1) (enumerate_from 0 ys) (map_nil (λ (p : ℕ × B). finding kind a p.0) _ e) k (0, d) (omega (arith, length-enumerate_from 0 ys)) in
    ap (λ (p : ℕ × B). test p.1) (sym (numbered ys k d l)) ∙ none

within_none : {A B : Type 0} (kind : ℕ) (parts : A → List B) (test : B → Bool) (xs : List A) → each_within kind parts test xs ≡ []
    → (k : ℕ) (d : A) → k < length xs → (j : ℕ) (e : B) → j < length (parts (get_or xs k d)) → test (get_or (parts (get_or xs k d)) j e) ≡ false
within_none {A} kind parts test xs none k d l =
    let own = flat_nil (λ (p : ℕ × A). each_part kind test p.0 (parts p.1)) (enumerate_from 0 xs) none k (0, d) (omega (arith, length-enumerate_from 0 xs)) in
    part_none kind test k (parts (get_or xs k d)) (ap (λ (p : ℕ × A). each_part kind test p.0 (parts p.1)) (sym (numbered xs k d l)) ∙ own)

-- ---- and the other way round

all_fail : {A : Type 0} (test : ℕ → A → Bool) (n : ℕ) (xs : List A) → ((k m : ℕ) (d : A) → n + k ≡ m → k < length xs → test m (get_or xs k d) ≡ false)
    → filter (λ (p : ℕ × A). test p.0 p.1) (enumerate_from n xs) ≡ []
all_fail test n [] f = refl
all_fail {A} test n (x ∷ xs) f =
    ap (λ (b : Bool). cond b ((n, x) ∷ filter (λ (p : ℕ × A). test p.0 p.1) (enumerate_from (n + 1) xs)) (filter (λ (p : ℕ × A). test p.0 p.1) (enumerate_from (n + 1) xs)))
    (f 0 n x (omega arith) (omega arith))
    ∙ all_fail test (n + 1) xs (λ k m d e l. f (suc k) m d (omega arith) (omega arith))

none_at : {A : Type 0} (kind : ℕ) (test : ℕ → A → Bool) (xs : List A) → ((k : ℕ) (d : A) → k < length xs → test k (get_or xs k d) ≡ false) → each_at kind test xs ≡ []
none_at {A} kind test xs f =
    ap (map (λ (p : ℕ × A). finding kind p.0 0)) (all_fail test 0 xs (λ k m d e l. subst (λ (n : ℕ). test n (get_or xs k d) ≡ false) (let same : k ≡ m = omega arith in same) (f k d l)))

none_part : {B : Type 0} (kind : ℕ) (test : B → Bool) (a : ℕ) (ys : List B) → ((k : ℕ) (d : B) → k < length ys → test (get_or ys k d) ≡ false) → each_part kind test a ys ≡ []
none_part {B} kind test a ys f = ap (map (λ (p : ℕ × B). finding kind a p.0)) (all_fail (λ n y. test y) 0 ys (λ k m d e l. f k d l))

none_within_from : {A B : Type 0} (kind : ℕ) (parts : A → List B) (test : B → Bool) (n : ℕ) (xs : List A)
    → ((k : ℕ) (d : A) → k < length xs → (j : ℕ) (e : B) → j < length (parts (get_or xs k d)) → test (get_or (parts (get_or xs k d)) j e) ≡ false)
    → flat_map (λ (p : ℕ × A). each_part kind test p.0 (parts p.1)) (enumerate_from n xs) ≡ []
none_within_from kind parts test n [] f = refl
none_within_from {A} kind parts test n (x ∷ xs) f =
    ap (λ (fs : List Finding). fs ++ flat_map (λ (p : ℕ × A). each_part kind test p.0 (parts p.1)) (enumerate_from (n + 1) xs)) (none_part kind test n (parts x) (f 0 x (omega arith)))
    ∙ none_within_from kind parts test (n + 1) xs (λ k d l. f (suc k) d (omega arith))

-- ---- the store

and_parts : (a b : Bool) → (a && b) ≡ true → (a ≡ true) × (b ≡ true)
and_parts true b h = (refl, h)
and_parts false b h = absurd (false≢true h)

both : (a b : Bool) → a ≡ true → b ≡ true → (a && b) ≡ true
both true b e f = f
both false b e f = absurd (false≢true e)

-- terms are tested as they are said to be
in_from_test : (s : Store) (t : StoredTerm) → is_term_in s t ≡ true → IsTermIn s t
in_from_test s t h =
    let last = and_parts (nat_lt t.from t.to && is_some (xorb_of s t.xorb)) (nat_le t.to (length (chunks_of s t.xorb))) h in
    let first = and_parts (nat_lt t.from t.to) (is_some (xorb_of s t.xorb)) last.0 in
    record { some = ltb-true t.from t.to first.0; stored = first.1; inside = leb-true t.to (length (chunks_of s t.xorb)) last.1 }

test_from_in : (s : Store) (t : StoredTerm) → IsTermIn s t → is_term_in s t ≡ true
test_from_in s t i =
    both (nat_lt t.from t.to && is_some (xorb_of s t.xorb)) (nat_le t.to (length (chunks_of s t.xorb)))
    (both (nat_lt t.from t.to) (is_some (xorb_of s t.xorb)) (lt-ltb t.from t.to i.some) i.stored) (le-leb t.to (length (chunks_of s t.xorb)) i.inside)

-- the lengths of terms add up to that of their bytes
terms_length : (s : Store) (ts : List StoredTerm) → length (concat (flat_map (chunks_of_term s) ts)) ≡ sum_by (term_length s) ts
terms_length s [] = refl
terms_length s (t ∷ ts) =
    let here = chunks_of_term s t in
    let rest = flat_map (chunks_of_term s) ts in
    omega (arith, ap length (concat-append here rest), length-append (concat here) (concat rest), terms_length s ts, sum_by-cons (term_length s) t ts)

-- the first file of a hash, where no earlier one has it
own_bytes : (s : Store) (k : ℕ) (d : StoredFile) → k < length s.files → is_later_file s k (get_or s.files k d) ≡ false
    → bytes_of s (get_or s.files k d).hash ≡ concat (flat_map (chunks_of_term s) (get_or s.files k d).terms)
own_bytes s k d l first =
    let f = get_or s.files k d in
    let found : file_of s f.hash ≡ Some f = find_first (λ g. hash_eq g.hash f.hash) s.files k d l (hash_eq-own f.hash)
    (λ j b. ap (λ (g : StoredFile). hash_eq g.hash f.hash) (sym (get_or-take k s.files j d b)) ∙ any_at (λ g. hash_eq g.hash f.hash) (take k s.files) j d first
    (omega (arith, length-take-le k s.files (omega (arith, l))))) in
    ap (λ (o : Option StoredFile). concat (flat_map (chunks_of_term s) (unwrap_or (option_map (λ (g : StoredFile). g.terms) o) []))) found

-- hashes differ where none is a later one
apart_from : {A : Type 0} (hash : A → MerkleHash) (xs : List A)
    → ((k : ℕ) (d : A) → k < length xs → list_any (λ y. hash_eq (hash y) (hash (get_or xs k d))) (take k xs) ≡ false) → AllPairs (λ a b. IsFalse (hash_eq (hash a) (hash b))) xs
apart_from hash xs f i j d b l =
    ap (λ y. hash_eq (hash y) (hash (get_or xs j d))) (sym (get_or-take j xs i d b))
    ∙ any_at (λ y. hash_eq (hash y) (hash (get_or xs j d))) (take j xs) i d (f j d l) (omega (arith, length-take-le j xs (omega (arith, l))))

later_from : {A : Type 0} (hash : A → MerkleHash) (xs : List A) → AllPairs (λ a b. IsFalse (hash_eq (hash a) (hash b))) xs
    → (k : ℕ) (d : A) → k < length xs → list_any (λ y. hash_eq (hash y) (hash (get_or xs k d))) (take k xs) ≡ false
later_from hash xs differ k d l =
    list_any_none (λ y. hash_eq (hash y) (hash (get_or xs k d))) (take k xs)
    (λ j e b.
    let inside : j < k = omega (arith, b, length-take-le k xs (omega (arith, l))) in
    ap (λ y. hash_eq (hash y) (hash (get_or xs k d))) (get_or-take k xs j e inside ∙ get_or_default xs j e d (omega (arith, inside, l))) ∙ differ j k d inside l)

-- seven lists that join to none
seven_nil : {A : Type 0} (a b c d e f g : List A) → a ++ b ++ c ++ d ++ e ++ f ++ g ≡ []
    → (a ≡ []) × (b ≡ []) × (c ≡ []) × (d ≡ []) × (e ≡ []) × (f ≡ []) × (g ≡ [])
seven_nil a b c d e f g h =
    let n6 = parts_nil (a ++ b ++ c ++ d ++ e ++ f) g h in
    let n5 = parts_nil (a ++ b ++ c ++ d ++ e) f n6.0 in
    let n4 = parts_nil (a ++ b ++ c ++ d) e n5.0 in
    let n3 = parts_nil (a ++ b ++ c) d n4.0 in
    let n2 = parts_nil (a ++ b) c n3.0 in
    let n1 = parts_nil a b n2.0 in
    (n1.0, n1.1, n2.1, n3.1, n4.1, n5.1, n6.1)

seven_none : {A : Type 0} (a b c d e f g : List A) → a ≡ [] → b ≡ [] → c ≡ [] → d ≡ [] → e ≡ [] → f ≡ [] → g ≡ [] → a ++ b ++ c ++ d ++ e ++ f ++ g ≡ []
seven_none a b c d e f g ha hb hc hd he hf hg = rw (ha, hb, hc, hd, he, hf, hg) refl

abbrev kind1 : Store → List Finding
kind1 s = each_at 1 (is_later_xorb s) s.xorbs

abbrev kind2 : Store → List Finding
kind2 s = each_within 2 (λ x. x.chunks) (λ c. length c == 0) s.xorbs

abbrev kind3 : Store → List Finding
kind3 s = each_at 3 (λ i x. is_too_large x) s.xorbs

abbrev kind4 : Store → List Finding
kind4 s = each_at 4 (is_later_file s) s.files

abbrev kind5 : Store → List Finding
kind5 s = each_within 5 (λ f. f.terms) (λ t. is_none (xorb_of s t.xorb)) s.files

abbrev kind6 : Store → List Finding
kind6 s = each_within 6 (λ f. f.terms) (is_outside s) s.files

abbrev kind7 : Store → List Finding
kind7 s = each_at 7 (λ i f. is_too_long s f) s.files

-- ---- no findings: valid

-- a term that is neither of no xorb nor outside it names chunks
inside_from : (s : Store) (t : StoredTerm) → is_none (xorb_of s t.xorb) ≡ false → is_outside s t ≡ false → is_term_in s t ≡ true
inside_from s t some within = go (xorb_of s t.xorb) (is_term_in s t) some within
  where
    go : (o : Option Xorb) (b : Bool) → is_none o ≡ false → (is_some o && not b) ≡ false → b ≡ true
    go None b e f = absurd (false≢true (sym e))
    go (Some x) true e f = refl
    go (Some x) false e f = absurd (false≢true (sym f))

module _ (s : Store) (none : faults s ≡ []) where
  parts : (kind1 s ≡ []) × (kind2 s ≡ []) × (kind3 s ≡ []) × (kind4 s ≡ []) × (kind5 s ≡ []) × (kind6 s ≡ []) × (kind7 s ≡ [])
  parts = seven_nil (kind1 s) (kind2 s) (kind3 s) (kind4 s) (kind5 s) (kind6 s) (kind7 s) none

  terms_in : (k : ℕ) (d : StoredFile) → k < length s.files → (j : ℕ) (e : StoredTerm) → j < length (get_or s.files k d).terms
      → is_term_in s (get_or (get_or s.files k d).terms j e) ≡ true
  terms_in k d l j e m =
      inside_from s (get_or (get_or s.files k d).terms j e)
      (within_none 5 (λ (f : StoredFile). f.terms) (λ t. is_none (xorb_of s t.xorb)) s.files parts.4 k d l j e m)
      (within_none 6 (λ (f : StoredFile). f.terms) (is_outside s) s.files parts.5 k d l j e m)

  xorb_good : (k : ℕ) (d : Xorb) → k < length s.xorbs → IsValidXorb (get_or s.xorbs k d)
  xorb_good k d l =
      let x = get_or s.xorbs k d in
      let small = or_parts (nat_le (2 ^ 32) (length x.chunks)) (nat_le (2 ^ 32) (length (concat x.chunks))) (at_none 3 (λ i y. is_too_large y) s.xorbs parts.2 k d l) in
      record {
        nonempty = λ j e m.
            let n = eqb-false (length (get_or x.chunks j e)) 0 (within_none 2 (λ (y : Xorb). y.chunks) (λ c. length c == 0) s.xorbs parts.1 k d l j e m) in
            omega (arith, n);
        chunk_count = leb-false (2 ^ 32) (length x.chunks) small.0;
        byte_count = leb-false (2 ^ 32) (length (concat x.chunks)) small.1;
      }

  file_short : (k : ℕ) (d : StoredFile) → k < length s.files → length (bytes_of s (get_or s.files k d).hash) < 2 ^ 64
  file_short k d l =
      let f = get_or s.files k d in
      let all : resolves s f ≡ true = list_all-from_AllPass (is_term_in s) f.terms (λ j e m. terms_in k d l j e m) in
      let long : is_too_long s f ≡ false = at_none 7 (λ i g. is_too_long s g) s.files parts.6 k d l in
      let short : nat_le (2 ^ 64) (sum_by (term_length s) f.terms) ≡ false = rw all at long in
      omega (
        arith,
        leb-false (2 ^ 64) (sum_by (term_length s) f.terms) short,
        terms_length s f.terms,
        ap length (own_bytes s k d l (at_none 4 (is_later_file s) s.files parts.3 k d l)),
      )

  pub faultless_valid : IsValid s
  faultless_valid = record {
    xorbs_differ = apart_from (λ (x : Xorb). x.hash) s.xorbs (λ k d l. at_none 1 (is_later_xorb s) s.xorbs parts.0 k d l);
    files_differ = apart_from (λ (f : StoredFile). f.hash) s.files (λ k d l. at_none 4 (is_later_file s) s.files parts.3 k d l);
    xorbs = λ k d l. xorb_good k d l;
    terms = λ k d l. λ j e m. in_from_test s (get_or (get_or s.files k d).terms j e) (terms_in k d l j e m);
    lengths = λ k d l. file_short k d l;
  }

-- ---- valid: no findings

not_zero : (n : ℕ) → 0 < n → (n == 0) ≡ false
not_zero n h = false_from_ne_true (n == 0) (λ e. absurd (omega (arith, h, eqb-true n 0 e)))

some_is : {A : Type 0} (o : Option A) → is_some o ≡ true → is_none o ≡ false
some_is None e = absurd (false≢true e)
some_is (Some x) e = refl

not_outside : (s : Store) (t : StoredTerm) → is_term_in s t ≡ true → is_outside s t ≡ false
not_outside s t h = ap (λ (b : Bool). is_some (xorb_of s t.xorb) && not b) h ∙ never (is_some (xorb_of s t.xorb))
  where
    never : (b : Bool) → (b && false) ≡ false
    never true = refl
    never false = refl

module _ (s : Store) (v : IsValid s) where
  in_test : (k : ℕ) (d : StoredFile) → k < length s.files → (j : ℕ) (e : StoredTerm) → j < length (get_or s.files k d).terms
      → is_term_in s (get_or (get_or s.files k d).terms j e) ≡ true
  in_test k d l j e m = test_from_in s (get_or (get_or s.files k d).terms j e) (v.terms k d l j e m)

  not_later : (k : ℕ) (d : StoredFile) → k < length s.files → is_later_file s k (get_or s.files k d) ≡ false
  not_later k d l = later_from (λ (f : StoredFile). f.hash) s.files v.files_differ k d l

  not_long : (k : ℕ) (d : StoredFile) → k < length s.files → is_too_long s (get_or s.files k d) ≡ false
  not_long k d l =
      let f = get_or s.files k d in
      let short : nat_le (2 ^ 64) (sum_by (term_length s) f.terms) ≡ false = lt-leb (2 ^ 64) (sum_by (term_length s) f.terms)
      (omega (arith, v.lengths k d l, terms_length s f.terms, ap length (own_bytes s k d l (not_later k d l)))) in
      ap (λ (b : Bool). resolves s f && b) short ∙ never (resolves s f)
    where
      never : (b : Bool) → (b && false) ≡ false
      never true = refl
      never false = refl

  not_large : (k : ℕ) (d : Xorb) → k < length s.xorbs → is_too_large (get_or s.xorbs k d) ≡ false
  not_large k d l =
      let x = get_or s.xorbs k d in
      let good = v.xorbs k d l in
      rw (lt-leb (2 ^ 32) (length x.chunks) good.chunk_count, lt-leb (2 ^ 32) (length (concat x.chunks)) good.byte_count) refl

  pub valid_faultless : faults s ≡ []
  valid_faultless = seven_none (kind1 s) (kind2 s) (kind3 s) (kind4 s) (kind5 s) (kind6 s) (kind7 s)
      (none_at 1 (is_later_xorb s) s.xorbs (λ k d l. later_from (λ (x : Xorb). x.hash) s.xorbs v.xorbs_differ k d l))
      (none_within_from 2 (λ (x : Xorb). x.chunks) (λ c. length c == 0) 0 s.xorbs (λ k d l j e m. not_zero _ ((v.xorbs k d l).nonempty j e m)))
      (none_at 3 (λ i x. is_too_large x) s.xorbs not_large)
      (none_at 4 (is_later_file s) s.files not_later)
      (none_within_from 5 (λ (f : StoredFile). f.terms) (λ t. is_none (xorb_of s t.xorb)) 0 s.files (λ k d l j e m. some_is _ (v.terms k d l j e m).stored))
      (none_within_from 6 (λ (f : StoredFile). f.terms) (is_outside s) 0 s.files (λ k d l j e m. not_outside s _ (in_test k d l j e m)))
      (none_at 7 (λ i f. is_too_long s f) s.files not_long)
