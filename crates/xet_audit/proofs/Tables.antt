-- Different hashes with their first places, and the xorbs that they are of.
use Rattle.std.proofs.Common.{◌≡◌, ℕ, zero, suc, ◌+◌, ◌<◌, ◌≤◌, Bool, true, false, cond, ◌||◌, List, [], ◌∷◌, ◌++◌, length, map, take, get_or, refl, sym, ◌∙◌, ap, arith, subst, Option, Some, None}
use Rattle.std.specs.Prelude.{AllPairs, MatchOption, find, is_some, option_map, position, slice_get, unwrap_or}
use Rattle.std.specs.List.{list_any, position_or_len}
use Rattle.std.proofs.lemmas.Bool.{false≢true, false_from_ne_true, le-ltb, lt-ltb, or_parts}
use Rattle.std.proofs.lemmas.List.{get_or-map, get_or_append_left, get_or_at, length-map, length-take-le, length_push, map-append, take_all}
use Rattle.std.proofs.lemmas.List.Folds.{list_any-append}
use Rattle.std.proofs.lemmas.List.Quantifiers.{all_pairs_push, position-Some}
use Rattle.std.proofs.lemmas.List.Sums.{position_or_len_is}
use Rattle.std.proofs.lemmas.Option.{get_or_from_slice_get, slice_get_within}
use Rattle.xet_base.specs.declared.mdb_shard.Xorb.{Xorb}
use Rattle.xet_base.specs.declared.merklehash.MerkleHash.{MerkleHash}
use Rattle.xet_base.specs.Hashes.{hash_eq}
use Rattle.xet_base.specs.Store.{Store, chunks_of, xorb_of}
use Rattle.xet_base.proofs.CallerLemmas.{hash_eq-true, place_none, position_no, position_some}
use Rattle.xet_audit.specs.declared.raw_store.RawFile.{RawFile}
use Rattle.xet_audit.specs.steps.Tables.{IsTable, place_of}
use Rattle.xet_audit.proofs.Lists.{next}

-- ---- places of elements

-- none passes where no place is found
pub any_at : {A : Type 0} (p : A → Bool) (xs : List A) (i : ℕ) (d : A) → list_any p xs ≡ false → i < length xs → p (get_or xs i d) ≡ false
any_at p [] i d h l = absurd (omega arith)
any_at p (x ∷ xs) zero d h l = (or_parts (p x) (list_any p xs) h).0
any_at p (x ∷ xs) (suc i) d h l = any_at p xs i d (or_parts (p x) (list_any p xs) h).1 (omega arith)

position_none : {A : Type 0} (p : A → Bool) (xs : List A) → list_any p xs ≡ false → position p xs ≡ None
position_none p xs h =
    let n = place_none p xs h in
    rw (le-ltb (position_or_len p xs) (length xs) (omega (arith, n))) refl

position_at : {A : Type 0} (p : A → Bool) (xs : List A) (i : ℕ) (x : A) → i < length xs → p (get_or xs i x) ≡ true
    → ((k : ℕ) → k < i → p (get_or xs k x) ≡ false) → position p xs ≡ Some i
position_at p xs i x within here before =
    let place : position_or_len p xs ≡ i = position_or_len_is p xs i x (omega (arith, within)) before (λ l. here) in
    rw (lt-ltb (position_or_len p xs) (length xs) (omega (arith, place, within))) (ap Some place)

module _ {A : Type 0} (p : A → Bool) (xs : List A) (x : A) where
  -- a place stays with one element more
  position_kept : (i : ℕ) → position p xs ≡ Some i → position p (xs ++ x ∷ []) ≡ Some i
  position_kept i h =
      let is = position-Some p xs i x h in
      position_at p (xs ++ x ∷ []) i x (omega (arith, is.0, length_push xs x))
      (ap p (get_or_append_left xs (x ∷ []) x i is.0) ∙ is.1)
      (λ k l. ap p (get_or_append_left xs (x ∷ []) x k (omega (arith, is.0))) ∙ is.2 k l)

  -- and where none was, there is that of the new one
  position_push : position p xs ≡ None → position p (xs ++ x ∷ []) ≡ cond (p x) (Some (length xs)) None
  position_push h = go (p x) refl
    where
      no : list_any p xs ≡ false
      no = position_no p xs h

      go : (b : Bool) → p x ≡ b → position p (xs ++ x ∷ []) ≡ cond b (Some (length xs)) None
      go true e =
          position_at p (xs ++ x ∷ []) (length xs) x (omega (arith, length_push xs x))
          (ap p (get_or_at xs x [] x (length xs) refl) ∙ e)
          (λ k l. ap p (get_or_append_left xs (x ∷ []) x k l) ∙ any_at p xs k x no l)
      go false e = position_none p (xs ++ x ∷ []) (list_any-append p xs (x ∷ []) ∙ rw (no, e) refl)

-- ---- tables

-- a table of no hashes
pub no_table : (keys : List MerkleHash) (places : List ℕ) → keys ≡ [] → places ≡ [] → IsTable [] keys places
no_table keys places e f = rw (e, f) (record { apart = λ i j d l within. absurd (omega (arith, within)); count = refl; found = λ h. refl })

module _ (hs keys : List MerkleHash) (places : List ℕ) (x : MerkleHash) (t : IsTable hs keys places) where
  -- where a hash has no key, it is none of them
  no_key : (h : MerkleHash) → place_of keys h ≡ None → place_of hs h ≡ None
  no_key h e = sym (t.found h) ∙ ap (option_map (λ n. get_or places n 0)) e

  a_key : (h : MerkleHash) (i : ℕ) → place_of keys h ≡ Some i → place_of hs h ≡ Some (get_or places i 0)
  a_key h i e = sym (t.found h) ∙ ap (option_map (λ n. get_or places n 0)) e

  -- a hash that has a key
  pub table_found : (i : ℕ) → place_of keys x ≡ Some i → (list_any (λ y. hash_eq y x) hs ≡ true) × IsTable (hs ++ x ∷ []) keys places
  table_found i e = (
    (position_some (λ y. hash_eq y x) hs (get_or places i 0) (a_key x i e)).0,
    record { apart = t.apart; count = t.count; found = λ h. t.found h ∙ sym (same h (place_of hs h) refl) },
  )
    where
      other : (h : MerkleHash) → place_of hs h ≡ None → hash_eq x h ≡ false
      other h none = false_from_ne_true (hash_eq x h) (λ is.
          let here : place_of hs h ≡ Some (get_or places i 0) = ap (place_of hs) (sym (hash_eq-true x h is)) ∙ a_key x i e in
          cc)

      same : (h : MerkleHash) (o : Option ℕ) → place_of hs h ≡ o → place_of (hs ++ x ∷ []) h ≡ place_of hs h
      same h None f = position_push (λ y. hash_eq y h) hs x f ∙ rw (other h f) (sym f)
      same h (Some m) f = position_kept (λ y. hash_eq y h) hs x m f ∙ sym f

  -- one that has none
  pub table_new : (n : ℕ) → place_of keys x ≡ None → length hs ≡ n → (list_any (λ y. hash_eq y x) hs ≡ false) × IsTable (hs ++ x ∷ []) (keys ++ x ∷ []) (places ++ n ∷ [])
  table_new n none len = (
    position_no (λ y. hash_eq y x) hs (no_key x none),
    record {
      apart = all_pairs_push (λ a b. hash_eq a b ≡ false) keys x t.apart (λ k d l. any_at (λ y. hash_eq y x) keys k d (position_no (λ y. hash_eq y x) keys none) l);
      count = length_push places n ∙ ap (λ k. k + 1) t.count ∙ sym (length_push keys x);
      found = λ h. found h (place_of keys h) refl;
    },
  )
    where
      found : (h : MerkleHash) (o : Option ℕ) → place_of keys h ≡ o → option_map (λ k. get_or (places ++ n ∷ []) k 0) (place_of (keys ++ x ∷ []) h) ≡ place_of (hs ++ x ∷ []) h
      found h (Some j) e =
          let is = position-Some (λ y. hash_eq y h) keys j x e in
          ap (option_map (λ k. get_or (places ++ n ∷ []) k 0)) (position_kept (λ y. hash_eq y h) keys x j e)
          ∙ ap Some (get_or_append_left places (n ∷ []) 0 j (omega (arith, is.0, t.count)))
          ∙ sym (position_kept (λ y. hash_eq y h) hs x (get_or places j 0) (a_key h j e))
      found h None e =
          ap (option_map (λ k. get_or (places ++ n ∷ []) k 0)) (position_push (λ y. hash_eq y h) keys x e) ∙ by_test (hash_eq x h)
          ∙ sym (position_push (λ y. hash_eq y h) hs x (no_key h e))
        where
          by_test : (b : Bool) → option_map (λ k. get_or (places ++ n ∷ []) k 0) (cond b (Some (length keys)) None) ≡ cond b (Some (length hs)) None
          by_test true = ap Some (get_or_at places n [] 0 (length keys) t.count ∙ sym len)
          by_test false = refl

-- ---- look-ups

-- where a hash stands among different ones, there is its place
pub position_near : (hs : List MerkleHash) (i : ℕ) (x h : MerkleHash) → AllPairs (λ a b. hash_eq a b ≡ false) hs
    → slice_get hs i ≡ Some x → hash_eq x h ≡ true → place_of hs h ≡ Some i
position_near hs i x h differ at here =
    let within = slice_get_within hs i x at in
    let is : get_or hs i x ≡ x = get_or_from_slice_get hs i x x at in
    let same : x ≡ h = hash_eq-true x h here in
    position_at (λ y. hash_eq y h) hs i x within (ap (λ y. hash_eq y h) is ∙ here)
    (λ k l. ap (λ (y : MerkleHash). hash_eq (get_or hs k x) y) (sym same)
    ∙ ap (λ (y : MerkleHash). hash_eq (get_or hs k x) y) (sym is) ∙ differ k i x l within)

-- the first element that passes, by the place before which none does
pub find_first : {A : Type 0} (p : A → Bool) (xs : List A) (i : ℕ) (d : A) → i < length xs → p (get_or xs i d) ≡ true
    → ((k : ℕ) → k < i → p (get_or xs k d) ≡ false) → find p xs ≡ Some (get_or xs i d)
find_first p [] i d l h before = absurd (omega arith)
find_first p (x ∷ xs) zero d l h before = ap (λ (b : Bool). cond b (Some x) (find p xs)) h
find_first p (x ∷ xs) (suc i) d l h before =
    ap (λ (b : Bool). cond b (Some x) (find p xs)) (before 0 (omega arith))
    ∙ find_first p xs i d (omega arith) h (λ k b. before (suc k) (omega arith))

find_none : {A : Type 0} (p : A → Bool) (xs : List A) → list_any p xs ≡ false → find p xs ≡ None
find_none p [] h = refl
find_none p (x ∷ xs) h =
    let parts = or_parts (p x) (list_any p xs) h in
    ap (λ (b : Bool). cond b (Some x) (find p xs)) parts.0 ∙ find_none p xs parts.1

any_mapped : {A B : Type 0} (p : B → Bool) (f : A → B) (xs : List A) → list_any p (map f xs) ≡ list_any (λ x. p (f x)) xs
any_mapped p f [] = refl
any_mapped p f (x ∷ xs) = ap (λ b. p (f x) || b) (any_mapped p f xs)

abbrev pub hashes_of : List Xorb → List MerkleHash
hashes_of xs = map (λ x. x.hash) xs

-- the defaults of reads
abbrev pub no_xorb : Xorb
no_xorb = record { hash = record { 0 = [] }; chunks = [] }

abbrev pub no_file : RawFile
no_file = record { hash = record { 0 = [] }; terms = [] }

module _ (s : Store) (keys : List MerkleHash) (places : List ℕ) (t : IsTable (hashes_of s.xorbs) keys places) (h : MerkleHash) where
  -- a hash without a key is no xorb's
  pub no_xorb_of : place_of keys h ≡ None → xorb_of s h ≡ None
  no_xorb_of e =
      let none = no_key (hashes_of s.xorbs) keys places h t h e in
      find_none (λ x. hash_eq x.hash h) s.xorbs (sym (any_mapped (λ y. hash_eq y h) (λ x. x.hash) s.xorbs) ∙ position_no (λ y. hash_eq y h) (hashes_of s.xorbs) none)

  -- the first xorb with a hash stands at its key's place
  pub the_xorb_of : (n : ℕ) → place_of keys h ≡ Some n
      → (n < length places) × (get_or places n 0 < length s.xorbs) × ((d : Xorb) → xorb_of s h ≡ Some (get_or s.xorbs (get_or places n 0) d))
  the_xorb_of n e =
      let hs = hashes_of s.xorbs in
      let i = get_or places n 0 in
      let key = position-Some (λ y. hash_eq y h) keys n h e in
      let is = position-Some (λ y. hash_eq y h) hs i h (a_key hs keys places h t h n e) in
      let within : i < length s.xorbs = omega (arith, is.0, length-map s.xorbs (λ (x : Xorb). x.hash)) in (
        omega (arith, key.0, t.count),
        within,
        λ d. find_first (λ x. hash_eq x.hash h) s.xorbs i d within
            (ap (λ y. hash_eq y h) (sym (get_or-map (λ (x : Xorb). x.hash) s.xorbs i d h within)) ∙ is.1)
            (λ k l. ap (λ y. hash_eq y h) (sym (get_or-map (λ (x : Xorb). x.hash) s.xorbs k d h (omega (arith, within)))) ∙ is.2 k l),
      )

pub some_chunks_of : (s : Store) (h : MerkleHash) (x : Xorb) → xorb_of s h ≡ Some x → chunks_of s h ≡ x.chunks
some_chunks_of s h x e = ap (λ (o : Option Xorb). unwrap_or (option_map (λ (y : Xorb). y.chunks) o) []) e

-- ---- one hash more

pub added_found : (hs keys now : List MerkleHash) (places : List ℕ) (x : MerkleHash) (o : Option ℕ) → IsTable hs keys places → o ≡ place_of keys x
    → MatchOption o (now ≡ keys ++ x ∷ []) (λ n. now ≡ keys) → is_some o ≡ true → (true ≡ list_any (λ y. hash_eq y x) hs) × IsTable (hs ++ x ∷ []) now places
added_found hs keys now places x None t e list some = absurd (false≢true some)
added_found hs keys now places x (Some i) t e list some =
    let found = table_found hs keys places x t i (sym e) in
    (sym found.0, subst (λ (ks : List MerkleHash). IsTable (hs ++ x ∷ []) ks places) (sym list) found.1)

pub added_new : (hs keys now : List MerkleHash) (places more : List ℕ) (x : MerkleHash) (n : ℕ) (o : Option ℕ) → IsTable hs keys places → o ≡ place_of keys x
    → MatchOption o (now ≡ keys ++ x ∷ []) (λ m. now ≡ keys) → is_some o ≡ false → length hs ≡ n → more ≡ places ++ n ∷ []
    → (false ≡ list_any (λ y. hash_eq y x) hs) × IsTable (hs ++ x ∷ []) now more
added_new hs keys now places more x n None t e list none len push =
    let new = table_new hs keys places x t n (sym e) len in
    (sym new.0, subst (λ (ks : List MerkleHash). IsTable (hs ++ x ∷ []) ks more) (sym list) (subst (λ (ps : List ℕ). IsTable (hs ++ x ∷ []) (keys ++ x ∷ []) ps) (sym push) new.1))
added_new hs keys now places more x n (Some i) t e list none len push = absurd (false≢true (sym none))

-- one element more, by its hash
pub hashed_more : {A : Type 0} (hash : A → MerkleHash) (xs : List A) (i : ℕ) (x : A) (keys : List MerkleHash) (places : List ℕ) → i < length xs → x ≡ get_or xs i x
    → IsTable (map hash (take i xs) ++ hash x ∷ []) keys places → IsTable (map hash (take (i + 1) xs)) keys places
hashed_more {A} hash xs i x keys places h is t =
    subst (λ (hs : List MerkleHash). IsTable hs keys places) (sym (ap (map hash) (next xs i x h is) ∙ map-append hash (take i xs) (x ∷ []))) t

pub hashed_count : {A : Type 0} (hash : A → MerkleHash) (xs : List A) (i : ℕ) → i ≤ length xs → length (map hash (take i xs)) ≡ i
hashed_count hash xs i h = length-map (take i xs) hash ∙ length-take-le i xs h

pub hashed_all : {A : Type 0} (hash : A → MerkleHash) (xs : List A) (i : ℕ) (keys : List MerkleHash) (places : List ℕ) → length xs ≤ i
    → IsTable (map hash (take i xs)) keys places → IsTable (map hash xs) keys places
hashed_all {A} hash xs i keys places past t = subst (λ (ys : List A). IsTable (map hash ys) keys places) (take_all i xs past) t

-- whether an earlier element has the hash
pub any_earlier : {A : Type 0} (hash : A → MerkleHash) (xs : List A) (h : MerkleHash) → list_any (λ y. hash_eq y h) (map hash xs) ≡ list_any (λ y. hash_eq (hash y) h) xs
any_earlier hash xs h = any_mapped (λ y. hash_eq y h) hash xs
