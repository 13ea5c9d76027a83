-- What an index that remembers its last look answers.
use Rattle.std.proofs.Common.{◌≡◌, ◌⊎◌, ◌<◌, ◌≤◌, ℕ, Bool, true, false, cond, List, [], ◌∷◌, ◌++◌, refl, sym, subst, ◌∙◌, ap, get_or, inl, inr, length, map, arith}
use Rattle.std.specs.Prelude.{Option, Some, None, IfSome, not, position, slice_get}
use Rattle.std.specs.List.{position_or_len}
use Rattle.std.specs.declared.cmp.Ordering.{Ordering}
use Rattle.std.specs.declared.cmp.Ordering.TheVariants.{Less, Equal, Greater}
use Rattle.std.specs.Ordering.{is_eq, nat_cmp, ordering_then}
use Rattle.std.specs.Cmp.Lexicographic.{slice_cmp}
use Rattle.std.specs.Cmp.{IsTotalOrder}
use Rattle.std.specs.BTreeMap.{BTreeMap, get}
use Rattle.std.proofs.lemmas.Bool.{cases_lt, false≢true, lt-ltb}
use Rattle.std.proofs.lemmas.Bool.Decides.{nat_tests}
use Rattle.std.proofs.lemmas.Cmp.{alike_right, nat_cmp_total, tied_itself}
use Rattle.std.proofs.lemmas.List.{get_or-map, get_or_push, length-map, length_push}
use Rattle.std.proofs.Math.ListN.{get_or-append}
use Rattle.std.proofs.lemmas.Option.{get_or_from_slice_get, slice_get_within}
use Rattle.std.proofs.lemmas.List.Folds.{position_or_len_push}
use Rattle.std.proofs.lemmas.List.Sums.{prefix_len-le-length}
use Rattle.xet_base.specs.declared.merklehash.MerkleHash.{MerkleHash}
use Rattle.xet_base.specs.Hashes.{hash_eq}
use Rattle.xet_base.proofs.CallerLemmas.{hash_eq-true, place_within, position_some}
use Rattle.xet_progress_state.specs.declared.hash_key.HashKey.{HashKey}
use Rattle.xet_progress_state.specs.declared.recent.Recent.{Recent}
use Rattle.xet_progress_state.specs.steps.Indexes.{Indexes, first_at, number_at}
use Rattle.xet_progress_state.specs.steps.Keys.{key_cmp, key_of, last_word}
use Rattle.xet_progress_state.proofs.Indexed.{position-map}
use Rattle.xet_progress_state.proofs.Places.{position_push}
use Rattle.xet_progress_state.proofs.Unfinished.{hashes_tied}

-- one more element that does not pass changes nothing
position_apart : {A : Type 0} (p : A → Bool) (xs : List A) (x : A) → p x ≡ false → position p (xs ++ x ∷ []) ≡ position p xs
position_apart p xs x apart =
    let b = prefix_len-le-length (λ y. not (p y)) xs in
    let e = position_or_len_push p xs x in
    let l = length_push xs x in
    grind (arith, nat_tests)

-- a place that is found stays where one more element comes
position_stays : {A : Type 0} (p : A → Bool) (xs : List A) (x : A) (i : ℕ) → position p xs ≡ Some i → position p (xs ++ x ∷ []) ≡ Some i
position_stays p xs x i found =
    let b = prefix_len-le-length (λ y. not (p y)) xs in
    let e = position_or_len_push p xs x in
    let l = length_push xs x in
    let here = position_some p xs i found in
    let within = place_within p xs here.0 in
    let at : position_or_len p (xs ++ x ∷ []) ≡ i = grind (arith, nat_tests) in
    rw (lt-ltb (position_or_len p (xs ++ x ∷ [])) (length (xs ++ x ∷ [])) (omega (arith, at, within, here.1, l))) (ap Some at)

tied : (c : Ordering) → is_eq c ≡ true → c ≡ Equal
tied Less h = absurd (false≢true h)
tied Equal h = refl
tied Greater h = absurd (false≢true h)

module _ {K : Type 0} {R : K → K → Ordering} (o : IsTotalOrder R) where
  is_eq-same : (x y z : K) → is_eq (R x y) ≡ true → is_eq (R z x) ≡ is_eq (R z y)
  is_eq-same x y z h = ap is_eq (alike_right o x y z (tied (R x y) h))

  -- a look for one key is a look for an equal one
  pub same_look : (keys : List K) (x y : K) → is_eq (R x y) ≡ true → position (λ z. is_eq (R z x)) keys ≡ position (λ z. is_eq (R z y)) keys
  same_look keys x y h = λ i. position (λ z. is_eq-same x y z h i) keys

  -- what is remembered answers a look for an equal key
  pub remembered : (keys : List K) (r : Recent K) (last key : K) → Indexes R keys r → r.last ≡ Some last → is_eq (R last key) ≡ true → r.number ≡ position (λ z. is_eq (R z key)) keys
  remembered keys r last key ix e h = subst (λ (l : Option K). IfSome l (λ k. r.number ≡ position (λ y. is_eq (R y k)) keys)) e ix.remembered ∙ same_look keys last key h

  -- a look by the first key: it is the key, it is another, or there is none
  pub first_is : (keys : List K) (r : Recent K) (f key : K) → Indexes R keys r → r.first ≡ Some f → is_eq (R f key) ≡ true → Some 0 ≡ position (λ y. is_eq (R y key)) keys
  first_is keys r f key ix e h = sym (ap (λ (t : Option K). first_at R (get R r.numbers key) key t) e ∙ ap (λ t. cond t (Some 0) (get R r.numbers key)) h) ∙ ix.numbers key

  pub other_is : (keys : List K) (r : Recent K) (f key : K) → Indexes R keys r → r.first ≡ Some f → is_eq (R f key) ≡ false → get R r.numbers key ≡ position (λ y. is_eq (R y key)) keys
  other_is keys r f key ix e h = sym (ap (λ (t : Option K). first_at R (get R r.numbers key) key t) e ∙ ap (λ t. cond t (Some 0) (get R r.numbers key)) h) ∙ ix.numbers key

  pub none_is : (keys : List K) (r : Recent K) (key : K) → Indexes R keys r → r.first ≡ None → get R r.numbers key ≡ position (λ y. is_eq (R y key)) keys
  none_is keys r key ix e = sym (ap (λ (t : Option K). first_at R (get R r.numbers key) key t) e) ∙ ix.numbers key

  -- the number of a key in an index after one more key, given the first key
  grown_at : (first : Option K) (key q : K) (number : ℕ) (a b c : Option ℕ) → first_at R c key first ≡ None → a ≡ cond (is_eq (R key q)) (Some number) b
      → first_at R a q first ≡ cond (is_eq (R key q)) (Some number) (first_at R b q first)
  grown_at None key q number a b c absent e = e
  grown_at (Some f) key q number a b c absent e = go (is_eq (R f q)) refl (is_eq (R key q)) refl
    where
      go : (x : Bool) → is_eq (R f q) ≡ x → (y : Bool) → is_eq (R key q) ≡ y → cond x (Some 0) a ≡ cond y (Some number) (cond x (Some 0) b)
      go true m true n =
          let h : is_eq (R f key) ≡ true = is_eq-same key q f n ∙ m in
          let bad : ◌≡◌ {A = Option ℕ} (Some 0) None = sym (ap (λ t. cond t (Some 0) c) h) ∙ absent in
          absurd (cc)
      go true m false n = refl
      go false m true n = e ∙ ap (λ t. cond t (Some number) b) n
      go false m false n = e ∙ ap (λ t. cond t (Some number) b) n

  -- each key stands at its own number, also where one more comes that was not there
  own_pushed : (keys : List K) (r : Recent K) (key : K) → Indexes R keys r → position (λ y. is_eq (R y key)) keys ≡ None
      → (i : ℕ) (d : K) → i < length (keys ++ key ∷ []) → position (λ y. is_eq (R y (get_or (keys ++ key ∷ []) i d))) (keys ++ key ∷ []) ≡ Some i
  own_pushed keys r key ix none i d l = go (cases_lt i (length keys))
    where
      Q : K → Type 0
      Q k = position (λ y. is_eq (R y k)) (keys ++ key ∷ []) ≡ Some i

      go : (i < length keys) ⊎ (length keys ≤ i) → Q (get_or (keys ++ key ∷ []) i d)
      go (inl low) = subst Q (sym (get_or-append keys (key ∷ []) d i low)) (position_stays (λ y. is_eq (R y (get_or keys i d))) keys key i (ix.own i d low))
      go (inr high) =
          let last : length keys ≡ i = omega (arith, l, length_push keys key) in
          subst Q (sym (get_or_push keys key d i last)) (position_push (λ y. is_eq (R y key)) keys key none (ap is_eq (tied_itself o key)) ∙ ap Some last)

  pushed : (keys : List K) (r s : Recent K) (key : K) (number : ℕ) → Indexes R keys r → length keys ≡ number → position (λ y. is_eq (R y key)) keys ≡ None
      → ((q : K) → number_at R s q ≡ cond (is_eq (R key q)) (Some number) (number_at R r q)) → s.last ≡ Some key → s.number ≡ Some number → Indexes R (keys ++ key ∷ []) s
  pushed keys r s key number ix len none gets last num = record {
    numbers = λ q. gets q ∙ go q (is_eq (R key q)) refl;
    remembered = subst (λ (l : Option K). IfSome l (λ k. s.number ≡ position (λ y. is_eq (R y k)) (keys ++ key ∷ []))) (sym last)
        (num ∙ ap Some (sym len) ∙ sym (position_push (λ y. is_eq (R y key)) keys key none (ap is_eq (tied_itself o key))));
    own = own_pushed keys r key ix none;
  }
    where
      go : (q : K) (b : Bool) → is_eq (R key q) ≡ b → cond b (Some number) (number_at R r q) ≡ position (λ y. is_eq (R y q)) (keys ++ key ∷ [])
      go q true e = ap Some (sym len) ∙ sym (position_push (λ y. is_eq (R y q)) keys key (sym (same_look keys key q e) ∙ none) e)
      go q false e = ix.numbers q ∙ sym (position_apart (λ y. is_eq (R y q)) keys key e)

  -- the index after a key that was not there, which the map took
  pub indexes_push : (keys : List K) (r s : Recent K) (key : K) (number : ℕ) → Indexes R keys r → length keys ≡ number → position (λ y. is_eq (R y key)) keys ≡ None → s.first ≡ r.first
      → ((q : K) → get R s.numbers q ≡ cond (is_eq (R key q)) (Some number) (get R r.numbers q)) → s.last ≡ Some key → s.number ≡ Some number → Indexes R (keys ++ key ∷ []) s
  indexes_push keys r s key number ix len none first gets last num =
      pushed keys r s key number ix len none
      (λ q. ap (λ (t : Option K). first_at R (get R s.numbers q) q t) first ∙ grown_at r.first key q number (get R s.numbers q) (get R r.numbers q) (get R r.numbers key) (ix.numbers key ∙ none) (gets q))
      last num

  -- an index of no keys has nothing beside its map, nor in it
  bare : (first : Option K) (r : Recent K) → r.first ≡ first → Indexes R [] r → (q : K) → get R r.numbers q ≡ None
  bare None r e ix q = sym (ap (λ (t : Option K). first_at R (get R r.numbers q) q t) e) ∙ ix.numbers q
  bare (Some f) r e ix q =
      let here : number_at R r f ≡ Some 0 = ap (λ (t : Option K). first_at R (get R r.numbers f) f t) e ∙ ap (λ t. cond t (Some 0) (get R r.numbers f)) (ap is_eq (tied_itself o f)) in
      let none : number_at R r f ≡ None = ix.numbers f in
      absurd (cc)

  -- the index of one key
  pub indexes_first : (keys : List K) (r s : Recent K) (key : K) (number : ℕ) → number ≡ 0 → Indexes R keys r → length keys ≡ number → s.first ≡ Some key → s.numbers ≡ r.numbers → s.last ≡ Some key → s.number ≡ Some 0
      → Indexes R (keys ++ key ∷ []) s
  indexes_first [] r s key number zero_is ix len first same last num = record {
    numbers = λ q. ap (λ (t : Option K). first_at R (get R s.numbers q) q t) first ∙ ap (λ t. cond (is_eq (R key q)) (Some 0) t) (ap (λ (m : BTreeMap K ℕ). get R m q) same ∙ bare r.first r refl ix q) ∙ go q (is_eq (R key q)) refl;
    remembered = subst (λ (l : Option K). IfSome l (λ k. s.number ≡ position (λ y. is_eq (R y k)) (key ∷ []))) (sym last)
        (num ∙ sym (position_push (λ y. is_eq (R y key)) [] key refl (ap is_eq (tied_itself o key))));
    own = own_pushed [] r key ix refl;
  }
    where
      go : (q : K) (b : Bool) → is_eq (R key q) ≡ b → cond b (Some 0) None ≡ position (λ y. is_eq (R y q)) (key ∷ [])
      go q true e = sym (position_push (λ y. is_eq (R y q)) [] key refl e)
      go q false e = sym (position_apart (λ y. is_eq (R y q)) [] key e)
  indexes_first (x ∷ xs) r s key number zero_is ix len first same last num = absurd (omega (arith, len, zero_is))

-- the same index under other terms
pub indexes_to : {K : Type 0} {R : K → K → Ordering} {keys also : List K} {r : Recent K} → Indexes R keys r → also ≡ keys → Indexes R also r
indexes_to {K} {R} {keys} {also} {r} ix e = subst (λ (l : List K). Indexes R l r) (sym e) ix

-- the keys of two hashes are in one place of the order exactly where their bytes are equal
keys_tied : (a b : MerkleHash) → is_eq (key_cmp (key_of a) (key_of b)) ≡ hash_eq a b
keys_tied a b = go (nat_cmp (last_word a) (last_word b)) refl (hash_eq a b) refl
  where
    words_same : a ≡ b → is_eq (nat_cmp (last_word a) (last_word b)) ≡ true
    words_same e = ap is_eq (ap (λ (h : MerkleHash). nat_cmp (last_word h) (last_word b)) e ∙ tied_itself nat_cmp_total (last_word b))

    go : (o : Ordering) → nat_cmp (last_word a) (last_word b) ≡ o → (e : Bool) → hash_eq a b ≡ e → is_eq (ordering_then o (slice_cmp nat_cmp a.0 b.0)) ≡ hash_eq a b
    go Equal n e m = hashes_tied a b
    go Less n false m = sym m
    go Less n true m = absurd (false≢true (ap is_eq (sym n) ∙ words_same (hash_eq-true a b m)))
    go Greater n false m = sym m
    go Greater n true m = absurd (false≢true (ap is_eq (sym n) ∙ words_same (hash_eq-true a b m)))

-- a look for the key of a hash among the keys of elements
pub key_look : {A : Type 0} (f : A → MerkleHash) (xs : List A) (h : MerkleHash) → position (λ y. is_eq (key_cmp y (key_of h))) (map (λ x. key_of (f x)) xs) ≡ position (λ x. hash_eq (f x) h) xs
key_look f xs h = position-map (λ x. key_of (f x)) (λ y. is_eq (key_cmp y (key_of h))) xs ∙ (λ i. position (λ x. keys_tied (f x) h i) xs)

-- where an element with a hash stands, there is the place of the hash
pub key_at : {A : Type 0} (f : A → MerkleHash) (xs : List A) (r : Recent HashKey) (h : MerkleHash) (i : ℕ) (x : A) → Indexes key_cmp (map (λ x. key_of (f x)) xs) r → slice_get xs i ≡ Some x
    → is_eq (key_cmp (key_of (f x)) (key_of h)) ≡ true → position (λ x. hash_eq (f x) h) xs ≡ Some i
key_at f xs r h i x ix got same =
    let within = slice_get_within xs i x got in
    let here : f x ≡ h = hash_eq-true (f x) h (sym (keys_tied (f x) h) ∙ same) in
    let at : get_or (map (λ x. key_of (f x)) xs) i (key_of h) ≡ key_of h =
    get_or-map (λ x. key_of (f x)) xs i x (key_of h) within ∙ ap (λ y. key_of (f y)) (get_or_from_slice_get xs i x x got) ∙ ap key_of here in
    sym (key_look f xs h) ∙ ap (λ (k : HashKey). position (λ y. is_eq (key_cmp y k)) (map (λ x. key_of (f x)) xs)) (sym at)
    ∙ ix.own i (key_of h) (omega (arith, within, length-map xs (λ x. key_of (f x))))
