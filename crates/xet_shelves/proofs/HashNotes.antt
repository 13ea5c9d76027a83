-- An index of hashes after more of them were noted.
use Rattle.std.proofs.Common.{◌≡◌, ℕ, zero, suc, ◌+◌, ◌<◌, ◌≤◌, Bool, true, false, cond, not, ◌||◌, ◌&&◌, List, [], ◌∷◌, ◌++◌, length, take, get_or, refl}
use Rattle.std.proofs.Common.{sym, ◌∙◌, ap, subst, arith, ◌⊎◌, inl, inr}
use Rattle.std.specs.Prelude.{Option, Some, None, slice_get}
use Rattle.std.specs.List.{list_any}
use Rattle.std.specs.BTreeMap.{BTreeMap, get}
use Rattle.std.specs.Ordering.{is_eq}
use Rattle.std.proofs.lemmas.Bool.{cases_lt, cases_order, true≢false}
use Rattle.std.proofs.lemmas.List.{append-nil, append_assoc, length_push, length-append}
use Rattle.std.proofs.lemmas.List.{length-take, take_all, take_more}
use Rattle.std.proofs.lemmas.List.Folds.{list_any-append, list_any_more}
use Rattle.std.proofs.lemmas.Option.{slice_get_past}
use Rattle.xet_base.specs.declared.merklehash.MerkleHash.{MerkleHash}
use Rattle.xet_base.specs.contracts.merklehash.MerkleHashOrd.TheImpl.{ghosts}
use Rattle.xet_base.specs.contracts.merklehash.MerkleHashOrd.TheImpl.Laws.{matches_eq-law}
use Rattle.xet_base.specs.Hashes.{hash_eq}
use Rattle.xet_base.proofs.CallerLemmas.{hash_eq-true}
use Rattle.xet_shelves.specs.steps.HashPlaces.{Finds, Kept, Noted, NotedOne, is_at, is_hash}

-- two hashes are in one place of the order exactly where their bytes are equal
hash_cmp : (a b : MerkleHash) → is_eq (ghosts.cmp a b) ≡ hash_eq a b
hash_cmp a b = sym (matches_eq-law a b)

-- ---- elements of a list that grows

slice_get-front : (xs ys : List MerkleHash) (i : ℕ) → i < length xs → slice_get (xs ++ ys) i ≡ slice_get xs i
slice_get-front [] ys i h = absurd (omega (arith, h))
slice_get-front (x ∷ xs) ys zero h = refl
slice_get-front (x ∷ xs) ys (suc i) h = slice_get-front xs ys i (omega (arith, h))

slice_get-last : (xs : List MerkleHash) (y : MerkleHash) → slice_get (xs ++ y ∷ []) (length xs) ≡ Some y
slice_get-last [] y = refl
slice_get-last (x ∷ xs) y = slice_get-last xs y

-- a number past the end has no hash
past_no : (hs : List MerkleHash) (h : MerkleHash) (n : ℕ) → length hs ≤ n → is_at hs h (Some n) ≡ false
past_no hs h n past = ap (is_hash h) (slice_get_past hs n past)

-- a number that has its hash is inside, and has it still where more stand behind
front_yes : (hs more : List MerkleHash) (h : MerkleHash) (o : Option ℕ) → is_at hs h o ≡ true
    → is_at (hs ++ more) h o ≡ true
front_yes hs more h None e = e
front_yes hs more h (Some n) e = go (cases_lt n (length hs))
  where
    go : (n < length hs) ⊎ (length hs ≤ n) → is_at (hs ++ more) h (Some n) ≡ true
    go (inl lt) = ap (is_hash h) (slice_get-front hs more n lt) ∙ e
    go (inr ge) = absurd (true≢false (sym e ∙ past_no hs h n ge))

-- one hash more behind the list makes no difference to another
other_same : (hs : List MerkleHash) (g h : MerkleHash) (o : Option ℕ) → hash_eq g h ≡ false
    → is_at (hs ++ g ∷ []) h o ≡ is_at hs h o
other_same hs g h None e = refl
other_same hs g h (Some n) e = go (cases_order n (length hs))
  where
    size : length (hs ++ g ∷ []) ≡ length hs + 1
    size = length_push hs g

    go : (n ≡ length hs) ⊎ ((n < length hs) ⊎ (length hs < n)) → is_at (hs ++ g ∷ []) h (Some n) ≡ is_at hs h (Some n)
    go (inl at) =
        ap (λ (i : ℕ). is_hash h (slice_get (hs ++ g ∷ []) i)) at ∙ ap (is_hash h) (slice_get-last hs g) ∙ e
        ∙ sym (past_no hs h n (omega (arith, at)))
    go (inr (inl lt)) = ap (is_hash h) (slice_get-front hs (g ∷ []) n lt)
    go (inr (inr gt)) =
        past_no (hs ++ g ∷ []) h n (omega (arith, gt, size)) ∙ sym (past_no hs h n (omega (arith, gt)))

-- ---- one hash is noted

module _ (hs : List MerkleHash) (g : MerkleHash) (n : ℕ) where
  -- where the list has it
  pub noted-there : (before : BTreeMap MerkleHash ℕ) → is_at hs g (get ghosts.cmp before g) ≡ true
      → NotedOne ghosts.cmp hs g n before before
  noted-there before e h = go (hash_eq g h) refl
    where
      go : (b : Bool) → hash_eq g h ≡ b
          → get ghosts.cmp before h
          ≡ cond (b && not (is_at hs h (get ghosts.cmp before h))) (Some n) (get ghosts.cmp before h)
      go false k = refl
      go true k =
          let here : is_at hs h (get ghosts.cmp before h) ≡ true =
          ap (λ (z : MerkleHash). is_at hs z (get ghosts.cmp before z)) (sym (hash_eq-true g h k)) ∙ e in
          sym (ap (λ (b : Bool). cond (not b) (Some n) (get ghosts.cmp before h)) here)

  -- where it was put there
  pub noted-new : (before after : BTreeMap MerkleHash ℕ) → is_at hs g (get ghosts.cmp before g) ≡ false
      → ((h : MerkleHash) → get ghosts.cmp after h ≡ cond (is_eq (ghosts.cmp g h)) (Some n) (get ghosts.cmp before h))
      → NotedOne ghosts.cmp hs g n before after
  noted-new before after e put h =
      put h ∙ ap (λ (b : Bool). cond b (Some n) (get ghosts.cmp before h)) (hash_cmp g h) ∙ go (hash_eq g h) refl
    where
      go : (b : Bool) → hash_eq g h ≡ b
          → cond b (Some n) (get ghosts.cmp before h)
          ≡ cond (b && not (is_at hs h (get ghosts.cmp before h))) (Some n) (get ghosts.cmp before h)
      go false k = refl
      go true k =
          let here : is_at hs h (get ghosts.cmp before h) ≡ false =
          ap (λ (z : MerkleHash). is_at hs z (get ghosts.cmp before z)) (sym (hash_eq-true g h k)) ∙ e in
          sym (ap (λ (b : Bool). cond (not b) (Some n) (get ghosts.cmp before h)) here)

-- ---- all hashes are noted

pub kept-none : (hs : List MerkleHash) (m : BTreeMap MerkleHash ℕ) → Kept ghosts.cmp hs m m
kept-none hs m h = refl

pub kept-same : (hs : List MerkleHash) (a b c : BTreeMap MerkleHash ℕ) → Kept ghosts.cmp hs a b
    → ((h : MerkleHash) → get ghosts.cmp c h ≡ get ghosts.cmp b h) → Kept ghosts.cmp hs a c
kept-same hs a b c kept same h = ap (is_at hs h) (same h) ∙ kept h

or_no : (b : Bool) → b ≡ (b || false)
or_no true = refl
or_no false = refl

pub noted-none : (hs : List MerkleHash) (m : BTreeMap MerkleHash ℕ) → Noted ghosts.cmp hs [] m m
noted-none hs m h = ap (λ (xs : List MerkleHash). is_at xs h (get ghosts.cmp m h)) (append-nil hs) ∙ or_no _

module _ (hs more : List MerkleHash) (a b c : BTreeMap MerkleHash ℕ) (i : ℕ) (d : MerkleHash) (within : i < length more)
    (one : NotedOne ghosts.cmp hs (get_or more i d) (length hs + i) b c) where
  abbrev g : MerkleHash
  g = get_or more i d

  abbrev front : List MerkleHash
  front = hs ++ take i more

  grown : hs ++ take (i + 1) more ≡ front ++ g ∷ []
  grown =
      ap (λ (xs : List MerkleHash). hs ++ xs) (take_more more i d within)
      ∙ sym (append_assoc hs (take i more) (g ∷ []))

  size : length front ≡ length hs + i
  size = let e = length-append hs (take i more) in let f = length-take i more in omega (arith, within, e, f)

  -- numbers that have their hash stay
  pub kept-more : Kept ghosts.cmp hs a b → Kept ghosts.cmp hs a c
  kept-more kept h = ap (is_at hs h) (one h) ∙ go (hash_eq g h) (is_at hs h (get ghosts.cmp b h)) refl ∙ kept h
    where
      go : (e k : Bool) → is_at hs h (get ghosts.cmp b h) ≡ k
          → is_at hs h (cond (e && not k) (Some (length hs + i)) (get ghosts.cmp b h)) ≡ is_at hs h (get ghosts.cmp b h)
      go true true f = refl
      go true false f = past_no hs h (length hs + i) (omega arith) ∙ sym f
      go false k f = refl

  -- the hash is found among those that stand behind
  pub noted-more : Kept ghosts.cmp hs a b → Noted ghosts.cmp hs (take i more) a b
      → Noted ghosts.cmp hs (take (i + 1) more) a c
  noted-more kept noted h =
      ap (λ (xs : List MerkleHash). is_at xs h (get ghosts.cmp c h)) grown
      ∙ ap (is_at (front ++ g ∷ []) h) (one h)
      ∙ go (hash_eq g h) refl (is_at hs h (get ghosts.cmp b h)) refl
      ∙ ap (λ (k : Bool). is_at hs h (get ghosts.cmp a h) || k) (sym (list_any_more (λ y. hash_eq y h) more i d within))
    where
      or_true : (p q : Bool) → (p || (q || true)) ≡ true
      or_true true q = refl
      or_true false true = refl
      or_true false false = refl

      or_more : (p q : Bool) → (p || q) ≡ (p || (q || false))
      or_more true q = refl
      or_more false true = refl
      or_more false false = refl

      go : (e : Bool) → hash_eq g h ≡ e → (k : Bool) → is_at hs h (get ghosts.cmp b h) ≡ k
          → is_at (front ++ g ∷ []) h (cond (e && not k) (Some (length hs + i)) (get ghosts.cmp b h))
          ≡ (is_at hs h (get ghosts.cmp a h) || (list_any (λ y. hash_eq y h) (take i more) || e))
      go true e true f =
          front_yes front (g ∷ []) h (get ghosts.cmp b h) (front_yes hs (take i more) h (get ghosts.cmp b h) f)
          ∙ sym (or_true (is_at hs h (get ghosts.cmp a h)) (list_any (λ y. hash_eq y h) (take i more)))
      go true e false f =
          ap (λ (n : ℕ). is_hash h (slice_get (front ++ g ∷ []) n)) (sym size)
          ∙ ap (is_hash h) (slice_get-last front g) ∙ e
          ∙ sym (or_true (is_at hs h (get ghosts.cmp a h)) (list_any (λ y. hash_eq y h) (take i more)))
      go false e k f =
          other_same front g h (get ghosts.cmp b h) e ∙ noted h
          ∙ or_more (is_at hs h (get ghosts.cmp a h)) (list_any (λ y. hash_eq y h) (take i more))

-- ---- the index of the list

-- with the hashes that were noted
pub finds-more : (hs more : List MerkleHash) (a b : BTreeMap MerkleHash ℕ) → Finds ghosts.cmp hs a
    → Noted ghosts.cmp hs more a b → Finds ghosts.cmp (hs ++ more) b
finds-more hs more a b finds noted h =
    noted h ∙ ap (λ (k : Bool). k || list_any (λ y. hash_eq y h) more) (finds h)
    ∙ sym (list_any-append (λ y. hash_eq y h) hs more)

-- and without them
pub finds-kept : (hs : List MerkleHash) (a b : BTreeMap MerkleHash ℕ) → Finds ghosts.cmp hs a → Kept ghosts.cmp hs a b
    → Finds ghosts.cmp hs b
finds-kept hs a b finds kept h = kept h ∙ finds h

pub noted-all : (hs more : List MerkleHash) (i : ℕ) (a b : BTreeMap MerkleHash ℕ) → length more ≤ i
    → Noted ghosts.cmp hs (take i more) a b → Noted ghosts.cmp hs more a b
noted-all hs more i a b past noted =
    let P : List MerkleHash → Type 0 = λ xs. Noted ghosts.cmp hs xs a b in subst P (take_all i more past) noted
