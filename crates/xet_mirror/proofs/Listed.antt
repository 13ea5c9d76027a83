-- The files to be copied of a list, and the xorbs that they name, with one file more.
use Rattle.std.proofs.Common.{◌≡◌, ℕ, ◌+◌, ◌≤◌, min, Bool, true, false, cond, not, ◌||◌, List, [], ◌∷◌, ◌++◌, length, refl, sym, ◌∙◌, ap, subst, arith, append_assoc}
use Rattle.std.specs.Prelude.{filter, is_none, is_some, Contains}
use Rattle.std.specs.List.{flat_map, list_any}
use Rattle.std.proofs.lemmas.Bool.{false≢true}
use Rattle.std.proofs.lemmas.List.{append-nil}
use Rattle.std.proofs.lemmas.List.Elements.{filter-append, Contains-append_left, Contains-append_right}
use Rattle.xet_base.specs.declared.merklehash.MerkleHash.{MerkleHash}
use Rattle.xet_base.specs.Hashes.{hash_eq}
use Rattle.xet_base.specs.Lists.{firsts}
use Rattle.xet_base.specs.Store.{Store, file_of}
use Rattle.xet_base.proofs.CallerLemmas.{firsts-push, firsts_keeps, hash_eq-chain, hash_eq-true}
use Rattle.xet_mirror.specs.Mirrored.{copied_files, named_xorbs, names_of_file}
use Rattle.xet_mirror_parts.proofs.CallerLemmas.{any_contained, contained-firsts, contained_any, none-some_not}

lists-append : {A B : Type 0} (f : A → List B) (xs ys : List A) → flat_map f (xs ++ ys) ≡ flat_map f xs ++ flat_map f ys
lists-append f [] ys = refl
lists-append f (x ∷ xs) ys = ap (λ zs. f x ++ zs) (lists-append f xs ys) ∙ sym (append_assoc (f x) (flat_map f xs) (flat_map f ys))

module _ (t : Store) (done : List MerkleHash) (f : MerkleHash) where
  -- one that t has, or that was listed before, is not copied
  pub copied-held : is_none (file_of t f) ≡ false → copied_files t (done ++ f ∷ []) ≡ copied_files t done
  copied-held h =
      ap (firsts hash_eq) (filter-append (λ g. is_none (file_of t g)) done (f ∷ [])
      ∙ ap (λ b. filter (λ g. is_none (file_of t g)) done ++ cond b (f ∷ []) []) h ∙ append-nil (filter (λ g. is_none (file_of t g)) done))

  next-copied : is_none (file_of t f) ≡ true → (b : Bool) → list_any (λ g. hash_eq g f) (copied_files t done) ≡ b
      → copied_files t (done ++ f ∷ []) ≡ cond b (copied_files t done) (copied_files t done ++ f ∷ [])
  next-copied h b e =
      ap (firsts hash_eq) (filter-append (λ g. is_none (file_of t g)) done (f ∷ [])
      ∙ ap (λ b. filter (λ g. is_none (file_of t g)) done ++ cond b (f ∷ []) []) h)
      ∙ firsts-push hash_eq hash_eq-chain (filter (λ g. is_none (file_of t g)) done) f
      ∙ ap (λ b. cond b (copied_files t done) (copied_files t done ++ f ∷ [])) e

  pub copied-again : is_none (file_of t f) ≡ true → list_any (λ g. hash_eq g f) (copied_files t done) ≡ true → copied_files t (done ++ f ∷ []) ≡ copied_files t done
  copied-again h e = next-copied h true e

  -- and another is the last
  pub copied-new : is_none (file_of t f) ≡ true → list_any (λ g. hash_eq g f) (copied_files t done) ≡ false
      → copied_files t (done ++ f ∷ []) ≡ copied_files t done ++ f ∷ []
  copied-new h e = next-copied h false e

-- the names of the files before, and then those of one more
pub named-more : (s : Store) (files : List MerkleHash) (f : MerkleHash)
    → named_xorbs s (files ++ f ∷ []) ≡ firsts hash_eq (flat_map (names_of_file s) files ++ names_of_file s f)
named-more s files f =
    ap (firsts hash_eq) (lists-append (names_of_file s) files (f ∷ []) ∙ ap (λ hs. flat_map (names_of_file s) files ++ hs) (append-nil (names_of_file s f)))

-- ---- how many

filter-shorter : (p : MerkleHash → Bool) (gs : List MerkleHash) → length (filter p gs) ≤ length gs
filter-shorter p [] = omega arith
filter-shorter p (g ∷ gs) = go (p g) (filter-shorter p gs)
  where
    go : (b : Bool) → length (filter p gs) ≤ length gs → length (cond b (g ∷ filter p gs) (filter p gs)) ≤ length (g ∷ gs)
    go true h = omega (arith, h)
    go false h = omega (arith, h)

length-firsts : (hs : List MerkleHash) → length (firsts hash_eq hs) ≤ length hs
length-firsts [] = omega arith
length-firsts (h ∷ hs) =
    let a = filter-shorter (λ y. not (hash_eq h y)) (firsts hash_eq hs) in
    let b = length-firsts hs in
    omega (arith, a, b)

pub length-copied : (t : Store) (files : List MerkleHash) → length (copied_files t files) ≤ length files
length-copied t files =
    let a = length-firsts (filter (λ f. is_none (file_of t f)) files) in
    let b = filter-shorter (λ f. is_none (file_of t f)) files in
    omega (arith, a, b)

-- a count that stops at its last value, with one more
pub counted-one : (a n last : ℕ) → a ≡ min n last → min (a + 1) last ≡ min (n + 1) last
counted-one a n last h = omega arith

-- ---- elements

any_filter : {A : Type 0} (p t : A → Bool) (xs : List A) → ((x : A) → p x ≡ true → t x ≡ true) → list_any p xs ≡ true → list_any p (filter t xs) ≡ true
any_filter p t [] f h = h
any_filter p t (x ∷ xs) f h = go (p x) refl (t x) refl h (λ k. any_filter p t xs f k)
  where
    go : (b : Bool) → p x ≡ b → (c : Bool) → t x ≡ c → (b || list_any p xs) ≡ true → (list_any p xs ≡ true → list_any p (filter t xs) ≡ true) → list_any p (cond c (x ∷ filter t xs) (filter t xs)) ≡ true
    go true e true g k next = ap (λ b. b || list_any p (filter t xs)) e
    go true e false g k next = absurd (false≢true (sym g ∙ f x e))
    go false e true g k next = ap (λ b. b || list_any p (filter t xs)) e ∙ next k
    go false e false g k next = next k

-- a listed file that t lacks is copied
pub copied-listed : (t : Store) (files : List MerkleHash) (f : MerkleHash) → Contains files f → is_some (file_of t f) ≡ false
    → Contains (copied_files t files) f
copied-listed t files f c h =
    any_contained (copied_files t files) f (firsts_keeps hash_eq hash_eq-chain f (filter (λ g. is_none (file_of t g)) files)
    (any_filter (λ g. hash_eq g f) (λ g. is_none (file_of t g)) files
    (λ g e. ap (λ z. is_none (file_of t z)) (hash_eq-true g f e) ∙ none-some_not (file_of t f) ∙ ap not h) (contained_any files f c)))

-- what a file of the list names is named
pub named-listed : (s : Store) (files : List MerkleHash) (f h : MerkleHash) → Contains files f → Contains (names_of_file s f) h
    → Contains (named_xorbs s files) h
named-listed s files f h c k =
    contained-firsts (flat_map (names_of_file s) files) h (any_contained (flat_map (names_of_file s) files) h
    (own files (contained_any files f c)))
  where
    own : (gs : List MerkleHash) → list_any (λ g. hash_eq g f) gs ≡ true → list_any (λ y. hash_eq y h) (flat_map (names_of_file s) gs) ≡ true
    own [] e = absurd (false≢true e)
    own (g ∷ gs) e = pick g gs (hash_eq g f) refl e (λ k. own gs k)
      where
        pick : (g : MerkleHash) (gs : List MerkleHash) (b : Bool) → hash_eq g f ≡ b → (b || list_any (λ g. hash_eq g f) gs) ≡ true
            → (list_any (λ g. hash_eq g f) gs ≡ true → list_any (λ y. hash_eq y h) (flat_map (names_of_file s) gs) ≡ true)
            → list_any (λ y. hash_eq y h) (names_of_file s g ++ flat_map (names_of_file s) gs) ≡ true
        pick g gs true same e next =
            let P : MerkleHash → Type 0 = λ z. Contains (names_of_file s z) h in
            let here : Contains (names_of_file s g) h = subst P (sym (hash_eq-true g f same)) k in
            contained_any (names_of_file s g ++ flat_map (names_of_file s) gs) h (Contains-append_left (names_of_file s g) (flat_map (names_of_file s) gs) h here)
        pick g gs false same e next =
            let rest = any_contained (flat_map (names_of_file s) gs) h (next e) in
            contained_any (names_of_file s g ++ flat_map (names_of_file s) gs) h (Contains-append_right (names_of_file s g) (flat_map (names_of_file s) gs) h rest)
