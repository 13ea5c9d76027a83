-- The table of the numbers of blocks.
use Rattle.std.proofs.Common.{◌≡◌, ℕ, ◌<◌, Bool, true, false, cond, ◌&&◌, List, [], ◌∷◌, ◌++◌, length, map, get_or, set, eqb, refl, sym, ◌∙◌, ap, subst, arith, Some, None}
use Rattle.std.specs.Prelude.{Err, Ok, OnErr, OnOk, Option, Result, Vec, not, position}
use Rattle.std.specs.declared.alloc.Global.{Global}
use Rattle.std.proofs.lemmas.Bool.{and_parts, eqb-true, eq-eqb, false≢true}
use Rattle.std.proofs.lemmas.Bool.Decides.{nat_tests}
use Rattle.std.proofs.lemmas.List.{get_or-map, get_or-set_other, get_or-set_same, length-map, length_push, map-set}
use Rattle.std.proofs.lemmas.List.Folds.{position_or_len_push}
use Rattle.std.proofs.lemmas.List.Sums.{prefix_len-le-length}
use Rattle.xet_blocks.specs.declared.reconstruction_terms.block_list.BlockKey.{BlockKey}
use Rattle.xet_blocks.specs.declared.reconstruction_terms.block_list.OfferedBlock.{OfferedBlock}
use Rattle.xet_blocks.specs.steps.BlockKeys.{HasNumbers, key_of, number_at, place_of_key, row_at, rows_of, same_key}

-- a place that was written, and the others
pub written : {A : Type 0} (d : A) (xs : List A) (at k : ℕ) (x : A) → at < length xs → get_or (set xs at x) k d ≡ cond (eqb at k) x (get_or xs k d)
written {A} d xs at k x l = go (eqb at k) refl
  where
    apart : (b : Bool) → eqb at k ≡ b → b ≡ false → at ≡ k → ⊥
    apart b e f same = false≢true (sym f ∙ sym e ∙ eq-eqb at k same)

    go : (b : Bool) → eqb at k ≡ b → get_or (set xs at x) k d ≡ cond b x (get_or xs k d)
    go true e =
        let same : at ≡ k = eqb-true at k e in
        ap (λ (j : ℕ). get_or (set xs at x) j d) (sym same) ∙ get_or-set_same xs at x d l
    go false e = get_or-set_other xs at k x d (λ same. apart false e refl (sym same))

-- a table after one number was written into a row
pub numbered_key : (before after : List (List (Option ℕ))) (key : BlockKey) (row : List (Option ℕ)) (number : ℕ) → ((p : ℕ) → row_at after p ≡ cond (eqb key.place p) row (row_at before p))
    → ((n : ℕ) → get_or row n None ≡ cond (eqb key.number n) (Some number) (get_or (row_at before key.place) n None))
    → (k : BlockKey) → number_at after k ≡ cond (same_key key k) (Some number) (number_at before k)
numbered_key before after key row number rows entries k = ap (λ (r : List (Option ℕ)). get_or r k.number None) (rows k.place) ∙ go (eqb key.place k.place) refl
  where
    go : (b : Bool) → eqb key.place k.place ≡ b → get_or (cond b row (row_at before k.place)) k.number None ≡ cond (b && eqb key.number k.number) (Some number) (number_at before k)
    go true e = entries k.number ∙ ap (λ (p : ℕ). cond (eqb key.number k.number) (Some number) (get_or (row_at before p) k.number None)) (eqb-true key.place k.place e)
    go false e = refl

module _ (old : List (List (Option ℕ))) (v : Vec (Vec (Option ℕ) Global) Global) (key : BlockKey) (r w : Vec (Option ℕ) Global)
    (same : (p : ℕ) → row_at (rows_of v) p ≡ row_at old p) (l : key.place < length v.items) (own : r ≡ get_or v.items key.place r) where
  -- the row that is lent is that of the key
  lent : r.items ≡ row_at old key.place
  lent = sym (get_or-map (λ (x : Vec (Option ℕ) Global). x.items) v.items key.place r [] l ∙ ap (λ (x : Vec (Option ℕ) Global). x.items) (sym own)) ∙ same key.place

  rows_after : (p : ℕ) → row_at (map (λ (x : Vec (Option ℕ) Global). x.items) (set v.items key.place w)) p ≡ cond (eqb key.place p) w.items (row_at old p)
  rows_after p =
      let long : key.place < length (rows_of v) = omega (arith, l, length-map v.items (λ (x : Vec (Option ℕ) Global). x.items)) in
      ap (λ (rs : List (List (Option ℕ))). row_at rs p) (map-set (λ (x : Vec (Option ℕ) Global). x.items) v.items key.place w)
      ∙ written [] (rows_of v) key.place p w.items long
      ∙ ap (λ (row : List (Option ℕ)). cond (eqb key.place p) w.items row) (same p)

  -- a row of the table with one more number
  pub row_written : (number : ℕ) → ((n : ℕ) → get_or w.items n None ≡ cond (eqb key.number n) (Some number) (get_or r.items n None))
      → (k : BlockKey) → number_at (map (λ (x : Vec (Option ℕ) Global). x.items) (set v.items key.place w)) k ≡ cond (same_key key k) (Some number) (number_at old k)
  row_written number entries =
      numbered_key old (map (λ (x : Vec (Option ℕ) Global). x.items) (set v.items key.place w)) key w.items number rows_after
      (λ n. entries n ∙ ap (λ (row : List (Option ℕ)). cond (eqb key.number n) (Some number) (get_or row n None)) lent)

  -- a row of the table that says what it said
  pub row_kept : ((n : ℕ) → get_or w.items n None ≡ get_or r.items n None) → (k : BlockKey) → number_at (map (λ (x : Vec (Option ℕ) Global). x.items) (set v.items key.place w)) k ≡ number_at old k
  row_kept entries k = ap (λ (row : List (Option ℕ)). get_or row k.number None) (rows_after k.place) ∙ go (eqb key.place k.place) refl
    where
      go : (b : Bool) → eqb key.place k.place ≡ b → get_or (cond b w.items (row_at old k.place)) k.number None ≡ number_at old k
      go true e = entries k.number ∙ ap (λ (row : List (Option ℕ)). get_or row k.number None) (lent ∙ ap (row_at old) (eqb-true key.place k.place e))
      go false e = refl

-- what a call with this answer leaves
pub on_err : {A E P : Type 0} (r : Result A E) → P → OnErr r P
on_err (Ok x) p = tt
on_err (Err e) p = p

pub after_ok : {A E P Q : Type 0} (r : Result A E) → (P → Q) → OnOk r P → OnOk r Q
after_ok (Ok x) f p = f p
after_ok (Err e) f p = tt

pub after_err : {A E P Q : Type 0} (r : Result A E) → (P → Q) → OnErr r P → OnErr r Q
after_err (Ok x) f p = tt
after_err (Err e) f p = f p

pub at_err : {A E P : Type 0} (r : Result A E) (e : E) → r ≡ Err e → OnErr r P → P
at_err {A} {E} {P} r e is h = subst (λ (x : Result A E). OnErr x P) is h

-- ---- the place of a key after one more block

position_apart : {A : Type 0} (p : A → Bool) (xs : List A) (x : A) → p x ≡ false → position p (xs ++ x ∷ []) ≡ position p xs
position_apart p xs x apart =
    let b = prefix_len-le-length (λ y. not (p y)) xs in
    let e = position_or_len_push p xs x in
    let l = length_push xs x in
    grind (arith, nat_tests)

position_here : {A : Type 0} (p : A → Bool) (xs : List A) (x : A) → position p xs ≡ None → p x ≡ true → position p (xs ++ x ∷ []) ≡ Some (length xs)
position_here p xs x none here =
    let b = prefix_len-le-length (λ y. not (p y)) xs in
    let e = position_or_len_push p xs x in
    let l = length_push xs x in
    grind (arith, nat_tests)

same_key-true : (a b : BlockKey) → same_key a b ≡ true → a ≡ b
same_key-true a b h =
    let parts = and_parts (eqb a.place b.place) (eqb a.number b.number) h in
    let place : a.place ≡ b.place = eqb-true a.place b.place parts.0 in
    let number : a.number ≡ b.number = eqb-true a.number b.number parts.1 in
    λ i. record { place = place i; number = number i }

-- the same blocks, and a table that says what it said
pub numbers_to : (bs cs : List OfferedBlock) (rows : List (List (Option ℕ))) → cs ≡ bs → HasNumbers bs rows → HasNumbers cs rows
numbers_to bs cs rows e has = subst (λ (l : List OfferedBlock). HasNumbers l rows) (sym e) has

pub numbers_kept : (bs : List OfferedBlock) (before after : List (List (Option ℕ))) → HasNumbers bs before → ((k : BlockKey) → number_at after k ≡ number_at before k) → HasNumbers bs after
numbers_kept bs before after has same k = same k ∙ has k

-- the table of one more block
pub numbers_push : (bs : List OfferedBlock) (b : OfferedBlock) (before after : List (List (Option ℕ))) (key : BlockKey) (number : ℕ) → key ≡ key_of b → HasNumbers bs before → place_of_key bs (key_of b) ≡ None → number ≡ length bs
    → ((k : BlockKey) → number_at after k ≡ cond (same_key key k) (Some number) (number_at before k)) → HasNumbers (bs ++ b ∷ []) after
numbers_push bs b before after key number is has none count gets k = gets k ∙ ap (λ (j : BlockKey). cond (same_key j k) (Some number) (number_at before k)) is ∙ go (same_key (key_of b) k) refl
  where
    go : (c : Bool) → same_key (key_of b) k ≡ c → cond c (Some number) (number_at before k) ≡ place_of_key (bs ++ b ∷ []) k
    go true e = ap Some count ∙ sym (position_here (λ c. same_key (key_of c) k) bs b (ap (place_of_key bs) (sym (same_key-true (key_of b) k e)) ∙ none) e)
    go false e = has k ∙ sym (position_apart (λ c. same_key (key_of c) k) bs b e)
