-- What `find`, `list_any` and `firsts` answer.
use Rattle.std.proofs.Common.{◌≡◌, Bool, true, false, cond, not, ◌||◌, List, [], ◌∷◌, map, refl, sym, ◌∙◌, ap, subst, arith, suc}
use Rattle.std.specs.Prelude.{Option, Some, None, find, filter, is_none, is_some, All, Contains}
use Rattle.std.specs.List.{list_any}
use Rattle.std.specs.Option.{option_or}
use Rattle.std.proofs.lemmas.Bool.{false≢true, true≢false}
use Rattle.std.proofs.lemmas.List.Elements.{All-cons, All-filter, All-head, All-tail, All-nil}
use Rattle.std.proofs.lemmas.List.Folds.{list_any_at}
use Rattle.std.proofs.lemmas.Option.{none-some, same_Some}
use Rattle.xet_base.specs.declared.merklehash.MerkleHash.{MerkleHash}
use Rattle.xet_base.specs.Hashes.{hash_eq}
use Rattle.xet_base.specs.Lists.{firsts}
use Rattle.xet_base.proofs.CallerLemmas.{hash_eq-true, hash_eq-own, hash_eq-chain, firsts_keeps}

-- ---- options

pub none-is : {A : Type 0} (o : Option A) → is_some o ≡ false → o ≡ None
none-is None h = refl
none-is (Some x) h = absurd (true≢false h)

pub some-is : {A : Type 0} (o : Option A) → is_some o ≡ true → (x : A) × (o ≡ Some x)
some-is None h = absurd (false≢true h)
some-is (Some x) h = (x, refl)

pub none-some_not : {A : Type 0} (o : Option A) → is_none o ≡ not (is_some o)
none-some_not None = refl
none-some_not (Some x) = refl

pub or-none : {A : Type 0} (o : Option A) → option_or o None ≡ o
or-none None = refl
or-none (Some x) = refl

pub is_some-or : {A : Type 0} (a b : Option A) → is_some (option_or a b) ≡ (is_some a || is_some b)
is_some-or None b = refl
is_some-or (Some x) b = refl

-- ---- finds

pub is_some-found : {A : Type 0} (p : A → Bool) (xs : List A) → is_some (find p xs) ≡ list_any p xs
is_some-found p [] = refl
is_some-found {A} p (x ∷ xs) = go (p x) (is_some-found p xs)
  where
    go : (b : Bool) → is_some (find p xs) ≡ list_any p xs → is_some (cond b (Some x) (find p xs)) ≡ (b || list_any p xs)
    go true h = refl
    go false h = h

pub found-none : {A : Type 0} (p : A → Bool) (xs : List A) → list_any p xs ≡ false → find p xs ≡ None
found-none p xs h = none-is (find p xs) (is_some-found p xs ∙ h)

-- what is found passes
pub found_passes : {A : Type 0} (p : A → Bool) (xs : List A) (x : A) → find p xs ≡ Some x → p x ≡ true
found_passes p [] x h = absurd (none-some x h)
found_passes {A} p (y ∷ ys) x h = go (p y) refl h (λ k. found_passes p ys x k)
  where
    go : (b : Bool) → p y ≡ b → cond b (Some y) (find p ys) ≡ Some x → (find p ys ≡ Some x → p x ≡ true) → p x ≡ true
    go true e k next = ap p (sym (same_Some y x k)) ∙ e
    go false e k next = next k

-- and what is so of each is so of it
pub found_all : {A : Type 0} (P : A → Type 0) (p : A → Bool) (xs : List A) (x : A) → All P xs → find p xs ≡ Some x → P x
found_all P p [] x a h = absurd (none-some x h)
found_all {A} P p (y ∷ ys) x a h = go (p y) h (λ k. found_all P p ys x (All-tail P y ys a) k)
  where
    go : (b : Bool) → cond b (Some y) (find p ys) ≡ Some x → (find p ys ≡ Some x → P x) → P x
    go true k next = subst P (same_Some y x k) (All-head P y ys a)
    go false k next = next k

pub any-map : {A B : Type 0} (p : B → Bool) (f : A → B) (xs : List A) → list_any p (map f xs) ≡ list_any (λ x. p (f x)) xs
any-map p f [] = refl
any-map p f (x ∷ xs) = ap (λ b. p (f x) || b) (any-map p f xs)

pub any_filter_no : {A : Type 0} (p t : A → Bool) (xs : List A) → list_any p xs ≡ false → list_any p (filter t xs) ≡ false
any_filter_no p t [] h = refl
any_filter_no p t (x ∷ xs) h = go (p x) refl (t x) h (λ k. any_filter_no p t xs k)
  where
    go : (b : Bool) → p x ≡ b → (c : Bool) → (b || list_any p xs) ≡ false → (list_any p xs ≡ false → list_any p (filter t xs) ≡ false) → list_any p (cond c (x ∷ filter t xs) (filter t xs)) ≡ false
    go true e c h next = absurd (true≢false h)
    go false e true h next = ap (λ b. b || list_any p (filter t xs)) e ∙ next h
    go false e false h next = next h

-- where none passes, each fails
pub none_pass : {A : Type 0} (p : A → Bool) (xs : List A) → list_any p xs ≡ false → All (λ x. p x ≡ false) xs
none_pass p [] h = All-nil (λ x. p x ≡ false)
none_pass p (x ∷ xs) h = go (p x) refl h (λ k. none_pass p xs k)
  where
    go : (b : Bool) → p x ≡ b → (b || list_any p xs) ≡ false → (list_any p xs ≡ false → All (λ y. p y ≡ false) xs) → All (λ y. p y ≡ false) (x ∷ xs)
    go true e k next = absurd (true≢false k)
    go false e k next = All-cons (λ y. p y ≡ false) x xs e (next k)

-- ---- elements

pub contained_any : (hs : List MerkleHash) (h : MerkleHash) → Contains hs h → list_any (λ y. hash_eq y h) hs ≡ true
contained_any hs h c = list_any_at (λ y. hash_eq y h) hs c.0 h c.1 (let P : MerkleHash → Type 0 = λ z. hash_eq z h ≡ true in subst P (sym c.2) (hash_eq-own h))

pub any_contained : (hs : List MerkleHash) (h : MerkleHash) → list_any (λ y. hash_eq y h) hs ≡ true → Contains hs h
any_contained [] h e = absurd (false≢true e)
any_contained (x ∷ xs) h e = go (hash_eq x h) refl e (λ k. any_contained xs h k)
  where
    go : (b : Bool) → hash_eq x h ≡ b → (b || list_any (λ y. hash_eq y h) xs) ≡ true → (list_any (λ y. hash_eq y h) xs ≡ true → Contains xs h) → Contains (x ∷ xs) h
    go true f k next = (0, omega arith, hash_eq-true x h f)
    go false f k next = let c = next k in (suc c.0, omega (arith, c.1), c.2)

pub contained-firsts : (hs : List MerkleHash) (h : MerkleHash) → Contains hs h → Contains (firsts hash_eq hs) h
contained-firsts hs h c = any_contained (firsts hash_eq hs) h (firsts_keeps hash_eq hash_eq-chain h hs (contained_any hs h c))

pub all_firsts : (P : MerkleHash → Type 0) (hs : List MerkleHash) → All P hs → All P (firsts hash_eq hs)
all_firsts P [] a = All-nil P
all_firsts P (h ∷ hs) a =
    All-cons P h (filter (λ y. not (hash_eq h y)) (firsts hash_eq hs)) (All-head P h hs a)
    (All-filter (λ y. not (hash_eq h y)) P (firsts hash_eq hs) (all_firsts P hs (All-tail P h hs a)))
