-- The different hashes of a list, and sums over them.
use Rattle.std.proofs.Common.{◌≡◌, ℕ, Bool, true, false, cond, not, ◌||◌, ◌&&◌, List, [], ◌∷◌, refl, sym, ◌∙◌, ap, ◌+◌, ◌≤◌, arith}
use Rattle.std.specs.Prelude.{nat_eq, filter}
use Rattle.std.specs.List.{list_any, sum_by}
use Rattle.std.proofs.lemmas.Bool.{false≢true, true≢false, or_parts}
use Rattle.std.proofs.lemmas.List.Sums.{sum_by-cons}
use Rattle.xet_base.specs.declared.merklehash.MerkleHash.{MerkleHash}
use Rattle.xet_base.specs.Hashes.{hash_eq}
use Rattle.xet_base.specs.Lists.{firsts}
use Rattle.xet_base.proofs.CallerLemmas.{hash_eq-true, eq-hash_eq}
use Rattle.xet_progress_state.specs.declared.step.FileXorbDependency.{FileXorbDependency}
use Rattle.xet_progress_state.specs.Counts.{of_file, part_of, external_of}

-- no hash stands in the list twice
abbrev pub Differ : List MerkleHash → Type 0
Differ [] = Unit {0}
Differ (h ∷ hs) = (list_any (λ g. hash_eq h g) hs ≡ false) × Differ hs

pub any_filter_no : {A : Type 0} (p t : A → Bool) (xs : List A) → list_any p xs ≡ false → list_any p (filter t xs) ≡ false
any_filter_no p t [] h = refl
any_filter_no p t (x ∷ xs) h = go (p x) refl (t x) h (λ k. any_filter_no p t xs k)
  where
    go : (b : Bool) → p x ≡ b → (c : Bool) → (b || list_any p xs) ≡ false → (list_any p xs ≡ false → list_any p (filter t xs) ≡ false) → list_any p (cond c (x ∷ filter t xs) (filter t xs)) ≡ false
    go true e c h next = absurd (true≢false h)
    go false e true h next = ap (λ b. b || list_any p (filter t xs)) e ∙ next h
    go false e false h next = next h

differ_filter : (t : MerkleHash → Bool) (hs : List MerkleHash) → Differ hs → Differ (filter t hs)
differ_filter t [] d = tt
differ_filter t (h ∷ hs) d = go (t h) (differ_filter t hs d.1)
  where
    go : (b : Bool) → Differ (filter t hs) → Differ (cond b (h ∷ filter t hs) (filter t hs))
    go true n = (any_filter_no (λ g. hash_eq h g) t hs d.0, n)
    go false n = n

none_left : (h : MerkleHash) (hs : List MerkleHash) → list_any (λ g. hash_eq h g) (filter (λ g. not (hash_eq h g)) hs) ≡ false
none_left h [] = refl
none_left h (g ∷ hs) = go (hash_eq h g) refl (none_left h hs)
  where
    go : (b : Bool) → hash_eq h g ≡ b → list_any (λ g. hash_eq h g) (filter (λ g. not (hash_eq h g)) hs) ≡ false
        → list_any (λ g. hash_eq h g) (cond (not b) (g ∷ filter (λ g. not (hash_eq h g)) hs) (filter (λ g. not (hash_eq h g)) hs)) ≡ false
    go true e n = n
    go false e n = ap (λ b. b || list_any (λ g. hash_eq h g) (filter (λ g. not (hash_eq h g)) hs)) e ∙ n

pub firsts_differ : (hs : List MerkleHash) → Differ (firsts hash_eq hs)
firsts_differ [] = tt
firsts_differ (h ∷ hs) = (none_left h (firsts hash_eq hs), differ_filter (λ g. not (hash_eq h g)) (firsts hash_eq hs) (firsts_differ hs))

pub hash_eq-swap : (a b : MerkleHash) → hash_eq a b ≡ hash_eq b a
hash_eq-swap a b = go (hash_eq a b) refl (hash_eq b a) refl
  where
    go : (x : Bool) → hash_eq a b ≡ x → (y : Bool) → hash_eq b a ≡ y → hash_eq a b ≡ hash_eq b a
    go true e true f = e ∙ sym f
    go false e false f = e ∙ sym f
    go true e false f = absurd (true≢false (sym (eq-hash_eq b a (sym (hash_eq-true a b e))) ∙ f))
    go false e true f = absurd (true≢false (sym (eq-hash_eq a b (sym (hash_eq-true b a f))) ∙ e))

-- sums over different hashes where one hash counts otherwise
pub sum_apart : (u v : MerkleHash → ℕ) (h : MerkleHash) (hs : List MerkleHash) → list_any (λ g. hash_eq h g) hs ≡ false → ((g : MerkleHash) → hash_eq h g ≡ false → u g ≡ v g) → sum_by u hs ≡ sum_by v hs
sum_apart u v h [] n e = refl
sum_apart u v h (g ∷ hs) n e =
    let parts = or_parts (hash_eq h g) (list_any (λ g. hash_eq h g) hs) n in
    let a = sum_by-cons u g hs in
    let b = sum_by-cons v g hs in
    let rest = sum_apart u v h hs parts.1 e in
    let first = e g parts.0 in
    omega (arith, a, b, rest, first)

pub sum_moved : (u v : MerkleHash → ℕ) (h : MerkleHash) (hs : List MerkleHash) → Differ hs → list_any (λ g. hash_eq h g) hs ≡ true → ((g : MerkleHash) → hash_eq h g ≡ false → u g ≡ v g) → sum_by u hs + v h ≡ sum_by v hs + u h
sum_moved u v h [] d m e = absurd (false≢true m)
sum_moved u v h (g ∷ hs) d m e = go (hash_eq h g) refl m (λ k. sum_moved u v h hs d.1 k e)
  where
    a : sum_by u (g ∷ hs) ≡ u g + sum_by u hs
    a = sum_by-cons u g hs

    b : sum_by v (g ∷ hs) ≡ v g + sum_by v hs
    b = sum_by-cons v g hs

    go : (c : Bool) → hash_eq h g ≡ c → (c || list_any (λ g. hash_eq h g) hs) ≡ true → (list_any (λ g. hash_eq h g) hs ≡ true → sum_by u hs + v h ≡ sum_by v hs + u h) → sum_by u (g ∷ hs) + v h ≡ sum_by v (g ∷ hs) + u h
    go true k l next =
        let same = hash_eq-true h g k in
        let p = ap u same in
        let q = ap v same in
        let away : list_any (λ k. hash_eq h k) hs ≡ false = ap (λ (x : MerkleHash). list_any (λ k. hash_eq x k) hs) same ∙ d.0 in
        let rest = sum_apart u v h hs away e in
        omega (arith, a, b, p, q, rest)
    go false k l next =
        let first = e g k in
        let rest = next l in
        omega (arith, a, b, first, rest)

sum_add : {A : Type 0} (u v : A → ℕ) (xs : List A) → sum_by (λ x. u x + v x) xs ≡ sum_by u xs + sum_by v xs
sum_add u v [] = refl
sum_add u v (x ∷ xs) =
    let a = sum_by-cons (λ x. u x + v x) x xs in
    let b = sum_by-cons u x xs in
    let c = sum_by-cons v x xs in
    let n = sum_add u v xs in
    omega (arith, a, b, c, n)

sum_none : {A : Type 0} (xs : List A) → sum_by (λ x. 0) xs ≡ 0
sum_none [] = refl
sum_none (x ∷ xs) = let a = sum_by-cons (λ x. 0) x xs in let n = sum_none xs in omega (arith, a, n)

-- one hash counts at most once among different ones
one_at_most : (k : MerkleHash) (n : ℕ) (hs : List MerkleHash) → Differ hs → sum_by (λ h. cond (hash_eq k h) n 0) hs ≤ n
one_at_most k n [] d = omega arith
one_at_most k n (h ∷ hs) d = go (hash_eq k h) refl (one_at_most k n hs d.1)
  where
    a : sum_by (λ h. cond (hash_eq k h) n 0) (h ∷ hs) ≡ cond (hash_eq k h) n 0 + sum_by (λ h. cond (hash_eq k h) n 0) hs
    a = sum_by-cons (λ h. cond (hash_eq k h) n 0) h hs

    zero_at : (gs : List MerkleHash) → list_any (λ g. hash_eq h g) gs ≡ false → k ≡ h → sum_by (λ h. cond (hash_eq k h) n 0) gs ≡ 0
    zero_at gs e s = sum_apart (λ g. cond (hash_eq k g) n 0) (λ g. 0) h gs e (λ g f. ap (λ (x : MerkleHash). cond (hash_eq x g) n 0) s ∙ ap (λ b. cond b n 0) f) ∙ sum_none gs

    go : (b : Bool) → hash_eq k h ≡ b → sum_by (λ h. cond (hash_eq k h) n 0) hs ≤ n → sum_by (λ h. cond (hash_eq k h) n 0) (h ∷ hs) ≤ n
    go true e m =
        let z = zero_at hs d.0 (hash_eq-true k h e) in
        let f = ap (λ b. cond b n 0) e in
        omega (arith, a, z, f)
    go false e m =
        let f = ap (λ b. cond b n 0) e in
        omega (arith, a, m, f)

-- a dependency counts once: outside, or in one xorb
one_dependency : (f : ℕ) (d : FileXorbDependency) (hs : List MerkleHash) → Differ hs → sum_by (λ h. part_of f h d) hs + external_of f d ≤ of_file f d
one_dependency f d hs q = go (nat_eq d.file_id f) d.is_external
  where
    go : (a e : Bool) → sum_by (λ h. cond (a && (not e && hash_eq d.xorb_hash h)) d.n_bytes 0) hs + cond (a && e) d.n_bytes 0 ≤ cond a d.n_bytes 0
    go false e = let z = sum_none hs in omega (arith, z)
    go true true = let z = sum_none hs in omega (arith, z)
    go true false = let o = one_at_most d.xorb_hash d.n_bytes hs q in omega (arith, o)

pub parts_within : (f : ℕ) (ds : List FileXorbDependency) (hs : List MerkleHash) → Differ hs → sum_by (λ h. sum_by (part_of f h) ds) hs + sum_by (external_of f) ds ≤ sum_by (of_file f) ds
parts_within f [] hs q = let z = sum_none hs in omega (arith, z)
parts_within f (d ∷ ds) hs q =
    let e : sum_by (λ h. sum_by (part_of f h) (d ∷ ds)) hs ≡ sum_by (λ h. part_of f h d + sum_by (part_of f h) ds) hs =
    (let g : (λ (h : MerkleHash). sum_by (part_of f h) (d ∷ ds)) ≡ (λ (h : MerkleHash). part_of f h d + sum_by (part_of f h) ds) = λ i h. sum_by-cons (part_of f h) d ds i in ap (λ k. sum_by k hs) g) in
    let a = sum_add (λ h. part_of f h d) (λ h. sum_by (part_of f h) ds) hs in
    let b = sum_by-cons (external_of f) d ds in
    let c = sum_by-cons (of_file f) d ds in
    let one = one_dependency f d hs q in
    let rest = parts_within f ds hs q in
    omega (arith, e, a, b, c, one, rest)
