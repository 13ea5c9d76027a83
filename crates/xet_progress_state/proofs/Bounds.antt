-- What counts of a file is at most what its dependencies have.
use Rattle.std.proofs.Common.{◌≡◌, ℕ, Bool, true, false, cond, not, ◌&&◌, List, [], ◌∷◌, ◌++◌, refl, ◌∙◌, ap, ◌+◌, ◌*◌, ◌/◌, ◌≤◌, map, arith}
use Rattle.std.specs.Prelude.{nat_eq}
use Rattle.std.specs.List.{list_any, sum_by}
use Rattle.std.proofs.Math.Nat.{zero-div, zero-mul, mul-le-mul_left, div-le_of_le-mul, mul_comm}
use Rattle.std.proofs.lemmas.List.Sums.{sum_by-cons, sum_by-append, sum_by-le-sum_by}
use Rattle.std.proofs.lemmas.Grind.{flat_map-append}
use Rattle.xet_base.specs.declared.merklehash.MerkleHash.{MerkleHash}
use Rattle.xet_base.specs.Hashes.{hash_eq}
use Rattle.xet_progress_state.specs.declared.step.FileXorbDependency.{FileXorbDependency}
use Rattle.xet_progress_state.specs.declared.step.TrackerStep.{TrackerStep}
use Rattle.xet_progress_state.specs.Counts.{new_dependencies, progresses, up_to_progress, dependencies, is_completed, progress, counted, completed_of, xorbs, of_file, part_of, external_of, registered, part, share, size_or_zero, registrations, progress_by}
use Rattle.xet_progress_state.proofs.Differ.{parts_within, firsts_differ}

pub part_le : (f : ℕ) (h : MerkleHash) (ds : List FileXorbDependency) → sum_by (part_of f h) ds ≤ sum_by (of_file f) ds
part_le f h ds = sum_by-le-sum_by (part_of f h) (of_file f) ds (λ d. one (nat_eq d.file_id f) (not d.is_external && hash_eq d.xorb_hash h) d.n_bytes)
  where
    one : (a b : Bool) (n : ℕ) → cond (a && b) n 0 ≤ cond a n 0
    one true true n = omega arith
    one true false n = omega arith
    one false b n = omega arith

pub external_le : (f : ℕ) (ds : List FileXorbDependency) → sum_by (external_of f) ds ≤ sum_by (of_file f) ds
external_le f ds = sum_by-le-sum_by (external_of f) (of_file f) ds (λ d. one (nat_eq d.file_id f) d.is_external d.n_bytes)
  where
    one : (a b : Bool) (n : ℕ) → cond (a && b) n 0 ≤ cond a n 0
    one true true n = omega arith
    one true false n = omega arith
    one false b n = omega arith

-- the calls up to the last progress are the first ones
pub up_to_prefix : (h : MerkleHash) (cs : List TrackerStep) → (zs : List TrackerStep) × (cs ≡ up_to_progress h cs ++ zs)
up_to_prefix h [] = ([], refl)
up_to_prefix h (c ∷ cs) = go (list_any (progresses h) (c ∷ cs)) (up_to_prefix h cs)
  where
    go : (b : Bool) → (zs : List TrackerStep) × (cs ≡ up_to_progress h cs ++ zs) → (zs : List TrackerStep) × ((c ∷ cs) ≡ cond b (c ∷ up_to_progress h cs) [] ++ zs)
    go true p = (p.0, ap (λ l. c ∷ l) p.1)
    go false p = (c ∷ cs, refl)

pub part_before_le : (cs : List TrackerStep) (f : ℕ) (h : MerkleHash) → part (up_to_progress h cs) f h ≤ part cs f h
part_before_le cs f h =
    let p = up_to_prefix h cs in
    let e : part cs f h ≡ part (up_to_progress h cs) f h + part p.0 f h =
    ap (λ l. part l f h) p.1
    ∙ ap (λ l. sum_by (part_of f h) l) (flat_map-append new_dependencies (up_to_progress h cs) p.0)
    ∙ sum_by-append (part_of f h) (dependencies (up_to_progress h cs)) (dependencies p.0) in
    omega (arith, e)

pub share_zero : (n c s : ℕ) → n ≡ 0 → share n c s ≡ 0
share_zero n c s e = go (nat_eq s 0)
  where
    go : (b : Bool) → cond b 0 (n * c / s) ≡ 0
    go true = refl
    go false = ap (λ m. m * c / s) e ∙ ap (λ m. m / s) (zero-mul c) ∙ zero-div s

-- of a file without a part in a xorb nothing counts there
pub counted_zero : (cs : List TrackerStep) (f : ℕ) (h : MerkleHash) → part cs f h ≡ 0 → counted cs f h ≡ 0
counted_zero cs f h e = go (is_completed cs h)
  where
    before : List TrackerStep
    before = up_to_progress h cs

    go : (b : Bool) → cond b (part cs f h) (share (part before f h) (progress before h) (size_or_zero cs h)) ≡ 0
    go true = e
    go false = let p = part_before_le cs f h in share_zero (part before f h) (progress before h) (size_or_zero cs h) (omega (arith, p, e))

pub sum_zero : {A : Type 0} (f : A → ℕ) (xs : List A) → ((x : A) → f x ≡ 0) → sum_by f xs ≡ 0
sum_zero f [] e = refl
sum_zero f (x ∷ xs) e = let p = sum_by-cons f x xs in let q = sum_zero f xs e in omega (arith, p, q, e x)

-- nothing counts of a file without dependencies
pub completed_zero : (cs : List TrackerStep) (f : ℕ) → registered cs f ≡ 0 → completed_of cs f ≡ 0
completed_zero cs f e =
    let a = external_le f (dependencies cs) in
    let b = sum_zero (counted cs f) (xorbs cs) (λ h. let p = part_le f h (dependencies cs) in counted_zero cs f h (omega (arith, p, e))) in
    omega (arith, a, b, e)

-- a share of at most the whole is at most the number
pub share-le : (n c s : ℕ) → c ≤ s → share n c s ≤ n
share-le n c s h = go (nat_eq s 0)
  where
    go : (b : Bool) → cond b 0 (n * c / s) ≤ n
    go true = omega arith
    go false = let a = mul-le-mul_left n h in let b = mul_comm n s in let m : n * c ≤ s * n = omega (arith, a, b) in div-le_of_le-mul s m

pub progress_before_le : (cs : List TrackerStep) (h : MerkleHash) → progress (up_to_progress h cs) h ≤ progress cs h
progress_before_le cs h =
    let p = up_to_prefix h cs in
    let e : progress cs h ≡ progress (up_to_progress h cs) h + progress p.0 h = ap (λ l. progress l h) p.1 ∙ sum_by-append (progress_by h) (up_to_progress h cs) p.0 in
    omega (arith, e)

pub counted_le : (cs : List TrackerStep) → ((h : MerkleHash) → is_completed cs h ≡ false → progress cs h ≤ size_or_zero cs h) → (f : ℕ) (h : MerkleHash) → counted cs f h ≤ part cs f h
counted_le cs fits f h = go (is_completed cs h) refl
  where
    before : List TrackerStep
    before = up_to_progress h cs

    go : (b : Bool) → is_completed cs h ≡ b → cond b (part cs f h) (share (part before f h) (progress before h) (size_or_zero cs h)) ≤ part cs f h
    go true e = omega arith
    go false e =
        let a = fits h e in
        let b = progress_before_le cs h in
        let c = share-le (part before f h) (progress before h) (size_or_zero cs h) (omega (arith, a, b)) in
        let d = part_before_le cs f h in
        omega (arith, c, d)

-- what counts of a file is at most what its dependencies have
pub completed_le : (cs : List TrackerStep) → ((h : MerkleHash) → is_completed cs h ≡ false → progress cs h ≤ size_or_zero cs h) → (f : ℕ) → completed_of cs f ≤ registered cs f
completed_le cs fits f =
    let a = sum_by-le-sum_by (counted cs f) (λ h. part cs f h) (xorbs cs) (counted_le cs fits f) in
    let b = parts_within f (dependencies cs) (xorbs cs) (firsts_differ (map (λ x. x.0) (registrations cs))) in
    omega (arith, a, b)
