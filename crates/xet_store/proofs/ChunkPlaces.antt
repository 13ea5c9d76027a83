-- The places of chunks in their joined bytes.
use Rattle.std.proofs.Common.{◌≡◌, ℕ, ◌+◌, ◌-◌, ◌^◌, ◌≤◌, ◌<◌, List, length, take, drop, sym, ◌∙◌, ap, arith}
use Rattle.std.specs.Prelude.{sum, slice_range}
use Rattle.std.specs.List.{concat}
use Rattle.std.proofs.lemmas.List.{take-map, drop-map, take-append-drop, drop-take, take-take}
use Rattle.std.proofs.lemmas.List.Sums.{sum_by-append}
use Rattle.xet_outside.specs.Plan.{lengths}
use Rattle.xet_outside.proofs.CallerLemmas.{sum_lengths}
use Rattle.xet_store.proofs.JoinedChunks.{place-le}

-- two places differ by the bytes between them
pub place_between : (cs : List (List ℕ)) (a b : ℕ) → a ≤ b → sum (take a (lengths cs)) + sum (lengths
    (slice_range cs a b)) ≡ sum (take b (lengths cs))
place_between cs a b h =
    let e1 : lengths (slice_range cs a b) ≡ take (b - a) (drop a (lengths cs)) =
    sym (take-map (λ (c : List ℕ). length c) (b - a) (drop a cs))
    ∙ ap (λ (ns : List ℕ). take (b - a) ns) (sym (drop-map (λ (c : List ℕ). length c) a cs)) in
    let n : a + (b - a) ≡ b = omega arith in
    let e2 : take (b - a) (drop a (lengths cs)) ≡ drop a (take b (lengths cs)) = sym (drop-take a (b - a) (lengths cs))
    ∙ ap (λ (m : ℕ). drop a (take m (lengths cs))) n in
    let e3 : take a (take b (lengths cs)) ≡ take a (lengths cs) = take-take a b (lengths cs) h in
    let e4 = sum_by-append (λ x. x) (take a (take b (lengths cs))) (drop a (take b (lengths cs))) in
    let e5 = take-append-drop a (take b (lengths cs)) in
    let s1 = ap sum e3 in
    let s2 = ap sum e1 in
    let s3 = ap sum e2 in
    let s5 = ap sum e5 in
    omega (arith, e4, s1, s2, s3, s5)

-- the same in bytes
pub place_length : (cs : List (List ℕ)) (a b : ℕ) → a ≤ b → sum (take a (lengths cs)) + length (concat
    (slice_range cs a b)) ≡ sum (take b (lengths cs))
place_length cs a b h = let e = place_between cs a b h in omega (arith, e, sum_lengths (slice_range cs a b))

-- a chunk of a term stands within what the term's end fits in
pub place_short : (cs : List (List ℕ)) (p from to k : ℕ) → from ≤ k → k ≤ to
    → p + length (concat (slice_range cs from to)) < 2 ^ 64 → p + (sum (take k (lengths cs)) - sum (take from
    (lengths cs))) < 2 ^ 64
place_short cs p from to k h l f =
    let a = place_length cs from to (omega arith) in
    let b = place-le cs k to l in
    omega (arith, a, b, f)
