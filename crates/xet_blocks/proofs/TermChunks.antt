-- A term's chunks in the chunks of a block that it lies in.
use Rattle.std.proofs.Common.{◌≡◌, ℕ, zero, suc, ◌+◌, ◌-◌, ◌≤◌, ◌<◌, List, [], ◌∷◌, ◌++◌, length, take, drop, min, refl, sym, ◌∙◌, ap, arith, map, get_or, inl, inr}
use Rattle.std.specs.Prelude.{slice_range}
use Rattle.std.specs.List.{concat, flat_map}
use Rattle.std.proofs.lemmas.List.{length-drop, length-append, take-take, drop-take, drop-drop, drop-append-le, take-append-le, take-append-drop}
use Rattle.std.proofs.lemmas.List.Sums.{sum_by-cons}
use Rattle.std.proofs.lemmas.List.Folds.{concat-append}
use Rattle.std.proofs.Math.Seq.{drop-append-add}
use Rattle.xet_base.specs.declared.cas_types.ChunkRange.{ChunkRange}
use Rattle.xet_base.specs.Lists.{placed, starts}
use Rattle.xet_base.proofs.CallerLemmas.{length-slice_range}
use Rattle.xet_outside.specs.Plan.{lengths}
use Rattle.xet_base.specs.Ranges.{Ascend, Covers}
use Rattle.xet_offers.specs.Blocks.{start_index}

abbrev chunks_in' : List (List ℕ) → List ChunkRange → List (List ℕ)
chunks_in' xs rs = flat_map (λ r. slice_range xs r.start r.end) rs

start_index-cons : (r : ChunkRange) (rs : List ChunkRange) (k : ℕ) → start_index (r ∷ rs) k ≡ (min r.end k - r.start) + start_index rs k
start_index-cons r rs k = sum_by-cons (λ x. x) (min r.end k - r.start) (map (λ r. min r.end k - r.start) rs)

-- no chunk of later ranges comes before
start_index-none : (low high : ℕ) (rs : List ChunkRange) (k : ℕ) → k ≤ low → Ascend low high rs → start_index rs k ≡ 0
start_index-none low high [] k h a = refl
start_index-none low high (r ∷ rs) k h a =
    let l : low ≤ r.start = a.0 in let s : r.start < r.end = a.1 in
    let next = start_index-none r.end high rs k (omega arith) a.3 in
    let e = start_index-cons r rs k in
    omega (arith, e, next)

-- a part of a list from a place within it on
slice_range-from : {A : Type 0} (xs : List A) (a b u v : ℕ) → a ≤ u → u ≤ v → v ≤ b → take (v - u) (drop (u - a) (slice_range xs a b)) ≡ slice_range xs u v
slice_range-from xs a b u v p q r =
    let n : (u - a) + (b - u) ≡ b - a = omega arith in
    let e1 = drop-take (u - a) (b - u) (drop a xs) in
    let e2 = drop-drop (u - a) a xs in
    let m : a + (u - a) ≡ u = omega arith in
    let e3 = take-take (v - u) (b - u) (drop u xs) (omega arith) in
    cc

-- from its start index on, a block has the term's chunks
pub chunks_at : (xs : List (List ℕ)) (low : ℕ) (rs : List ChunkRange) (u v : ℕ) → u < v → Ascend low (length xs) rs → Covers u v rs
    → (take (v - u) (drop (start_index rs u) (chunks_in' xs rs)) ≡ slice_range xs u v) × (start_index rs u + (v - u) ≤ length (chunks_in' xs rs))
chunks_at xs low [] u v w a c = absurd c
chunks_at xs low (r ∷ rs) u v w a (inl d) =
    let s : r.start < r.end = a.1 in let h : r.end ≤ length xs = a.2 in
    let l : r.start ≤ u = d.0 in let m : v ≤ r.end = d.1 in
    let here = slice_range xs r.start r.end in
    let none = start_index-none r.end (length xs) rs u (omega arith) a.3 in
    let e = start_index-cons r rs u in
    let i : start_index (r ∷ rs) u ≡ u - r.start = omega (arith, e, none) in
    let n = length-slice_range xs r.start r.end in
    let d1 = drop-append-le (u - r.start) here (chunks_in' xs rs) (omega arith) in
    let t1 = take-append-le (v - u) (drop (u - r.start) here) (chunks_in' xs rs) (omega (arith, length-drop (u - r.start) here)) in
    let f = slice_range-from xs r.start r.end u v l (omega arith) m in
    let g = length-append here (chunks_in' xs rs) in
    (ap (λ (n : ℕ). take (v - u) (drop n (here ++ chunks_in' xs rs))) i ∙ ap (λ (z : List (List ℕ)). take (v - u) z) d1 ∙ t1 ∙ f, omega (arith, i, g, n))
chunks_at xs low (r ∷ rs) u v w a (inr d) =
    let s : r.start < r.end = a.1 in let h : r.end ≤ length xs = a.2 in
    let here = slice_range xs r.start r.end in
    let next = chunks_at xs r.end rs u v w a.3 d in
    let below : r.end ≤ u = at_or_after r.end (length xs) rs a.3 d in
    let e = start_index-cons r rs u in
    let n = length-slice_range xs r.start r.end in
    let i : start_index (r ∷ rs) u ≡ length here + start_index rs u = omega (arith, e, n) in
    let g = length-append here (chunks_in' xs rs) in (
      ap (λ (n : ℕ). take (v - u) (drop n (here ++ chunks_in' xs rs))) i ∙ ap (λ (z : List (List ℕ)). take (v - u) z) (drop-append-add here (chunks_in' xs rs) (start_index rs u)) ∙ next.0,
      omega (arith, i, g, next.1),
    )
  where
    at_or_after : (low high : ℕ) (rs : List ChunkRange) → Ascend low high rs → Covers u v rs → low ≤ u
    at_or_after low high [] a c = absurd c
    at_or_after low high (r ∷ rs) a (inl d) = let l : low ≤ r.start = a.0 in let m : r.start ≤ u = d.0 in omega arith
    at_or_after low high (r ∷ rs) a (inr d) = let l : low ≤ r.start = a.0 in let s : r.start < r.end = a.1 in let k : r.end ≤ u = at_or_after r.end high rs a.3 d in omega arith

-- the place of a chunk is the length of those before it
pub start_at : (p : ℕ) (cs : List (List ℕ)) (i : ℕ) → i < length cs → get_or (map (λ (c : ℕ × ℕ). c.0) (placed p (lengths cs))) i 0 ≡ p + length (concat (take i cs))
start_at p [] i h = absurd (omega arith)
start_at p (c ∷ cs) zero h = omega arith
start_at p (c ∷ cs) (suc i) h = omega (arith, start_at (p + length c) cs i (omega arith), length-append c (concat (take i cs)))

-- some bytes of some chunks of a list, read in the joined list
pub bytes_at : (cs ts : List (List ℕ)) (i m o n : ℕ) → 0 < m → i + m ≤ length cs → take m (drop i cs) ≡ ts → o + n ≤ length (concat ts)
    → take n (drop (get_or (starts (lengths cs)) i 0 + o) (concat cs)) ≡ take n (drop o (concat ts))
bytes_at cs ts i m o n pos fits e within =
    let at : get_or (starts (lengths cs)) i 0 ≡ 0 + length (concat (take i cs)) = start_at 0 cs i (omega arith) in
    let place : get_or (starts (lengths cs)) i 0 + o ≡ length (concat (take i cs)) + o = omega (arith, at) in
    let all : concat cs ≡ concat (take i cs) ++ concat (drop i cs) = ap concat (sym (take-append-drop i cs)) ∙ concat-append (take i cs) (drop i cs) in
    let rest : concat (drop i cs) ≡ concat ts ++ concat (drop m (drop i cs)) =
    ap concat (sym (take-append-drop m (drop i cs))) ∙ concat-append (take m (drop i cs)) (drop m (drop i cs)) ∙ ap (λ (z : List (List ℕ)). concat z ++ concat (drop m (drop i cs))) e in
    let d1 = drop-append-add (concat (take i cs)) (concat (drop i cs)) o in
    let d2 = drop-append-le o (concat ts) (concat (drop m (drop i cs))) (omega arith) in
    let t1 = take-append-le n (drop o (concat ts)) (concat (drop m (drop i cs))) (omega (arith, length-drop o (concat ts))) in
    cc
