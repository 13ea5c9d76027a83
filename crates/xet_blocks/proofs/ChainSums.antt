-- A chain's sum is the block's length.
use Rattle.std.proofs.Common.{◌≡◌, ℕ, zero, suc, ◌+◌, ◌-◌, ◌≤◌, ◌<◌, Bool, true, false, ◌&&◌, List, [], ◌∷◌, ◌++◌, length, take, drop, min, refl, ◌∙◌, ap, arith, map, eqb, ltb, ◌⊎◌, inl, inr, ⊎_elim}
use Rattle.std.specs.Prelude.{Some, None, Option, option_map, All, sum, slice_range}
use Rattle.std.specs.List.{flat_map}
use Rattle.std.proofs.lemmas.Bool.{false≢true, or_cases, and_parts, eqb-true, ltb-true}
use Rattle.std.proofs.lemmas.List.Sums.{sum_by-append}
use Rattle.std.proofs.lemmas.List.Elements.{All-head, All-tail}
use Rattle.xet_base.specs.declared.cas_types.ChunkRange.{ChunkRange}
use Rattle.xet_base.specs.Lists.{first_some}
use Rattle.xet_base.specs.Ranges.{Ascend, Covers}
use Rattle.xet_base.proofs.CallerLemmas.{slice_range-join}
use Rattle.xet_offers.specs.declared.reconstruction_terms.xorb_block.XorbReference.{XorbReference}
use Rattle.xet_offers.specs.Chain.{bridges, leads, sum_by_term, sum_at, last_end}
use Rattle.xet_blocks.specs.Laws.{IsSized, ChainsSum}

-- the lengths of the ranges' chunks before a number
abbrev upto : List ℕ → List ChunkRange → ℕ → ℕ
upto lens rs p = sum (flat_map (λ r. slice_range lens r.start (min r.end p)) rs)

upto-cons : (lens : List ℕ) (r : ChunkRange) (rs : List ChunkRange) (p : ℕ) → upto lens (r ∷ rs) p ≡ sum (slice_range lens r.start (min r.end p)) + upto lens rs p
upto-cons lens r rs p = sum_by-append (λ x. x) (slice_range lens r.start (min r.end p)) (flat_map (λ r. slice_range lens r.start (min r.end p)) rs)

none_from : (lens : List ℕ) (a b : ℕ) → b ≤ a → sum (slice_range lens a b) ≡ 0
none_from lens a b h = let z : b - a ≡ 0 = omega arith in ap (λ (n : ℕ). sum (take n (drop a lens))) z

upto_low : (lens : List ℕ) (low high : ℕ) (rs : List ChunkRange) (p : ℕ) → Ascend low high rs → p ≤ low → upto lens rs p ≡ 0
upto_low lens low high [] p a h = refl
upto_low lens low high (r ∷ rs) p a h =
    let l : low ≤ r.start = a.0 in let w : r.start < r.end = a.1 in
    omega (arith, upto-cons lens r rs p, none_from lens r.start (min r.end p) (omega arith), upto_low lens r.end high rs p a.3 (omega arith))

-- past the end of a range its chunks all count
same_end : (lens : List ℕ) (r : ChunkRange) (p : ℕ) → r.end ≤ p → sum (slice_range lens r.start (min r.end p)) ≡ sum (slice_range lens r.start r.end)
same_end lens r p h = let e : min r.end p ≡ r.end = omega arith in ap (λ (n : ℕ). sum (slice_range lens r.start n)) e

covered_from : (u v low high : ℕ) (rs : List ChunkRange) → Ascend low high rs → Covers u v rs → low ≤ u
covered_from u v low high [] a c = absurd c
covered_from u v low high (r ∷ rs) a (inl d) = let l : low ≤ r.start = a.0 in let m : r.start ≤ u = d.0 in omega arith
covered_from u v low high (r ∷ rs) a (inr d) =
    let l : low ≤ r.start = a.0 in let w : r.start < r.end = a.1 in let k = covered_from u v r.end high rs a.3 d in omega (arith, k)

-- a term in one of the ranges adds its chunks
upto_term : (lens : List ℕ) (low high : ℕ) (rs : List ChunkRange) (u v : ℕ) → u < v → Ascend low high rs → Covers u v rs → upto lens rs v ≡ upto lens rs u + sum (slice_range lens u v)
upto_term lens low high [] u v h a c = absurd c
upto_term lens low high (r ∷ rs) u v h a (inl d) =
    let l : r.start ≤ u = d.0 in let m : v ≤ r.end = d.1 in
    let eu : min r.end u ≡ u = omega arith in let ev : min r.end v ≡ v = omega arith in
    let su = ap (λ (n : ℕ). sum (slice_range lens r.start n)) eu in let sv = ap (λ (n : ℕ). sum (slice_range lens r.start n)) ev in
    let j = ap sum (slice_range-join lens r.start u v l (omega arith)) in
    let k = sum_by-append (λ x. x) (slice_range lens r.start u) (slice_range lens u v) in
    omega (arith, upto-cons lens r rs u, upto-cons lens r rs v, su, sv, j, k, upto_low lens r.end high rs u a.3 (omega arith), upto_low lens r.end high rs v a.3 m)
upto_term lens low high (r ∷ rs) u v h a (inr d) =
    let below = covered_from u v r.end high rs a.3 d in
    omega (arith, upto-cons lens r rs u, upto-cons lens r rs v, same_end lens r u below, same_end lens r v (omega (arith, below)), upto_term lens r.end high rs u v h a.3 d)

-- a bridge adds nothing
upto_bridge : (lens : List ℕ) (low high : ℕ) (rs : List ChunkRange) (u v : ℕ) → Ascend low high rs → bridges rs u v ≡ true → (upto lens rs v ≡ upto lens rs u) × (low ≤ u) × (u ≤ v)
upto_bridge lens low high [] u v a e = absurd (false≢true e)
upto_bridge lens low high (r ∷ []) u v a e = absurd (false≢true e)
upto_bridge lens low high (r ∷ s ∷ rs) u v a e = ⊎_elim
    (λ (w : (eqb r.end u && (eqb s.start v && ltb u v)) ≡ true).
    let p = and_parts (eqb r.end u) (eqb s.start v && ltb u v) w in
    let q = and_parts (eqb s.start v) (ltb u v) p.1 in
    let ru : r.end ≡ u = eqb-true r.end u p.0 in
    let sv : s.start ≡ v = eqb-true s.start v q.0 in
    let uv : u < v = ltb-true u v q.1 in
    let l : low ≤ r.start = a.0 in let w : r.start < r.end = a.1 in
    let x : s.start < s.end = a.3.1 in
    let rest = upto_low lens s.end high rs in (
      omega (
        arith,
        upto-cons lens r (s ∷ rs) u,
        upto-cons lens r (s ∷ rs) v,
        same_end lens r u (omega arith),
        same_end lens r v (omega arith),
        upto_low lens s.start high (s ∷ rs) u (omega arith, a.3.1, a.3.2, a.3.3) (omega arith),
        upto_low lens s.start high (s ∷ rs) v (omega arith, a.3.1, a.3.2, a.3.3) (omega arith),
      ),
      omega arith,
      omega arith,
    ))
    (λ (w : bridges (s ∷ rs) u v ≡ true).
    let next = upto_bridge lens r.end high (s ∷ rs) u v a.3 w in
    let n0 = next.0 in let n1 = next.1 in let n2 = next.2 in
    let l : low ≤ r.start = a.0 in let x : r.start < r.end = a.1 in
    (omega (arith, upto-cons lens r (s ∷ rs) u, upto-cons lens r (s ∷ rs) v, same_end lens r u n1, same_end lens r v (omega (arith, n1, n2)), n0), omega (arith, n1), n2))
    (or_cases (eqb r.end u && (eqb s.start v && ltb u v)) (bridges (s ∷ rs) u v) e)

-- all of the chunks come before the last end
upto_last : (lens : List ℕ) (low high : ℕ) (rs : List ChunkRange) → Ascend low high rs → (upto lens rs (last_end rs) ≡ sum (flat_map (λ r. slice_range lens r.start r.end) rs)) × ((rs ≡ []) ⊎ (low ≤ last_end rs))
upto_last lens low high [] a = (refl, inl refl)
upto_last lens low high (r ∷ []) a =
    let l : low ≤ r.start = a.0 in let w : r.start < r.end = a.1 in
    let e : min r.end r.end ≡ r.end = omega arith in
    (ap (λ (n : ℕ). sum (slice_range lens r.start n ++ [])) e, inr (omega arith))
upto_last lens low high (r ∷ s ∷ rs) a =
    let l : low ≤ r.start = a.0 in let w : r.start < r.end = a.1 in
    let next = upto_last lens r.end high (s ∷ rs) a.3 in
    let after : r.end ≤ last_end (s ∷ rs) = some next.1 in
    let n0 = next.0 in (
      omega (
        arith,
        upto-cons lens r (s ∷ rs) (last_end (s ∷ rs)),
        same_end lens r (last_end (s ∷ rs)) after,
        n0,
        sum_by-append (λ x. x) (slice_range lens r.start r.end) (flat_map (λ r. slice_range lens r.start r.end) (s ∷ rs)),
      ),
      inr (omega (arith, after)),
    )
  where
    some : (((s ∷ rs) ≡ []) ⊎ (r.end ≤ last_end (s ∷ rs))) → r.end ≤ last_end (s ∷ rs)
    some (inl e) = cc
    some (inr h) = h

from_map : (f : ℕ → ℕ) (o : Option ℕ) (m : ℕ) → option_map f o ≡ Some m → (k : ℕ) × (o ≡ Some k) × (f k ≡ m)
from_map f None m e = cc
from_map f (Some k) m e = (k, refl, cc)

-- the sum by a term that leads to a position
by_term : (lens : List ℕ) (rs : List ChunkRange) (first high : ℕ) → Ascend first high rs → (before : ℕ → Option ℕ) → ((p m : ℕ) → before p ≡ Some m → m ≡ upto lens rs p)
    → (t : XorbReference) → IsSized lens rs t → (p m : ℕ) → sum_by_term rs before p t ≡ Some m → m ≡ upto lens rs p
by_term lens rs first high a before known t is p m e = go (leads rs t.term_chunks.end p) refl e
  where
    go : (b : Bool) → leads rs t.term_chunks.end p ≡ b → elim b [ true ↦ option_map (λ n. t.uncompressed_size + n) (before t.term_chunks.start) | false ↦ None ] ≡ Some m → m ≡ upto lens rs p
    go false l h = cc
    go true l h =
        let found = from_map (λ n. t.uncompressed_size + n) (before t.term_chunks.start) m h in
        let at_start = known t.term_chunks.start found.0 found.1 in
        let at_end = upto_term lens first high rs t.term_chunks.start t.term_chunks.end is.some a is.lies in
        let f2 = found.2 in
        let size = is.size in
        ⊎_elim
        (λ (w : eqb t.term_chunks.end p ≡ true). omega (arith, at_start, at_end, f2, size, ap (λ (n : ℕ). upto lens rs n) (eqb-true t.term_chunks.end p w)))
        (λ (w : bridges rs t.term_chunks.end p ≡ true). omega (arith, at_start, at_end, f2, size, (upto_bridge lens first high rs t.term_chunks.end p a w).0))
        (or_cases (eqb t.term_chunks.end p) (bridges rs t.term_chunks.end p) l)

among : (lens : List ℕ) (rs : List ChunkRange) (first high : ℕ) → Ascend first high rs → (before : ℕ → Option ℕ) → ((p m : ℕ) → before p ≡ Some m → m ≡ upto lens rs p)
    → (ts : List XorbReference) → All (IsSized lens rs) ts → (p m : ℕ) → first_some (map (sum_by_term rs before p) ts) ≡ Some m → m ≡ upto lens rs p
among lens rs first high a before known [] all p m e = cc
among lens rs first high a before known (t ∷ ts) all p m e =
    go (sum_by_term rs before p t) refl e (λ h. among lens rs first high a before known ts (All-tail (IsSized lens rs) t ts all) p m h)
  where
    go : (o : Option ℕ) → sum_by_term rs before p t ≡ o → first_some (o ∷ map (sum_by_term rs before p) ts) ≡ Some m → (first_some (map (sum_by_term rs before p) ts) ≡ Some m → m ≡ upto lens rs p) → m ≡ upto lens rs p
    go None f h next = next h
    go (Some k) f h next = by_term lens rs first high a before known t (All-head (IsSized lens rs) t ts all) p m (f ∙ h)

-- the sum at a position is that of the chunks before it
sum_at_is : (lens : List ℕ) (rs : List ChunkRange) (ts : List XorbReference) (first high : ℕ) → Ascend first high rs → All (IsSized lens rs) ts → (n p m : ℕ) → sum_at rs ts first n p ≡ Some m → m ≡ upto lens rs p
sum_at_is lens rs ts first high a all zero p m e = cc
sum_at_is lens rs ts first high a all (suc n) p m e =
    go (eqb first p) refl e (λ k j h. sum_at_is lens rs ts first high a all n k j h)
  where
    go : (b : Bool) → eqb first p ≡ b → elim b [ true ↦ Some 0 | false ↦ first_some (map (sum_by_term rs (sum_at rs ts first n) p) ts) ] ≡ Some m
        → ((p m : ℕ) → sum_at rs ts first n p ≡ Some m → m ≡ upto lens rs p) → m ≡ upto lens rs p
    go true f h known =
        let z : 0 ≡ m = cc in
        let e : first ≡ p = eqb-true first p f in
        omega (arith, z, upto_low lens first high rs p a (omega arith))
    go false f h known = among lens rs first high a (sum_at rs ts first n) known ts all p m h

pub chains_sum : ChainsSum
chains_sum lens [] ts n a all e = let z : 0 ≡ n = cc in omega (arith, z)
chains_sum lens (r ∷ rs) ts n a all e =
    let b : Ascend r.start (length lens) (r ∷ rs) = (omega arith, a.1, a.2, a.3) in
    sum_at_is lens (r ∷ rs) ts r.start (length lens) b all (suc (last_end (r ∷ rs))) (last_end (r ∷ rs)) n e ∙ (upto_last lens r.start (length lens) (r ∷ rs) b).0
