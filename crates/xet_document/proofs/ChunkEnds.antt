-- Places in order, and the parts of bytes between them.
use Rattle.std.proofs.Common.{◌≡◌, ℕ, ◌+◌, ◌-◌, ◌≤◌, List, [], ◌∷◌, ◌++◌, length, drop, refl, sym, ap, arith}
use Rattle.std.specs.Prelude.{slice_range}
use Rattle.std.proofs.lemmas.List.{drop_at, drop-append-le, take-append-le, take_all, length-drop}
use Rattle.xet_store.specs.Parts.{AreEnds, parts}
use Rattle.xet_store.proofs.CallerLemmas.{ends-le}

-- one more end
pub ends-push : (p : ℕ) (es : List ℕ) (n m : ℕ) → AreEnds p es n → n ≤ m → AreEnds p (es ++ m ∷ []) m
ends-push p [] n m h le = (omega arith, refl)
ends-push p (e ∷ es) n m h le = (h.0, ends-push e es n m h.1 le)

-- the part between places of the front is a part of the front
pub part-front : (front back : List ℕ) (p e : ℕ) → p ≤ e → e ≤ length front → slice_range (front ++ back) p e ≡ slice_range front p e
part-front front back p e le within =
    let first : p ≤ length front = omega arith in
    let rest : e - p ≤ length (drop p front) = omega (arith, length-drop p front) in
    rw (drop-append-le p front back first) (take-append-le (e - p) (drop p front) back rest)

-- what stands behind the front is the part from the front's end on
pub part-back : (front back : List ℕ) (p : ℕ) → p ≡ length front → slice_range (front ++ back) p (length front + length back) ≡ back
part-back front back p e =
    let n : length front + length back - p ≡ length back = omega arith in
    rw (n, drop_at front back p (sym e)) (take_all (length back) back (omega arith))

-- one more part
pub parts-push : (bytes chunk : List ℕ) (p : ℕ) (es : List ℕ) → AreEnds p es (length bytes) → parts (bytes ++ chunk) p (es ++ (length bytes + length chunk) ∷ []) ≡ parts bytes p es ++ chunk ∷ []
parts-push bytes chunk p [] h = ap (λ (c : List ℕ). c ∷ []) (part-back bytes chunk p h)
parts-push bytes chunk p (e ∷ es) h =
    let here = part-front bytes chunk p e h.0 (ends-le e es (length bytes) h.1) in
    let rest = parts-push bytes chunk e es h.1 in
    λ i. here i ∷ rest i
