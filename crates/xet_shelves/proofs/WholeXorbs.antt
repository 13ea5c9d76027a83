-- The chunks of a xorb, one by one.
use Rattle.std.proofs.Common.{◌≡◌, ℕ, ◌+◌, ◌-◌, ◌<◌, List, [], ◌∷◌, ◌++◌, take, drop, get_or, sym, ◌∙◌, ap, arith}
use Rattle.std.specs.Prelude.{slice_range, length}
use Rattle.std.specs.List.{concat}
use Rattle.std.proofs.lemmas.List.{append-nil, drop_more, take_more}

-- the bytes of one chunk alone
one_chunk : (cs : List (List ℕ)) (n : ℕ) → n < length cs → concat (slice_range cs n (n + 1)) ≡ get_or cs n []
one_chunk cs n within =
    let one : n + 1 - n ≡ 1 = omega arith in
    ap (λ (k : ℕ). concat (take k (drop n cs))) one
    ∙ ap (λ (xs : List (List ℕ)). concat (take 1 xs)) (drop_more cs n [] within)
    ∙ append-nil (get_or cs n [])

-- the first chunks, and one more
pub chunks_more : (cs found more : List (List ℕ)) (n : ℕ) (bytes : List ℕ) → n < length cs → found ≡ take n cs
    → bytes ≡ concat (slice_range cs n (n + 1)) → more ≡ found ++ bytes ∷ [] → more ≡ take (n + 1) cs
chunks_more cs found more n bytes within before is added =
    added
    ∙ ap (λ (xs : List (List ℕ)). xs ++ bytes ∷ []) before
    ∙ ap (λ (b : List ℕ). take n cs ++ b ∷ []) (is ∙ one_chunk cs n within)
    ∙ sym (take_more cs n [] within)
