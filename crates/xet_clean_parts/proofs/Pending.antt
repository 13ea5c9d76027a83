-- Bytes that were not cut yet, in a buffer.
use Rattle.std.proofs.Common.{◌≡◌, ℕ, ◌+◌, ◌-◌, List, ◌++◌, length, take, drop, sym, ◌∙◌, ap, arith}
use Rattle.std.specs.Prelude.{slice_range}
use Rattle.std.proofs.lemmas.List.{drop-drop, length-drop, take_at}

-- the front of what is left
pub front-left : (xs : List ℕ) (start count : ℕ) → slice_range xs start (start + count) ≡ take count (drop start xs)
front-left xs start count = let size : (start + count) - start ≡ count = omega arith in ap (λ (n : ℕ). take n
    (drop start xs)) size

pub rest-left : (xs : List ℕ) (start count : ℕ) → drop (start + count) xs ≡ drop count (drop start xs)
rest-left xs start count = sym (drop-drop count start xs)

-- what is left, moved to the front
pub settled : (xs ys zs : List ℕ) (start rest : ℕ) → rest ≡ length xs - start → ys ≡ drop start xs ++ take start xs
    → zs ≡ take rest ys → zs ≡ drop start xs
settled xs ys zs start rest size e f =
    f ∙ ap (take rest) e ∙ take_at (drop start xs) (take start xs) rest (let n = length-drop start xs in omega (
      arith,
      size,
      n,
    ))
