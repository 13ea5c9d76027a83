-- Bytes that stay at the front.
use Rattle.std.proofs.Common.{◌≡◌, ℕ, ◌+◌, ◌-◌, ◌≤◌, List, ◌++◌, length, take, drop, ap, ◌∙◌, arith}
use Rattle.std.specs.List.{copy_within}
use Rattle.std.proofs.lemmas.List.{length-drop, length-take-le, take_all, take_at}

-- bytes that were moved to the front, and those before them dropped
pub moved : (text : List ℕ) (place : ℕ) → place ≤ length text
    → take (length text - place) (copy_within text place (length text) 0) ≡ drop place text
moved text place h =
    let size = length-drop place text in
    let whole : take (length text - place) (drop place text) ≡ drop place text =
    take_all (length text - place) (drop place text) (omega (arith, size)) in
    take_at (take (length text - place) (drop place text)) (drop (0 + (length text - place)) text) (length text - place)
    (length-take-le (length text - place) (drop place text) (omega (arith, size))) ∙ whole

-- the first of bytes that stand before others
pub front_of : (xs ys : List ℕ) (n m : ℕ) → length xs ≡ n → take m (take n (xs ++ ys)) ≡ take m xs
front_of xs ys n m e = ap (λ (l : List ℕ). take m l) (take_at xs ys n e)
