-- The first bytes of joined pieces.
use Rattle.std.proofs.Common.{◌≡◌, ℕ, ◌+◌, ◌-◌, List, ◌++◌, take, length, min, sym, arith, length-append}
use Rattle.std.proofs.lemmas.List.{take_min}
use Rattle.xet_base.proofs.CallerLemmas.{take-append}

-- the first bytes of what has one piece more, and their number
pub front_more : (front p : List ℕ) (count : ℕ) → take count front ++ take
    (min (length p) (count - min count (length front))) p ≡ take count (front ++ p)
front_more front p count =
    let e : min (length p) (count - min count (length front)) ≡ min (count - length front) (length p) = omega arith in
    rw (e, take_min (count - length front) p) (sym (take-append count front p))

pub front_count : (front p : List ℕ) (count : ℕ) → min count (length front) + min (length p)
    (count - min count (length front)) ≡ min count (length (front ++ p))
front_count front p count = let a = length-append front p in omega arith
