-- What a read of some bytes in memory takes.
use Rattle.std.proofs.Common.{◌≡◌, ℕ, ◌+◌, ◌≤◌, List, ◌++◌, take, drop, length, arith, ap, ◌∙◌}
use Rattle.std.proofs.Math.Seq.{take-append_seam}
use Rattle.std.proofs.lemmas.List.{take-append-drop, length-take-le}
use Rattle.std.proofs.lemmas.Grind.{common_steps}

-- the first bytes of a list that begins with so many
take_front : (front rest : List ℕ) (k : ℕ) → length front ≡ k → take k (front ++ rest) ≡ front
take_front front rest k e = rw (← e) (take-append_seam front rest)

-- the bytes at the front of the buffer, and what is left after them
pub drop-read : (bytes front rest : List ℕ) (at k : ℕ) → front ≡ take k (drop at bytes) → k ≤ length (drop at bytes)
    → drop at bytes ≡ take k (front ++ rest) ++ drop (at + k) bytes
drop-read bytes front rest at k e h =
    let len : length front ≡ k = ap length e ∙ length-take-le k (drop at bytes) h in
    let one = take_front front rest k len in
    let two = take-append-drop k (drop at bytes) in
    grind (arith, common_steps)
