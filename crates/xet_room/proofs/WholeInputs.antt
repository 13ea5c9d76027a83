-- An input that was read to its end.
use Rattle.std.proofs.Common.{◌≡◌, ℕ, ◌≤◌, List, [], length, Some}
use Rattle.xet_outside.specs.Told.{SourceTold}
use Rattle.xet_room.specs.Ends.{WasReadToEnd}

-- what the input had, where that is told, and that it was read to its end
abbrev pub IsWhole : ℕ → SourceTold → SourceTold → List ℕ → Type 0
IsWhole limit b n text = (t : List ℕ) → b.left ≡ Some t → (text ≡ t) × (length t ≤ limit) × (n.left ≡ Some [])

pub read_to_end : (limit : ℕ) (b n : SourceTold) (text : List ℕ) → IsWhole limit b n text → WasReadToEnd limit b n
read_to_end limit b n text w t l = let a = w t l in (a.1, a.2)
