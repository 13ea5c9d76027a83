-- Numbers that ascend.
use Rattle.std.specs.Prelude.{ℕ, Bool, ◌&&◌, List, [], ◌∷◌, nat_lt}

-- numbers ascend from a first one, and the last of all is below an end
abbrev pub ascend_below : ℕ → ℕ → List ℕ → Bool
ascend_below end first [] = nat_lt first end
ascend_below end first (n ∷ ns) = nat_lt first n && ascend_below end n ns
