-- What an index of waiting values keeps.
use Rattle.std.specs.Prelude.{ℕ, ◌≡◌, ◌≤◌, ◌==◌, nat_lt, List, [], ◌∷◌, ◌&&◌, cond, Bool, true, Option, Some, None}
use Rattle.std.specs.Prelude.{IsSome}
use Rattle.std.specs.BTreeMap.{BTreeMap, get}
use Rattle.std.specs.Ordering.{nat_cmp, ordering_then}
use Rattle.std.specs.declared.cmp.Ordering.{Ordering}

-- the order of pairs
abbrev pub pair_cmp : (ℕ × ℕ) → (ℕ × ℕ) → Ordering
pair_cmp x y = ordering_then (nat_cmp x.0 y.0) (nat_cmp x.1 y.1)

-- each number is below this one
abbrev pub all_below : {V : Type 0} → ℕ → List (ℕ × V) → Bool
all_below next [] = true
all_below next (e ∷ es) = nat_lt e.0 next && all_below next es

-- there, where this value has this key
abbrev pub mark_of : {V : Type 0} → (V → ℕ) → ℕ → Option V → Option (Unit {0})
mark_of key at None = None
mark_of key at (Some v) = cond (key v == at) (Some tt) None

-- a key and a number are in the index exactly where the value of this number has this key
abbrev pub Tied : {V : Type 0} → (V → ℕ) → BTreeMap ℕ V → BTreeMap (ℕ × ℕ) (Unit {0}) → Type 0
Tied key values index = (at number : ℕ) → get pair_cmp index (at, number) ≡ mark_of key at (get nat_cmp values number)

-- the least number with this key
abbrev pub IsFirstNumber : BTreeMap (ℕ × ℕ) (Unit {0}) → ℕ → Option ℕ → Type 0
IsFirstNumber index at None = (number : ℕ) → get pair_cmp index (at, number) ≡ None
IsFirstNumber index at (Some k) = IsSome (get pair_cmp index (at, k))
    × ((number : ℕ) → IsSome (get pair_cmp index (at, number)) → k ≤ number)
