-- What an index of keys keeps.
use Rattle.std.specs.Prelude.{ℕ, ◌≡◌, List, position}
use Rattle.std.specs.Ordering.{is_eq}
use Rattle.std.specs.declared.cmp.Ordering.{Ordering}
use Rattle.std.specs.BTreeMap.{BTreeMap, get}

-- the map has the place of the first value with each key, and nothing else
abbrev pub Numbers : {K V : Type 0} → (K → K → Ordering) → (V → K) → List V → BTreeMap K ℕ → Type 0
Numbers {K} cmp key values m = (k : K) → get cmp m k ≡ position (λ v. is_eq (cmp (key v) k)) values
