-- What an index that remembers its last look keeps.
use Rattle.std.specs.Prelude.{ℕ, ◌≡◌, ◌<◌, cond, List, Option, None, Some, IfSome, get_or, length, position}
use Rattle.std.specs.Ordering.{is_eq}
use Rattle.std.specs.declared.cmp.Ordering.{Ordering}
use Rattle.std.specs.BTreeMap.{get}
use Rattle.xet_progress_state.specs.declared.recent.Recent.{Recent}

-- the number of a key, given the first key, whose number is 0, and the number that the map has
abbrev pub first_at : {K : Type 0} → (K → K → Ordering) → Option ℕ → K → Option K → Option ℕ
first_at cmp other k None = other
first_at cmp other k (Some f) = cond (is_eq (cmp f k)) (Some 0) other

-- the number that an index has for a key
abbrev pub number_at : {K : Type 0} → (K → K → Ordering) → Recent K → K → Option ℕ
number_at cmp r k = first_at cmp (get cmp r.numbers k) k r.first

-- the index has the number of each key, and nothing else; what is remembered is the number of a key, or that it has
-- none; and each key stands at its own number
pub record Indexes {K : Type 0} (cmp : K → K → Ordering) (keys : List K) (r : Recent K) : Type 0 where
  pub numbers : (k : K) → number_at cmp r k ≡ position (λ y. is_eq (cmp y k)) keys
  pub remembered : IfSome r.last (λ k. r.number ≡ position (λ y. is_eq (cmp y k)) keys)
  pub own : (i : ℕ) (d : K) → i < length keys → position (λ y. is_eq (cmp y (get_or keys i d))) keys ≡ Some i
