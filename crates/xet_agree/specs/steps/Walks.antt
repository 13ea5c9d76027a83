-- Two walks over the bytes of files, side by side.
use Rattle.std.specs.Prelude.{ℕ, ◌≡◌, ◌+◌, ◌-◌, ◌++◌, List, [], Some, drop, length, slice_get}
use Rattle.xet_base.specs.declared.stored.StoredTerm.{StoredTerm}
use Rattle.xet_base.specs.Store.{Store}
use Rattle.xet_agree.specs.declared.walks.Walk.{Walk}
use Rattle.xet_agree.specs.steps.Alike.{bytes_in}

-- what is left of a walk: the rest of the term that was begun last, and the terms behind it
abbrev pub left_of : Store → List StoredTerm → Walk → List ℕ
left_of s ts w = w.rest ++ bytes_in s (drop w.begun ts)

-- how many bytes are left, and how many terms were not begun
abbrev pub to_do : Store → List StoredTerm → Walk → ℕ
to_do s ts w = length (left_of s ts w) + (length ts - w.begun)

-- both walks are about to begin a term, and it is the same
pub record AreAtSame (a b : List StoredTerm) (x y : Walk) : Type 0 where
  pub term : StoredTerm
  pub first : slice_get a x.begun ≡ Some term
  pub second : slice_get b y.begun ≡ Some term
  pub first_rest : x.rest ≡ []
  pub second_rest : y.rest ≡ []

-- the same bytes were passed of two texts, of which these are left
pub record PassSame (first left second right : List ℕ) : Type 0 where
  pub passed : List ℕ
  pub first_is : first ≡ passed ++ left
  pub second_is : second ≡ passed ++ right
