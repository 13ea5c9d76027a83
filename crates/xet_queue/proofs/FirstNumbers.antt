-- The first number with a key, of what a range of the index shows.
use Rattle.std.proofs.Common.{◌≡◌, ℕ, ◌≤◌, false, List, [], ◌∷◌, Option, Some, None, refl, arith}
use Rattle.std.specs.Prelude.{IsSome}
use Rattle.std.specs.BTreeMap.{BTreeMap, get}
use Rattle.std.specs.BTreeMap.Range.{IsLeBy, IsRangeOf}
use Rattle.std.specs.Ordering.{is_gt, nat_cmp, ordering_then}
use Rattle.std.specs.declared.ops.Bound.TheVariants.{Included, Unbounded}
use Rattle.std.specs.declared.cmp.Ordering.{Ordering}
use Rattle.std.specs.declared.cmp.Ordering.TheVariants.{Less, Equal, Greater}
use Rattle.std.proofs.lemmas.Bool.Decides.{nat_tests}
use Rattle.xet_queue.specs.steps.Indexed.{IsFirstNumber, pair_cmp}

-- ---- pairs

then_first : (o p : Ordering) → is_gt (ordering_then o p) ≡ false → is_gt o ≡ false
then_first Less p h = refl
then_first Equal p h = refl
then_first Greater p h = h

then_second : (o p : Ordering) → o ≡ Equal → is_gt (ordering_then o p) ≡ false → is_gt p ≡ false
then_second o p e h = rw e at h

le_is : (a b : ℕ) → is_gt (nat_cmp a b) ≡ false → a ≤ b
le_is a b h = grind (arith, nat_tests)

itself : (a : ℕ) → nat_cmp a a ≡ Equal
itself a = grind (arith, nat_tests)

from_zero : (n : ℕ) → is_gt (nat_cmp 0 n) ≡ false
from_zero n = grind (arith, nat_tests)

from_start : (a n : ℕ) → IsLeBy pair_cmp (a, 0) (a, n)
from_start a n = rw (itself a) (from_zero n)

-- ---- what the range shows

abbrev Shown : BTreeMap (ℕ × ℕ) (Unit {0}) → ℕ → List ((ℕ × ℕ) × Unit {0}) → Type 0
Shown m a r = IsRangeOf pair_cmp (Included (a, 0)) Unbounded m r

pub first_some : (m : BTreeMap (ℕ × ℕ) (Unit {0})) (a k : ℕ) (u : Unit {0}) (rest : List ((ℕ × ℕ) × Unit {0})) → Shown m a (((a, k), u) ∷ rest) → IsFirstNumber m a (Some k)
first_some m a k u rest s =
    let g : get pair_cmp m (a, k) ≡ Some u = s.1.1 in
    (rw g refl, λ n h. le_is k n (then_second (nat_cmp a a) (nat_cmp k n) (itself a) (s.2 (a, n) (from_start a n, tt) h)))

none_at : (o : Option (Unit {0})) → (IsSome o → ⊥) → o ≡ None
none_at None h = refl
none_at (Some u) h = absurd (h refl)

pub first_other : (m : BTreeMap (ℕ × ℕ) (Unit {0})) (a : ℕ) (f : ℕ × ℕ) (u : Unit {0}) (rest : List ((ℕ × ℕ) × Unit {0})) → Shown m a ((f, u) ∷ rest) → (f.0 ≡ a → ⊥) → IsFirstNumber m a None
first_other m a f u rest s h n =
    none_at (get pair_cmp m (a, n)) (λ there.
    let above = le_is a f.0 (then_first (nat_cmp a f.0) (nat_cmp 0 f.1) s.1.0.0) in
    let below = le_is f.0 a (then_first (nat_cmp f.0 a) (nat_cmp f.1 n) (s.2 (a, n) (from_start a n, tt) there)) in
    h (omega arith))

pub first_none : (m : BTreeMap (ℕ × ℕ) (Unit {0})) (a : ℕ) → Shown m a [] → IsFirstNumber m a None
first_none m a s n = s.5 refl (a, n) (from_start a n, tt)
