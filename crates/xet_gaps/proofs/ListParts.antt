-- Parts of lists after an edit.
use Rattle.std.proofs.Common.{◌≡◌, ℕ, ◌+◌, ◌-◌, ◌<◌, ◌≤◌, List, [], ◌∷◌, ◌++◌, length, take, drop, set, insert, refl, sym, ap, ◌∙◌, arith}
use Rattle.std.proofs.Common.{append_assoc, length-append, length-drop, length-take, slice_range, take_at}
use Rattle.std.specs.List.{copy_within}
use Rattle.std.proofs.lemmas.List.{drop-append-le, drop-set, drop-set-lt, drop-take, length-take-le, take-set-le, take_more_set, take_rest}

module _ {X : Type 0} where
  -- a part is what is left of a front
  pub slice_of : (xs : List X) (a b : ℕ) → a ≤ b → drop a (take b xs) ≡ slice_range xs a b
  slice_of xs a b h =
      let sum : b ≡ a + (b - a) = omega (arith, h) in
      ap (λ (k : ℕ). drop a (take k xs)) sum ∙ drop-take a (b - a) xs

  -- a front less its first elements, and more behind it
  front_then : (xs ys : List X) (a b : ℕ) → a ≤ b → b ≤ length xs
      → drop a (take b xs ++ ys) ≡ slice_range xs a b ++ ys
  front_then xs ys a b h k =
      let n = length-take-le b xs k in
      drop-append-le a (take b xs) ys (omega (arith, n, h)) ∙ ap (λ (l : List X). l ++ ys) (slice_of xs a b h)

  -- a hole was closed
  pub closed : (xs : List X) (first low high end : ℕ) → first ≤ low → low ≤ high → high ≤ length xs → end ≡ length xs
      → drop first (take (end - (high - low)) (copy_within xs high end low)) ≡ slice_range xs first low ++ drop high xs
  closed xs first low high end h k l e =
      let behind : take (end - high) (drop high xs) ≡ drop high xs =
      ap (λ (n : ℕ). take (n - high) (drop high xs)) e ∙ take_rest xs high in
      let a = length-take-le low xs (omega (arith, k, l)) in
      let b = length-drop high xs in
      let c = length-append (take low xs) (drop high xs) in
      let size : length (take low xs ++ drop high xs) ≡ end - (high - low) = omega (arith, a, b, c, k, l, e) in
      ap (λ (m : List X). drop first (take (end - (high - low)) (take low xs ++ m ++ drop (low + (end - high)) xs))) behind
      ∙ ap (λ (m : List X). drop first m)
      (take_at (take low xs ++ drop high xs) (drop (low + (end - high)) xs) (end - (high - low)) size)
      ∙ front_then xs (drop high xs) first low h (omega (arith, k, l))

  -- an element was put between
  pub inserted : (xs : List X) (y : X) (first low : ℕ) → first ≤ low → low ≤ length xs
      → drop first (insert xs low y) ≡ slice_range xs first low ++ y ∷ drop low xs
  inserted xs y first low h k = front_then xs (y ∷ drop low xs) first low h k

  -- the part before a changed element
  slice_same : (xs : List X) (y : X) (a b i : ℕ) → a ≤ b → b ≤ i → slice_range (set xs i y) a b ≡ slice_range xs a b
  slice_same xs y a b i h k =
      sym (slice_of (set xs i y) a b h) ∙ ap (λ (l : List X). drop a l) (take-set-le b xs i y k) ∙ slice_of xs a b h

  -- the last element of a hole was changed
  pub lasted : (xs : List X) (y : X) (first low to : ℕ) → first ≤ low → low < to → to ≤ length xs
      → slice_range (set xs (to - 1) y) first low ++ drop (to - 1) (set xs (to - 1) y)
      ≡ slice_range xs first low ++ y ∷ drop to xs
  lasted xs y first low to h k l =
      let at : to - 1 + 1 ≡ to = omega (arith, k) in
      ap (λ (m : List X). m ++ drop (to - 1) (set xs (to - 1) y))
      (slice_same xs y first low (to - 1) h (omega (arith, k)))
      ∙ ap (λ (m : List X). slice_range xs first low ++ m)
      (drop-set xs (to - 1) y (omega (arith, k, l)) ∙ ap (λ (n : ℕ). y ∷ drop n xs) at)

  -- the first element of a hole was changed
  pub firsted : (xs ys : List X) (y : X) (first from to : ℕ) → first ≤ from → from < to → to ≤ length xs
      → slice_range (set xs from y) first (from + 1) ++ (ys ++ drop to (set xs from y))
      ≡ slice_range xs first from ++ (y ∷ [] ++ (ys ++ drop to xs))
  firsted xs ys y first from to h k l =
      let size = length-take-le from xs (omega (arith, k, l)) in
      let front : slice_range (set xs from y) first (from + 1) ≡ slice_range xs first from ++ y ∷ [] =
      sym (slice_of (set xs from y) first (from + 1) (omega (arith, h)))
      ∙ ap (λ (m : List X). drop first m) (take_more_set xs from y (omega (arith, k, l)))
      ∙ front_then xs (y ∷ []) first from h (omega (arith, k, l)) in
      ap (λ (m : List X). m ++ (ys ++ drop to (set xs from y))) front
      ∙ ap (λ (m : List X). slice_range xs first from ++ y ∷ [] ++ (ys ++ m)) (drop-set-lt to xs from y k)
      ∙ append_assoc (slice_range xs first from) (y ∷ []) (ys ++ drop to xs)
