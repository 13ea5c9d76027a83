-- When one more chunk, or two lists of chunks together, keep the limits of a xorb.
use Rattle.std.proofs.Common.{◌≡◌, ℕ, ◌+◌, ◌≤◌, List, [], ◌∷◌, ◌++◌, length, ap, arith}
use Rattle.std.specs.List.{concat}
use Rattle.std.proofs.lemmas.List.{append-nil, length-append}
use Rattle.std.proofs.lemmas.List.Folds.{concat-append}
use Rattle.xet_waiting.specs.Waitings.{IsWithin}

module _ (cs ds : List (List ℕ)) where
  sizes : (length (cs ++ ds) ≡ length cs + length ds) × (length (concat (cs ++ ds)) ≡ length (concat cs) + length (concat ds))
  sizes =
      let both = ap length (concat-append cs ds) in
      (length-append cs ds, omega (arith, both, length-append (concat cs) (concat ds)))

  pub within-both : length cs + length ds ≤ 8192 → length (concat cs) + length (concat ds) ≤ 67108864 → IsWithin (cs ++ ds)
  within-both h k = (omega (arith, h, sizes.0), omega (arith, k, sizes.1))

  pub both-short : IsWithin (cs ++ ds) → length (concat cs) + length (concat ds) ≤ 67108864
  both-short w = omega (arith, w.1, sizes.1)

module _ (cs : List (List ℕ)) (c : List ℕ) where
  one : length (concat (c ∷ [])) ≡ length c
  one = ap length (append-nil c)

  pub within-more : length cs + 1 ≤ 8192 → length (concat cs) + length c ≤ 67108864 → IsWithin (cs ++ c ∷ [])
  within-more h k = within-both cs (c ∷ []) (omega (arith, h)) (omega (arith, k, one))

  pub more-short : IsWithin (cs ++ c ∷ []) → length (concat cs) + length c ≤ 67108864
  more-short w = omega (arith, both-short cs (c ∷ []) w, one)
