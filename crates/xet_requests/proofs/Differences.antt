-- The first index at which two lists of blocks differ.
use Rattle.std.proofs.Common.{◌≡◌, ℕ, zero, suc, ◌+◌, ◌<◌, true, cond, List, [], ◌∷◌, length, map, drop, get_or, Some, None, Option, refl, sym, ◌∙◌, ap, arith, drop-cons}
use Rattle.std.specs.Prelude.{option_map}
use Rattle.std.proofs.lemmas.List.{drop_all}
use Rattle.xet_offers.specs.declared.reconstruction_terms.xorb_block.XorbBlock.{XorbBlock}
use Rattle.xet_requests.specs.Refreshes.{Extent, extent_of, first_difference, same_extent}

-- the first difference from an index on
abbrev pub difference_from : List XorbBlock → List XorbBlock → ℕ → Option ℕ
difference_from xs ys k = option_map (λ (j : ℕ). k + j) (first_difference (map extent_of (drop k xs)) (map extent_of (drop k ys)))

drop_at : (xs : List XorbBlock) (k : ℕ) (x : XorbBlock) → k < length xs → get_or xs k x ≡ x → drop k xs ≡ x ∷ drop (k + 1) xs
drop_at xs k x h e = drop-cons xs k x h ∙ ap (λ y. y ∷ drop (suc k) xs) e ∙ ap (λ (j : ℕ). x ∷ drop j xs) (let n : suc k ≡ k + 1 = omega arith in n)

first_same : (xs ys : List Extent) (x y : Extent) → same_extent x y ≡ true → first_difference (x ∷ xs) (y ∷ ys) ≡ option_map (λ k. suc k) (first_difference xs ys)
first_same xs ys x y e = ap (λ b. cond b (option_map (λ k. suc k) (first_difference xs ys)) (Some 0)) e

later : (k : ℕ) (o : Option ℕ) → option_map (λ (j : ℕ). k + j) (option_map (λ j. suc j) o) ≡ option_map (λ (j : ℕ). k + 1 + j) o
later k None = refl
later k (Some j) = ap Some (let n : k + suc j ≡ k + 1 + j = omega arith in n)

pub difference_later : (xs ys : List XorbBlock) (k : ℕ) (x y : XorbBlock) → k < length xs → get_or xs k x ≡ x → k < length ys → get_or ys k y ≡ y → same_extent (extent_of x) (extent_of y) ≡ true
    → difference_from xs ys (k + 1) ≡ difference_from xs ys k
difference_later xs ys k x y h at i e same =
    let dx = drop_at xs k x h at in
    let dy = drop_at ys k y i e in
    sym (ap (λ l. option_map (λ (j : ℕ). k + j) (first_difference (map extent_of l) (map extent_of (drop k ys)))) dx
    ∙ ap (λ l. option_map (λ (j : ℕ). k + j) (first_difference (map extent_of (x ∷ drop (k + 1) xs)) (map extent_of l))) dy
    ∙ ap (option_map (λ (j : ℕ). k + j)) (first_same (map extent_of (drop (k + 1) xs)) (map extent_of (drop (k + 1) ys)) (extent_of x) (extent_of y) same)
    ∙ later k (first_difference (map extent_of (drop (k + 1) xs)) (map extent_of (drop (k + 1) ys))))

pub difference_long : (xs ys : List XorbBlock) → length xs < length ys → difference_from xs ys (length xs) ≡ Some (length xs)
difference_long xs ys h =
    ap (λ l. option_map (λ (j : ℕ). length xs + j) (first_difference (map extent_of l) (map extent_of (drop (length xs) ys)))) (drop_all (length xs) xs (omega arith))
    ∙ go (length xs) ys h
  where
    go : (n : ℕ) (ys : List XorbBlock) → n < length ys → option_map (λ (j : ℕ). length xs + j) (first_difference [] (map extent_of (drop n ys))) ≡ Some (length xs)
    go n [] h = absurd (omega arith)
    go zero (y ∷ ys) h = ap Some (let n : length xs + 0 ≡ length xs = omega arith in n)
    go (suc n) (y ∷ ys) h = go n ys (omega arith)
