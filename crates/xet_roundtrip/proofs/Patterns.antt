-- The bytes of the made file, and their chunks.
use Rattle.std.proofs.Common.{◌≡◌, ◌⊎◌, ℕ, ◌+◌, ◌*◌, ◌%◌, ◌<◌, ◌≤◌, ◌-◌, ◌^◌, List, [], ◌∷◌, ◌++◌, arith, inl, inr}
use Rattle.std.proofs.Common.{length, sym, ap, ◌∙◌}
use Rattle.std.specs.Prelude.{All, slice_range}
use Rattle.std.specs.List.{concat}
use Rattle.std.proofs.lemmas.List.{append-nil, length-append, take_all}
use Rattle.std.proofs.lemmas.List.Elements.{All-head, All-tail}
use Rattle.std.proofs.lemmas.List.Folds.{concat-append}
use Rattle.std.proofs.lemmas.List.FromFn.{length-map-range_with_len}
use Rattle.xet_clean_parts.specs.Places.{IsInChunks}
use Rattle.xet_waiting.specs.Waitings.{IsWithin}
use Rattle.xet_pattern.specs.Patterns.{pattern}

pub pattern_length : (n : ℕ) → length (pattern n) ≡ n
pattern_length n = length-map-range_with_len (λ p. p % 251) 0 n

-- all of it, as a range
pub pattern_whole : (n : ℕ) → n < 2 ^ 32 → slice_range (pattern n) 0 (2 ^ 64 - 1) ≡ pattern n
pattern_whole n h = let count = pattern_length n in take_all (2 ^ 64 - 1) (pattern n) (omega arith)

-- ---- chunks

-- chunks of one size have as many bytes as there are of them, times the size
whole_length : (size : ℕ) (cs : List (List ℕ)) → All (λ c. length c ≡ size) cs
    → length (concat cs) ≡ length cs * size
whole_length size [] all = omega arith
whole_length size (c ∷ cs) all =
    let one = All-head (λ c. length c ≡ size) c cs all in
    let others = whole_length size cs (All-tail (λ c. length c ≡ size) c cs all) in
    let both = length-append c (concat cs) in
    grind (arith, one, others, both)

-- the chunks of up to 1,000,000 bytes fit one xorb
pub within : (n : ℕ) (chunks : List (List ℕ)) → n ≤ 1000000 → IsInChunks 1000 (pattern n) chunks → IsWithin chunks
within n chunks few cut = by_end cut.cut_are
  where
    size : length (concat cut.front) + length cut.rest ≡ n
    size = sym (length-append (concat cut.front) cut.rest) ∙ ap length (sym cut.bytes_are) ∙ pattern_length n

    count : length (concat cut.front) ≡ length cut.front * 1000
    count = whole_length 1000 cut.front cut.are.whole

    by_end : ((cut.rest ≡ []) × (chunks ≡ cut.front)) ⊎ ((0 < length cut.rest) × (chunks ≡ cut.front ++ cut.rest ∷ []))
        → IsWithin chunks
    by_end (inl h) = rw h.1 (let s = size in let k = count in (omega arith, omega arith))
    by_end (inr h) =
        let s = size in
        let k = count in
        let numbers = length-append cut.front (cut.rest ∷ []) in
        let bytes =
        ap length (concat-append cut.front (cut.rest ∷ [])) ∙ length-append (concat cut.front) (cut.rest ++ []) in
        let last = ap length (append-nil cut.rest) in
        rw h.1 (omega (arith, numbers), omega (arith, bytes, last))
