-- Runs of chunks: numbers that count on, beside places.
use Rattle.std.proofs.Common.{◌≡◌, ℕ, ◌+◌, ◌-◌, ◌^◌, ◌≤◌, ◌<◌, List, [], ◌∷◌, length, All, Some, None, map, min, slice_get, refl, sym, ◌∙◌, ap, arith, inl, inr}
use Rattle.std.specs.Prelude.{MatchOption, Option}
use Rattle.std.specs.Borrow.{Bor}
use Rattle.std.specs.Option.{option_copied}
use Rattle.std.specs.List.{HoldsAt, range_with_len}
use Rattle.std.proofs.lemmas.List.FromFn.{get_or-range_with_len, length-range_with_len}
use Rattle.std.proofs.lemmas.Option.{get_or_from_slice_get, slice_get-get_or, slice_get_cases, slice_get_past, slice_get_within}
use Rattle.std.proofs.lemmas.List.Elements.{All-head, All-tail}
use Rattle.std.proofs.lemmas.Slice.Zip.{get_or-zip, length-zip}
use Rattle.xet_offers.specs.ChunkOffsets.{run}

pub length-run : (first : ℕ) (places : List ℕ) → length (run first places) ≡ length places
length-run first places =
    omega (arith, length-zip (range_with_len first (length places)) places, length-range_with_len first (length places))

-- a chunk of a run
pub run_at : (first i p : ℕ) (places : List ℕ) → slice_get places i ≡ Some p → slice_get (run first places) i ≡ Some (first + i, p)
run_at first i p places e =
    let n = length-run first places in
    let l = length-range_with_len first (length places) in
    let h : i < length places = slice_get_within places i p e in
    let some = slice_get-get_or (run first places) i (0, 0) (omega arith) in
    let both = get_or-zip (range_with_len first (length places)) places i (0, 0) (omega arith) h in
    let number = get_or-range_with_len first (length places) i 0 h in
    let place = get_or_from_slice_get places i p 0 e in
    cc

-- past the end of a run
pub run_past : (first i : ℕ) (places : List ℕ) → slice_get places i ≡ None → slice_get (run first places) i ≡ None
run_past first i places e =
    elim (slice_get_cases places i).1 as (λ _. slice_get (run first places) i ≡ None) [
      | inl q ↦ let at : slice_get places i ≡ Some q.0 = q.2 in cc
      | inr q ↦ let n = length-run first places in
          let h : length places ≤ i = q.0 in
          slice_get_past (run first places) i (omega arith)
    ]

-- the places of a run are numbers of 32 bits
pub places_of_run : (first : ℕ) (places : List ℕ) → All (λ p. p < 2 ^ 32) places
    → map (λ (c : ℕ × ℕ). min c.1 (2 ^ 32 - 1)) (run first places) ≡ places
places_of_run first [] h = refl
places_of_run first (p ∷ ps) h =
    let small : p < 2 ^ 32 = All-head (λ p. p < 2 ^ 32) p ps h in
    let fits : min p (2 ^ 32 - 1) ≡ p = omega arith in
    let rest = places_of_run (first + 1) ps (All-tail (λ p. p < 2 ^ 32) p ps h) in
    ap (λ q. q ∷ map (λ (c : ℕ × ℕ). min c.1 (2 ^ 32 - 1)) (run (first + 1) ps)) fits ∙ ap (λ r. p ∷ r) rest

-- a pair that a look at a slice found, as a copy
pub got_copied : (pairs : List (ℕ × ℕ)) (i : ℕ) (found : Option (Bor (ℕ × ℕ)))
    → MatchOption found (length pairs ≤ i) (λ x. (i < length pairs) × HoldsAt (λ y. x.now ≡ y) pairs i)
    → option_copied found ≡ slice_get pairs i
got_copied pairs i None h = sym (slice_get_past pairs i h)
got_copied pairs i (Some x) h = ap (λ (p : ℕ × ℕ). Some p) (h.1 x.now) ∙ sym (slice_get-get_or pairs i x.now h.0)
