use Rattle.std.proofs.Common.{◌≡◌, ◌+◌, ◌-◌, ◌^◌, ◌<◌, ◌≤◌, ℕ, List, length, min, slice_get, ap, sym, ◌∙◌, arith, inl, inr, Some}
use Rattle.std.specs.Prelude.{nat_le, Option}
use Rattle.std.proofs.lemmas.Grind.{common_steps}
use Rattle.std.proofs.lemmas.Option.{slice_get_cases, slice_get_past}
use Rattle.xet_offers.specs.Blocks.{start_index}
use Rattle.xet_fetch.specs.CachedBlocks.{ends_within}
use Rattle.xet_fetch.proofs.cached_block.has_reference.Goals as goal

-- what stands at a place, or at the end where that place is past it
at_or_end : (xs : List ℕ) (s i : ℕ) → length xs < 2 ^ 64 → i ≡ min (min s (2 ^ 64 - 1)) (length xs) → slice_get xs i ≡ slice_get xs s
at_or_end xs s i h e =
    elim (slice_get_cases xs s).1 as (λ _. slice_get xs i ≡ slice_get xs s) [
      | inl q ↦ let below : s < length xs = q.1 in
          let same : i ≡ s = omega arith in
          ap (λ (n : ℕ). slice_get xs n) same
      | inr q ↦ let past : length xs ≤ s = q.0 in
          slice_get_past xs i (omega arith) ∙ sym q.1
    ]

-- a sum that stops at 2^64 - 1 tells whether it is below a length
stopped : (a b n : ℕ) → n < 2 ^ 63 → nat_le (min (a + b) (2 ^ 64 - 1)) n ≡ nat_le (a + b) n
stopped a b n h = grind (arith, common_steps)

pub returns : goal.returns
returns c =
    let offsets = c.args.entry.now.offsets in
    let size = length c.args.entry.now.bytes in
    let start = start_index c.args.ranges.now c.args.reference.term_chunks.start in
    let small : length offsets < 2 ^ 64 = omega arith in
    let index : c.min-index.result ≡ min (min start (2 ^ 64 - 1)) (length offsets) = cc in
    let at : slice_get offsets start ≡ Some c.in-Some.place = sym (c.in-Some.ensures ∙ at_or_end offsets start c.min-index.result small index) in
    let length_is : c.len-2.result ≡ size = c.len-2.ensures.value in
    let end : c.saturating_add-end.result ≡ min (c.in-Some.place + c.args.reference.uncompressed_size) (2 ^ 64 - 1) = c.saturating_add-end.ensures in
    ap (λ (n : ℕ). nat_le n c.len-2.result) end
    ∙ stopped c.in-Some.place c.args.reference.uncompressed_size c.len-2.result c.len-2.ensures.bound
    ∙ ap (λ (n : ℕ). nat_le (c.in-Some.place + c.args.reference.uncompressed_size) n) length_is
    ∙ sym (ap (λ (o : Option ℕ). ends_within size c.args.reference o) at)
