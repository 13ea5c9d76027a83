use Rattle.std.proofs.Common.{◌^◌, ◌-◌, ◌<◌, ℕ, arith}
use Rattle.std.proofs.lemmas.List.Elements.{All-map, All-same, All-weaker}
use Rattle.xet_offers.proofs.reconstruction_terms.chunk_offsets.are_small.Goals as goal

pub returns : goal.returns
returns c =
    let numbers = c.as_parts.result.0.now in
    let base = c.as_parts.result.1 in
    All-same (λ p. p < 2 ^ 32) _ _ c.as_parts.ensures
    (All-map (λ p. p < 2 ^ 32) (λ (p : ℕ). p - base) numbers
    (All-weaker (λ p. p < 2 ^ 32) (λ p. p - base < 2 ^ 32) (λ p h. omega arith) numbers c.have_32_bits.ensures))
