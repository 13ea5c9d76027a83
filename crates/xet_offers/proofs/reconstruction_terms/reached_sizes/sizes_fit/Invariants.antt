use Rattle.std.proofs.Common.{◌≡◌, ◌+◌, ◌^◌, ◌<◌, drop, map}
use Rattle.std.specs.Prelude.{sum}
use Rattle.xet_offers.proofs.reconstruction_terms.reached_sizes.sizes_fit.Given as goal

abbrev pub invariant-loop-term : goal.invariant-loop-term
invariant-loop-term l = record {
  rest : l.total + sum (map (λ t. t.uncompressed_size) (drop l.term-index l.terms)) ≡ sum (map (λ t. t.uncompressed_size) l.terms);
  fits : l.total < 2 ^ 64;
}
