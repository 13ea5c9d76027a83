use Rattle.std.proofs.Common.{◌≡◌, ◌+◌, ◌-◌, ℕ, Some, None, drop, map, option_map}
use Rattle.xet_offers.specs.BlockChecks.{misplaced_after}
use Rattle.xet_offers.proofs.reconstruction_terms.xorb_block.first_misplaced.Given as goal

abbrev pub invariant-loop-place : goal.invariant-loop-place
invariant-loop-place l =
    option_map (λ (k : ℕ). l.place + 1 + k) (misplaced_after l.size (Some l.before) (map (λ p. p - l.base) (drop l.place l.rest)))
    ≡ misplaced_after l.size None (map (λ p. p - l.base) l.places)
