use Rattle.std.proofs.Common.{◌≡◌, ◌+◌, ◌-◌, ◌≤◌, ◌∷◌, ℕ, List, None, map, ap, sym, ◌∙◌, arith}
use Rattle.xet_offers.specs.BlockChecks.{misplaced_after}
use Rattle.xet_offers.proofs.AscendingOffsets.{all_in_order}
use Rattle.xet_offers.proofs.reconstruction_terms.xorb_block.first_misplaced.Goals as goal

pub returns-then-ascend_below : goal.returns-then-ascend_below
returns-then-ascend_below c =
    let rest = c.in_ok-first.rest.now in
    let whole : c.args.places.now ≡ c.args.base ∷ rest
    = c.in_ok-first.ensures.cases.0 ∙ ap (λ (n : ℕ). n ∷ rest) c.if-first-base.true in
    let end : c.saturating_add.result ≤ c.args.base + c.args.size = omega (arith, c.saturating_add.ensures) in
    sym (ap (λ (places : List ℕ). misplaced_after c.args.size None (map (λ p. p - c.args.base) places)) whole
    ∙ all_in_order c.saturating_add.result c.args.base c.args.size rest end (sym c.if-ascend_below.ensures))
