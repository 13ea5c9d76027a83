use Rattle.std.proofs.Common.{◌≡◌, ◌+◌, drop, take}
use Rattle.std.specs.Prelude.{is_none}
use Rattle.std.specs.List.{position_or_len}
use Rattle.xet_outside.specs.Plan.{shape}
use Rattle.xet_offers.specs.Blocks.{block_of_term}
use Rattle.xet_blocks.proofs.BlockWalk.{IsWalk}
use Rattle.xet_blocks.proofs.reconstruction_terms.plan_blocks.PlanBlocks.new.Given as goal

abbrev pub invariant-loop-number : goal.invariant-loop-number
invariant-loop-number l = record {
  walk : IsWalk l.offers.plan.now l.offers.multirange (take l.number l.term-items) l.made;
  first : l.number + position_or_len (λ t. is_none (block_of_term (shape l.offers.plan.now) l.offers.multirange t)) (drop l.number l.term-items)
      ≡ position_or_len (λ t. is_none (block_of_term (shape l.offers.plan.now) l.offers.multirange t)) l.term-items;
}
