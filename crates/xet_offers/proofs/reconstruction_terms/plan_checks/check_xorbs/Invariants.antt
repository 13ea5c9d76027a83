use Rattle.std.proofs.Common.{◌≡◌, ◌+◌, drop, map, take}
use Rattle.std.specs.Prelude.{is_none}
use Rattle.std.specs.List.{position_or_len}
use Rattle.xet_outside.specs.Plan.{shape}
use Rattle.xet_offers.specs.Blocks.{plan_xorb_of}
use Rattle.xet_offers.specs.Offers.{xorb_place}
use Rattle.xet_offers.proofs.reconstruction_terms.plan_checks.check_xorbs.Given as goal

abbrev pub invariant-loop-place : goal.invariant-loop-place
invariant-loop-place l = record {
  numbers : l.numbers ≡ map (λ t. xorb_place l.offers.plan.now t.xorb) (take l.place l.term-items);
  first : l.place + position_or_len (λ t. is_none (plan_xorb_of (shape l.offers.plan.now) t.xorb)) (drop l.place l.term-items)
      ≡ position_or_len (λ t. is_none (plan_xorb_of (shape l.offers.plan.now) t.xorb)) l.term-items;
}
