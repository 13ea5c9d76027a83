use Rattle.std.proofs.Common.{◌≡◌, ◌&&◌, drop}
use Rattle.xet_offers.specs.steps.Ascents.{ascend_below}
use Rattle.xet_offers.proofs.reconstruction_terms.xorb_block.ascend_below.Given as goal

abbrev pub invariant-loop-number : goal.invariant-loop-number
invariant-loop-number l = (l.ascend && ascend_below l.end l.before (drop l.number-index l.rest)) ≡ ascend_below l.end l.first l.rest
