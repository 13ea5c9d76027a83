use Rattle.std.proofs.Common.{◌≡◌, map, take}
use Rattle.xet_blocks.specs.steps.Planning.{retrieval_url}
use Rattle.xet_blocks.proofs.reconstruction_terms.plan_blocks.PlanBlocks.urls.Given as goal

abbrev pub invariant-loop-block : goal.invariant-loop-block
invariant-loop-block l = l.urls ≡ map retrieval_url (take l.block-index l.block-items)
