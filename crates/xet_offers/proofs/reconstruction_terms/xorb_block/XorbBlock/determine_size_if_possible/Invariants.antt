use Rattle.xet_offers.specs.Chain.{first_start}
use Rattle.xet_offers.specs.steps.Reached.{sum_of}
use Rattle.xet_offers.proofs.ReachedSums.{IsReached}
use Rattle.xet_offers.proofs.reconstruction_terms.xorb_block.XorbBlock.determine_size_if_possible.Given as goal

abbrev pub invariant-loop-term : goal.invariant-loop-term
invariant-loop-term l = IsReached l.fn.xorb_ranges l.fn.terms (first_start l.fn.xorb_ranges) (sum_of l.reached) l.term-index
