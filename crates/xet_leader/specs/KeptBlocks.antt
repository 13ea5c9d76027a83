-- A block of a plan that is another one from now on, and one that keeps data.
use Rattle.std.specs.Prelude.{ℕ, List, Some, slice_set}
use Rattle.xet_offers.specs.declared.reconstruction_terms.xorb_block.XorbBlock.{XorbBlock}
use Rattle.xet_offers.specs.declared.reconstruction_terms.xorb_block.XorbBlockData.{XorbBlockData}
use Rattle.xet_leader.specs.declared.leader.LedPlan.{LedPlan}

-- the plan whose block of this number is this one
abbrev pub with_block : LedPlan → ℕ → XorbBlock → LedPlan
with_block l k x = record l { block = record l.block { blocks = slice_set l.block.blocks k x } }

-- the block with this data
abbrev pub with_data : XorbBlock → XorbBlockData → XorbBlock
with_data x d = record x { kept = Some d }

abbrev pub kept_in_plan : LedPlan → ℕ → XorbBlock → XorbBlockData → LedPlan
kept_in_plan l k x d = with_block l k (with_data x d)

-- the plans of which this one stands at this place, and has this data in that block
abbrev pub kept_in_plans : List LedPlan → ℕ → LedPlan → ℕ → XorbBlock → XorbBlockData → List LedPlan
kept_in_plans ls i l k x d = slice_set ls i (kept_in_plan l k x d)
