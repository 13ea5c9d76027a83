-- The place of a plan, and of a block, among the plans of a leader.
use Rattle.std.specs.Prelude.{ℕ, ◌-◌, ◌&&◌, cond, List, [], ◌∷◌, length, nat_le, nat_lt, Option, Some, None, Result}
use Rattle.std.specs.Prelude.{option_and_then, slice_get}
use Rattle.xet_error.specs.declared.error.FileReconstructionError.{FileReconstructionError}
use Rattle.xet_offers.specs.declared.reconstruction_terms.xorb_block.XorbBlock.{XorbBlock}
use Rattle.xet_leader.specs.declared.leader.LedPlan.{LedPlan}

-- the place of the plan of this number, where numbers follow one another
abbrev pub find_plan : List LedPlan → ℕ → Option ℕ
find_plan [] number = None
find_plan (l ∷ ls) number =
    cond (nat_le l.number number && nat_lt (number - l.number) (length (l ∷ ls))) (Some (number - l.number)) None

-- the block of this number of the plan at this place
abbrev pub block_there : List LedPlan → ℕ → ℕ → Option XorbBlock
block_there ls block place = option_and_then (λ l. slice_get l.block.blocks block) (slice_get ls place)

-- the block of this number of the plan of this number
abbrev pub block_in : List LedPlan → ℕ → ℕ → Option XorbBlock
block_in ls plan block = option_and_then (block_there ls block) (find_plan ls plan)

-- what a part answers that has nothing to hand out
abbrev pub Answer : Type 0
Answer = Result (Unit {0}) FileReconstructionError
