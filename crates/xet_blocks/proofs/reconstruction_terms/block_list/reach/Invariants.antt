use Rattle.std.proofs.Common.{◌≡◌, ◌+◌, ◌-◌, ℕ, None, get_or, length}
use Rattle.xet_blocks.proofs.reconstruction_terms.block_list.reach.Given as goal

abbrev pub invariant-loop-row : goal.invariant-loop-row
invariant-loop-row l = (k : ℕ) → get_or l.row.items k None ≡ get_or l.initial.row.items k None

abbrev pub decreases-loop-row : goal.decreases-loop-row
decreases-loop-row l = l.at + 1 - length l.row.items
