use Rattle.std.proofs.Common.{◌≡◌, ◌+◌, ◌-◌, ℕ, get_or, length}
use Rattle.xet_events.specs.BlockTables.{blank}
use Rattle.xet_events.proofs.block_table.reach.Given as goal

abbrev pub invariant-loop-row : goal.invariant-loop-row
invariant-loop-row l = (k : ℕ) → get_or l.row.items k blank ≡ get_or l.initial.row.items k blank

abbrev pub decreases-loop-row : goal.decreases-loop-row
decreases-loop-row l = l.at + 1 - length l.row.items
