use Rattle.std.proofs.Common.{◌≡◌, ◌+◌, ◌-◌, ℕ, length}
use Rattle.xet_events.specs.BlockTables.{row_at, rows_of}
use Rattle.xet_events.proofs.block_table.reach_row.Given as goal

abbrev pub invariant-loop-alloc : goal.invariant-loop-alloc
invariant-loop-alloc l = (p : ℕ) → row_at (rows_of l.rows) p ≡ row_at (rows_of l.initial.rows) p

abbrev pub decreases-loop-alloc : goal.decreases-loop-alloc
decreases-loop-alloc l = l.plan + 1 - length l.rows.items
