-- What a core's table says of blocks.
use Rattle.std.specs.Prelude.{ℕ, ◌≡◌, ◌&&◌, ◌==◌, Bool, true, false, cond, Option, Some, None, List, [], Vec, map}
use Rattle.std.specs.Prelude.{slice_index_or}
use Rattle.std.specs.declared.alloc.Global.{Global}
use Rattle.xet_events.specs.declared.block_table.BlockId.{BlockId}
use Rattle.xet_events.specs.declared.block_table.BlockMark.{BlockMark}
use Rattle.xet_events.specs.declared.block_table.BlockTable.{BlockTable}

-- what is known of a block of which nothing was noted
abbrev pub blank : BlockMark
blank = record { end = None; kept = false }

-- a block by both numbers
abbrev pub block_id : ℕ → ℕ → BlockId
block_id p b = record { plan = p; block = b }

-- the block has these numbers
abbrev pub is_block : BlockId → ℕ → ℕ → Bool
is_block id p b = id.plan == p && id.block == b

-- the rows of a table, one for each plan
abbrev pub rows_of : Vec (Vec BlockMark Global) Global → List (List BlockMark)
rows_of v = map (λ r. r.items) v.items

-- the row of a plan, which is empty past the table's end
abbrev pub row_at : List (List BlockMark) → ℕ → List BlockMark
row_at rows p = slice_index_or rows p []

-- what rows have for a block
abbrev pub mark_at : List (List BlockMark) → ℕ → ℕ → BlockMark
mark_at rows p b = slice_index_or (row_at rows p) b blank

-- where the last nonempty admitted term of a block ends, by the table
abbrev pub end_in : BlockTable → ℕ → ℕ → Option ℕ
end_in t p b = (mark_at (rows_of t.rows) p b).end

-- whether a block is kept, by the table
abbrev pub kept_in : BlockTable → ℕ → ℕ → Bool
kept_in t p b = (mark_at (rows_of t.rows) p b).kept

-- the table says what it said
abbrev pub SameMarks : BlockTable → BlockTable → Type 0
SameMarks before after = (p b : ℕ) → mark_at (rows_of after.rows) p b ≡ mark_at (rows_of before.rows) p b

-- the table says this of the block, and else what it said
abbrev pub Marks : BlockTable → BlockTable → BlockId → BlockMark → Type 0
Marks before after id mark = (p b : ℕ)
    → mark_at (rows_of after.rows) p b ≡ cond (is_block id p b) mark (mark_at (rows_of before.rows) p b)

-- the block is kept besides what was said
pub record Keeps (before after : BlockTable) (id : BlockId) : Type 0 where
  pub kept : (p b : ℕ) → kept_in after p b ≡ cond (is_block id p b) true (kept_in before p b)
  pub ends : (p b : ℕ) → end_in after p b ≡ end_in before p b

-- the block's last nonempty admitted term ends here, besides what was said
pub record Ends (before after : BlockTable) (id : BlockId) (end : ℕ) : Type 0 where
  pub ends : (p b : ℕ) → end_in after p b ≡ cond (is_block id p b) (Some end) (end_in before p b)
  pub kept : (p b : ℕ) → kept_in after p b ≡ kept_in before p b
