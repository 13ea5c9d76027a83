-- A plan and a block of the worked store.
use Rattle.std.specs.Prelude.{ℕ, [], ◌∷◌, codes}
use Rattle.xet_base.specs.Worked.{x1}
use Rattle.xet_base.specs.declared.merklehash.MerkleHash.{MerkleHash}
use Rattle.xet_base.specs.declared.cas_types.ChunkRange.{ChunkRange}
use Rattle.xet_outside.specs.Plan.{Shape}
use Rattle.xet_outside.specs.declared.block.BlockBytes.{BlockBytes}
use Rattle.xet_outside.specs.declared.plan.PlanTerm.{PlanTerm}

abbrev pub chunk_range : ℕ → ℕ → ChunkRange
chunk_range a b = record { start = a; end = b }

abbrev pub plan_term : MerkleHash → ℕ → ℕ → ℕ → PlanTerm
plan_term x n a b = record { xorb = x; unpacked_length = n; range = chunk_range a b }

-- the plan of the nine bytes 4 to 13 of the file of repeats
abbrev pub plan_of_nine_bytes : Shape
plan_of_nine_bytes = record {
  offset = 4;
  terms = plan_term x1 6 2 4 ∷ plan_term x1 5 0 1 ∷ plan_term x1 5 0 1 ∷ [];
  xorbs = record {
    xorb = x1;
    entries =
        (record { chunks = chunk_range 0 1; bytes = record { start = 0; end = 5 } }
        ∷ record { chunks = chunk_range 2 4; bytes = record { start = 7; end = 13 } }
        ∷ [])
        ∷ [];
  } ∷ [];
}

-- the block of the first chunk and the last two of the first xorb
abbrev pub block_of_hello_world : BlockBytes
block_of_hello_world = record { offsets = 0 ∷ 5 ∷ 10 ∷ []; bytes = codes "Helloworld!" }
