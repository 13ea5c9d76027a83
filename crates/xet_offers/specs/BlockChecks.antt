-- The tests of a block's bytes, and the data that is made of them.
use Rattle.std.specs.Prelude.{ℕ, suc, ◌-◌, ◌^◌, ◌||◌, Bool, not, cond, List, [], ◌∷◌, length, map, min, sum, zip}
use Rattle.std.specs.Prelude.{nat_eq, nat_le, Option, Some, None, option_map}
use Rattle.std.specs.List.{flat_map, range_with_len}
use Rattle.xet_base.specs.declared.cas_types.ChunkRange.{ChunkRange}
use Rattle.xet_base.specs.Lists.{first_some}
use Rattle.xet_outside.specs.declared.block.BlockBytes.{BlockBytes}
use Rattle.xet_error.specs.declared.error.Corruption.{Corruption}
use Rattle.xet_error.specs.declared.error.Corruption.TheVariants.{BlockLength, OffsetCount, OffsetOrder}
use Rattle.xet_offers.specs.declared.reconstruction_terms.xorb_block.XorbBlockData.{XorbBlockData}

-- the numbers of the chunks in these ranges
abbrev pub numbers_in : List ChunkRange → List ℕ
numbers_in rs = flat_map (λ r. range_with_len r.start (r.end - r.start)) rs

-- how many they are, as far as 64 bits count
abbrev pub chunk_total : List ChunkRange → ℕ
chunk_total rs = min (sum (map (λ r. r.end - r.start) rs)) (2 ^ 64 - 1)

-- an offset is not 0 at the first place, not above the one before it, or not below the number of bytes
abbrev pub is_misplaced : ℕ → Option ℕ → ℕ → Bool
is_misplaced size None o = not (nat_eq o 0) || nat_le size o
is_misplaced size (Some before) o = nat_le o before || nat_le size o

-- the first such place, after an offset
abbrev pub misplaced_after : ℕ → Option ℕ → List ℕ → Option ℕ
misplaced_after size before [] = None
misplaced_after size before (o ∷ os) =
    cond (is_misplaced size before o) (Some 0) (option_map (λ k. suc k) (misplaced_after size (Some o) os))

-- there is not one offset for each chunk
abbrev pub count_test : List ChunkRange → BlockBytes → Option Corruption
count_test rs b =
    let count = chunk_total rs in
    cond (nat_eq count (length b.offsets)) None (Some (OffsetCount count (length b.offsets)))

-- an offset is out of order
abbrev pub order_test : BlockBytes → Option Corruption
order_test b = option_map (λ k. OffsetOrder k) (misplaced_after (length b.bytes) None b.offsets)

-- the size is known and another
abbrev pub length_test : Option ℕ → BlockBytes → Option Corruption
length_test None b = None
length_test (Some n) b = cond (nat_eq n (length b.bytes)) None (Some (BlockLength n (length b.bytes)))

-- the first test that a block of these ranges fails, whose size is this one where it is known
abbrev pub failed_block_test : List ChunkRange → Option ℕ → BlockBytes → Option Corruption
failed_block_test rs size b = first_some (count_test rs b ∷ order_test b ∷ length_test size b ∷ [])

-- the block's bytes, and each chunk's number in the xorb and place in the block
abbrev pub block_data : List ChunkRange → BlockBytes → XorbBlockData
block_data rs b = record { chunk_offsets = zip (numbers_in rs) b.offsets; bytes = b.bytes }
