-- The blocks of a plan, and which of them a term lies in.
use Rattle.std.specs.Prelude.{ℕ, ◌-◌, Bool, cond, ◌&&◌, List, [], ◌∷◌, map, min, find, sum, unwrap_or, option_and_then}
use Rattle.std.specs.Prelude.{nat_lt, nat_le, nat_eq, Option}
use Rattle.std.specs.List.{flat_map, list_any}
use lib.Pointwise.{pointwise}
use Rattle.xet_base.specs.declared.merklehash.MerkleHash.{MerkleHash}
use Rattle.xet_base.specs.declared.cas_types.ChunkRange.{ChunkRange}
use Rattle.xet_base.specs.Hashes.{hash_eq}
use Rattle.xet_base.specs.Lists.{firsts}
use Rattle.xet_outside.specs.Plan.{Shape}
use Rattle.xet_outside.specs.declared.plan.PlanTerm.{PlanTerm}
use Rattle.xet_outside.specs.Plan.{XorbShape}
use Rattle.xet_outside.specs.declared.plan.FetchRange.{FetchRange}

-- what is fetched at once: ranges of a xorb
pub record PlanBlock : Type 0 where
  pub xorb : MerkleHash
  pub ranges : List FetchRange

-- the chunk ranges of a block
abbrev pub block_ranges : PlanBlock → List ChunkRange
block_ranges b = map (λ r. r.chunks) b.ranges

-- two ranges are equal
abbrev pub range_eq : ChunkRange → ChunkRange → Bool
range_eq a b = nat_eq a.start b.start && nat_eq a.end b.end

-- the xorb and the whole list of ranges are equal
abbrev pub same_block : PlanBlock → PlanBlock → Bool
same_block a b = hash_eq a.xorb b.xorb && pointwise range_eq (block_ranges a) (block_ranges b)

-- the term lies in the range
abbrev pub lies_in : PlanTerm → FetchRange → Bool
lies_in t r =
    nat_le r.chunks.start t.range.start && (nat_lt t.range.start t.range.end && nat_le t.range.end r.chunks.end)

-- the blocks that an entry of a xorb offers: one of all its ranges, or one of each
abbrev pub entry_blocks : Bool → MerkleHash → List FetchRange → List PlanBlock
entry_blocks multi x e =
    cond multi
    (record { xorb = x; ranges = e } ∷ [])
    (map (λ r. record { xorb = x; ranges = r ∷ [] }) e)

-- the first xorb of the plan with this hash
abbrev pub plan_xorb_of : Shape → MerkleHash → Option XorbShape
plan_xorb_of p x = find (λ y. hash_eq y.xorb x) p.xorbs

-- the block of a term: that of the first entry and range in which it lies
abbrev pub block_of_term : Shape → Bool → PlanTerm → Option PlanBlock
block_of_term p multi t =
    option_and_then (λ x. find (λ b. list_any (lies_in t) b.ranges) (flat_map (entry_blocks multi x.xorb) x.entries))
    (plan_xorb_of p t.xorb)

-- the block of a term, or one without ranges where it lies in none
abbrev pub term_block : Shape → Bool → PlanTerm → PlanBlock
term_block p multi t = unwrap_or (block_of_term p multi t) (record { xorb = t.xorb; ranges = [] })

-- the blocks of a plan, in the order of their first use
abbrev pub blocks_of : Shape → Bool → List PlanBlock
blocks_of p multi = firsts same_block (map (term_block p multi) p.terms)

-- how many chunks of the block come before a chunk
abbrev pub start_index : List ChunkRange → ℕ → ℕ
start_index rs k = sum (map (λ r. min r.end k - r.start) rs)

-- the bytes that ranges take
abbrev pub range_bytes : List FetchRange → ℕ
range_bytes rs = sum (map (λ r. r.bytes.end - r.bytes.start) rs)

-- the bytes that all blocks take
abbrev pub transfer_sum : List PlanBlock → ℕ
transfer_sum bs = sum (flat_map (λ b. map (λ r. r.bytes.end - r.bytes.start) b.ranges) bs)
