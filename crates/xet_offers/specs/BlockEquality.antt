-- When two blocks are equal.
use Rattle.std.specs.Prelude.{Bool, ◌&&◌, nat_eq}
use Rattle.std.specs.Cmp.{IsEquivalence}
use Rattle.std.proofs.lemmas.Cmp.{and_equiv, lists_equiv, nat_eq_equiv, nat_list_eq_equiv, on_equiv}
use lib.Pointwise.{pointwise}
use Rattle.xet_base.specs.declared.cas_types.ChunkRange.{ChunkRange}
use Rattle.xet_base.specs.Hashes.{hash_eq}
use Rattle.xet_offers.specs.Blocks.{range_eq}
use Rattle.xet_offers.specs.declared.reconstruction_terms.xorb_block.XorbBlock.{XorbBlock}

-- the xorb, the chunk ranges and the number in the plan are equal
abbrev pub same_xorb_block : XorbBlock → XorbBlock → Bool
same_xorb_block a b =
    hash_eq a.xorb_hash b.xorb_hash
    && (pointwise range_eq a.chunk_ranges b.chunk_ranges && nat_eq a.xorb_block_index b.xorb_block_index)

-- it is an equivalence
pub blocks_equal : IsEquivalence same_xorb_block
blocks_equal =
    and_equiv (on_equiv (λ (b : XorbBlock). b.xorb_hash.0) nat_list_eq_equiv)
    (and_equiv (on_equiv (λ (b : XorbBlock). b.chunk_ranges)
    (lists_equiv (and_equiv (on_equiv (λ (r : ChunkRange). r.start) nat_eq_equiv)
    (on_equiv (λ (r : ChunkRange). r.end) nat_eq_equiv))))
    (on_equiv (λ (b : XorbBlock). b.xorb_block_index) nat_eq_equiv))
