-- The terms of a plan: where each stands in the file, and where in its block.
use Rattle.std.specs.Prelude.{ℕ, ◌+◌, ◌-◌, Bool, List, [], ◌∷◌, min, drop, take, slice_index_or, slice_get, option_map}
use Rattle.std.specs.Prelude.{unwrap_or}
use Rattle.std.specs.List.{position_or_len}
use Rattle.xet_base.specs.declared.cas_types.FileRange.{FileRange}
use Rattle.xet_outside.specs.Plan.{Shape}
use Rattle.xet_outside.specs.declared.plan.PlanTerm.{PlanTerm}
use Rattle.xet_outside.specs.declared.block.BlockBytes.{BlockBytes}
use Rattle.xet_outside.specs.Plan.{block_of}
use Rattle.xet_base.specs.Store.{Store}
use Rattle.xet_blocks.specs.declared.reconstruction_terms.file_term.FileTerm.{FileTerm}
use Rattle.xet_offers.specs.Blocks.{PlanBlock, term_block, same_block, blocks_of, block_ranges, start_index}

-- a term at a place of the file, with its offset
abbrev pub file_term : Shape → FileRange → Bool → ℕ → ℕ → PlanTerm → FileTerm
file_term p q multi place offset t =
    let block = term_block p multi t in
    record {
      byte_range = record { start = place; end = min (place + (t.unpacked_length - offset)) q.end };
      xorb_chunk_range = t.range;
      xorb_block_start_index = start_index (block_ranges block) t.range.start;
      offset_into_first_range = offset;
      xorb_block = position_or_len (λ b. same_block b block) (blocks_of p multi);
    }

-- the terms from a place on, the first with the offset
abbrev pub terms_from : Shape → FileRange → Bool → ℕ → ℕ → List PlanTerm → List FileTerm
terms_from p q multi place offset [] = []
terms_from p q multi place offset (t ∷ ts) =
    file_term p q multi place offset t ∷ terms_from p q multi (place + (t.unpacked_length - offset)) 0 ts

-- the terms of a plan
abbrev pub terms_of : Shape → FileRange → Bool → List FileTerm
terms_of p q multi = terms_from p q multi q.start p.offset p.terms

-- the bytes of a term in its block: its length of bytes, from the place of its first chunk plus its offset
abbrev pub piece_of : BlockBytes → FileTerm → List ℕ
piece_of b t =
    let start = slice_index_or b.offsets t.xorb_block_start_index 0 + t.offset_into_first_range in
    take (t.byte_range.end - t.byte_range.start) (drop start b.bytes)

-- the bytes of a plan's term, in its block of a store
abbrev pub term_piece : Store → Shape → Bool → FileTerm → List ℕ
term_piece s p multi t =
    let piece = λ (b : PlanBlock). piece_of (block_of s b.xorb (block_ranges b)) t in
    unwrap_or (option_map piece (slice_get (blocks_of p multi) t.xorb_block)) []
