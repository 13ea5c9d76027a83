-- Blocks that entries offer, and the terms that are placed in them.
use Rattle.std.specs.Prelude.{ℕ, ◌≡◌, ◌+◌, ◌-◌, ◌^◌, ◌<◌, ◌≤◌, Bool, false, Option, Some, None, List, [], ◌∷◌, ◌++◌}
use Rattle.std.specs.Prelude.{All, MatchOption, filter, length, map, min, nat_eq, position}
use Rattle.std.specs.List.{enumerate_from, position_or_len}
use Rattle.xet_base.specs.declared.cas_types.FileRange.{FileRange}
use Rattle.xet_base.specs.Ranges.{Ascend}
use Rattle.xet_outside.specs.declared.plan.Plan.{Plan}
use Rattle.xet_outside.specs.declared.plan.PlanTerm.{PlanTerm}
use Rattle.xet_outside.specs.Plan.{Shape, shape}
use Rattle.xet_blocks.specs.declared.reconstruction_terms.file_term.FileTerm.{FileTerm}
use Rattle.xet_blocks.specs.declared.reconstruction_terms.file_term.TermBlock.{TermBlock}
use Rattle.xet_blocks.specs.declared.reconstruction_terms.plan_blocks.PlanBlocks.{PlanBlocks}
use Rattle.xet_blocks.specs.declared.reconstruction_terms.plan_blocks.TermStart.{TermStart}
use Rattle.xet_blocks.specs.declared.reconstruction_terms.block_list.OfferedBlock.{OfferedBlock}
use Rattle.xet_offers.specs.declared.reconstruction_terms.retrieval_urls.RetrievalUrl.{RetrievalUrl}
use Rattle.xet_offers.specs.declared.reconstruction_terms.retrieval_urls.TermBlockRetrievalURLs.{TermBlockRetrievalURLs}
use Rattle.xet_offers.specs.declared.reconstruction_terms.xorb_block.XorbBlock.{XorbBlock}
use Rattle.xet_offers.specs.declared.reconstruction_terms.xorb_block.XorbReference.{XorbReference}
use Rattle.xet_offers.specs.Blocks.{PlanBlock, block_ranges, blocks_of, same_block, start_index, term_block}
use Rattle.xet_offers.specs.Blocks.{transfer_sum}
use Rattle.xet_offers.specs.Chain.{last_end, known_size}
use Rattle.xet_blocks.specs.steps.BlockKeys.{IsBlockOf, key_of, same_key}
use Rattle.xet_offers.specs.Offers.{Offered, offer_of_term, ranges_block, xorb_place}
use Rattle.xet_offers.specs.PlanChecks.{unordered}
use Rattle.xet_blocks.specs.TermBlocks.{block_url, by_start, reference_of}

-- the block as one of the plan
abbrev pub plan_block : OfferedBlock → PlanBlock
plan_block b = ranges_block b.xorb.now b.ranges.now

-- the block's URL and what it serves
abbrev pub retrieval_url : OfferedBlock → RetrievalUrl
retrieval_url b = record { url = b.url.now; ranges = map (λ r. r.bytes) b.ranges.now }

-- where a term of a plan starts
abbrev pub term_start : Shape → Bool → PlanTerm → TermStart
term_start p multi t = record {
  block = position_or_len (λ b. same_block b (term_block p multi t)) (blocks_of p multi);
  start_index = start_index (block_ranges (term_block p multi t)) t.range.start;
}

-- a term with its block's number, and how many of the block's chunks come before it
pub record PlacedTerm : Type 0 where
  pub term : PlanTerm
  pub block : ℕ
  pub start_index : ℕ

abbrev pub with_start : PlanTerm → TermStart → PlacedTerm
with_start t s = record { term = t; block = s.block; start_index = s.start_index }

-- terms with where they start
abbrev pub with_starts : List PlanTerm → List TermStart → List PlacedTerm
with_starts [] ss = []
with_starts (t ∷ ts) [] = []
with_starts (t ∷ ts) (s ∷ ss) = with_start t s ∷ with_starts ts ss

-- the block is that of the offer of some term
pub record IsOfTerm (p : Plan) (multi : Bool) (b : OfferedBlock) : Type 0 where
  pub term : PlanTerm
  pub offer : Offered
  pub found : offer_of_term p multi term ≡ Some offer
  pub block : IsBlockOf term.xorb (xorb_place p term.xorb) offer b

-- a block's ranges are nonempty, and each starts at or after the end of the one before it
abbrev pub HasRanges : OfferedBlock → Type 0
HasRanges b = unordered 0 b.ranges.now ≡ false

-- a term has chunks
abbrev pub HasChunks : PlanTerm → Type 0
HasChunks t = t.range.start < t.range.end

-- the blocks of a plan, each with its URL, and where its terms start
pub record IsPlanned (p : Plan) (multi : Bool) (s : PlanBlocks) : Type 0 where
  pub blocks : map plan_block s.blocks ≡ blocks_of (shape p) multi
  pub starts : s.starts ≡ map (term_start (shape p) multi) p.terms
  pub urls : map (λ b. b.url.now) s.blocks ≡ map (λ b. block_url p multi (plan_block b)) s.blocks
  pub within : All (λ t. t.block < length s.blocks) s.starts
  pub ascend : All HasRanges s.blocks
  pub some : All HasChunks p.terms

-- the keys tell a block from these as its xorb and ranges do
abbrev pub IsToldApart : OfferedBlock → List OfferedBlock → Type 0
IsToldApart b bs = All (λ c. same_key (key_of c) (key_of b) ≡ same_block (plan_block c) (plan_block b)) bs

-- the number of a block among these, where it is there
abbrev pub number_in : List OfferedBlock → OfferedBlock → Option ℕ
number_in bs b = position (λ c. same_block c (plan_block b)) (map plan_block bs)

-- a block has a number, and is added where it is not there
abbrev pub IsNumbered : List OfferedBlock → List OfferedBlock → OfferedBlock → ℕ → Type 0
IsNumbered before after b n =
    MatchOption (number_in before b) ((after ≡ before ++ b ∷ []) × (n ≡ length before))
    (λ i. (after ≡ before) × (n ≡ i))

-- a term that lies in an offered range is added with the number of its block
pub record IsPlaced (before after : PlanBlocks) (t : PlanTerm) (o : Offered) (b : OfferedBlock) : Type 0 where
  pub number : ℕ
  pub numbered : IsNumbered before.blocks after.blocks b number
  pub starts : after.starts ≡ before.starts ++ record {
    block = number;
    start_index = min (o.before + (t.range.start - o.range.chunks.start)) (2 ^ 64 - 1);
  } ∷ []
  pub fits : t.range.start < 2 ^ 32

-- from a place on the terms have sizes, and end below 2 ^ 64
abbrev pub Fit : ℕ → ℕ → List PlanTerm → Type 0
Fit place o [] = Unit {0}
Fit place o (t ∷ ts) =
    let end = place + (t.unpacked_length - o) in
    (o ≤ t.unpacked_length) × (end < 2 ^ 64) × Fit end 0 ts

-- the terms from a place on, the first with the offset, cut at an end
abbrev pub terms_at : ℕ → ℕ → ℕ → List PlacedTerm → List FileTerm
terms_at end place o [] = []
terms_at end place o (t ∷ ts) =
    record {
      byte_range = record { start = place; end = min (place + (t.term.unpacked_length - o)) end };
      xorb_chunk_range = t.term.range;
      xorb_block_start_index = t.start_index;
      offset_into_first_range = o;
      xorb_block = t.block;
    } ∷ terms_at end (place + (t.term.unpacked_length - o)) 0 ts

-- the references of the terms with a block's number, in the order of the terms
abbrev pub own_references : List PlacedTerm → ℕ → List XorbReference
own_references ts n = map (λ t. reference_of t.term) (filter (λ t. nat_eq t.block n) ts)

-- a block by its number, with these references by their starts and the size that they tell, before it is fetched
abbrev pub with_references : List XorbReference → ℕ × PlanBlock → XorbBlock
with_references rs b = record {
  xorb_hash = b.1.xorb;
  chunk_ranges = block_ranges b.1;
  xorb_block_index = b.0;
  references = by_start rs;
  uncompressed_size_if_known = known_size (block_ranges b.1) (by_start rs);
  kept = None;
}

-- a block by its number, with the references of the terms of that number
abbrev pub numbered_block : List PlacedTerm → ℕ × PlanBlock → XorbBlock
numbered_block ts b = with_references (own_references ts b.0) b

-- such a block with the references in the order of the terms, and as yet without its size
abbrev pub unsorted_block : List PlacedTerm → ℕ × PlanBlock → XorbBlock
unsorted_block ts b = record (numbered_block ts b) {
  references = own_references ts b.0;
  uncompressed_size_if_known = None;
}

-- these blocks by their numbers, with the references of these terms in the terms' order, and as yet without sizes
abbrev pub unsorted_blocks : List PlacedTerm → List OfferedBlock → List XorbBlock
unsorted_blocks ts bs = map (unsorted_block ts) (enumerate_from 0 (map plan_block bs))

-- the ranges of a block ascend, and its references have chunks
pub record IsUnfinished (b : XorbBlock) : Type 0 where
  pub ascend : Ascend 0 (last_end b.chunk_ranges) b.chunk_ranges
  pub some : All (λ r. r.term_chunks.start < r.term_chunks.end) b.references

-- a block with its references by their starts, and the size that they tell
abbrev pub finished : XorbBlock → XorbBlock
finished b = record b {
  references = by_start b.references;
  uncompressed_size_if_known = known_size b.chunk_ranges (by_start b.references);
}

-- the parts of a block of terms, made of a plan and these blocks of it and with these URLs
pub record IsMadeOf (p : Plan) (q : FileRange) (s : PlanBlocks) (u : TermBlockRetrievalURLs)
    (b : TermBlock) : Type 0 where
  pub range : b.byte_range ≡ u.byte_range
  pub transfer : b.transfer_bytes ≡ min (transfer_sum (map plan_block s.blocks)) (2 ^ 64 - 1)
  pub terms : b.terms ≡ terms_at q.end q.start p.offset_into_first_range (with_starts p.terms s.starts)
  pub blocks : b.blocks
      ≡ map (numbered_block (with_starts p.terms s.starts)) (enumerate_from 0 (map plan_block s.blocks))
  pub urls : b.urls ≡ u
