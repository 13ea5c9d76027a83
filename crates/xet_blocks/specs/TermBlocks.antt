-- What a query's answer is made into: the block list with its references, sizes and URLs.
use Rattle.std.specs.Prelude.{◌≡◌, ℕ, ◌-◌, ◌^◌, Bool, cond, List, [], ◌∷◌, map, filter, min, nat_le}
use Rattle.std.specs.Prelude.{None, find, option_map, unwrap_or}
use Rattle.std.specs.List.{enumerate_from, flat_map}
use Rattle.xet_outside.specs.Plan.{Shape, shape}
use Rattle.xet_outside.specs.declared.plan.Plan.{Plan}
use Rattle.xet_outside.specs.declared.plan.PlanTerm.{PlanTerm}
use Rattle.xet_offers.specs.declared.reconstruction_terms.xorb_block.XorbReference.{XorbReference}
use Rattle.xet_offers.specs.declared.reconstruction_terms.xorb_block.XorbBlock.{XorbBlock}
use Rattle.xet_offers.specs.declared.reconstruction_terms.retrieval_urls.RetrievalUrl.{RetrievalUrl}
use Rattle.xet_blocks.specs.declared.reconstruction_terms.file_term.TermBlock.{TermBlock}
use Rattle.xet_offers.specs.Blocks.{PlanBlock, block_ranges, same_block, entry_blocks, term_block, blocks_of}
use Rattle.xet_offers.specs.Blocks.{transfer_sum}
use Rattle.xet_offers.specs.Chain.{known_size}
use Rattle.xet_offers.specs.PlanChecks.{covered}
use Rattle.xet_blocks.specs.PlanQuery.{PlanQuery}
use Rattle.xet_blocks.specs.Terms.{terms_of}

-- a reference before those that start after it or with it
abbrev pub with_reference : XorbReference → List XorbReference → List XorbReference
with_reference r [] = r ∷ []
with_reference r (s ∷ ss) =
    cond (nat_le r.term_chunks.start s.term_chunks.start) (r ∷ s ∷ ss) (s ∷ with_reference r ss)

-- sorted by their starts, equal starts in their order
abbrev pub by_start : List XorbReference → List XorbReference
by_start [] = []
by_start (r ∷ rs) = with_reference r (by_start rs)

-- the chunks of a term, and how many bytes they have
abbrev pub reference_of : PlanTerm → XorbReference
reference_of t = record { term_chunks = t.range; uncompressed_size = t.unpacked_length }

-- the references of a block: those of the terms whose block it is, by their starts
abbrev pub references : Shape → Bool → PlanBlock → List XorbReference
references p multi b = by_start (map reference_of (filter (λ t. same_block b (term_block p multi t)) p.terms))

-- a block of the plan by its number, before it is fetched
abbrev pub xorb_block : Shape → Bool → ℕ × PlanBlock → XorbBlock
xorb_block p multi b = record {
  xorb_hash = b.1.xorb;
  chunk_ranges = block_ranges b.1;
  xorb_block_index = b.0;
  references = references p multi b.1;
  uncompressed_size_if_known = known_size (block_ranges b.1) (references p multi b.1);
  kept = None;
}

-- the blocks of a plan by their numbers
abbrev pub xorb_blocks : Shape → Bool → List XorbBlock
xorb_blocks p multi = map (xorb_block p multi) (enumerate_from 0 (blocks_of p multi))

-- the blocks that a plan's entries offer, each with its entry's URL, in order
abbrev pub offered_blocks : Plan → Bool → List (List ℕ × PlanBlock)
offered_blocks p multi =
    flat_map (λ x. flat_map (λ e. map (λ c. (e.url, c)) (entry_blocks multi x.xorb e.ranges)) x.fetch) p.xorbs

-- the URL of a block: that of the first entry that offers it
abbrev pub block_url : Plan → Bool → PlanBlock → List ℕ
block_url p multi b =
    unwrap_or (option_map (λ (c : List ℕ × PlanBlock). c.0) (find (λ c. same_block c.1 b) (offered_blocks p multi))) []

-- the URL of each block, with the byte ranges of its chunk ranges
abbrev pub urls_of : Plan → Bool → List RetrievalUrl
urls_of p multi =
    map (λ b. record { url = block_url p multi b; ranges = map (λ r. r.bytes) b.ranges }) (blocks_of (shape p) multi)

-- the answer's terms, blocks and URLs are those of the plan for this query
pub record IsTermBlock (p : Plan) (query : PlanQuery) (b : TermBlock) : Type 0 where
  pub range : b.byte_range ≡ covered (shape p) query.range
  pub transfer : b.transfer_bytes ≡ min (transfer_sum (blocks_of (shape p) query.multirange)) (2 ^ 64 - 1)
  pub terms : b.terms ≡ terms_of (shape p) query.range query.multirange
  pub blocks : b.blocks ≡ xorb_blocks (shape p) query.multirange
  pub urls : b.urls.retrieval_urls ≡ urls_of p query.multirange
  pub of_file : b.urls.file_hash ≡ query.file
  pub of_query : b.urls.byte_range ≡ b.byte_range
  pub with_id : b.urls.acquisition_id ≡ query.id
