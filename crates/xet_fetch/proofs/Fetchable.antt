-- Each block of an accepted plan can be fetched by the plan's table.
use Rattle.std.proofs.Common.{◌≡◌, ℕ, zero, suc, ◌+◌, ◌<◌, Bool, List, [], ◌∷◌, length, map, get_or, refl, ◌∙◌, ap, arith}
use Rattle.std.specs.List.{enumerate_from}
use Rattle.std.proofs.lemmas.List.{length-map}
use Rattle.xet_outside.specs.declared.plan.Plan.{Plan}
use Rattle.xet_outside.specs.Plan.{Shape, shape}
use Rattle.xet_blocks.specs.declared.reconstruction_terms.file_term.TermBlock.{TermBlock}
use Rattle.xet_offers.specs.declared.reconstruction_terms.xorb_block.XorbBlock.{XorbBlock}
use Rattle.xet_offers.specs.Blocks.{PlanBlock, blocks_of}
use Rattle.xet_blocks.specs.PlanQuery.{PlanQuery}
use Rattle.xet_blocks.specs.TermBlocks.{IsTermBlock, xorb_block}
use Rattle.xet_fetch.specs.RetrieveData.{IsFetchable}

length-enumerated : (n : ℕ) (bs : List PlanBlock) → length (enumerate_from n bs) ≡ length bs
length-enumerated n [] = refl
length-enumerated n (b ∷ bs) = ap suc (length-enumerated (n + 1) bs)

numbered_from : (p : Shape) (multi : Bool) (n : ℕ) (bs : List PlanBlock) (k : ℕ) (d : XorbBlock) → k < length bs
    → (get_or (map (xorb_block p multi) (enumerate_from n bs)) k d).xorb_block_index ≡ n + k
numbered_from p multi n [] k d h = absurd (omega arith)
numbered_from p multi n (b ∷ bs) zero d h = omega arith
numbered_from p multi n (b ∷ bs) (suc k) d h = let next = numbered_from p multi (n + 1) bs k d (omega arith) in omega (arith, next)

-- a block by its number is that of the number, and the table has a URL for it
pub fetchable : (p : Plan) (query : PlanQuery) (b : TermBlock) → IsTermBlock p query b → (k : ℕ) → k < length b.blocks → IsFetchable b.blocks k b.urls
fetchable p query b is k h =
    let bs = blocks_of (shape p) query.multirange in
    let blocks : length b.blocks ≡ length bs = ap length is.blocks ∙ length-map (enumerate_from 0 bs) (xorb_block (shape p) query.multirange) ∙ length-enumerated 0 bs in
    let urls : length b.urls.retrieval_urls ≡ length bs = ap length is.urls ∙ length-map bs _ in
    let within : k < length bs = omega arith in
    record {
      within = h;
      numbered = λ d. ap (λ (xs : List XorbBlock). (get_or xs k d).xorb_block_index) is.blocks ∙ numbered_from (shape p) query.multirange 0 bs k d within ∙ (let n : 0 + k ≡ k = omega arith in n);
      in_table = omega arith;
    }
