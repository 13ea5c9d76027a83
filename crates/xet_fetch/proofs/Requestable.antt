-- Each block of an accepted plan can be requested.
use Rattle.std.proofs.Common.{◌≡◌, ℕ, ◌<◌, List, [], ◌∷◌, length, get_or, Some, None, Ok, Err, refl, sym, subst, arith}
use Rattle.std.specs.Prelude.{All, slice_get}
use Rattle.std.proofs.lemmas.Option.{slice_get-get_or}
use Rattle.std.proofs.lemmas.List.{length-map}
use Rattle.xet_outside.specs.declared.plan.Plan.{Plan}
use Rattle.xet_blocks.specs.declared.reconstruction_terms.file_term.TermBlock.{TermBlock}
use Rattle.xet_offers.specs.declared.reconstruction_terms.retrieval_urls.RetrievalUrl.{RetrievalUrl}
use Rattle.xet_offers.specs.declared.reconstruction_terms.retrieval_urls.TermBlockRetrievalURLs.{TermBlockRetrievalURLs}
use Rattle.xet_offers.specs.declared.reconstruction_terms.xorb_block.XorbBlock.{XorbBlock}
use Rattle.xet_blocks.specs.PlanQuery.{PlanQuery}
use Rattle.xet_blocks.specs.TermBlocks.{IsTermBlock}
use Rattle.xet_fetch.specs.Laws.{CanBeRequested, FetchableBlocks}
use Rattle.xet_requests.specs.Refreshes.{extent_of}
use Rattle.xet_fetch.proofs.Fetchable.{fetchable}

-- a block that the table has
requestable : (x : XorbBlock) (t : TermBlockRetrievalURLs) → x.xorb_block_index < length t.retrieval_urls → CanBeRequested t x
requestable x t within (Err e) call = tt
requestable x t within (Ok (Some r)) call = refl
requestable x t within (Ok None) call = absurd (beyond t.retrieval_urls within call.request)
  where
    beyond : (us : List RetrievalUrl) → x.xorb_block_index < length us → slice_get us x.xorb_block_index ≡ None → ⊥
    beyond [] in_table none = omega (arith, in_table)
    beyond (u ∷ us) in_table none = let some = slice_get-get_or (u ∷ us) x.xorb_block_index u in_table in cc

module _ (p : Plan) (query : PlanQuery) (b : TermBlock) (is : IsTermBlock p query b) where
  by_table : (u : TermBlockRetrievalURLs) → ((k : ℕ) → k < length b.blocks → k < length u.retrieval_urls) → All (CanBeRequested u) b.blocks
  by_table u in_table k d within =
      let number = (fetchable p query b is k within).numbered d in
      requestable (get_or b.blocks k d) u (subst (λ (i : ℕ). i < length u.retrieval_urls) (sym number) (in_table k within))

  own : (k : ℕ) → k < length b.blocks → k < length b.urls.retrieval_urls
  own k within = (fetchable p query b is k within).in_table

pub fetchable_blocks : FetchableBlocks
fetchable_blocks p query b is = (
  by_table p query b is b.urls (own p query b is),
  λ u keeps. by_table p query b is u (λ k within. keeps.in_table k (let n = length-map b.blocks extent_of in omega (arith, within)) (own p query b is k within)),
)
