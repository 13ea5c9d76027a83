-- The requests of blocks by the tables of their plans.
use Rattle.std.proofs.Common.{◌≡◌, ◌<◌, List, [], ◌∷◌, ◌++◌, length, map, get_or, refl, sym, ap, ◌∙◌, subst, Option, Some, None}
use Rattle.std.proofs.lemmas.List.{map-append}
use Rattle.std.proofs.lemmas.List.Elements.{All-push}
use Rattle.std.proofs.lemmas.Option.{slice_get-get_or}
use Rattle.std.specs.Prelude.{All, slice_get, MatchOption}
use Rattle.xet_outside.specs.declared.block.BlockRequest.{BlockRequest}
use Rattle.xet_offers.specs.BlockCalls.{IsRequestOf}
use Rattle.xet_offers.specs.declared.reconstruction_terms.retrieval_urls.RetrievalUrl.{RetrievalUrl}
use Rattle.xet_offers.specs.declared.reconstruction_terms.retrieval_urls.TermBlockRetrievalURLs.{TermBlockRetrievalURLs}
use Rattle.xet_offers.specs.declared.reconstruction_terms.xorb_block.XorbBlock.{XorbBlock}
use Rattle.xet_ties.specs.Lanes.{Ask, IsFor}
use Rattle.xet_lane.specs.declared.lane.Fetch.{Fetch}
use Rattle.xet_lane.specs.Fetches.{ask, ask_of, request_by, request_of}

-- a request that was made by a table is the one of it
pub request_made : (x : XorbBlock) (t : TermBlockRetrievalURLs) (r : BlockRequest) → IsRequestOf x t r
    → r ≡ request_of x t
request_made x t r h = go (slice_get t.retrieval_urls x.xorb_block_index) h
  where
    go : (o : Option RetrievalUrl) → MatchOption o ⊥ (λ u. r ≡ request_by x t (Some u)) → r ≡ request_by x t o
    go None h = absurd h
    go (Some u) h = h

-- and where the table has a URL for the block, the one of it was so made
pub made_by : (x : XorbBlock) (t : TermBlockRetrievalURLs) → x.xorb_block_index < length t.retrieval_urls
    → IsRequestOf x t (request_of x t)
made_by x t h =
    let none : RetrievalUrl = record { url = []; ranges = [] } in
    go (slice_get t.retrieval_urls x.xorb_block_index) (get_or t.retrieval_urls x.xorb_block_index none)
    (slice_get-get_or t.retrieval_urls x.xorb_block_index none h)
  where
    go : (o : Option RetrievalUrl) (u : RetrievalUrl) → o ≡ Some u
        → MatchOption o ⊥ (λ v. request_by x t o ≡ request_by x t (Some v))
    go None u h = absurd (cc)
    go (Some v) u h = refl

-- it is the block's own
pub own_request : (x : XorbBlock) (t : TermBlockRetrievalURLs) → IsFor (ask x (request_of x t))
own_request x t = go (slice_get t.retrieval_urls x.xorb_block_index)
  where
    go : (o : Option RetrievalUrl) → IsFor (ask x (request_by x t o))
    go None = record { xorb = refl; chunks = refl; index = refl }
    go (Some u) = record { xorb = refl; chunks = refl; index = refl }

-- one more fetch
pub asks_more : (fs gs : List Fetch) (f : Fetch) → gs ≡ fs ++ f ∷ [] → All IsFor (map ask_of fs) → IsFor (ask_of f)
    → All IsFor (map ask_of gs)
asks_more fs gs f e h own =
    let g : map ask_of gs ≡ map ask_of fs ++ ask_of f ∷ [] =
    ap (λ l. map ask_of l) e ∙ map-append ask_of fs (f ∷ []) in
    subst (λ (l : List Ask). All IsFor l) (sym g) (All-push IsFor (map ask_of fs) (ask_of f) h own)
