-- One try of a block.
use Rattle.std.specs.Prelude.{ℕ, ◌<◌, [], ◌∷◌, None, Option, Some, Result, Ok, Err}
use Rattle.xet_outside.specs.declared.plan.Plan.{Plan}
use Rattle.xet_outside.specs.Told.{ClientTold}
use Rattle.xet_error.specs.declared.error.FileReconstructionError.{FileReconstructionError}
use Rattle.xet_offers.specs.declared.reconstruction_terms.retrieval_urls.TermBlockRetrievalURLs.{TermBlockRetrievalURLs}
use Rattle.xet_offers.specs.declared.reconstruction_terms.xorb_block.XorbBlock.{XorbBlock}
use Rattle.xet_requests.specs.declared.fetched_block.Fetched.{Fetched}
use Rattle.xet_requests.specs.Refreshes.{Refresh}
use Rattle.xet_fetch.specs.Fetches.{FetchesFail, FetchesKeep, GaveData, TableKeeps, Tried}

-- one try, with so many left: bytes, or an expired answer and a refresh, or an error
abbrev pub TryEnds : Refresh → XorbBlock → ℕ → TermBlockRetrievalURLs → TermBlockRetrievalURLs → ClientTold → ClientTold
    → Result (Option Fetched) FileReconstructionError → Type 0
TryEnds r x left t u before after (Ok (Some fetched)) = GaveData r x t u before after [] fetched
TryEnds r x left t u before after (Ok None) =
    (1 < left) × ((plan : Plan) × Tried r x t u before after (plan ∷ []) [] [] [])
TryEnds r x left t u before after (Err e) = FetchesFail r x left t u before after [] e

pub record TryCall (r : Refresh) (x : XorbBlock) (left : ℕ) (t u : TermBlockRetrievalURLs)
    (before after : ClientTold) (answer : Result (Option Fetched) FileReconstructionError) : Type 0 where
  pub keeps : FetchesKeep before after
  pub table : TableKeeps r t u
  pub ends : TryEnds r x left t u before after answer
