-- One request for a block.
use Rattle.std.specs.Prelude.{◌≡◌, ◌⊎◌, None, Option, Some, Result, Ok, Err}
use Rattle.xet_outside.specs.declared.block.BlockAnswer.{BlockAnswer}
use Rattle.xet_outside.specs.declared.block.BlockAnswer.TheVariants.{Bytes, Expired}
use Rattle.xet_outside.specs.declared.block.BlockBytes.{BlockBytes}
use Rattle.xet_outside.specs.declared.block.BlockRequest.{BlockRequest}
use Rattle.xet_outside.specs.declared.client.ClientError.{ClientError}
use Rattle.xet_outside.specs.Told.{BlockCall, ClientTold}
use Rattle.xet_error.specs.declared.error.FileReconstructionError.{FileReconstructionError}
use Rattle.xet_error.specs.declared.error.FileReconstructionError.TheVariants as error
use Rattle.xet_error.specs.Errors.{of_client_error}
use Rattle.xet_offers.specs.declared.reconstruction_terms.retrieval_urls.TermBlockRetrievalURLs.{TermBlockRetrievalURLs}
use Rattle.xet_offers.specs.declared.reconstruction_terms.xorb_block.XorbBlock.{XorbBlock}
use Rattle.xet_offers.specs.BlockCalls.{IsRequestOf, failed_check}
use Rattle.xet_offers.specs.BlockChecks.{block_data}
use Rattle.xet_offers.specs.Refusals.{IsRefusal}
use Rattle.xet_requests.specs.declared.fetched_block.Fetched.{Fetched}

-- a block was requested by the table's URL, with this answer
pub record Requested (x : XorbBlock) (t : TermBlockRetrievalURLs) (before after : ClientTold)
    (answer : Result BlockAnswer ClientError) : Type 0 where
  pub request : BlockRequest
  pub own : IsRequestOf x t request
  pub call : BlockCall before after request answer

-- why a request gave no data: memory for it was wanting, it failed, or its bytes fail
abbrev pub AskFails : XorbBlock → TermBlockRetrievalURLs → ClientTold → ClientTold → FileReconstructionError → Type 0
AskFails x t before after e =
    ((e ≡ error.OutOfMemory) × (after ≡ before))
    ⊎ ((f : ClientError) × Requested x t before after (Err f) × (e ≡ of_client_error f))
    ⊎ ((bytes : BlockBytes) × Requested x t before after (Ok (Bytes bytes)) × IsRefusal (failed_check x bytes) e)

-- a request and the test of its answer
abbrev pub AskCall : XorbBlock → TermBlockRetrievalURLs → ClientTold → ClientTold
    → Result (Option Fetched) FileReconstructionError → Type 0
AskCall x t before after (Ok (Some fetched)) = Requested x t before after (Ok (Bytes fetched.bytes))
    × (failed_check x fetched.bytes ≡ None) × (fetched.found ≡ block_data x.chunk_ranges fetched.bytes)
AskCall x t before after (Ok None) = Requested x t before after (Ok Expired)
AskCall x t before after (Err e) = AskFails x t before after e
